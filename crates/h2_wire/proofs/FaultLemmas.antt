-- A stream has one fault at most, and no reading past it.
use Rattle.h2_wire.proofs.Names.{◌≡◌, ◌≢◌, ℕ, ◌+◌, Bool, List, [], ◌∷◌, ◌++◌, length, take, drop}
use Rattle.h2_wire.proofs.Names.{Option, Some, refl, ap, sym, ◌∙◌, inl, inr, arith, append_assoc}
use Rattle.h2_wire.proofs.Names.{length-append, length-take, take-append-drop, Code, head_of}
use Rattle.h2_wire.proofs.Names.{head_fault, Frame, head_of-append, WireFault, Limits, IsSound}
use Rattle.h2_wire.proofs.Names.{IsPartial, IsInsidePreface, IsAfterPreface, Frames, EndsWithFault}
use Rattle.h2_wire.proofs.Names.{HeadFault}
use Rattle.std.proofs.Common.{suc}
use Rattle.h2_wire.specs.Streams.{IsWrongPreface, WireFaultAt}
use Rattle.h2_wire.proofs.ReadingLemmas.{none_some, same_prefix, same_following, same_head}
use Rattle.h2_wire.proofs.ReadingLemmas.{partial_stops, wrong_head_stops, wrong_payload_stops}
use Rattle.h2_wire.proofs.ReadingLemmas.{one_past}
use Rattle.h2_wire.specs.declared.fault.WireFault.TheVariants as faults

-- no head at fault begins a partial frame
pub partial_no_head : (limit : ℕ) (prefix more : List ℕ) (fault : HeadFault)
    → IsPartial limit (prefix ++ more) → length prefix ≡ 9
    → head_fault (head_of prefix) limit ≡ Some fault → ⊥
partial_no_head limit prefix more fault partial nine faulty =
    let sound = (partial (omega (arith, length-append prefix more))).0 in
    let same : head_of (prefix ++ more) ≡ head_of prefix =
    head_of-append prefix more (omega arith) in
    none_some fault (sym (rw same at sound) ∙ faulty)

-- no complete frame begins a partial frame
pub partial_no_frame : (limit : ℕ) (prefix more : List ℕ) → IsPartial limit (prefix ++ more)
    → length prefix ≡ 9 + (head_of prefix).length → ⊥
partial_no_frame limit prefix more partial complete =
    let less = (partial (omega (arith, length-append prefix more))).1 in
    let same : head_of (prefix ++ more) ≡ head_of prefix =
    head_of-append prefix more (omega arith) in
    let less_now = rw same at less in
    omega (arith, less_now, length-append prefix more)

-- What is less than the preface has no sound part.
pub short_past : (expects : Bool) (limits : Limits) (stream : List ℕ) (frames others : List Frame)
    (unparsed other : List ℕ)
    → IsInsidePreface expects stream frames unparsed
    → IsAfterPreface expects limits stream others other → ⊥
short_past expects limits stream frames others unparsed other short past =
    let counted =
    simp length-append at (ap length (past.joined
    ∙ ap (λ (octets : List ℕ). octets ++ other) past.sound.opened)) in
    let few = short.short in
    omega (arith, counted)

-- A stream has one reading: less than the preface, or a sound part and a partial frame.
pub one_reading_lem : (expects : Bool) (limits : Limits) (stream : List ℕ)
    (frames others : List Frame) (unparsed other : List ℕ)
    → Frames expects limits stream frames unparsed → Frames expects limits stream others other
    → (frames ≡ others) × (unparsed ≡ other)
one_reading_lem expects limits stream frames others unparsed other (inl short) (inl again) =
    (short.none ∙ sym again.none, short.all ∙ sym again.all)
one_reading_lem expects limits stream frames others unparsed other (inl short) (inr past) =
    absurd (short_past expects limits stream frames others unparsed other short past)
one_reading_lem expects limits stream frames others unparsed other (inr past) (inl short) =
    absurd (short_past expects limits stream others frames other unparsed short past)
one_reading_lem expects limits stream frames others unparsed other (inr past) (inr again) =
    let one =
    one_past expects limits stream frames others past.part again.part unparsed other past.joined
    again.joined past.sound again.sound
    (partial_stops _ unparsed past.partial) (partial_stops _ other again.partial) in
    (one.0, one.2)

-- What begins with a sound part has no octet that isn't the preface's.
pub sound_no_wrong : (expects : Bool) (limits : Limits) (frames preceding : List Frame)
    (part tail octets beyond : List ℕ) → IsSound expects limits frames part
    → IsWrongPreface expects preceding octets → part ++ tail ≡ octets ++ beyond → ⊥
sound_no_wrong expects limits frames preceding part tail octets beyond sound wrong joined =
    let right_line : part ++ tail ≡ wrong.prefix
    ++ (wrong.right ∷ (wrong.missing ++ (sound.body ++ tail))) =
    ap (λ (line : List ℕ). line ++ tail) (sound.opened
    ∙ ap (λ (line : List ℕ). line ++ sound.body) wrong.opens)
    ∙ append_assoc (wrong.prefix ++ wrong.right ∷ wrong.missing) sound.body tail
    ∙ append_assoc wrong.prefix (wrong.right ∷ wrong.missing) (sound.body ++ tail) in
    let wrong_line : octets ++ beyond ≡ wrong.prefix ++ (wrong.wrong ∷ beyond) =
    ap (λ (line : List ℕ). line ++ beyond) wrong.reads
    ∙ append_assoc wrong.prefix (wrong.wrong ∷ []) beyond in
    let at = same_following wrong.prefix wrong.prefix _ _ refl (sym right_line ∙ joined
    ∙ wrong_line) in
    let same : wrong.wrong ≡ wrong.right = cc in
    wrong.differs same

-- What is less than the preface has no octet that isn't the preface's.
pub short_no_wrong : (expects : Bool) (stream : List ℕ) (frames preceding : List Frame)
    (unparsed octets beyond : List ℕ) → IsInsidePreface expects stream frames unparsed
    → IsWrongPreface expects preceding octets → stream ≡ octets ++ beyond → ⊥
short_no_wrong expects stream frames preceding unparsed octets beyond short wrong joined =
    let wrong_line : stream ++ short.missing ≡ wrong.prefix
    ++ (wrong.wrong ∷ (beyond ++ short.missing)) =
    ap (λ (line : List ℕ). line ++ short.missing) (joined
    ∙ ap (λ (line : List ℕ). line ++ beyond) wrong.reads
    ∙ append_assoc wrong.prefix (wrong.wrong ∷ []) beyond)
    ∙ append_assoc wrong.prefix (wrong.wrong ∷ beyond) short.missing in
    let at = same_following wrong.prefix wrong.prefix _ _ refl (sym wrong.opens ∙ short.opens
    ∙ wrong_line) in
    let same : wrong.wrong ≡ wrong.right = cc in
    wrong.differs same

-- The first octet that isn't the preface's is one.
pub wrong_once : (prefix other : List ℕ) (right correct wrong false_one : ℕ)
    (missing absent beyond following : List ℕ) → wrong ≢ right → false_one ≢ correct
    → prefix ++ right ∷ missing ≡ other ++ correct ∷ absent
    → prefix ++ wrong ∷ beyond ≡ other ++ false_one ∷ following → length prefix ≡ length other
wrong_once [] [] right correct wrong false_one missing absent beyond following differs deviates
    opens reads = refl
wrong_once [] (octet ∷ other) right correct wrong false_one missing absent beyond following differs
    deviates opens reads =
    let same : wrong ≡ right = cc in absurd (differs same)
wrong_once (octet ∷ prefix) [] right correct wrong false_one missing absent beyond following differs
    deviates opens reads =
    let same : false_one ≡ correct = cc in absurd (deviates same)
wrong_once (octet ∷ prefix) (another ∷ other) right correct wrong false_one missing absent beyond
    following differs deviates opens reads =
    let opens_on : prefix ++ right ∷ missing ≡ other ++ correct ∷ absent = cc in
    let reads_on : prefix ++ wrong ∷ beyond ≡ other ++ false_one ∷ following = cc in
    ap suc (wrong_once prefix other right correct wrong false_one missing absent beyond following
    differs deviates opens_on reads_on)

module _ (expects : Bool) (limits : Limits) (frames afters : List Frame)
    (octets others beyond following : List ℕ) where
  -- Two makings of a fault in one line are one: of one length, and of one fault.
  pub one_making : (fault another : WireFault) → EndsWithFault expects limits frames octets fault
      → EndsWithFault expects limits afters others another → octets ++ beyond ≡ others ++ following
      → (frames ≡ afters) × (length octets ≡ length others) × (fault ≡ another)
  one_making faults.BadPreface faults.BadPreface made again joined =
      let line : made.prefix ++ made.wrong ∷ beyond ≡ again.prefix ++ again.wrong ∷ following =
      sym (ap (λ (w : List ℕ). w ++ beyond) made.reads
      ∙ append_assoc made.prefix (made.wrong ∷ []) beyond) ∙ joined
      ∙ ap (λ (w : List ℕ). w ++ following) again.reads
      ∙ append_assoc again.prefix (again.wrong ∷ []) following in
      let prefixes =
      wrong_once made.prefix again.prefix made.right again.right made.wrong again.wrong
      made.missing again.missing beyond following made.differs again.differs
      (sym made.opens ∙ again.opens) line in
      let ours = simp length-append at (ap length made.reads) in
      let theirs = simp length-append at (ap length again.reads) in
      (made.none ∙ sym again.none, omega (arith, ours, theirs, prefixes), refl)
  one_making faults.BadPreface (faults.HeadFault head) made again joined =
      absurd (sound_no_wrong expects limits afters frames again.part
      (again.last ++ following) octets beyond again.sound made
      (sym (joined ∙ ap (λ (w : List ℕ). w ++ following) again.joined
      ∙ append_assoc again.part again.last following)))
  one_making faults.BadPreface (faults.PayloadFault code) made again joined =
      absurd (sound_no_wrong expects limits afters frames again.part
      (again.last ++ following) octets beyond again.sound made
      (sym (joined ∙ ap (λ (w : List ℕ). w ++ following) again.joined
      ∙ append_assoc again.part again.last following)))
  one_making faults.BadPreface faults.Memory made again joined = absurd again
  one_making (faults.HeadFault head) faults.BadPreface made again joined =
      absurd (sound_no_wrong expects limits frames afters made.part
      (made.last ++ beyond) others following made.sound again
      (sym (sym joined ∙ ap (λ (w : List ℕ). w ++ beyond) made.joined
      ∙ append_assoc made.part made.last beyond)))
  one_making (faults.HeadFault head) (faults.HeadFault other) made again joined =
      let one = one_past expects limits (octets ++ beyond) frames afters made.part again.part
      (made.last ++ beyond) (again.last ++ following)
      (ap (λ (w : List ℕ). w ++ beyond) made.joined ∙ append_assoc made.part made.last beyond)
      (joined ∙ ap (λ (w : List ℕ). w ++ following) again.joined
      ∙ append_assoc again.part again.last following) made.sound again.sound
      (wrong_head_stops _ made.last beyond head made.nine made.faulty)
      (wrong_head_stops _ again.last following other again.nine again.faulty) in
      let same : head_of made.last ≡ head_of again.last =
      same_head made.last again.last beyond following (omega (arith, made.nine))
      (omega (arith, again.nine)) one.2 in
      let heads : ◌≡◌ {A = Option HeadFault} (Some head) (Some other) = sym made.faulty
      ∙ rw (one.1, same) again.faulty in
      let parts : length made.part ≡ length again.part = ap length one.1 in
      let ours = simp length-append at (ap length made.joined) in
      let theirs = simp length-append at (ap length again.joined) in
      let head_same : head ≡ other = cc in (
        one.0,
        omega (arith, ours, theirs, parts, made.nine, again.nine),
        ap faults.HeadFault head_same,
      )
  one_making (faults.HeadFault head) (faults.PayloadFault other) made again joined =
      let one = one_past expects limits (octets ++ beyond) frames afters made.part again.part
      (made.last ++ beyond) (again.last ++ following)
      (ap (λ (w : List ℕ). w ++ beyond) made.joined ∙ append_assoc made.part made.last beyond)
      (joined ∙ ap (λ (w : List ℕ). w ++ following) again.joined
      ∙ append_assoc again.part again.last following) made.sound again.sound
      (wrong_head_stops _ made.last beyond head made.nine made.faulty)
      (wrong_payload_stops _ again.last following other again.complete again.faulty) in
      let same : head_of made.last ≡ head_of again.last =
      same_head made.last again.last beyond following (omega (arith, made.nine))
      (omega (arith, again.complete)) one.2 in
      none_some head (sym (rw (one.1, same) again.sound_head) ∙ made.faulty)
  one_making (faults.HeadFault head) faults.Memory made again joined = absurd again
  one_making (faults.PayloadFault code) faults.BadPreface made again joined =
      absurd (sound_no_wrong expects limits frames afters made.part
      (made.last ++ beyond) others following made.sound again
      (sym (sym joined ∙ ap (λ (w : List ℕ). w ++ beyond) made.joined
      ∙ append_assoc made.part made.last beyond)))
  one_making (faults.PayloadFault code) (faults.HeadFault other) made again joined =
      let one = one_past expects limits (octets ++ beyond) frames afters made.part again.part
      (made.last ++ beyond) (again.last ++ following)
      (ap (λ (w : List ℕ). w ++ beyond) made.joined ∙ append_assoc made.part made.last beyond)
      (joined ∙ ap (λ (w : List ℕ). w ++ following) again.joined
      ∙ append_assoc again.part again.last following) made.sound again.sound
      (wrong_payload_stops _ made.last beyond code made.complete made.faulty)
      (wrong_head_stops _ again.last following other again.nine again.faulty) in
      let same : head_of made.last ≡ head_of again.last =
      same_head made.last again.last beyond following (omega (arith, made.complete))
      (omega (arith, again.nine)) one.2 in
      none_some other (sym (rw (← one.1, ← same) made.sound_head) ∙ again.faulty)
  one_making (faults.PayloadFault code) (faults.PayloadFault other) made again joined =
      let one = one_past expects limits (octets ++ beyond) frames afters made.part again.part
      (made.last ++ beyond) (again.last ++ following)
      (ap (λ (w : List ℕ). w ++ beyond) made.joined ∙ append_assoc made.part made.last beyond)
      (joined ∙ ap (λ (w : List ℕ). w ++ following) again.joined
      ∙ append_assoc again.part again.last following) made.sound again.sound
      (wrong_payload_stops _ made.last beyond code made.complete made.faulty)
      (wrong_payload_stops _ again.last following other again.complete again.faulty) in
      let same : head_of made.last ≡ head_of again.last =
      same_head made.last again.last beyond following (omega (arith, made.complete))
      (omega (arith, again.complete)) one.2 in
      let long : length made.last ≡ length again.last = made.complete
      ∙ ap (λ head. 9 + head.length) same ∙ sym again.complete in
      let last : made.last ≡ again.last =
      same_prefix made.last again.last beyond following long one.2 in
      let codes : ◌≡◌ {A = Option Code} (Some code) (Some other) = sym made.faulty
      ∙ rw last again.faulty in
      let parts : length made.part ≡ length again.part = ap length one.1 in
      let ours = simp length-append at (ap length made.joined) in
      let theirs = simp length-append at (ap length again.joined) in
      let code_same : code ≡ other = cc in
      (one.0, omega (arith, ours, theirs, parts, long), ap faults.PayloadFault code_same)
  one_making (faults.PayloadFault code) faults.Memory made again joined = absurd again
  one_making faults.Memory another made again joined = absurd made

module _ (expects : Bool) (limits : Limits) (octets beyond stream unparsed : List ℕ)
    (preceding frames : List Frame) where
  -- A line in which a fault is made has no reading.
  pub no_reading : (fault : WireFault) → EndsWithFault expects limits preceding octets fault
      → stream ≡ octets ++ beyond → Frames expects limits stream frames unparsed → ⊥
  no_reading faults.BadPreface made joined (inl short) =
      short_no_wrong expects stream frames preceding unparsed octets beyond short made joined
  no_reading faults.BadPreface made joined (inr past) =
      sound_no_wrong expects limits frames preceding past.part unparsed octets beyond past.sound
      made (sym past.joined ∙ joined)
  no_reading (faults.HeadFault head) made joined (inl short) =
      let counted =
      simp length-append at (ap length (joined ∙ ap (λ (w : List ℕ). w ++ beyond) made.joined
      ∙ ap (λ (w : List ℕ). (w ++ made.last) ++ beyond) made.sound.opened)) in
      let few = short.short in
      omega (arith, counted, few)
  no_reading (faults.HeadFault head) made joined (inr past) =
      let one = one_past expects limits stream preceding frames made.part past.part
      (made.last ++ beyond) unparsed (joined ∙ ap (λ (w : List ℕ). w ++ beyond) made.joined
      ∙ append_assoc made.part made.last beyond) past.joined made.sound past.sound
      (wrong_head_stops _ made.last beyond head made.nine made.faulty)
      (partial_stops _ unparsed past.partial) in
      partial_no_head (limits (length made.part + 9)) made.last beyond head
      (rw (one.1, one.2) past.partial) made.nine made.faulty
  no_reading (faults.PayloadFault code) made joined (inl short) =
      let counted =
      simp length-append at (ap length (joined ∙ ap (λ (w : List ℕ). w ++ beyond) made.joined
      ∙ ap (λ (w : List ℕ). (w ++ made.last) ++ beyond) made.sound.opened)) in
      let few = short.short in
      omega (arith, counted, few)
  no_reading (faults.PayloadFault code) made joined (inr past) =
      let one = one_past expects limits stream preceding frames made.part past.part
      (made.last ++ beyond) unparsed (joined ∙ ap (λ (w : List ℕ). w ++ beyond) made.joined
      ∙ append_assoc made.part made.last beyond) past.joined made.sound past.sound
      (wrong_payload_stops _ made.last beyond code made.complete made.faulty)
      (partial_stops _ unparsed past.partial) in
      partial_no_frame (limits (length made.part + 9)) made.last beyond
      (rw (one.1, one.2) past.partial) made.complete
  no_reading faults.Memory made joined
      read = made

-- A stream has one fault at most, also with octets that follow.
pub one_fault_lem : (expects : Bool) (limits : Limits) (stream more : List ℕ)
    (frames others : List Frame) (place other : ℕ) (fault another : WireFault)
    → WireFaultAt expects limits stream frames place fault
    → WireFaultAt expects limits (stream ++ more) others other another
    → (frames ≡ others) × (place ≡ other) × (fault ≡ another)
one_fault_lem expects limits stream more frames others place other fault another at by =
    let line : take place stream ++ (drop place stream ++ more) ≡ take other (stream ++ more)
    ++ drop other (stream ++ more) =
    sym (append_assoc (take place stream) (drop place stream) more)
    ∙ ap (λ (w : List ℕ). w ++ more) (take-append-drop place stream)
    ∙ sym (take-append-drop other (stream ++ more)) in
    let one = one_making expects limits frames others (take place stream)
    (take other (stream ++ more)) _ _ fault another at.made by.made line in
    let within = at.within in
    let within_more = by.within in
    let ours : length (take place stream) ≡ place = length-take place stream ∙ omega arith in
    let theirs : length (take other (stream ++ more)) ≡ other = length-take other (stream ++ more)
    ∙ omega arith in
    (one.0, sym ours ∙ one.1 ∙ theirs, one.2)

-- A stream that is at fault has no reading, whatever follows it.
pub no_reading_lem : (expects : Bool) (limits : Limits) (stream more : List ℕ)
    (frames others : List Frame) (place : ℕ) (fault : WireFault) (unparsed : List ℕ)
    → WireFaultAt expects limits stream frames place fault
    → Frames expects limits (stream ++ more) others unparsed → ⊥
no_reading_lem expects limits stream more frames others place fault unparsed at read =
    no_reading expects limits (take place stream) (drop place stream ++ more)
    (stream ++ more) unparsed frames others fault at.made
    (ap (λ (w : List ℕ). w ++ more) (sym (take-append-drop place stream))
    ∙ append_assoc (take place stream) (drop place stream) more) read
