-- The frames of a stream are the first of those of a longer one, also of one that is at fault.
use Rattle.std.proofs.Common.{◌≡◌, ℕ, ◌+◌, Bool, List, [], ◌∷◌, ◌++◌, length, take, drop, refl, ap}
use Rattle.std.proofs.Common.{sym, ◌∙◌, inl, inr, arith, subst, append_assoc, length-append, rules}
use Rattle.std.proofs.lemmas.List.{take-append-drop}
use Rattle.h2_frame.specs.Heads.{head_of}
use Rattle.h2_frame.specs.Frames.{Frame, Encodes}
use Rattle.h2_frame.proofs.FrameLemmas.{one_frame_lem}
use Rattle.h2_wire.specs.declared.fault.WireFault.{WireFault}
use Rattle.h2_wire.specs.declared.fault.WireFault.TheVariants as faults
use Rattle.h2_wire.specs.Streams.{expected_preface, Limits, IsFrame, AreFrames, IsSound}
use Rattle.h2_wire.specs.Streams.{IsAfterPreface, IsInsidePreface, Frames, EndsWithFault}
use Rattle.h2_wire.specs.Streams.{WireFaultAt}
use Rattle.h2_wire.proofs.ReadingLemmas.{same_prefix, same_following, same_head, Stops}
use Rattle.h2_wire.proofs.ReadingLemmas.{nine_in_frame, partial_stops, wrong_head_stops}
use Rattle.h2_wire.proofs.ReadingLemmas.{wrong_payload_stops}
use Rattle.h2_wire.proofs.FaultLemmas.{sound_no_wrong}
use Rattle.std.proofs.lemmas.Grind.{common_steps}

-- The second list of frames continues the first.
abbrev pub Continue : (frames others : List Frame) → Type 0
Continue frames others = (following : List Frame) × (others ≡ frames ++ following)

-- One more frame before both lists.
continue_more : (frame other : Frame) (frames others : List Frame) → frame ≡ other
    → Continue frames others → Continue (frame ∷ frames) (other ∷ others)
continue_more frame other frames others same (following, framed) = search rules

-- Two frames that begin the same octets are the same, as are their octets and what follows them.
one_first : (limit : ℕ) (frame other : Frame) (first second following beyond : List ℕ)
    → IsFrame limit frame first → IsFrame limit other second
    → first ++ following ≡ second ++ beyond
    → (frame ≡ other) × (first ≡ second) × (following ≡ beyond)
one_first limit frame other first second following beyond sound complete line =
    let same : head_of first ≡ head_of second =
    same_head first second following beyond (nine_in_frame limit frame first sound)
    (nine_in_frame limit other second complete) line in
    let long : length first ≡ length second = sound.encodes.complete
    ∙ ap (λ head. 9 + head.length) same ∙ sym complete.encodes.complete in
    let one : first ≡ second = same_prefix first second following beyond long line in (
      one_frame_lem frame other first sound.encodes
          (subst (λ (octets : List ℕ). Encodes other octets) (sym one) complete.encodes),
      one,
      same_following first second following beyond long line,
    )

module _ (limits : Limits) where
  -- Frames continue others at one place, if after them no sound frame begins.
  bodies_continue : (preceding : ℕ) (frames others : List Frame) (body another tail end : List ℕ)
      → AreFrames limits preceding frames body → AreFrames limits preceding others another
      → body ++ tail ≡ another ++ end → Stops (limits (preceding + length another + 9)) end
      → Continue frames others
  bodies_continue preceding [] others body another tail end none framed joined ends = (others, refl)
  bodies_continue preceding (frame ∷ frames) [] body another tail end
      (first, following, split, sound, framed) nothing joined ends =
      let begins : end ≡ first ++ (following ++ tail) =
      sym (sym (rw split (append_assoc first following tail)) ∙ rw nothing at joined) in
      let at : preceding + length another + 9 ≡ preceding + 9 = rw nothing (omega arith) in
      absurd (ends frame first (following ++ tail) begins (rw at sound))
  bodies_continue preceding (frame ∷ frames) (other ∷ others) body another tail end
      (first, following, split, sound, framed) (second, beyond, parted, complete, sequel) joined
      ends =
      let line : first ++ (following ++ tail) ≡ second ++ (beyond ++ end) =
      sym (append_assoc first following tail) ∙ ap (λ (octets : List ℕ). octets ++ tail) (sym split)
      ∙ joined ∙ ap (λ (octets : List ℕ). octets ++ end) parted ∙ append_assoc second beyond end in
      let one = one_first (limits (preceding + 9)) frame other first second (following ++ tail)
      (beyond ++ end) sound complete line in
      let sequel_now = rw (← one.1) at sequel in
      let by : preceding + length another + 9 ≡ preceding + length first + length beyond + 9 =
      rw (parted, length-append, ← one.1) (omega arith) in
      continue_more frame other frames others one.0
      (bodies_continue (preceding + length first) frames others following beyond tail end
      framed sequel_now one.2 (rw by at ends))

  -- Octets at one place that are the same frames are the same.
  one_body_of : (preceding : ℕ) (frames : List Frame) (body another tail end : List ℕ)
      → AreFrames limits preceding frames body → AreFrames limits preceding frames another
      → body ++ tail ≡ another ++ end → body ≡ another
  one_body_of preceding [] body another tail end none nothing joined = none ∙ sym nothing
  one_body_of preceding (frame ∷ frames) body another tail end
      (first, following, split, sound, framed) (second, beyond, parted, complete, sequel) joined =
      let line : first ++ (following ++ tail) ≡ second ++ (beyond ++ end) =
      sym (append_assoc first following tail) ∙ ap (λ (octets : List ℕ). octets ++ tail) (sym split)
      ∙ joined ∙ ap (λ (octets : List ℕ). octets ++ end) parted ∙ append_assoc second beyond end in
      let one = one_first (limits (preceding + 9)) frame frame first second (following ++ tail)
      (beyond ++ end) sound complete line in
      let sequel_now = rw (← one.1) at sequel in
      let rest = one_body_of (preceding + length first) frames following beyond tail end framed
      sequel_now one.2 in
      split ∙ ap (λ (octets : List ℕ). first ++ octets) rest
      ∙ ap (λ (octets : List ℕ). octets ++ beyond) one.1 ∙ sym parted

-- Sound parts of one stream with the same frames are the same.
pub one_part : (expects : Bool) (limits : Limits) (frames : List Frame)
    (part another tail end : List ℕ) → IsSound expects limits frames part
    → IsSound expects limits frames another → part ++ tail ≡ another ++ end → part ≡ another
one_part expects limits frames part another tail end sound again joined =
    grind (arith, common_steps, expected_preface, append_assoc, same_following, one_body_of)

-- The frames of a sound part continue those of another, if after them no sound frame begins.
pub sounds_continue : (expects : Bool) (limits : Limits) (frames others : List Frame)
    (part another tail end : List ℕ) → IsSound expects limits frames part
    → IsSound expects limits others another → part ++ tail ≡ another ++ end
    → Stops (limits (length another + 9)) end → Continue frames others
sounds_continue expects limits frames others part another tail end sound again joined ends =
    let line : expected_preface expects ++ (sound.body ++ tail) ≡ expected_preface expects
    ++ (again.body ++ end) =
    sym (append_assoc (expected_preface expects) sound.body tail)
    ∙ ap (λ (octets : List ℕ). octets ++ tail) (sym sound.opened) ∙ joined
    ∙ ap (λ (octets : List ℕ). octets ++ end) again.opened
    ∙ append_assoc (expected_preface expects) again.body end in
    let following : sound.body ++ tail ≡ again.body ++ end =
    same_following (expected_preface expects) (expected_preface expects) _ _ refl line in
    let by : length another + 9 ≡ length (expected_preface expects) + length again.body + 9 =
    ap (λ (octets : List ℕ). length octets + 9) again.opened ∙ rw length-append refl in
    bodies_continue limits (length (expected_preface expects)) frames others sound.body again.body
    tail end sound.framed again.framed following (rw by at ends)

module _ (expects : Bool) (limits : Limits) (stream more : List ℕ) (frames others : List Frame)
    (unparsed other : List ℕ) where
  -- A stream longer than the preface isn't inside it.
  past_not_inside : IsAfterPreface expects limits stream frames unparsed
      → IsInsidePreface expects (stream ++ more) others other → ⊥
  past_not_inside past short = grind (arith, common_steps)

  -- The frames of a stream are the first of those of a longer one.
  pub longer_reading : Frames expects limits stream frames unparsed
      → Frames expects limits (stream ++ more) others other → (following : List Frame)
      × (others ≡ frames ++ following)
  longer_reading (inl short) longer = (others, rw short.none refl)
  longer_reading (inr past) (inl short) = absurd (past_not_inside past short)
  longer_reading (inr past) (inr again) =
      let line : past.part ++ (unparsed ++ more) ≡ again.part ++ other =
      sym (append_assoc past.part unparsed more)
      ∙ ap (λ (octets : List ℕ). octets ++ more) (sym past.joined) ∙ again.joined in
      sounds_continue expects limits frames others past.part again.part (unparsed ++ more) other
      past.sound again.sound line (partial_stops _ other again.partial)

module _ (expects : Bool) (limits : Limits) (stream more octets beyond : List ℕ)
    (frames others : List Frame) (unparsed : List ℕ) where
  -- The frames of a stream are the first of those before a fault that octets after it make.
  before_a_fault : (fault : WireFault) → Frames expects limits stream frames unparsed
      → EndsWithFault expects limits others octets fault → stream ++ more ≡ octets ++ beyond
      → (following : List Frame) × (others ≡ frames ++ following)
  before_a_fault fault (inl short) made joined = (others, rw short.none refl)
  before_a_fault faults.BadPreface (inr past) made joined =
      absurd (sound_no_wrong expects limits frames others past.part (unparsed ++ more) octets beyond
      past.sound made (sym (append_assoc past.part unparsed more)
      ∙ ap (λ (line : List ℕ). line ++ more) (sym past.joined) ∙ joined))
  before_a_fault (faults.HeadFault head) (inr past) made joined =
      let line : past.part ++ (unparsed ++ more) ≡ made.part ++ (made.last ++ beyond) =
      sym (append_assoc past.part unparsed more) ∙ ap (λ (line : List ℕ). line ++ more)
      (sym past.joined) ∙ joined ∙ ap (λ (line : List ℕ). line ++ beyond) made.joined ∙ append_assoc
      made.part made.last beyond in
      sounds_continue expects limits frames others past.part made.part (unparsed ++ more)
      (made.last ++ beyond) past.sound made.sound line
      (wrong_head_stops _ made.last beyond head made.nine made.faulty)
  before_a_fault (faults.PayloadFault code) (inr past) made joined =
      let line : past.part ++ (unparsed ++ more) ≡ made.part ++ (made.last ++ beyond) =
      sym (append_assoc past.part unparsed more) ∙ ap (λ (line : List ℕ). line ++ more)
      (sym past.joined) ∙ joined ∙ ap (λ (line : List ℕ). line ++ beyond) made.joined ∙ append_assoc
      made.part made.last beyond in
      sounds_continue expects limits frames others past.part made.part (unparsed ++ more)
      (made.last ++ beyond) past.sound made.sound line
      (wrong_payload_stops _ made.last beyond code made.complete made.faulty)
  before_a_fault faults.Memory (inr past) made joined = absurd made

-- The frames of a stream are the first of those before the fault of a longer one.
pub longer_fault : (expects : Bool) (limits : Limits) (stream more : List ℕ)
    (frames others : List Frame) (unparsed : List ℕ) (place : ℕ) (fault : WireFault)
    → Frames expects limits stream frames unparsed
    → WireFaultAt expects limits (stream ++ more) others place fault
    → (following : List Frame) × (others ≡ frames ++ following)
longer_fault expects limits stream more frames others unparsed place fault reading at =
    before_a_fault expects limits stream more (take place (stream ++ more))
    (drop place (stream ++ more)) frames others unparsed fault reading at.made
    (sym (take-append-drop place (stream ++ more)))
