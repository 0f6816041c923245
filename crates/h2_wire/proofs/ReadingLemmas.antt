-- A stream has one reading or one fault.
use Rattle.h2_wire.proofs.Names.{◌≡◌, ℕ, ◌+◌, ◌<◌, ◌≤◌, Bool, List, [], ◌∷◌, ◌++◌, length, take}
use Rattle.h2_wire.proofs.Names.{drop, Option, None, Some, refl, ap, sym, ◌∙◌, arith, subst}
use Rattle.h2_wire.proofs.Names.{append_assoc, length-append, drop-append_seam, Code, head_of}
use Rattle.h2_wire.proofs.Names.{head_fault, Frame, Encodes, payload_fault, head_of-append}
use Rattle.h2_wire.proofs.Names.{expected_preface, Limits, IsFrame, AreFrames, IsSound, IsPartial}
use Rattle.h2_wire.proofs.Names.{HeadFault}
use Rattle.std.proofs.Math.Seq.{take-append_seam}
use Rattle.h2_frame.proofs.FrameLemmas.{one_frame_lem}

-- Frames with one more are some.
pub some_frames : (frames : List Frame) (last : Frame) → frames ++ last ∷ [] ≡ [] → ⊥
some_frames [] last none = cc
some_frames (frame ∷ frames) last none = cc

-- none is no fault
pub none_some : {A Goal : Type 0} (fault : A) → ◌≡◌ {A = Option A} None (Some fault) → Goal
none_some fault e = (cc)

-- some fault is one fault
pub one_some : {A : Type 0} (fault other : A) → ◌≡◌ {A = Option A} (Some fault) (Some other)
    → fault ≡ other
one_some fault other e = cc

module _ (xs ys unparsed others : List ℕ) where
  -- Two prefixes of one length of one list are one.
  pub same_prefix : length xs ≡ length ys → xs ++ unparsed ≡ ys ++ others → xs ≡ ys
  same_prefix same joined = sym (take-append_seam xs unparsed) ∙ ap (take (length xs)) joined
      ∙ ap (λ (n : ℕ). take n (ys ++ others)) same ∙ take-append_seam ys others

  -- What follows one prefix is one.
  pub same_following : length xs ≡ length ys → xs ++ unparsed ≡ ys ++ others → unparsed ≡ others
  same_following same joined = sym (drop-append_seam xs unparsed) ∙ ap (drop (length xs)) joined
      ∙ ap (λ (n : ℕ). drop n (ys ++ others)) same ∙ drop-append_seam ys others

-- Two lists of at least nine octets that begin one line have one head.
pub same_head : (xs ys unparsed others : List ℕ) → 9 ≤ length xs → 9 ≤ length ys
    → xs ++ unparsed ≡ ys ++ others → head_of xs ≡ head_of ys
same_head xs ys unparsed others nine enough joined = sym (head_of-append xs unparsed nine)
    ∙ ap head_of joined ∙ head_of-append ys others enough

-- Where no sound frame begins.
abbrev pub Stops : ℕ → List ℕ → Type 0
Stops limit tail = (frame : Frame) (prefix more : List ℕ) → tail ≡ prefix ++ more
    → IsFrame limit frame prefix → ⊥

-- a complete frame has nine octets or more
pub nine_in_frame : (limit : ℕ) (frame : Frame) (octets : List ℕ) → IsFrame limit frame octets
    → 9 ≤ length octets
nine_in_frame limit frame octets sound = let complete = sound.encodes.complete in omega arith

-- a partial frame stops
pub partial_stops : (limit : ℕ) (unparsed : List ℕ) → IsPartial limit unparsed
    → Stops limit unparsed
partial_stops limit unparsed partial frame prefix more joined sound =
    let nine = nine_in_frame limit frame prefix sound in
    let counted : length unparsed ≡ length prefix + length more = ap length joined
    ∙ length-append prefix more in
    let front_head : head_of unparsed ≡ head_of prefix = ap head_of joined
    ∙ head_of-append prefix more nine in
    let less = (partial (omega arith)).1 in
    let less_now : length unparsed < 9 + (head_of prefix).length = rw front_head at less in
    let complete = sound.encodes.complete in
    absurd (omega arith)

-- a head at fault stops
pub wrong_head_stops : (limit : ℕ) (last more : List ℕ) (fault : HeadFault) → length last ≡ 9
    → head_fault (head_of last) limit ≡ Some fault → Stops limit (last ++ more)
wrong_head_stops limit last more fault nine faulty frame prefix others joined sound =
    let same : head_of last ≡ head_of prefix =
    same_head last prefix more others (omega arith)
    (nine_in_frame limit frame prefix sound) joined in
    let none : head_fault (head_of last) limit ≡ None = ap (λ head. head_fault head limit) same
    ∙ sound.sound_head in
    none_some fault (sym none ∙ faulty)

-- a payload at fault stops
pub wrong_payload_stops : (limit : ℕ) (last more : List ℕ) (code : Code)
    → length last ≡ 9 + (head_of last).length
    → payload_fault (head_of last) (drop 9 last) ≡ Some code → Stops limit (last ++ more)
wrong_payload_stops limit last more code complete faulty frame prefix others joined sound =
    let same : head_of last ≡ head_of prefix =
    same_head last prefix more others (omega arith)
    (nine_in_frame limit frame prefix sound) joined in
    let long : length last ≡ length prefix = complete ∙ ap (λ head. 9 + head.length) same
    ∙ sym sound.encodes.complete in
    let one : last ≡ prefix = same_prefix last prefix more others long joined in
    let none : payload_fault (head_of last) (drop 9 last) ≡ None =
    subst (λ (octets : List ℕ). payload_fault (head_of octets) (drop 9 octets) ≡ None)
    (sym one) sound.sound_payload in
    none_some code (sym none ∙ faulty)

module _ (limits : Limits) where
  -- Two lists of frames at one place, each up to where no sound frame begins, are one.
  pub one_body : (preceding : ℕ) (frames others : List Frame) (body another tail end : List ℕ)
      → AreFrames limits preceding frames body → AreFrames limits preceding others another
      → body ++ tail ≡ another ++ end → Stops (limits (preceding + length body + 9)) tail
      → Stops (limits (preceding + length another + 9)) end → (frames ≡ others) × (body ≡ another)
  one_body preceding [] [] body another tail end none nothing joined stops ends =
      (refl, none ∙ sym nothing)
  one_body preceding [] (other ∷ others) body another tail end none
      (first, following, split, sound, framed) joined stops ends =
      let begins : tail ≡ first ++ (following ++ end) = rw none at joined
      ∙ rw split (append_assoc first following end) in
      let at : preceding + length body + 9 ≡ preceding + 9 = rw none (omega arith) in
      absurd (stops other first (following ++ end) begins (rw at sound))
  one_body preceding (frame ∷ frames) [] body another tail end
      (first, following, split, sound, framed) nothing joined stops ends =
      let begins : end ≡ first ++ (following ++ tail) =
      sym (sym (rw split (append_assoc first following tail)) ∙ rw nothing at joined) in
      let at : preceding + length another + 9 ≡ preceding + 9 = rw nothing (omega arith) in
      absurd (ends frame first (following ++ tail) begins (rw at sound))
  one_body preceding (frame ∷ frames) (other ∷ others) body another tail end
      (first, following, split, sound, framed) (
        second,
        beyond,
        parted,
        complete,
        sequel,
      ) joined stops ends =
      let line : first ++ (following ++ tail) ≡ second ++ (beyond ++ end) =
      sym (append_assoc first following tail) ∙ ap (λ (octets : List ℕ). octets ++ tail) (sym split)
      ∙ joined ∙ ap (λ (octets : List ℕ). octets ++ end) parted ∙ append_assoc second beyond end in
      let same : head_of first ≡ head_of second =
      same_head first second (following ++ tail) (beyond ++ end) (nine_in_frame _ frame first sound)
      (nine_in_frame _ other second complete) line in
      let long : length first ≡ length second = sound.encodes.complete
      ∙ ap (λ head. 9 + head.length) same ∙ sym complete.encodes.complete in
      let one : first ≡ second =
      same_prefix first second (following ++ tail) (beyond ++ end) long line in
      let sequel_now = rw (← long) at sequel in
      let at : preceding + length body + 9 ≡ preceding + length first + length following + 9 =
      rw (split, length-append) (omega arith) in
      let by : preceding + length another + 9 ≡ preceding + length first + length beyond + 9 =
      rw (parted, length-append, ← long) (omega arith) in
      let unparsed =
      one_body (preceding + length first) frames others following beyond tail end framed sequel_now
      (same_following first second (following ++ tail) (beyond ++ end) long line) (rw at at stops)
      (rw by at ends) in
      let frame_same : frame ≡ other = one_frame_lem frame other first sound.encodes
      (subst (λ (octets : List ℕ). Encodes other octets) (sym one) complete.encodes) in
      (rw (frame_same, unparsed.0) refl, split ∙ rw (one, unparsed.1) refl ∙ sym parted)

-- Two readings after the preface are one.
pub one_past : (expects : Bool) (limits : Limits) (stream : List ℕ) (frames others : List Frame)
    (part another tail end : List ℕ)
    → stream ≡ part ++ tail → stream ≡ another ++ end → (sound : IsSound expects limits frames part)
    → (again : IsSound expects limits others another)
    → Stops (limits (length part + 9)) tail → Stops (limits (length another + 9)) end
    → (frames ≡ others) × (part ≡ another) × (tail ≡ end)
one_past expects limits stream frames others part another tail end joined rejoined sound again stops
    ends =
    let line : expected_preface expects ++ (sound.body ++ tail) ≡ expected_preface expects
    ++ (again.body ++ end) =
    sym (append_assoc (expected_preface expects) sound.body tail)
    ∙ ap (λ (octets : List ℕ). octets ++ tail) (sym sound.opened) ∙ sym joined
    ∙ rejoined ∙ ap (λ (octets : List ℕ). octets ++ end) again.opened
    ∙ append_assoc (expected_preface expects) again.body end in
    let following : sound.body ++ tail ≡ again.body ++ end =
    same_following (expected_preface expects) (expected_preface expects) _ _ refl line in
    let at : length part + 9 ≡ length (expected_preface expects) + length sound.body + 9 =
    ap (λ (octets : List ℕ). length octets + 9) sound.opened ∙ rw length-append refl in
    let by : length another + 9 ≡ length (expected_preface expects) + length again.body + 9 =
    ap (λ (octets : List ℕ). length octets + 9) again.opened ∙ rw length-append refl in
    let one =
    one_body limits (length (expected_preface expects)) frames others sound.body again.body tail
    end sound.framed again.framed following (rw at at stops) (rw by at ends) in
    let same : part ≡ another = sound.opened
    ∙ ap (λ (octets : List ℕ). expected_preface expects ++ octets) one.1 ∙ sym again.opened in
    (one.0, same, same_following part another tail end (ap length same) (sym joined ∙ rejoined))
