-- The octets of a piece: in which of its prefixes no frame ends.
use Rattle.h2_laws_end.proofs.Names
use Names.{◌≡◌, Bool, length, arith, subst, append-nil, Frame, WireFault, Limits, Frames, IsPartial}
use Names.{◌⊎◌, ℕ, ◌+◌, ◌≤◌, List, [], ◌∷◌, ◌++◌, None, refl, sym, ap, ◌∙◌, inl, inr}
use Names.{length-append, head_of, expected_preface, EndsWithFault, one_reading_lem, head_of-append}
use Rattle.h2_frame.specs.Heads.{head_fault}
use Rattle.h2_laws_end.proofs.Overlaps.{overlap}
use Rattle.h2_laws_end.proofs.ReadPrefixes.{prefix_read}
use Rattle.h2_wire.specs.declared.fault.WireFault.TheVariants as faults

-- Nothing is of no length.
none_of : {A : Type 0} (items : List A) → length items ≡ 0 → items ≡ []
none_of [] none = refl
none_of (item ∷ items) none = absurd (omega (arith, none))

-- A list is empty, or has a last one.
pub last_or : (octets : List ℕ) → (octets ≡ []) ⊎ ((init : List ℕ) × (last : ℕ)
    × (octets ≡ init ++ last ∷ []))
last_or [] = inl refl
last_or (octet ∷ octets) = elim (last_or octets) [
  | inl none ↦ inr ([], octet, ap (λ (line : List ℕ). octet ∷ line) none)
  | inr (init, last, is) ↦ inr (octet ∷ init, last, ap (λ (line : List ℕ). octet ∷ line) is)
]

-- What is between frames and the same frames are these frames.
nothing_between : (frames first later more : List Frame) → frames ≡ first ++ more
    → first ≡ frames ++ later → first ≡ frames
nothing_between frames first later more whole part =
    let counted = simp length-append at (ap length whole) in
    let again = simp length-append at (ap length part) in
    let none : later ≡ [] = none_of later (omega (arith, counted, again)) in
    part ∙ ap (λ (line : List Frame). frames ++ line) none ∙ append-nil frames

-- The frames of a prefix are those of a prefix of it, and more.
more_after : (expects : Bool) (limits : Limits) (frames first : List Frame)
    (input earlier middle left : List ℕ) → Frames expects limits input frames earlier
    → Frames expects limits (input ++ middle) first left
    → (later : List Frame) × (first ≡ frames ++ later)
more_after expects limits frames first input earlier middle left read again =
    let prefix = prefix_read expects limits first left input middle again in
    let same : prefix.first ≡ frames =
    (one_reading_lem expects limits input prefix.first frames prefix.left earlier prefix.read
    read).0 in (
      prefix.later,
      prefix.frames_are ∙ ap (λ (line : List Frame). line ++ prefix.later) same,
    )

-- Where no frame ends in octets, none ends in a prefix of them.
pub no_frame_in_prefix : (expects : Bool) (limits : Limits) (frames : List Frame)
    (input middle more earlier unparsed : List ℕ) → Frames expects limits input frames earlier
    → Frames expects limits ((input ++ middle) ++ more) frames unparsed
    → (left : List ℕ) × Frames expects limits (input ++ middle) frames left
no_frame_in_prefix expects limits frames input middle more earlier unparsed read again =
    let prefix = prefix_read expects limits frames unparsed (input ++ middle) more again in
    let later = more_after expects limits frames prefix.first input earlier middle prefix.left read
    prefix.read in
    let same =
    nothing_between frames prefix.first later.0 prefix.later prefix.frames_are later.1 in (
      prefix.left,
      subst (λ (line : List Frame). Frames expects limits (input ++ middle) line prefix.left) same
          prefix.read,
    )

-- The frames before the last one, by those that a prefix doesn't have.
before_last : (frames first later more : List Frame) (frame : Frame) (left : List ℕ) (last : ℕ)
    → frames ++ frame ∷ [] ≡ first ++ more → first ≡ frames ++ later
    → (more ≡ [] → (first ≡ []) ⊎ ([] ≡ left ++ last ∷ [])) → first ≡ frames
before_last frames first later [] frame left last whole part continues =
    let counted = simp length-append at (ap length whole) in
    elim (continues refl) [
      | inl none ↦ let nothing = ap length none in absurd (omega (arith, counted, nothing))
      | inr none ↦ let nothing = simp length-append at (ap length none) in
          absurd (omega (arith, nothing))
    ]
before_last frames first later (next ∷ more) frame left last whole part continues =
    let counted = simp length-append at (ap length whole) in
    let again = simp length-append at (ap length part) in
    let none : later ≡ [] = none_of later (omega (arith, counted, again)) in
    part ∙ ap (λ (line : List Frame). frames ++ line) none ∙ append-nil frames

-- Where a frame ends with the last of octets, none ends before it.
pub no_frame_before_last : (expects : Bool) (limits : Limits) (frames : List Frame) (frame : Frame)
    (input init earlier : List ℕ) (last : ℕ) → Frames expects limits input frames earlier
    → Frames expects limits ((input ++ init) ++ last ∷ []) (frames ++ frame ∷ []) []
    → (left : List ℕ) × Frames expects limits (input ++ init) frames left
no_frame_before_last expects limits frames frame input init earlier last read ends =
    let prefix = prefix_read expects limits (frames ++ frame ∷ []) [] (input ++ init) (last ∷ [])
    ends in
    let later = more_after expects limits frames prefix.first input earlier init prefix.left read
    prefix.read in
    let same = before_last frames prefix.first later.0 prefix.later frame prefix.left last
    prefix.frames_are later.1 prefix.continues in (
      prefix.left,
      subst (λ (line : List Frame). Frames expects limits (input ++ init) line prefix.left) same
          prefix.read,
    )

-- One octet fewer than the octets of a fault: what precedes them, and less than all of them.
abbrev OneFewer : List ℕ → ℕ → List ℕ → List ℕ → Type 0
OneFewer stream last part faulty = (between : List ℕ) × (stream ≡ part ++ between)
    × (faulty ≡ between ++ last ∷ [])

one_fewer : (stream : List ℕ) (last : ℕ) (part faulty : List ℕ)
    → stream ++ last ∷ [] ≡ part ++ faulty → 1 ≤ length faulty → OneFewer stream last part faulty
one_fewer stream last part faulty line some =
    elim (overlap stream (last ∷ []) part faulty line) [
      | inl (between, is, follows) ↦ (between, is, follows)
      | inr (next, between, is, follows) ↦
          let counted = simp length-append at (ap length follows) in
          absurd (omega (arith, counted, some))
    ]

-- Less than all octets of a frame with a sound head are partial.
less_than_all : (limit : ℕ) (between faulty : List ℕ) (last : ℕ) → faulty ≡ between ++ last ∷ []
    → length faulty ≡ 9 + (head_of faulty).length → head_fault (head_of faulty) limit ≡ None
    → IsPartial limit between
less_than_all limit between faulty last is complete sound nine =
    let same : head_of faulty ≡ head_of between = ap head_of is
    ∙ head_of-append between (last ∷ []) nine in
    let counted = simp length-append at (ap length is) in
    let complete_now = rw same at complete in
    (rw same at sound, omega (arith, counted, complete_now))

-- Octets but the last one, which makes a fault, are read.
pub no_fault_before_last : (expects : Bool) (limits : Limits) (frames : List Frame)
    (stream : List ℕ) (last : ℕ) (fault : WireFault)
    → EndsWithFault expects limits frames (stream ++ last ∷ []) fault
    → (left : List ℕ) × Frames expects limits stream frames left
no_fault_before_last expects limits frames stream last faults.BadPreface made =
    let fewer = one_fewer stream last made.prefix (made.wrong ∷ []) made.reads (omega arith) in
    let counted = simp length-append at (ap length fewer.2) in
    let none : fewer.0 ≡ [] = none_of fewer.0 (omega (arith, counted)) in
    let same : stream ≡ made.prefix = fewer.1
    ∙ ap (λ (line : List ℕ). made.prefix ++ line) none ∙ append-nil made.prefix in
    let opens : expected_preface expects ≡ stream ++ made.right ∷ made.missing =
    made.opens ∙ ap (λ (line : List ℕ). line ++ made.right ∷ made.missing) (sym same) in
    let long = simp length-append at (ap length opens) in (
      stream,
      inl (record {
        missing = made.right ∷ made.missing;
        opens = opens;
        short = omega (arith, long);
        none = made.none;
        all = refl;
      }),
    )
no_fault_before_last expects limits frames stream last (faults.HeadFault head) made =
    let nine = made.nine in
    let fewer = one_fewer stream last made.part made.last made.joined (omega (arith, nine)) in
    let counted = simp length-append at (ap length fewer.2) in (
      fewer.0,
      inr (record {
        part = made.part;
        joined = fewer.1;
        sound = made.sound;
        partial = λ enough. absurd (omega (arith, nine, counted, enough));
      }),
    )
no_fault_before_last expects limits frames stream last (faults.PayloadFault code) made =
    let complete = made.complete in
    let fewer = one_fewer stream last made.part made.last made.joined (omega (arith, complete)) in (
      fewer.0,
      inr (record {
        part = made.part;
        joined = fewer.1;
        sound = made.sound;
        partial = less_than_all _ fewer.0 made.last last fewer.2 made.complete made.sound_head;
      }),
    )
no_fault_before_last expects limits frames stream last faults.Memory made = absurd made
