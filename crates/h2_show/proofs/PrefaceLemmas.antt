-- The line of the preface comes first.
use Rattle.h2_show.proofs.Names.{◌≡◌, ℕ, ◌+◌, ◌<◌, Bool, true, false, if◌then◌else◌, List, [], ◌∷◌}
use Rattle.h2_show.proofs.Names.{◌++◌, length, take, drop, refl, sym, ◌∙◌, ap, arith, inl, inr}
use Rattle.h2_show.proofs.Names.{append_assoc, length-append, length-take, nat_tests, cases_Bool}
use Rattle.h2_show.proofs.Names.{take-append-drop, Frame, Limits, preface, expected_preface}
use Rattle.h2_show.proofs.Names.{CutterState, CutterRepresents, ShowLine, preface_shown}
use Rattle.h2_show.proofs.Names.{preface_lines}
use Rattle.std.proofs.Common.{◌⊎◌, nat_lt, bytes_eq}
use lib.Pointwise.{bytes_decides}
use Rattle.h2_wire.specs.Streams.{IsWrongPreface}

-- the line of a preface that is complete, where one is expected
abbrev pub whole_preface : Bool → List ShowLine
whole_preface expects = if expects then preface_shown ∷ [] else []

-- a stream that begins with what is expected
pub opened_lines : (expects : Bool) (body : List ℕ)
    → preface_lines expects (expected_preface expects ++ body) ≡ whole_preface expects
unfolding expected_preface preface
opened_lines true body = refl
opened_lines false body = refl

-- a stream that doesn't begin with what is expected
unequal_lines : (expects : Bool) (stream : List ℕ)
    → (take 24 stream ≡ expected_preface expects → ⊥) → preface_lines expects stream ≡ []
unequal_lines false stream differs = refl
unequal_lines true stream differs =
    elim (cases_Bool (bytes_eq (take 24 stream) (expected_preface true))) [
      | inl same ↦ absurd (differs
          ((bytes_decides (take 24 stream) (expected_preface true)).0 same))
      | inr other ↦ ap (λ (begins : Bool). if begins then preface_shown ∷ [] else []) other
    ]

-- a stream that is shorter than what is expected
pub inside_lines : (stream : List ℕ) → length stream < 24 → preface_lines true stream ≡ []
unfolding expected_preface preface
inside_lines stream short =
    unequal_lines true stream (λ same.
    let long : length (take 24 stream) ≡ 24 = ap length same in
    omega (arith, simp length-take at long))

-- after equal prefixes equal lists have equal elements
same_element : (prefix first second : List ℕ) (one other : ℕ)
    → prefix ++ one ∷ first ≡ prefix ++ other ∷ second → one ≡ other
same_element [] first second one other same = cc
same_element (octet ∷ prefix) first second one other same =
    same_element prefix first second one other (cc)

-- a stream with a wrong octet in the preface
pub wrong_lines : (expects : Bool) (stream : List ℕ) (frames : List Frame) (place : ℕ)
    → IsWrongPreface expects frames (take place stream) → preface_lines expects stream ≡ []
wrong_lines expects stream frames place wrong =
    unequal_lines _ _ (λ same. wrong.differs (same_element wrong.prefix _ _ wrong.wrong wrong.right
    (sym (append_assoc wrong.prefix (wrong.wrong ∷ []) (drop place stream))
    ∙ ap (λ (octets : List ℕ). octets ++ drop place stream) (sym wrong.reads) ∙ take-append-drop _ _
    ∙ sym (take-append-drop 24 stream) ∙ ap (λ (octets : List ℕ). octets ++ drop 24 stream)
    (same ∙ wrong.opens)
    ∙ append_assoc wrong.prefix (wrong.right ∷ wrong.missing) (drop 24 stream))))

-- Either the stream is inside the preface, after no frame, or it begins with what is expected.
abbrev pub PrefaceState : Bool → List ℕ → List Frame → (inside : Bool) → Type 0
PrefaceState expects stream frames inside =
    ((inside ≡ true) × (expects ≡ true) × (frames ≡ []) × (length stream < 24))
    ⊎ ((inside ≡ false) × ((body : List ℕ) × (stream ≡ expected_preface expects ++ body)))

-- what a cutter says of the preface
pub preface_state : (expects : Bool) (limits : Limits) (cutter : CutterState) (stream : List ℕ)
    (frames : List Frame) → CutterRepresents cutter expects limits stream frames
    → PrefaceState expects stream frames cutter.in_preface
unfolding expected_preface preface
preface_state false limits cutter stream frames cut =
    elim cut.split [
      | inl inside ↦ absurd (let short : length stream < 0 = inside.short in omega arith)
      | inr after ↦ inr (cut.in_preface, (stream, refl))
    ]
preface_state true limits cutter stream frames cut =
    elim cut.split [
      | inl inside ↦
          let short : length stream < 24 = inside.short in
          let lower : nat_lt (length stream) 24 ≡ true = grind (arith, nat_tests) in
          inl (cut.in_preface ∙ lower, refl, inside.none, short)
      | inr after ↦
          let whole : stream ≡ expected_preface true ++ (after.sound.body ++ cutter.unparsed) =
          after.joined
          ∙ ap (λ (octets : List ℕ). octets ++ cutter.unparsed) after.sound.opened
          ∙ append_assoc (expected_preface true) after.sound.body cutter.unparsed in
          let long : length stream ≡ 24 + length (after.sound.body ++ cutter.unparsed) =
          ap length whole ∙ length-append (expected_preface true) _ in
          let higher : nat_lt (length stream) 24 ≡ false = grind (arith, nat_tests) in
          inr (cut.in_preface ∙ higher, (after.sound.body ++ cutter.unparsed, whole))
    ]

-- before the first octet the preface's line is due where one is expected, and nothing is shown
pub nothing_represented : (expects : Bool) (limits : Limits) (cutter : CutterState)
    → CutterRepresents cutter expects limits [] []
    → (cutter.in_preface ≡ expects) × (preface_lines expects [] ++ [] ≡ [])
unfolding expected_preface preface
nothing_represented true limits cutter cut = (cut.in_preface, refl)
nothing_represented false limits cutter cut = (cut.in_preface, refl)
