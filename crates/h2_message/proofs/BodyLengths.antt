-- The rule that trailers break which end a body.
use Rattle.std.specs.Prelude.{Result, Ok, Err, OnOk, IfErr}
use Rattle.h2_message.proofs.Names.{◌≡◌, ℕ, true, false, Bool, List, [], ◌∷◌, ◌++◌, Option, None}
use Rattle.h2_message.proofs.Names.{Some, refl, if◌then◌else◌, option_or, Field, Malformed}
use Rattle.h2_message.proofs.Names.{BadLength, first_broken, trailer_rules, breaks_length}
use Rattle.h2_message.proofs.Names.{broken_by_trailers}

-- The first rule that is broken of two lists: of the first one, or else of the other.
pub broken_of_both : (rules others : List (Bool × Malformed))
    → first_broken (rules ++ others) ≡ option_or (first_broken rules) (first_broken others)
unfolding first_broken
broken_of_both [] others = refl
broken_of_both ((true, rule) ∷ rules) others = refl
broken_of_both ((false, rule) ∷ rules) others = broken_of_both rules others

module _ (number : Option ℕ) (count : ℕ) (fields : List Field) where
  -- Trailers break the first rule of their fields, or else that of the length of the body,
  fields_first :
      broken_by_trailers number count fields ≡ option_or (first_broken (trailer_rules fields))
      (if breaks_length number count true then Some BadLength else None)
  unfolding broken_by_trailers first_broken
  fields_first =
      broken_of_both (trailer_rules fields) ((breaks_length number count true, BadLength) ∷ [])

  -- so the one that their fields break,
  pub broken_fields : (rule : Malformed) → first_broken (trailer_rules fields) ≡ Some rule
      → broken_by_trailers number count fields ≡ Some rule
  broken_fields rule broken = rw (fields_first, broken)

  -- and where these break none, what is said of the length.
  pub sound_fields : (result : Result (Unit {0}) Malformed)
      → first_broken (trailer_rules fields) ≡ None
      → OnOk result (breaks_length number count true ≡ false)
      → IfErr result (λ rule. (rule ≡ BadLength) × (breaks_length number count true ≡ true))
      → OnOk result (broken_by_trailers number count fields ≡ None)
      × IfErr result (λ rule. broken_by_trailers number count fields ≡ Some rule)
  sound_fields (Ok done) none ok err = (rw (fields_first, none, ok), tt)
  sound_fields (Err rule) none ok err = (tt, rw (fields_first, none, err.1, err.0))
