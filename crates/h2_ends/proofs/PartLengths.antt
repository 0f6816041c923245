-- What is left of a body by what its head says and what was given of it.
use Rattle.h2_ends.proofs.Names.{◌≡◌, ℕ, ◌+◌, ◌-◌, ◌≤◌, ◌==◌, Bool, true, false}
use Rattle.h2_ends.proofs.Names.{nat_lt, Option, Some, None, refl, arith, ap, ◌∙◌}
use Rattle.h2_ends.proofs.Names.{nat_tests, Field, List, ◌++◌, ◌∷◌, [], ltb-false}
use Rattle.std.proofs.lemmas.Bool.{or_parts}
use Rattle.h2_ends.proofs.Names.{first_broken, trailer_rules}
use Rattle.h2_ends.specs.Represents.{IsRest}
use Rattle.h2_message.specs.Lengths.{breaks_length, length_after, broken_by_trailers}
use Rattle.h2_message.specs.declared.malformed.Malformed.TheVariants.{BadLength}
use Rattle.h2_message.specs.declared.parts.BodyLength.{BodyLength}

-- Two numbers stand as they do with the same taken off both.
less_alike : (number count more : ℕ) → count ≤ number
    → nat_lt (number - count) more ≡ nat_lt number (count + more)
less_alike number count more within = grind (arith, nat_tests, within)

equal_alike : (number count more : ℕ) → count ≤ number
    → ((number - count) == more) ≡ (number == (count + more))
equal_alike number count more within = grind (arith, nat_tests, within)

-- So octets break the length of what is left where they break that of the whole body.
pub breaks_alike : (number : Option ℕ) (count more : ℕ) (rest : BodyLength) (end : Bool)
    → IsRest number count rest
    → breaks_length rest.left more end ≡ breaks_length number (count + more) end
unfolding IsRest breaks_length
breaks_alike None count more rest end left = rw left refl
breaks_alike (Some number) count more rest end (within, left) =
    rw (left, less_alike number count more within, equal_alike number count more within) refl

-- The same of trailers.
pub trailers_alike : (number : Option ℕ) (count : ℕ) (rest : BodyLength) (fields : List Field)
    → IsRest number count rest
    → broken_by_trailers rest.left 0 fields ≡ broken_by_trailers number count fields
unfolding broken_by_trailers
trailers_alike number count rest fields left =
    ap (λ (b : Bool). first_broken (trailer_rules fields ++ (b, BadLength) ∷ []))
    (breaks_alike number count 0 rest true left
    ∙ ap (λ (sum : ℕ). breaks_length number sum true) (omega arith))

-- What is left of a body of which nothing was given.
pub left_of_all : (number : Option ℕ) (rest : BodyLength) → rest.left ≡ number
    → IsRest number 0 rest
unfolding IsRest
left_of_all None rest is = is
left_of_all (Some number) rest is = (omega arith, is ∙ ap Some (omega arith))

-- What is left after octets that break nothing.
within_left : (number count : ℕ) (end : Bool) → breaks_length (Some number) count end ≡ false
    → count ≤ number
unfolding breaks_length
within_left number count end unbroken =
    ltb-false number count (or_parts (nat_lt number count) _ unbroken).0

pub left_after : (number : Option ℕ) (count more n : ℕ) (rest after : BodyLength) (end : Bool)
    → IsRest number count rest → breaks_length rest.left more end ≡ false → n ≤ more
    → after.left ≡ length_after rest.left n → IsRest number (count + n) after
unfolding IsRest length_after
left_after None count more n rest after end left unbroken few is = rw left at is
left_after (Some number) count more n rest after end (within, left) unbroken few is =
    let room = within_left (number - count) more end (rw left at unbroken) in (
      omega (arith, within, room, few),
      (rw left at is) ∙ ap Some (omega (arith, within, room, few)),
    )
