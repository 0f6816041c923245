-- What a write of the first octets takes is what one of all of them takes.
use Rattle.std.proofs.Common.{◌≡◌, ◌≤◌, ◌<◌, ◌+◌, ◌++◌, ℕ, Bool, List, [], ◌∷◌, length, take, drop, Option, Result, Ok, Err}
use Rattle.std.proofs.Common.{sym, ap, ◌∙◌, subst, arith, take-take, inl, inr, refl}
use Rattle.std.proofs.Common.{nat_lt, true}
use Rattle.std.proofs.lemmas.Bool.{cases_lt}
use Rattle.std.proofs.lemmas.Bool.Decides.{nat_tests}
use Rattle.std.proofs.Transfers.{starts_with_length}
use Rattle.std.specs.Io.{StartsWith}
use Rattle.std.specs.Io.KnownBytes.{Appends}
use Rattle.h2_link.specs.declared.link.LinkFault.{LinkFault}
use Rattle.h2_link.specs.Links.{Takes, TakesFirst, stalled_after}

-- The first octets of the first part are those of all.
starts_take : (all first : List ℕ) (count : ℕ) → StartsWith all first → count ≤ length first
    → take count first ≡ take count all
starts_take all first count starts few =
    ap (take count) (sym starts) ∙ take-take count (length first) all few

-- So many first octets of the first part were taken, and so of all.
takes_first_part : (before after : Option (List ℕ)) (all first : List ℕ) (count : ℕ)
    → StartsWith all first → TakesFirst before after first count
    → TakesFirst before after all count
takes_first_part before after all first count starts took =
    record {
      within = let short = starts_with_length all first starts in omega (arith, short, took.within);
      took = subst (Appends before after) (starts_take all first count starts took.within)
          took.took;
    }

-- A write of the first part is one of all.
pub takes_part : (before after : Option (List ℕ)) (all first : List ℕ)
    (result : Result ℕ LinkFault) → StartsWith all first → Takes before after result first
    → Takes before after result all
takes_part before after all first (Ok count) starts took =
    takes_first_part before after all first count starts took
takes_part before after all first (Err fault) starts took =
    (took.0, takes_first_part before after all first took.0 starts took.1)

-- It stalls as one of all, where the first part is empty only if there are no octets.
pub stalled_part : (stalled : Bool) (all first : List ℕ) (result : Result ℕ LinkFault)
    → StartsWith all first → (length first ≡ 0 → all ≡ [])
    → stalled_after stalled (length first) result ≡ stalled_after stalled (length all) result
stalled_part stalled all first (Err fault) starts none = refl
stalled_part stalled all first (Ok count) starts none = elim (cases_lt 0 (length first)) [
  | inl some ↦
      let short = starts_with_length all first starts in
      let one : nat_lt 0 (length first) ≡ true = grind (arith, nat_tests) in
      let more : 0 < length all = omega (arith, some, short) in
      let two : nat_lt 0 (length all) ≡ true = grind (arith, nat_tests) in
      rw (one, two) refl
  | inr few ↦
      let zero : length first ≡ 0 = omega (arith, few) in
      let empty = none zero in
      rw (zero, empty) refl
]
