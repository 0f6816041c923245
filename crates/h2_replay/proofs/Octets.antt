-- Parts of lists.
use Rattle.h2_replay.proofs.Names.{◌≡◌, ℕ, ◌+◌, ◌-◌, List, [], ◌∷◌, ◌++◌, length, take, drop, refl}
use Rattle.h2_replay.proofs.Names.{sym, ap, ◌∙◌, arith, Some, length-drop, take-length, slice_get}
use Rattle.std.proofs.Common.{zero, suc, min, add-one}
use Rattle.std.proofs.Math.Seq.{take-suc}
use Rattle.std.proofs.lemmas.Option.{slice_get_within, get_or_from_slice_get}

-- No more than all of a list is dropped.
pub drop_min : {A : Type 0} (count bounded : ℕ) (list : List A) → bounded ≡ min count (length list)
    → drop bounded list ≡ drop count list
drop_min zero bounded [] is = let none : bounded ≡ 0 = omega (arith, is) in rw none refl
drop_min (suc count) bounded [] is = let none : bounded ≡ 0 = omega (arith, is) in rw none refl
drop_min zero bounded (first ∷ list) is =
    let none : bounded ≡ 0 = omega (arith, is) in rw none refl
drop_min (suc count) zero (first ∷ list) is = absurd (omega (arith, is))
drop_min (suc count) (suc bounded) (first ∷ list) is =
    drop_min count bounded list (omega (arith, is))

-- What is left of a list after its first `count` octets.
pub rest_of : (count : ℕ) (list : List ℕ) → take (length list - count) (drop count list)
    ≡ drop count list
rest_of count list =
    ap (λ (n : ℕ). take n (drop count list)) (sym (length-drop count list))
    ∙ take-length (drop count list)

-- One more of a list.
pub take_next : {A : Type 0} (count : ℕ) (list : List A) (next : A)
    → slice_get list count ≡ Some next → take (count + 1) list ≡ take count list ++ next ∷ []
take_next count list next is =
    rw add-one (take-suc list count next (slice_get_within list count next is)
    ∙ ap (λ item. take count list ++ item ∷ [])
    (get_or_from_slice_get list count next next is))
