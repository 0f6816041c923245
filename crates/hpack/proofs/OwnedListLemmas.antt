-- Building a list of its own.
use Rattle.hpack.proofs.Names.{◌≡◌, ℕ, ◌+◌, ◌<◌, List, [], ◌∷◌, ◌++◌, length, arith, sum_by-append}
use Rattle.hpack.proofs.Names.{Field, IsList, list_size, RepresentsOwned, AddsOwned}
use Rattle.hpack.specs.declared.types.field.List.{List as AnsweredList}
use Rattle.hpack.specs.declared.types.field.List.TheVariants.{Whole, TooLarge}

-- the list that a builder answers
pub has_owned_list : (list_limit : ℕ) (fields : List Field) (list : AnsweredList) (remaining : ℕ)
    → RepresentsOwned list_limit fields list remaining → IsList list_limit fields list
has_owned_list list_limit fields (Whole items) remaining h = (h.0, omega (arith, h.1))
has_owned_list list_limit fields TooLarge remaining h = h

-- a list above the limit is above it with one field more
pub owned_too_large_stays : (list : AnsweredList) (remaining : ℕ) (field : Field) → list ≡ TooLarge
    → AddsOwned list remaining field list remaining
owned_too_large_stays list remaining field large list_limit fields has =
    let more = sum_by-append (λ (one : Field). length one.name + length one.value + 32) fields
    (field ∷ []) in
    let above : list_limit < list_size fields = rw large at has in
    let result : list_limit < list_size (fields ++ field ∷ []) = omega (arith, more, above) in
    rw large result
