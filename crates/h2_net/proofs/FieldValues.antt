-- The value of the first field with a name, field by field.
use Rattle.std.proofs.Common.{◌≡◌, ℕ, ◌+◌, ◌≤◌, Bool, true, false, List, [], ◌∷◌, length, drop}
use Rattle.std.proofs.Common.{Some}
use Rattle.std.proofs.Common.{ap, ◌∙◌, if◌then◌else◌, slice_get}
use Rattle.std.specs.Str.{bytes_eq}
use Rattle.std.proofs.lemmas.List.{drop_more, drop_all}
use Rattle.std.proofs.lemmas.Option.{slice_get_within, get_or_from_slice_get}
use Rattle.hpack.specs.declared.types.field.Field.{Field}
use Rattle.h2_message.specs.Fields.{value_or_nothing, is_named, value_of, or_nothing}

-- The next field is the first of those that are left.
left_from : (fields : List Field) (place : ℕ) (field : Field)
    → slice_get fields place ≡ Some field → drop place fields ≡ field ∷ drop (place + 1) fields
left_from fields place field there =
    drop_more fields place field (slice_get_within fields place field there)
    ∙ ap (λ (first : Field). first ∷ drop (place + 1) fields)
    (get_or_from_slice_get fields place field field there)

value_first : (name : List ℕ) (field : Field) (fields : List Field) (named : Bool)
    → is_named name field ≡ named
    → value_or_nothing name (field ∷ fields)
    ≡ (if named then field.value else value_or_nothing name fields)
unfolding value_or_nothing value_of or_nothing
value_first name field fields true named =
    ap (λ (b : Bool). or_nothing (if b then Some field.value else value_of name fields)) named
value_first name field fields false named =
    ap (λ (b : Bool). or_nothing (if b then Some field.value else value_of name fields)) named

-- Where it has the name, its value is that of those that are left; where it hasn't, those after it
-- have the same;
pub value_left : (name : List ℕ) (fields : List Field) (place : ℕ) (field : Field) {named : Bool}
    → slice_get fields place ≡ Some field → bytes_eq field.name name ≡ named
    → value_or_nothing name (drop place fields)
    ≡ (if named then field.value else value_or_nothing name (drop (place + 1) fields))
unfolding is_named
value_left name fields place field {named} there same =
    ap (value_or_nothing name) (left_from fields place field there) ∙ value_first _ _ _ named same

-- and where none is left there is none.
pub value_none : (name : List ℕ) (fields : List Field) (place : ℕ) → length fields ≤ place
    → value_or_nothing name (drop place fields) ≡ []
unfolding value_or_nothing value_of or_nothing
value_none name fields place all = ap (value_or_nothing name) (drop_all place fields all)
