-- Fields that are lent one after another.
use Rattle.std.proofs.Common.{◌≡◌, ◌∙◌, refl, sym, ap, ℕ, ◌+◌, ◌<◌, List, [], ◌∷◌, ◌++◌, length}
use Rattle.std.proofs.Common.{take}
use Rattle.std.proofs.Common.{drop, drop-cons, add-one, length-append}
use Rattle.std.specs.Prelude.{map as each, min, slice_get, slice_set, Some}
use Rattle.std.proofs.lemmas.List.{map-append, length-map, set_at, take_more, take_min}
use Rattle.std.proofs.lemmas.List.{append_assoc}
use Rattle.std.proofs.lemmas.Option.{slice_get_within, get_or_from_slice_get}
use Rattle.hpack.specs.declared.types.field.Field.{Field}
use Rattle.hpack.specs.declared.types.field.FieldRef.{FieldRef}
use Rattle.hpack.specs.FieldLists.{field_lent}
use Rattle.belkjoef.specs.declared.fields.BjLent.{BjLent}
use Rattle.belkjoef.specs.Lent.{AreLent, lent_as}

-- The fields below a place are lent.
pub record LentBelow (list : List Field) (before after : List BjLent) (place : ℕ) : Type 0 where
  pub lent : List FieldRef
  pub are : each field_lent lent ≡ take place list
  pub said : after ≡ each lent_as lent ++ drop place before
  pub number : length lent ≡ place

module _ (list : List Field) (before : List BjLent) where
  -- None is lent at first.
  pub lent_none : LentBelow list before before 0
  lent_none = record { lent = []; are = refl; said = refl; number = refl }

  -- One more is lent.
  pub lent_more : {after : List BjLent} {place : ℕ} (field : FieldRef) → place < length before
      → slice_get list place ≡ Some (field_lent field) → LentBelow list before after place
      → LentBelow list before (slice_set after place (lent_as field)) (place + 1)
  lent_more {after = after} {place = place} field within at so = record {
    lent = so.lent ++ field ∷ [];
    are = map-append field_lent so.lent (field ∷ [])
        ∙ (ap (λ (fields : List Field). fields ++ field_lent field ∷ []) so.are
        ∙ (ap (λ (one : Field). take place list ++ one ∷ [])
        (sym (get_or_from_slice_get list place (field_lent field) (field_lent field) at))
        ∙ sym (take_more list place (field_lent field)
        (slice_get_within list place (field_lent field) at))));
    said = ap (λ (all : List BjLent). slice_set all place (lent_as field))
        (so.said ∙ ap (λ (rest : List BjLent). each lent_as so.lent ++ rest)
        (drop-cons before place (lent_as field) within))
        ∙ (set_at (each lent_as so.lent) _ _ (lent_as field) place
        (length-map so.lent lent_as ∙ so.number)
        ∙ rw (map-append lent_as so.lent (field ∷ []), append_assoc, add-one) refl);
    number = length-append so.lent (field ∷ []) ∙ ap (λ (n : ℕ). n + 1) so.number;
  }

  -- As many are lent as there are, and as there is room for.
  pub lent_all : {after : List BjLent} {count : ℕ} → count ≡ min (length before) (length list)
      → LentBelow list before after count → AreLent list before after count
  lent_all {after = after} {count = count} is so = record {
    lent = so.lent;
    are = so.are ∙ (ap (λ (n : ℕ). take n list) is ∙ take_min (length before) list);
    said = so.said;
    number = sym so.number;
  }
