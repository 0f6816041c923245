-- Fields that C gives, copied in two parts.
use Rattle.std.proofs.Common.{◌≡◌, ◌∙◌, sym, ap, ℕ, ◌-◌, List, ◌++◌, length, take, drop, arith}
use Rattle.std.proofs.Common.{length-drop}
use Rattle.std.proofs.lemmas.List.{map-append, take-append-drop, take_all}
use Rattle.hpack.specs.declared.types.field.Field.{Field}
use Rattle.belkjoef.specs.declared.fields.BjField.{BjField}
use Rattle.belkjoef.specs.Given.{field_given, fields_given}

-- The first ones and the others are all of them.
pub copied_all : (fields : List BjField) (kept many : ℕ) {first all : List Field} → many ≡ kept
    → first ≡ fields_given (take many fields)
    → all ≡ first ++ fields_given (take (length fields - kept) (drop kept fields))
    → all ≡ fields_given fields
copied_all fields kept many {first = first} same copied rest = rest
    ∙ (ap (λ (xs : List BjField). first ++ fields_given xs)
    (take_all (length fields - kept) (drop kept fields)
    (omega (arith, length-drop kept fields)))
    ∙ (ap (λ (xs : List Field). xs ++ fields_given (drop kept fields))
    (copied ∙ ap (λ (n : ℕ). fields_given (take n fields)) same)
    ∙ (sym (map-append field_given (take kept fields) (drop kept fields))
    ∙ ap fields_given (take-append-drop kept fields))))
