-- The lines of a name, one after another, and fields that are no conditions.
use Rattle.std.proofs.Common.{◌≡◌, ◌∙◌, ℕ, Bool, false, List, [], ◌∷◌, Option, None, Some, ap, sym}
use Rattle.std.proofs.Common.{codes, refl}
use Rattle.std.proofs.lemmas.Bool.{or_parts}
use Rattle.std.specs.Prelude.{if◌then◌else◌}
use Rattle.std.specs.Str.{bytes_eq}
use Rattle.hpack.specs.FieldLists.{is_named}
use Rattle.hpack.specs.declared.types.field.Field.{Field}
use Rattle.h2_folder.specs.Lines.{asked_in, is_condition, joined_on, no_asked, with_line}

-- A value joined with the lines of a name among fields, the first of which is this one: with that
-- one first, if it has the name, and then with those among the others.
pub joined_first : (value : Option (List ℕ)) (name : List ℕ) (fields : List Field) (field : Field)
    (others : List Field) {named : Bool} → fields ≡ field ∷ others
    → bytes_eq field.name name ≡ named
    → joined_on value name fields ≡ (if named then joined_on (Some (with_line value field.value))
    name others else joined_on value name others)
unfolding joined_on is_named
joined_first value name fields field others {named} first same =
    ap (joined_on value name) first
    ∙ ap (λ (b : Bool). if b then joined_on (Some (with_line value field.value)) name others
    else joined_on value name others) same

-- Where no fields are left, the value so far is the joined one.
pub joined_end : (value : Option (List ℕ)) (name : List ℕ) (fields : List Field) → fields ≡ []
    → value ≡ joined_on value name fields
unfolding joined_on
joined_end value name fields none = sym (ap (joined_on value name) none)

-- Where the first of fields is no condition, the conditions are those of the others.
pub plain_first : (fields : List Field) (field : Field) (others : List Field)
    → fields ≡ field ∷ others → is_condition field.name ≡ false
    → asked_in fields ≡ asked_in others
plain_first fields field others first plain =
    let five = or_parts _ _ plain in
    let four = or_parts _ _ five.0 in
    let three = or_parts _ _ four.0 in
    let two = or_parts _ _ three.0 in
    let one = or_parts _ _ two.0 in
    rw (
      joined_first None (codes "if-match") fields field others first one.0,
      joined_first None (codes "if-unmodified-since") fields field others first one.1,
      joined_first None (codes "if-none-match") fields field others first two.1,
      joined_first None (codes "if-modified-since") fields field others first three.1,
      joined_first None (codes "range") fields field others first four.1,
      joined_first None (codes "if-range") fields field others first five.1,
    ) refl

-- Among no fields there are no conditions.
pub plain_end : (fields : List Field) → fields ≡ [] → asked_in fields ≡ no_asked
unfolding joined_on
plain_end fields none = ap asked_in none
