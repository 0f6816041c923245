-- Octets and fields that are lent to C, each as an address and a length.
use Rattle.std.specs.Prelude.{◌≡◌, ℕ, ℤ, List, ◌++◌, length, take, drop, map as each, option_map}
use Rattle.std.specs.Prelude.{Option, None, Some}
use Rattle.std.specs.Borrow.{Bor}
use denote.RawPtr.{Ptr}
use Rattle.hpack.specs.declared.types.field.Field.{Field}
use Rattle.hpack.specs.declared.types.field.FieldRef.{FieldRef}
use Rattle.hpack.specs.FieldLists.{field_lent}
use Rattle.belkjoef.specs.declared.fields.BjLent.{BjLent}
use Rattle.belkjoef.specs.declared.output.BjSpan.{BjSpan}
use Rattle.belkjoef.specs.declared.held.Held.{Held}
use Rattle.belkjoef.specs.Events.{address_of, flag_of}
use Rattle.belkjoef.specs.Helds.{held_end}
use Rattle.belkjoef.specs.Numbers.{ok, no_field}

-- The text is at this address.
pub record LendsText (text : List ℕ) (at : Ptr) : Type 0 where
  pub lent : Bor (List ℕ)
  pub is : lent.now ≡ text
  pub address : at ≡ address_of lent

abbrev pub span_of : Bor (List ℕ) → BjSpan
span_of octets = record { octets = address_of octets; length = length octets.now }

abbrev pub lent_as : FieldRef → BjLent
lent_as field = record {
  name = address_of field.name;
  name_length = length field.name.now;
  value = address_of field.value;
  value_length = length field.value.now;
  sensitive = flag_of field.sensitive;
}

-- 0 where there is such a field
abbrev pub field_number : {A : Type 0} → Option A → ℤ
field_number None = no_field
field_number (Some field) = ok

-- what is lent, or what stood there
abbrev pub lent_or : BjLent → Option FieldRef → BjLent
lent_or before None = before
lent_or before (Some field) = lent_as field

abbrev pub span_or : BjSpan → Option (Bor (List ℕ)) → BjSpan
span_or before None = before
span_or before (Some octets) = span_of octets

-- This field is lent, if there is one.
-- rule: c (own) Fields of the list that was handed out last are lent
pub record LendsField (found : Option Field) (answer : ℤ) (before said : BjLent) : Type 0 where
  pub lent : Option FieldRef
  pub is : option_map field_lent lent ≡ found
  pub told : answer ≡ field_number lent
  pub value : said ≡ lent_or before lent

-- This value is lent, if there is one.
-- rule: c (own) Fields of the list that was handed out last are lent
pub record LendsValue (found : Option (List ℕ)) (answer : ℤ) (before said : BjSpan) : Type 0 where
  pub lent : Option (Bor (List ℕ))
  pub is : option_map (λ octets. octets.now) lent ≡ found
  pub told : answer ≡ field_number lent
  pub value : said ≡ span_or before lent

-- The first fields of a list are lent, as many as there is room for: so many.
pub record AreLent (list : List Field) (before after : List BjLent) (count : ℕ) : Type 0 where
  pub lent : List FieldRef
  pub are : each field_lent lent ≡ take (length before) list
  pub said : after ≡ each lent_as lent ++ drop count before
  pub number : count ≡ length lent

-- So it is, and that is answered.
-- rule: c (own) Fields of the list that was handed out last are lent
pub record LendsFields (list : List Field) (answer : ℤ) (before after : List BjLent) (count : ℕ)
    : Type 0 where
  pub told : answer ≡ ok
  pub are : AreLent list before after count

-- the list that was handed out last
abbrev pub list_in : Held → List Field
list_in held = (held_end held).conn.end.list

-- This is so of the list that was handed out last, and nothing has changed.
pub record OfList (Is : List Field → Type 0) (old new : Held) : Type 0 where
  pub is : Is (list_in old)
  pub same : new ≡ old
