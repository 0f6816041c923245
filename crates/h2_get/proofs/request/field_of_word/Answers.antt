-- The field of what precedes the first colon, and what follows it.
use Rattle.std.proofs.Common.{◌≡◌, ◌∙◌, ℕ, ◌+◌, Bool, true, false, List, length, take, drop, map}
use Rattle.std.proofs.Common.{Option, Some, None, ap, sym, position, nat_lt, if◌then◌else◌}
use Rattle.std.proofs.Common.{is_some, refl}
use Rattle.std.specs.List.{position_or_len}
use Rattle.std.specs.Char.{to_ascii_lowercase}
use Rattle.h2_message.specs.Messages.{plain_field}
use Rattle.h2_get.specs.Requests.{field_of_word, is_colon, without_outer_blanks}
use Rattle.std.proofs.lemmas.List.{take_rest}
use Rattle.h2_get.proofs.request.field_of_word.Goals as goal

-- The place at which an octet is found is where the first one is.
first_place : (found : Bool) (first place : ℕ)
    → (if found then Some first else None) ≡ Some place → first ≡ place
first_place true first place same = cc
first_place false first place same = absurd (cc)

colon_at : (word : List ℕ) (place : ℕ) → position is_colon word ≡ Some place
    → position_or_len is_colon word ≡ place
colon_at word place same =
    first_place (nat_lt (position_or_len is_colon word) (length word)) _ _ same

-- So the field is that of the octets at both sides of the place.
field_at : (word name value : List ℕ) (place : ℕ) → position is_colon word ≡ Some place
    → name ≡ map to_ascii_lowercase (take place word)
    → value ≡ without_outer_blanks (drop (place + 1) word)
    → plain_field name value ≡ field_of_word word
field_at word name value place same lower following =
    let is = colon_at word place same in
    rw is (rw (lower, following) refl)

pub returns-in_default-clause-err : goal.returns-in_default-clause-err
returns-in_default-clause-err c = sym (ap (λ (o : Option ℕ). is_some o) c.in_default.ensures)

pub returns-clause-named : goal.returns-clause-named
returns-clause-named c = sym (ap (λ (o : Option ℕ). is_some o) c.in-Some.ensures)

pub returns-clause-field : goal.returns-clause-field
returns-clause-field c =
    c.in_ok-field.ensures
    ∙ field_at c.args.word.now c.deref.result.now c.without_outer_blanks-value.result.now c.in-Some.place
    (sym c.in-Some.ensures) (c.deref.ensures.value ∙ c.in_ok-name.ensures.ok)
    (c.without_outer_blanks-value.ensures
    ∙ ap without_outer_blanks (take_rest c.args.word.now (c.in-Some.place + 1)))
