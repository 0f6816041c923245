-- Which answer a request for a file has, by its conditions and its range (RFC 9110, section
-- 13.2.2).
use Rattle.std.specs.Prelude.{◌==◌, ◌&&◌, ◌||◌, ℕ, nat_le, Bool, true, false, not, if◌then◌else◌}
use Rattle.std.specs.Prelude.{List}
use Rattle.std.specs.Prelude.{Option, Some, None, option_copied}
use Rattle.httpdate.specs.Date.{parse_secs}
use Rattle.h2_files.specs.Ranges.{range_of}
use Rattle.h2_files.specs.Tags.{Validators, is_listed, is_strongly, is_weakly}
use Rattle.h2_files.specs.declared.conditions.Answer.{Answer}
use Rattle.h2_files.specs.declared.conditions.Answer.TheVariants as answers
use Rattle.h2_files.specs.declared.conditions.Conditions.{Conditions}
use Rattle.h2_files.specs.declared.methods.Method.{Method}
use Rattle.h2_files.specs.declared.methods.Method.TheVariants.{Get, Head}
use Rattle.h2_files.specs.declared.range.Ranged.{Ranged}
use Rattle.h2_files.specs.declared.range.Ranged.TheVariants as ranges

-- `if-match` holds (13.1.1): one of its tags is that of the version, by the strong comparison
abbrev pub holds_match : Validators → (value : List ℕ) → Bool
holds_match version value = is_listed (is_strongly version) value

-- `if-none-match` holds (13.1.2): none of its tags is that of the version, by the weak comparison
abbrev pub holds_none_match : Validators → (value : List ℕ) → Bool
holds_none_match version value = not (is_listed (is_weakly version) value)

-- the version was modified after a second
abbrev pub is_after : Validators → Option ℕ → Bool
is_after version None = true
is_after version (Some seconds) = not (nat_le version.modified seconds)

-- `if-modified-since` holds (13.1.3): the version was modified after that date, or it is no date
abbrev pub holds_modified_since : Validators → (value : List ℕ) → Bool
holds_modified_since version value = is_after version (parse_secs value)

-- the version was not modified after a second
abbrev pub is_not_after : Validators → Option ℕ → Bool
is_not_after version None = true
is_not_after version (Some seconds) = nat_le version.modified seconds

-- `if-unmodified-since` holds (13.1.4): the version wasn't modified after that date, or it is none
abbrev pub holds_unmodified_since : Validators → (value : List ℕ) → Bool
holds_unmodified_since version value = is_not_after version (parse_secs value)

-- the version was modified in this very second
abbrev pub is_at : Validators → Option ℕ → Bool
is_at version None = false
is_at version (Some seconds) = version.modified == seconds

-- `if-range` holds (13.1.5): its tag is that of the version by the strong comparison, or its date
-- is exactly that of the version, and that is a strong validator
abbrev pub holds_range : Validators → (value : List ℕ) → Bool
holds_range version value =
    is_strongly version value || (not version.weak && is_at version (parse_secs value))

-- a condition holds, or there is none
abbrev pub holds_if_any : (List ℕ → Bool) → Option (List ℕ) → Bool
holds_if_any holds None = true
holds_if_any holds (Some value) = holds value

-- Steps 1 and 2: `if-match`, and without it `if-unmodified-since`.
abbrev pub passes_first : Validators → (matches since : Option (List ℕ)) → Bool
passes_first version None since = holds_if_any (holds_unmodified_since version) since
passes_first version (Some value) since = holds_match version value

-- Steps 3 and 4: `if-none-match`, and without it `if-modified-since`.
abbrev pub passes_second : Validators → (matches since : Option (List ℕ)) → Bool
passes_second version None since = holds_if_any (holds_modified_since version) since
passes_second version (Some value) since = holds_none_match version value

-- the answer with the octets that a range asks for
abbrev pub answer_of_range : Ranged → Answer
answer_of_range ranges.Ignored = answers.Whole
answer_of_range (ranges.Part first last) = answers.Part first last
answer_of_range ranges.Unsatisfiable = answers.Unsatisfiable

-- Steps 5 and 6: a range of GET (14.2) where `if-range` holds or isn't there, else the whole file.
abbrev pub range_answer : Validators → Method → (range only : Option (List ℕ)) → Answer
range_answer version Head range only = answers.Whole
range_answer version Get None only = answers.Whole
range_answer version Get (Some value) only =
    if holds_if_any (holds_range version) only
    then answer_of_range (range_of value version.length)
    else answers.Whole

-- the values of the fields that decide, if they are there
pub record Asked : Type 0 where
  pub if_match : Option (List ℕ)
  pub if_unmodified_since : Option (List ℕ)
  pub if_none_match : Option (List ℕ)
  pub if_modified_since : Option (List ℕ)
  pub range : Option (List ℕ)
  pub if_range : Option (List ℕ)

-- those of a request
abbrev pub asked_of : Conditions → Asked
asked_of conditions = record {
  if_match = option_copied conditions.if_match;
  if_unmodified_since = option_copied conditions.if_unmodified_since;
  if_none_match = option_copied conditions.if_none_match;
  if_modified_since = option_copied conditions.if_modified_since;
  range = option_copied conditions.range;
  if_range = option_copied conditions.if_range;
}

-- Which answer a request has, in the order of section 13.2.2.
-- rule: HTTP 13.2.2 Conditions are evaluated in one order, before a range
abbrev pub file_answer : Validators → Method → Asked → Answer
file_answer version method asked =
    if not (passes_first version asked.if_match asked.if_unmodified_since)
    then answers.PreconditionFailed
    else if not (passes_second version asked.if_none_match asked.if_modified_since)
    then answers.NotModified
    else range_answer version method asked.range asked.if_range

-- the status of an answer (15.3.1, 15.3.7, 15.4.5, 15.5.13 and 15.5.17)
abbrev pub status_of_answer : Answer → ℕ
status_of_answer answers.Whole = 200
status_of_answer (answers.Part first last) = 206
status_of_answer answers.NotModified = 304
status_of_answer answers.PreconditionFailed = 412
status_of_answer answers.Unsatisfiable = 416
