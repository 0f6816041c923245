-- The heads of a folder's answers, and those that are a short text.
use Rattle.std.specs.Prelude.{◌+◌, ◌-◌, ◌^◌, ℕ, Bool, true, List, [], ◌∷◌, ◌++◌, length, codes, min}
use Rattle.std.specs.Prelude.{decimal, Option, Some, None, if◌then◌else◌, nat_lt, ◌&&◌, unwrap_or}
use Rattle.http.specs.StatusCode.{reason_phrase}
use Rattle.hpack.specs.declared.types.field.Field.{Field}
use Rattle.h2_message.specs.Messages.{SentMessage, plain_field, response_head}
use Rattle.h2_files.specs.Conditions.{status_of_answer}
use Rattle.h2_files.specs.Ranges.{content_range, unsatisfied_range}
use Rattle.h2_files.specs.Tags.{Validators, entity_tag}
use Rattle.h2_files.specs.declared.conditions.Answer.{Answer}
use Rattle.h2_files.specs.declared.conditions.Answer.TheVariants.{Whole, Part}

-- a head with one more field, and with one more where its value is known
abbrev pub head_and_field : (name value : List ℕ) → List Field → List Field
head_and_field name value head = head ++ plain_field name value ∷ []

abbrev pub head_and_field_if : (name : List ℕ) → Option (List ℕ) → List Field → List Field
head_and_field_if name None head = head
head_and_field_if name (Some value) head = head_and_field name value head

-- what each head begins with: the status, and the date where it is known (RFC 9110, section 6.6.1)
abbrev pub head_with : (status : ℕ) → (date : Option (List ℕ)) → List Field
head_with status date = head_and_field_if (codes "date") date (response_head (decimal status))

-- a head with the length and the type of a content (sections 8.6 and 8.3)
abbrev pub with_content : (kind : List ℕ) → (octets : ℕ) → List Field → List Field
with_content kind octets head = head_and_field (codes "content-type") kind
    (head_and_field (codes "content-length") (decimal octets) head)

-- a head with what a version is known by (section 8.8), and that ranges are served (section 14.3)
abbrev pub with_version : Validators → (modified : Option (List ℕ)) → List Field → List Field
with_version version modified head = head_and_field (codes "accept-ranges") (codes "bytes")
    (head_and_field_if (codes "last-modified") modified
    (head_and_field (codes "etag") (entity_tag version) head))

-- how many octets a part has; no file has more than 2^64 - 1
abbrev pub octets_of_part : (first last : ℕ) → ℕ
octets_of_part first last = min (2 ^ 64 - 1) (last - first + 1)

-- A head with what it says of its content: the length of the whole file, or of the part, and which
-- part that is (section 14.4). One that was not modified has no content.
-- rule: HTTP 14.4 An answer with a part of a file says which part it is
abbrev pub with_part : Answer → Validators → (kind : List ℕ) → List Field → List Field
with_part Whole version kind head = with_content kind version.length head
with_part (Part first last) version kind head = with_content kind (octets_of_part first last)
    (head_and_field (codes "content-range") (content_range first last version.length) head)
with_part answer version kind head = head

-- the head of an answer about a file
-- rule: HTTP 14.4 An answer with a part of a file says which part it is
abbrev pub file_head : Answer → Validators → (kind : List ℕ) → (date modified : Option (List ℕ))
    → List Field
file_head answer version kind date modified = with_version version modified
    (with_part answer version kind (head_with (status_of_answer answer) date))

-- the phrase of a status (section 15), if it has one; and that or nothing
abbrev pub reason_if : (status : ℕ) → Option (List ℕ)
reason_if status =
    if nat_lt 99 status && nat_lt status 1000 then reason_phrase status else None

abbrev pub phrase_or_nothing : (status : ℕ) → List ℕ
phrase_or_nothing status = unwrap_or (reason_if status) []

-- the short text of a status: its digits and its phrase, on a line
abbrev pub short_text : (status : ℕ) → List ℕ
short_text status =
    decimal status ++ codes " " ++ phrase_or_nothing status ++ codes "\n"

-- a message whose content is the short text of its status, which an answer to HEAD leaves out
abbrev pub text_message : (status : ℕ) → (head : List Field) → (has_body : Bool) → SentMessage
text_message status head has_body = record {
  head = with_content (codes "text/plain; charset=utf-8") (length (short_text status)) head;
  body = if has_body then short_text status else [];
  trailers = None;
}

-- an answer with a short text
abbrev pub short_message : (status : ℕ) → (date : Option (List ℕ)) → (has_body : Bool)
    → SentMessage
short_message status date has_body = text_message status (head_with status date) has_body

-- an answer with 405, which says which methods are served (section 15.5.6)
abbrev pub method_message : (date : Option (List ℕ)) → SentMessage
method_message date =
    text_message 405 (head_and_field (codes "allow") (codes "GET, HEAD") (head_with 405 date)) true

-- an answer with 416, which says how long the file is (section 15.5.17)
abbrev pub unsatisfied_message : (octets : ℕ) → (date : Option (List ℕ)) → SentMessage
unsatisfied_message octets date = text_message 416
    (head_and_field (codes "content-range") (unsatisfied_range octets) (head_with 416 date)) true
