-- How a folder answers the head of a request.
use Rattle.std.specs.Prelude.{◌≡◌, ◌≢◌, ◌≤◌, ◌⊎◌, ◌+◌, ◌-◌, ℕ, Bool, true, false, List, []}
use Rattle.std.specs.Prelude.{length, take, drop, codes, nat_lt, Option, Some, None, unwrap_or}
use Rattle.std.specs.Prelude.{Result, Ok, Err, get_or}
use Rattle.hpack.specs.FieldLists.{value_of}
use Rattle.hpack.specs.declared.types.field.Field.{Field}
use Rattle.h2_message.specs.Messages.{SentMessage}
use Rattle.h2_message.specs.declared.message.Message.{Message}
use Rattle.h2_message.specs.Values.{message_value}
use Rattle.h2_files.specs.Conditions.{Asked, file_answer}
use Rattle.h2_files.specs.Dates.{IsLastModified}
use Rattle.h2_files.specs.Faults.{status_of_fault}
use Rattle.h2_files.specs.MediaTypes.{media_type}
use Rattle.h2_files.specs.Methods.{file_method}
use Rattle.h2_files.specs.Paths.{names_of}
use Rattle.h2_files.specs.Tags.{Validators, validators}
use Rattle.h2_files.specs.declared.conditions.Answer.{Answer}
use Rattle.h2_files.specs.declared.conditions.Answer.TheVariants as answers
use Rattle.h2_files.specs.declared.fault.PathFault.{PathFault}
use Rattle.h2_files.specs.declared.methods.Method.{Method}
use Rattle.h2_files.specs.declared.methods.Method.TheVariants.{Get, Head}
use Rattle.h2_folder.specs.Heads.{file_head, method_message, octets_of_part, short_message}
use Rattle.h2_folder.specs.Heads.{unsatisfied_message}
use Rattle.h2_folder.specs.Lines.{asked_in}
use Rattle.h2_folder.specs.Refusals.{status_of_missing}
use Rattle.h2_folder.specs.Times.{IsDateOf, stated_second}
use Rattle.h2_folder.specs.declared.answer.Answered.{Answered}
use Rattle.h2_folder.specs.declared.answer.Answered.TheVariants.{Whole, Parts}
use Rattle.h2_folder.specs.declared.find.Missing.{Missing}

-- whether a file may change once more in the second in which it was modified (RFC 9110, section
-- 8.8.2.2): that second was not over a full second ago
abbrev pub is_weak_at : (modified now : ℕ) → Bool
is_weak_at modified now = nat_lt now (modified + 2)

-- an answer to GET has a content
abbrev pub has_content : Method → Bool
has_content Get = true
has_content Head = false

-- how many octets of a file an answer has
abbrev pub octets_of_file : Answer → (length : ℕ) → ℕ
octets_of_file answers.Whole length = length
octets_of_file (answers.Part first last) length = octets_of_part first last
octets_of_file answer length = 0

-- the number of the first octet that an answer has, counted from 0
abbrev pub first_octet_of : Answer → ℕ
first_octet_of (answers.Part first last) = first
first_octet_of answer = 0

-- The answer is this whole message.
abbrev pub IsMessage : {F : Type 0} → Answered F → SentMessage → Type 0
IsMessage (Whole message) wanted = message_value message ≡ wanted
IsMessage (Parts head sending) wanted = ⊥

-- a message with this head alone
abbrev pub head_alone : List Field → SentMessage
head_alone head = record { head = head; body = []; trailers = None }

-- an answer to this method, about so many octets, has none of them: HEAD, or a file without octets
abbrev pub HasNoOctets : Method → (octets : ℕ) → Type 0
HasNoOctets method octets = (method ≡ Head) ⊎ (octets ≡ 0)

-- the most octets of a file that is read, and answered, at once
abbrev pub most_at_once : ℕ
most_at_once = 16384

-- a message with this head, and this body
abbrev pub with_body : List Field → List ℕ → SentMessage
with_body head octets = record { head = head; body = octets; trailers = None }

-- The answer to GET is whole: the head, and so many octets, from the one with this number on, of a
-- small file with so many in all.
abbrev pub SendsAtOnce : Method → (head : List Field) → (size first octets : ℕ) → Message → Type 0
SendsAtOnce method head size first octets message =
    (method ≡ Get) × (octets ≢ 0) × (size ≤ most_at_once)
    × ((content : List ℕ) × (length content ≡ size)
    × (message_value message ≡ with_body head (take octets (drop first content))))

-- The answer has this head, and so many octets of the file after it, which has so many in all, from
-- the one with this number on, which is counted from 0: at once or in parts where an answer to GET
-- has some, and else none. Or the file can't be read from there, where that is not its first octet:
-- 500.
-- rule: files (own) A file's octets are sent from the one that the answer's head states
abbrev pub SendsFile : {F : Type 0} → Method → (head : List Field) → (size first octets : ℕ)
    → (date : Option (List ℕ)) → Answered F → Type 0
SendsFile method head size first octets date (Parts fields sending) =
    (method ≡ Get) × (fields.items ≡ head) × (sending.first ≡ first) × (sending.left ≡ octets)
    × (octets ≢ 0)
SendsFile method head size first octets date (Whole message) =
    (HasNoOctets method octets × (message_value message ≡ head_alone head))
    ⊎ ((first ≢ 0) × (message_value message ≡ short_message 500 date true))
    ⊎ SendsAtOnce method head size first octets message

-- How a request is answered whose file is there, of this version, with these dates.
-- rule: HTTP 9.3.2 (own) A folder answers HEAD as GET, without the octets
abbrev pub AnswersFile : {F : Type 0} → Answer → Method → Validators → (kind : List ℕ)
    → (date modified : Option (List ℕ)) → Answered F → Type 0
AnswersFile answers.PreconditionFailed method version kind date modified answered =
    IsMessage answered (short_message 412 date (has_content method))
AnswersFile answers.Unsatisfiable method version kind date modified answered =
    IsMessage answered (unsatisfied_message version.length date)
AnswersFile answer method version kind date modified answered =
    SendsFile method (file_head answer version kind date modified) version.length
    (first_octet_of answer) (octets_of_file answer version.length) date answered

-- the type of the file with the last of these names
abbrev pub kind_of_names : List (List ℕ) → List ℕ
kind_of_names names = media_type (get_or names (length names - 1) [])

-- The answer is the short text of a status, at some time.
abbrev pub IsShortAnswer : {F : Type 0} → (status : ℕ) → (has_body : Bool) → Answered F → Type 0
IsShortAnswer status has_body answered =
    (date : Option (List ℕ)) × IsMessage answered (short_message status date has_body)

-- How a request is answered, at a second, whose file is there, so long and modified in that second:
-- by its conditions, with the dates of both seconds.
abbrev pub AnswersFound : {F : Type 0} → Method → (names : List (List ℕ)) → Asked
    → (length modified now : ℕ) → (date stated : Option (List ℕ)) → Answered F → Type 0
AnswersFound method names asked length modified now date stated answered =
    let version = validators length modified (is_weak_at modified now) in
    IsDateOf now date × IsLastModified (stated_second modified now) stated
    × AnswersFile (file_answer version method asked) method version (kind_of_names names) date
    stated answered

-- How a request is answered whose file is there, of whatever length and time, at whatever time.
abbrev pub AnswersSomeFile : {F : Type 0} → Method → (names : List (List ℕ)) → Asked → Answered F
    → Type 0
AnswersSomeFile method names asked answered =
    (length : ℕ) × (modified : ℕ) × (now : ℕ) × (date : Option (List ℕ))
    × (stated : Option (List ℕ))
    × AnswersFound method names asked length modified now date stated answered

-- How a request is answered, by its method, what its path gives, and its conditions: another method
-- than GET and HEAD has 405, and a path that names no file below the folder the status of its
-- fault. A file that is there, of whatever length and time, is answered as above; else the file
-- system says why it isn't sent. Without memory the status is 503.
-- rule: files (own) What is not there has 404, and what may not be read has 403
abbrev pub AnswersMethod : {F : Type 0} → Option Method → Result (List (List ℕ)) PathFault → Asked
    → Answered F → Type 0
AnswersMethod None names asked answered =
    (date : Option (List ℕ)) × IsMessage answered (method_message date)
AnswersMethod (Some method) (Err fault) asked answered =
    IsShortAnswer (status_of_fault fault) (has_content method) answered
    ⊎ IsShortAnswer 503 (has_content method) answered
AnswersMethod (Some method) (Ok names) asked answered =
    ((missing : Missing) × IsShortAnswer (status_of_missing missing) (has_content method) answered)
    ⊎ AnswersSomeFile method names asked answered

-- the value of a field that each request has
abbrev pub value_in : (name : List ℕ) → List Field → List ℕ
value_in name list = unwrap_or (value_of name list) []

-- How a folder answers a request with this head.
abbrev pub AnswersRequest : {F : Type 0} → List Field → Answered F → Type 0
AnswersRequest list answered =
    AnswersMethod (file_method (value_in (codes ":method") list))
    (names_of (value_in (codes ":path") list)) (asked_in list) answered
