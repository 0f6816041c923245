-- Answers to requests whose path has no file, and to those whose path has one.
use Rattle.std.proofs.Common.{◌≡◌, ◌∙◌, ℕ, List, Option, Some, Result, Ok, Err, ap, sym, subst}
use Rattle.std.proofs.Common.{inl, inr, refl, length, take, drop, le_refl}
use Rattle.std.proofs.lemmas.List.{take_all}
use Rattle.h2_message.specs.declared.message.Message.{Message}
use Rattle.h2_message.specs.Messages.{SentMessage}
use Rattle.h2_message.specs.Values.{message_value}
use Rattle.hpack.specs.declared.types.field.Field.{Field}
use Rattle.h2_files.specs.Conditions.{Asked, file_answer}
use Rattle.h2_files.specs.Dates.{IsLastModified}
use Rattle.h2_files.specs.Faults.{status_of_fault}
use Rattle.h2_files.specs.Paths.{IsFaultOrMemory}
use Rattle.h2_files.specs.declared.fault.PathFault.{PathFault}
use Rattle.h2_files.specs.declared.fault.PathFault.TheVariants as faults
use Rattle.h2_files.specs.declared.conditions.Answer.TheVariants as answers
use Rattle.h2_files.specs.declared.methods.Method.{Method}
use Rattle.h2_files.specs.declared.methods.Method.TheVariants.{Get}
use Rattle.h2_files.specs.Tags.{Validators, validators}
use Rattle.h2_folder.specs.Answering.{AnswersFile, AnswersMethod, AnswersSomeFile, IsShortAnswer}
use Rattle.h2_folder.specs.Answering.{has_content, is_weak_at, kind_of_names, with_body}
use Rattle.h2_folder.specs.Heads.{file_head}
use Rattle.h2_folder.specs.Lines.{no_asked}
use Rattle.h2_folder.specs.Recents.{IsPlainAnswer}
use Rattle.h2_folder.specs.Refusals.{status_of_missing}
use Rattle.h2_folder.specs.Times.{IsDateOf, stated_second}
use Rattle.h2_folder.specs.declared.answer.Answered.{Answered}
use Rattle.h2_folder.specs.declared.answer.Answered.TheVariants.{Whole}
use Rattle.h2_folder.specs.declared.find.Missing.{Missing}
use Rattle.h2_folder.specs.declared.find.Missing.TheVariants.{Busy}

-- what is answered where memory was missing
without_memory : {F : Type 0} (m : Method) (read : Result (List (List ℕ)) PathFault) (asked : Asked)
    (answered : Answered F) → IsShortAnswer 503 (has_content m) answered
    → AnswersMethod (Some m) read asked answered
without_memory m (Ok names) asked answered short = inl (Busy, short)
without_memory m (Err fault) asked answered short = inr short

-- what is answered to a path with this fault
faulty : {F : Type 0} (m : Method) (read : Result (List (List ℕ)) PathFault) (asked : Asked)
    (fault : PathFault) (answered : Answered F) → read ≡ Err fault
    → IsShortAnswer (status_of_fault fault) (has_content m) answered
    → AnswersMethod (Some m) read asked answered
faulty m read asked fault answered is short =
    subst (λ (r : Result (List (List ℕ)) PathFault). AnswersMethod (Some m) r asked answered)
    (sym is) (inl short)

refused_if : {F : Type 0} (m : Method) (read : Result (List (List ℕ)) PathFault) (asked : Asked)
    (fault : PathFault) (answered : Answered F) → IsFaultOrMemory fault read
    → IsShortAnswer (status_of_fault fault) (has_content m) answered
    → AnswersMethod (Some m) read asked answered
refused_if m read asked faults.TooLong answered is short = faulty m read asked _ answered is short
refused_if m read asked faults.NotAbsolute answered is short =
    faulty m read asked _ answered is short
refused_if m read asked faults.BadEscape answered is short = faulty m read asked _ answered is short
refused_if m read asked faults.Control answered is short = faulty m read asked _ answered is short
refused_if m read asked faults.NotText answered is short = faulty m read asked _ answered is short
refused_if m read asked faults.Empty answered is short = faulty m read asked _ answered is short
refused_if m read asked faults.Dot answered is short = faulty m read asked _ answered is short
refused_if m read asked faults.Separator answered is short = faulty m read asked _ answered is short
refused_if m read asked faults.LongName answered is short = faulty m read asked _ answered is short
refused_if m read asked faults.Memory answered is short =
    without_memory m read asked answered short

-- A path that names no file is answered with the status of its fault.
pub refused_path : {F : Type 0} (method : Option Method) (m : Method)
    (read : Result (List (List ℕ)) PathFault) (asked : Asked) (fault : PathFault)
    (answered : Answered F) → method ≡ Some m → IsFaultOrMemory fault read
    → IsShortAnswer (status_of_fault fault) (has_content m) answered
    → AnswersMethod method read asked answered
refused_path method m read asked fault answered is refused short =
    subst (λ (o : Option Method). AnswersMethod o read asked answered) (sym is)
    (refused_if m read asked fault answered refused short)

-- A path that names a file is answered as its names are.
pub named_file : {F : Type 0} (method : Option Method) (m : Method)
    (read : Result (List (List ℕ)) PathFault) (names : List (List ℕ)) (asked : Asked)
    (answered : Answered F) → method ≡ Some m → read ≡ Ok names
    → AnswersMethod (Some m) (Ok names) asked answered → AnswersMethod method read asked answered
named_file method m read names asked answered is named answers =
    subst (λ (o : Option Method). AnswersMethod o read asked answered) (sym is)
    (subst (λ (r : Result (List (List ℕ)) PathFault). AnswersMethod (Some m) r asked answered)
    (sym named) answers)

-- A file is answered so as a version of it is, by its length and its times.
pub some_file : {F : Type 0} (method : Method) (names : List (List ℕ)) (asked : Asked)
    (length modified now : ℕ) (version : Validators) (kind : List ℕ)
    (date stated : Option (List ℕ)) (answered : Answered F)
    → version ≡ validators length modified (is_weak_at modified now)
    → kind ≡ kind_of_names names → IsDateOf now date
    → IsLastModified (stated_second modified now) stated
    → AnswersFile (file_answer version method asked) method version kind date stated answered
    → AnswersSomeFile method names asked answered
some_file method names asked length modified now version kind date stated answered is named dated
    last answers = (
      length,
      modified,
      now,
      date,
      stated,
      (
        dated,
        last,
        subst (λ (v : Validators). AnswersFile (file_answer v method asked) method v
            (kind_of_names names) date stated answered) is
            (subst (λ (k : List ℕ). AnswersFile
            (file_answer version method asked) method version k date
            stated answered) named answers),
      ),
    )

-- the same of a GET
plain_get : (F : Type 0) (names : List (List ℕ)) (asked : Asked) (second modified : ℕ)
    (message : Message) → asked ≡ no_asked → IsPlainAnswer names second modified message
    → AnswersSomeFile {F = F} Get names asked (Whole message)
plain_get F names asked second modified message plain answer =
    let octets = message.body.items in
    let size = length octets in
    let version = validators size modified (is_weak_at modified second) in
    let kind = kind_of_names names in
    let date = answer.head.0 in
    let stated = answer.head.1 in
    let sent : message_value message
    ≡ with_body (file_head answers.Whole version kind date stated) (take size (drop 0 octets)) =
    rw (answer.head.4, answer.alone, take_all size octets (le_refl size)) refl in (
      size,
      modified,
      second,
      date,
      stated,
      (
        answer.head.2,
        answer.head.3,
        subst (λ (a : Asked). AnswersFile {F = F} (file_answer version Get a) Get version kind date
            stated (Whole message)) (sym plain)
            (inr (inr (refl, answer.some, answer.few, (octets, refl, sent)))),
      ),
    )

-- The answer to a GET without conditions is that of a file with these names: its head, and all its
-- octets, at once.
pub plain_file : (F : Type 0) (method : Method) (names : List (List ℕ)) (asked : Asked)
    (second modified : ℕ) (message : Message) → method ≡ Get → asked ≡ no_asked
    → IsPlainAnswer names second modified message
    → AnswersSomeFile {F = F} method names asked (Whole message)
plain_file F method names asked second modified message get plain answer =
    subst (λ (m : Method). AnswersSomeFile {F = F} m names asked (Whole message)) (sym get)
    (plain_get F names asked second modified message plain answer)
