-- What the handler of a folder answers.
use Rattle.std.specs.Prelude.{◌≡◌, ◌≢◌, ℕ, List, Option, Some, None, Result, Ok, Err}
use Rattle.hpack.specs.declared.types.field.Field.{Field}
use Rattle.h2_folder.specs.Answering.{AnswersRequest}
use Rattle.h2_folder.specs.Parting.{GivesPart}
use Rattle.h2_folder.specs.declared.answer.Answered.TheVariants as answered
use Rattle.h2_folder.specs.declared.sending.Sending.{Sending}
use Rattle.h2_server.specs.declared.handler.HandlerFault.{HandlerFault}
use Rattle.h2_server.specs.declared.handler.HandlerFault.TheVariants.{Memory, Failed}
use Rattle.h2_server.specs.declared.handler.Part.{Part}
use Rattle.h2_server.specs.declared.handler.Part.TheVariants.{Octets, Last}
use Rattle.h2_server.specs.declared.handler.Reply.{Reply}
use Rattle.h2_server.specs.declared.handler.Reply.TheVariants.{Refuse, Parts}

-- The answer is the folder's: a whole message, or a head and a file under way.
-- rule: hosts (own) A site answers as its folder does
abbrev pub AnswersSite : {F : Type 0} → List Field
    → Result (Option (Sending F) × Reply) HandlerFault → Type 0
AnswersSite {F} list (Ok (None, Refuse message)) =
    AnswersRequest {F = F} list (answered.Whole message)
AnswersSite list (Ok (Some sending, Parts head)) =
    AnswersRequest list (answered.Parts head sending)
AnswersSite list (Ok other) = ⊥
AnswersSite list (Err fault) = fault ≡ Memory

-- So many octets of the file were given, and they are the last exactly where none are left.
-- rule: hosts (own) A file is sent in parts, as many octets as its head says
abbrev pub GivesFilePart : {F : Type 0} → (remaining : F → Option (List ℕ)) → (old : Sending F)
    → Part → (room : List ℕ) → (new : Sending F) → Type 0
GivesFilePart remaining old (Octets count) room new =
    GivesPart (remaining old.file) (remaining new.file) old.left new.left room count
    × (new.left ≢ 0)
GivesFilePart remaining old (Last count) room new =
    GivesPart (remaining old.file) (remaining new.file) old.left new.left room count
    × (new.left ≡ 0)
GivesFilePart remaining old part room new = ⊥

-- A part of a file was given; or it can't be read, or is shorter than it was.
-- rule: hosts (own) A file is sent in parts, as many octets as its head says
abbrev pub GivesSending : {F : Type 0} → (remaining : F → Option (List ℕ)) → (old : Sending F)
    → Result Part HandlerFault → (room : List ℕ) → (new : Sending F) → Type 0
GivesSending remaining old (Ok part) room new = GivesFilePart remaining old part room new
GivesSending remaining old (Err fault) room new = fault ≡ Failed

-- The same of a site, which has a file under way only where it answered with one.
abbrev pub GivesSite : {F : Type 0} → (remaining : F → Option (List ℕ)) → Option (Sending F)
    → Result Part HandlerFault → (room : List ℕ) → Option (Sending F) → Type 0
GivesSite remaining (Some old) part room (Some new) = GivesSending remaining old part room new
GivesSite remaining None part room None = part ≡ Err Failed
GivesSite remaining old part room new = ⊥
