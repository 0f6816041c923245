-- What the steps of a server over a link do: the calls of its end, and what goes over the link.
use Rattle.std.specs.Prelude.{◌≡◌, ◌≢◌, ◌+◌, ◌-◌, ◌^◌, ◌≤◌, ℕ, List}
use Rattle.std.specs.Prelude.{length, Option, None}
use Rattle.std.specs.Prelude.{Result, Ok, Err}
use Rattle.std.specs.List.{Contains}
use Rattle.h2_frame.specs.declared.code.Code.{Code}
use Rattle.h2_frame.specs.declared.code.Code.TheVariants.{InternalError}
use Rattle.h2_frame.specs.Codes.{code_number}
use Rattle.h2_spec_log.specs.Acts.{Values, Act, Answer, ResetStream, Done, Refused}
use Rattle.h2_spec_log.specs.Log.{Log}
use Rattle.h2_spec_log.specs.LogCalls.{MayAnswer, with_call}
use Rattle.h2_spec_log.specs.declared.refusal.Refusal.{Refusal}
use Rattle.h2_spec_log.specs.declared.refusal.Refusal.TheVariants.{Memory}
use Rattle.h2_spec_log.specs.declared.refusal.Refusal.TheVariants.{TooManyResets}
use Rattle.h2_message.specs.Messages.{SentMessage}
use Rattle.h2_laws_pair.specs.Pairs.{given_out}
use Rattle.h2_ends.specs.declared.end.End.{End}
use Rattle.h2_ends.specs.declared.refusal.EndRefusal.{EndRefusal}
use Rattle.h2_ends.specs.declared.refusal.EndRefusal.TheVariants.{Conn}
use Rattle.h2_ends.specs.Ends.{EndLog, Handed, EndAnswer, EndTook, EndFailed}
use Rattle.h2_ends.specs.EndTakes.{EndMayTake, end_with_log}
use Rattle.h2_ends.specs.EndCalls.{MayRespond}
use Rattle.h2_ends.specs.Represents.{EndRepresents, EndPumps}
use Rattle.h2_link.specs.declared.error.LinkError.{LinkError}
use Rattle.h2_link.specs.declared.error.LinkError.TheVariants as errors
use Rattle.h2_engines.specs.declared.request.Next.TheVariants as nexts
use Rattle.h2_engines.specs.declared.request.Requests.{Requests}
use Rattle.h2_engines.specs.declared.machine.Heard.{Heard}
use Rattle.h2_engines.specs.Linked.{Traffic, HasTakenAll, HasTakenFirst}
use Rattle.h2_engines.specs.Failures.{error_after}
use Rattle.h2_engines.specs.PartialMessages.{NotesTaken}
use Rattle.h2_engines.specs.ServerHistories.{calm}
use Rattle.h2_engines.specs.Serves.{HasReturnedAll, IsAtRest, IsCutOff}

-- how a connection ends that has failed with this code
-- rule: engines (own) N2 has the code with which the connection failed; memory is N3
abbrev pub error_with : Code → LinkError
error_with InternalError = errors.Memory
error_with code = errors.Stream (code_number code)

-- Since then no message was accepted and nothing handed out; what was called stays called, and the
-- connection is up just where it was.
pub record IsSameOfMessages (before after : EndLog) : Type 0 where
  pub accepted : after.accepted ≡ before.accepted
  pub handed : after.handed ≡ before.handed
  pub calls : (act : Act) (answer : Answer) → Contains before.log.calls (act, answer)
      → Contains after.log.calls (act, answer)
  pub failed : after.log.failed ≡ before.log.failed
  pub used : after.log.input ≡ before.log.input

-- Nothing waits: the link took all of the output; and no credit of the connection does, while it is
-- up.
pub record IsWrittenOut (start now : Traffic) (log : Log) : Type 0 where
  pub all : given_out log ≡ log.written
  pub taken : HasTakenAll start now log
  pub returned : log.failed ≡ None → HasReturnedAll log

-- what the link took, by how it was written
abbrev pub TookBy : {A : Type 0} → (start now : Traffic) → Log → Result A LinkError → Type 0
TookBy start now log (Ok value) = IsWrittenOut start now log
TookBy start now log (Err error) = HasTakenFirst start now log

-- why a call of `take` ends the connection: it has failed; or there was no memory to keep what was
-- handed out
unfoldable pub ErrsServing : EndAnswer → LinkError → Type 0
ErrsServing (EndFailed code) error = error ≡ error_with code
ErrsServing (EndTook count handed) error = error ≡ errors.Memory

-- what a call of `take` has made of a piece
unfoldable pub HeardSo : EndLog → (piece : List ℕ) → EndLog → (old new : Requests)
    → Result Heard LinkError → Type 0
HeardSo end piece after old new (Ok heard) =
    (handed : Option Handed) × EndMayTake end piece (EndTook heard.used handed) after
    × NotesTaken old new handed heard.next
    × (heard.next ≡ nexts.Done → heard.used ≡ length piece)
HeardSo end piece after old new (Err error) =
    (answer : EndAnswer) × EndMayTake end piece answer after × ErrsServing answer error

abbrev pub ServerHears : (old_end new_end : End) → (old new : Requests) → List ℕ
    → Result Heard LinkError → Type 0
ServerHears old_end new_end old new piece result =
    (values : Values) (end : EndLog) → EndRepresents values old_end end
    → (after : EndLog) × EndRepresents values new_end after × HeardSo end piece after old new result

-- why a request was not answered: there was no memory for the answer, so many were answered that
-- one more can't be counted, or the server has refused it
pub data NotAnswered (end : EndLog) (id : ℕ) (message : SentMessage) (after : EndLog) (count : ℕ)
    (error : LinkError) : Type 0 where
  no_memory : error ≡ errors.Memory → after ≡ end → NotAnswered end id message after count error
  counts_no_more : 2 ^ 32 - 1 ≤ count → after ≡ end → NotAnswered end id message after count error
  is_refused : (refusal : EndRefusal) → MayRespond end id message (Err refusal) after
      → error ≡ error_after refusal → NotAnswered end id message after count error

-- what was made of an answer to a request, where so many were answered before
unfoldable pub AnsweredSo : EndLog → ℕ → SentMessage → EndLog → (count : ℕ)
    → Result (Unit {0}) LinkError → Type 0
AnsweredSo end id message after count (Ok done) = MayRespond end id message (Ok done) after
AnsweredSo end id message after count (Err error) = NotAnswered end id message after count error

abbrev pub ServerAnswers : (old new : End) → ℕ → SentMessage → (count : ℕ)
    → Result (Unit {0}) LinkError → Type 0
ServerAnswers old new id message count result =
    (values : Values) (end : EndLog) → EndRepresents values old end
    → (after : EndLog) × EndRepresents values new after
    × AnsweredSo end id message after count result

-- how many were answered, after one more
unfoldable pub counted_answer : ℕ → Result (Unit {0}) LinkError → ℕ
counted_answer count (Ok done) = count + 1
counted_answer count (Err error) = count

-- how a reset ends
unfoldable pub ResetSo : Answer → Result (Unit {0}) LinkError → Type 0
ResetSo answer (Ok done) = answer ≡ Done
ResetSo answer (Err (errors.Stream number)) =
    (number ≡ calm) × (answer ≡ Refused TooManyResets)
ResetSo answer (Err errors.Memory) = answer ≡ Refused Memory
ResetSo answer (Err errors.NoProgress) =
    (refusal : Refusal) × (answer ≡ Refused refusal) × (refusal ≢ TooManyResets)
    × (error_after (Conn refusal) ≡ errors.NoProgress)
ResetSo answer (Err error) = ⊥

abbrev pub ServerResets : (old new : End) → ℕ → Result (Unit {0}) LinkError → Type 0
ServerResets old new id result =
    (values : Values) (end : EndLog) → EndRepresents values old end
    → (answer : Answer) × MayAnswer end.log (ResetStream id calm) answer
    × EndRepresents values new (end_with_log end (with_call end.log (ResetStream id calm) answer))
    × ResetSo answer result

-- A call of an end ends the connection where it was refused, and as the refusal says.
unfoldable pub EndsAfter : {A : Type 0} → Result A EndRefusal → Result (Unit {0}) LinkError → Type 0
EndsAfter (Ok value) (Ok done) = Unit {0}
EndsAfter (Err refusal) (Ok done) = ⊥
EndsAfter (Ok value) (Err error) = ⊥
EndsAfter (Err refusal) (Err error) = error ≡ error_after refusal

-- `pump`
abbrev pub PumpsSome : (old new : End) → Result (Unit {0}) LinkError → Type 0
PumpsSome old new result =
    (answer : Result ℕ EndRefusal) × EndPumps old answer new × EndsAfter answer result

-- what is answered once the input has ended, where so many requests were answered
unfoldable pub FinishedSo : EndLog → ℕ → Result ℕ LinkError → Type 0
FinishedSo end answered (Ok count) = (count ≡ answered) × (end.log.failed ≡ None → IsAtRest end.log)
FinishedSo end answered (Err error) =
    (error ≡ errors.CutOff) × (end.log.failed ≡ None → IsCutOff end.log)

abbrev pub ServerFinishes : End → ℕ → Result ℕ LinkError → Type 0
ServerFinishes server answered result =
    (values : Values) (end : EndLog) → EndRepresents values server end
    → FinishedSo end answered result
