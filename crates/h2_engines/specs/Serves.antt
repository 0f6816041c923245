-- How a connection that is served over a link ends.
-- contract: h2_engines::fetch_link
-- contract: h2_engines::serve_link
-- contract: h2_engines::fetch_link_why
-- contract: h2_engines::serve_link_why
use Rattle.std.specs.Prelude.{◌≡◌, ◌≢◌, ◌⊎◌, ◌≤◌, ◌-◌, ◌^◌, ℕ, true, false, [], length}
use Rattle.std.specs.Prelude.{Option, Some, None}
use Rattle.std.specs.Prelude.{Result, Ok, Err}
use Rattle.std.specs.List.{Contains}
use Rattle.h2_frame.specs.declared.code.Code.{Code}
use Rattle.h2_frame.specs.declared.code.Code.TheVariants.{InternalError}
use Rattle.h2_frame.specs.Codes.{code_number}
use Rattle.h2_spec_log.specs.declared.refusal.Refusal.{Refusal}
use Rattle.h2_spec_log.specs.declared.refusal.Refusal.TheVariants.{OutputFull, TooManyResets}
use Rattle.h2_spec_log.specs.Acts.{Values, ResetStream, Refused}
use Rattle.h2_spec_log.specs.Limits.{max_resets}
use Rattle.h2_spec_log.specs.Log.{Log, active, owed, resets_written}
use Rattle.h2_message.specs.Messages.{SentMessage}
use Rattle.h2_message.specs.Phases.{ends_message}
use Rattle.h2_conn.specs.declared.why.Why.{Why}
use Rattle.h2_conn.specs.Why.{IsWhy}
use Rattle.h2_ends.specs.declared.refusal.EndRefusal.{EndRefusal}
use Rattle.h2_ends.specs.declared.refusal.EndRefusal.TheVariants.{Conn}
use Rattle.h2_ends.specs.Ends.{EndLog, parts_on, tokens_waiting}
use Rattle.h2_ends.specs.EndCalls.{MayRespond, IsStuckOn}
use Rattle.h2_ends.specs.Represents.{SendsInOrder}
use Rattle.h2_link.specs.declared.error.LinkError.{LinkError}
use Rattle.h2_link.specs.declared.error.LinkError.TheVariants as errors
use Rattle.h2_engines.specs.Answers.{answer_to, is_too_large_body}
use Rattle.h2_engines.specs.Failures.{IsOutOfMemory, error_after}
use Rattle.h2_engines.specs.Linked.{Traffic, HasGiven, IsLinkedInPart, HasTakenAll, HasStalled}
use Rattle.h2_engines.specs.ServerHistories.{IsResponding, AnswersAll, WasReportedReset, calm}

-- The input has ended where it may: no part of the preface or a frame is held, and no stream is
-- active.
-- rule: engines (own) N4 comes only where the input ended early
pub record IsAtRest (log : Log) : Type 0 where
  pub up : log.failed ≡ None
  pub nothing_held : log.unparsed ≡ []
  pub none_active : (id : ℕ) → active log id ≡ false

-- Nothing is owed on any stream, and of what waits to be sent nothing could go.
-- rule: engines (own) Over a link credit is returned and what could be sent is sent
pub record HasSentAll (end : EndLog) : Type 0 where
  pub none_owed : (id : ℕ) → owed end.log id ≡ 0
  pub stuck : (id : ℕ) → IsStuckOn end id

-- No credit of the connection waits to be returned (RFC 9113, section 6.9).
-- rule: engines (own) Over a link credit is returned and what could be sent is sent
abbrev pub HasReturnedAll : Log → Type 0
HasReturnedAll log = log.unreturned ≡ 0

-- Each answer was sent whole, unless its stream was reset.
-- rule: engines (own) Over a link credit is returned and what could be sent is sent
abbrev pub HasSentWhole : EndLog → Type 0
HasSentWhole end = (id : ℕ) → (WasReportedReset end id → ⊥) → tokens_waiting end id ≡ []

-- All octets that the link gave were used, it took the whole output, the credit of the connection
-- was returned, and so many requests were answered, each with all of its answer: all that were
-- whole.
-- rule: engines (own) Over a link input is used in order and all output is written
pub record IsServed (start now : Traffic) (end : EndLog) (count : ℕ) : Type 0 where
  pub rests : IsAtRest end.log
  pub given : HasGiven start now end.log []
  pub taken : HasTakenAll start now end.log
  pub returned : HasReturnedAll end.log
  pub answers : AnswersAll end
  pub sent : HasSentWhole end
  pub counted : count ≡ length end.accepted

-- The connection has failed with this code, and the link took its GOAWAY, which ends the output.
-- INTERNAL_ERROR, for which memory was refused, is N3.
-- rule: engines (own) N2 has the code with which the connection failed; memory is N3
pub record HasFailedWith (start now : Traffic) (log : Log) (number : ℕ) : Type 0 where
  pub code : Code
  pub failed : log.failed ≡ Some code
  pub other : code ≢ InternalError
  pub number_is : number ≡ code_number code
  pub taken : HasTakenAll start now log

-- A request is too large, and its stream can't be reset any more.
-- rule: engines (own) N2 has the code with which the connection failed; memory is N3
pub record CannotReset (end : EndLog) (number : ℕ) : Type 0 where
  pub id : ℕ
  pub too_large : is_too_large_body (parts_on id end.handed) ≡ true
  pub refused : Contains end.log.calls (ResetStream id calm, Refused TooManyResets)
  pub none_left : max_resets ≤ resets_written end.log
  pub number_is : number ≡ calm

-- Why a server makes no progress: a write of octets has taken none, or it is out of rounds; it can
-- count no more answers; or its end has refused an answer or a reset, though memory was there. No
-- answer is refused since the output is full: before each one all of it is written.
-- rule: engines (own) N5 comes only where a write has taken nothing
pub data StopsServing (now : Traffic) (end : EndLog) : Type 0 where
  stalls : HasStalled now end → StopsServing now end
  counts_no_more : 2 ^ 32 - 1 ≤ length end.accepted → StopsServing now end
  answer_refused : (before : EndLog) (id : ℕ) (message : SentMessage) (refusal : EndRefusal)
      → ends_message (parts_on id before.handed) ≡ true
      → answer_to (parts_on id before.handed) ≡ Some message
      → MayRespond before id message (Err refusal) end → refusal ≢ Conn OutputFull
      → error_after refusal ≡ errors.NoProgress → StopsServing now end
  reset_refused : (id : ℕ) (refusal : Refusal)
      → is_too_large_body (parts_on id end.handed) ≡ true
      → Contains end.log.calls (ResetStream id calm, Refused refusal) → refusal ≢ TooManyResets
      → error_after (Conn refusal) ≡ errors.NoProgress → StopsServing now end

-- The connection is up, and the input has ended where it may not.
-- rule: engines (own) N4 comes only where the input ended early
abbrev pub IsCutOff : Log → Type 0
IsCutOff log =
    (log.failed ≡ None) × ((log.unparsed ≢ []) ⊎ ((id : ℕ) × (active log id ≡ true)))

-- What was sent on each stream is a prefix of what was to be said there.
abbrev pub SendsAll : EndLog → Type 0
SendsAll end = (id : ℕ) → SendsInOrder end id

-- what is said of each end; N1 comes where a call of the link has failed, whatever has happened at
-- the server
abbrev pub EndsServingSo : (start now : Traffic) → EndLog → Result ℕ LinkError → Type 0
EndsServingSo start now end (Ok count) = IsServed start now end count
EndsServingSo start now end (Err (errors.Stream number)) =
    HasFailedWith start now end.log number ⊎ CannotReset end number
EndsServingSo start now end (Err errors.CutOff) =
    IsCutOff end.log × HasGiven start now end.log [] × HasTakenAll start now end.log
    × HasReturnedAll end.log × AnswersAll end × HasSentAll end
EndsServingSo start now end (Err (errors.Reset number)) = ⊥
EndsServingSo start now end (Err errors.Refused) = ⊥
EndsServingSo start now end (Err errors.NoProgress) = StopsServing now end
EndsServingSo start now end (Err errors.Memory) = IsOutOfMemory end.log
EndsServingSo start now end (Err errors.Device) = Unit {0}

-- However it ends: this has happened at the server; what it has sent on each stream is a prefix of
-- its answer; what the link gave since the connection began, is what it used, and more; and what
-- the link took is the beginning of its output.
pub record Serves (values : Values) (start now : Traffic) (result : Result ℕ LinkError) : Type 0
  where
    pub end : EndLog
    pub responding : IsResponding values end
    pub sends : SendsAll end
    pub linked : IsLinkedInPart start now end.log
    pub so : EndsServingSo start now end result

-- The same, and why the connection has failed, if it has, by what has happened at the server.
-- rule: engines (own) Over a link it is said why the connection has failed
abbrev pub ServesWhy : Values → (start now : Traffic) → Result ℕ LinkError → Option Why → Type 0
ServesWhy values start now result why =
    (serves : Serves values start now result) × IsWhy values serves.end.log why
