-- What a server and a client without a link make of the octets that they are handed, and which they
-- put out.
use Rattle.std.specs.Prelude.{◌≡◌, ◌≢◌, ◌⊎◌, ◌≤◌, ◌<◌, ◌-◌, ◌^◌, ℕ, Bool, true, false, List}
use Rattle.std.specs.Prelude.{[], ◌++◌, length, Some, None, Result, Ok, Err}
use Rattle.std.specs.List.{Contains}
use Rattle.h2_frame.specs.declared.code.Code.{Code}
use Rattle.h2_frame.specs.declared.code.Code.TheVariants.{InternalError}
use Rattle.h2_frame.specs.Codes.{code_number}
use Rattle.h2_spec_log.specs.declared.refusal.Refusal.{Refusal}
use Rattle.h2_spec_log.specs.declared.refusal.Refusal.TheVariants.{TooManyResets}
use Rattle.h2_spec_log.specs.Acts.{Values, ResetStream, Refused}
use Rattle.h2_spec_log.specs.Log.{Log}
use Rattle.h2_message.specs.Messages.{SentMessage}
use Rattle.h2_message.specs.Phases.{ends_message}
use Rattle.h2_laws_pair.specs.Pairs.{given_out}
use Rattle.h2_laws_pair.specs.Tokens.{at_once}
use Rattle.h2_ends.specs.declared.refusal.EndRefusal.{EndRefusal}
use Rattle.h2_ends.specs.declared.refusal.EndRefusal.TheVariants.{Conn}
use Rattle.h2_ends.specs.Ends.{EndLog, said_for, parts_on}
use Rattle.h2_ends.specs.EndCalls.{MayRespond}
use Rattle.h2_ends.specs.Represents.{EndRepresents}
use Rattle.h2_link.specs.declared.error.LinkError.{LinkError}
use Rattle.h2_link.specs.declared.error.LinkError.TheVariants as errors
use Rattle.h2_engines.specs.declared.fetcher.Fetcher.{Fetcher}
use Rattle.h2_engines.specs.declared.responder.Responder.{Responder}
use Rattle.h2_engines.specs.declared.sending.Credit.TheVariants.{All}
use Rattle.h2_engines.specs.Answers.{answer_to, is_too_large_body}
use Rattle.h2_engines.specs.ClientHistories.{IsFetching}
use Rattle.h2_engines.specs.Failures.{HasNoConnectionFault, error_after}
use Rattle.h2_engines.specs.Fetches.{WasDropped}
use Rattle.h2_engines.specs.Linked.{IsOutOfRounds}
use Rattle.h2_engines.specs.PartialMessages.{KeepsRequests, HasCome, IsWhole}
use Rattle.h2_engines.specs.ServerHistories.{IsResponding, calm}
use Rattle.h2_engines.specs.Sending.{HasSentWaiting}
use Rattle.h2_engines.specs.Serves.{CannotReset}
use Rattle.h2_engines.specs.ServerSteps.{IsSameOfMessages}

-- The first octets of a piece were used, all but these, and none were put out.
-- rule: engines (own) Without a link a server answers whole requests, a client reads one
pub record UsesPiece (before after : Log) (piece unused : List ℕ) : Type 0 where
  pub input : before.input ++ piece ≡ after.input ++ unused
  pub given : given_out after ≡ given_out before

-- The connection has failed with this code, but not since it is out of memory.
pub record FailsWith (log : Log) (number : ℕ) : Type 0 where
  pub code : Code
  pub failed : log.failed ≡ Some code
  pub other : code ≢ InternalError
  pub number_is : number ≡ code_number code

-- So many octets were put out and appended to others: the next ones of the output, at most as many
-- as were asked for, and fewer only where they were all.
-- rule: engines (own) Without a link a server answers whole requests, a client reads one
pub record PutsOutNext (before after : Log) (count given : ℕ) (old new : List ℕ) : Type 0 where
  pub octets : List ℕ
  pub appended : new ≡ old ++ octets
  pub next : given_out after ≡ given_out before ++ octets
  pub counted : given ≡ length octets
  pub within : given ≤ count
  pub all : given < count → given_out after ≡ after.written

-- what a call of `put_out` has made of an end and of the octets that it appends to
unfoldable pub PutOutSo : (before after : EndLog) → ℕ → (old new : List ℕ) → Result ℕ LinkError
    → Type 0
PutOutSo before after count old new (Ok given) =
    ((sent : EndLog) × HasSentWaiting All before sent (Ok tt) × IsSameOfMessages sent after)
    × PutsOutNext before.log after.log count given old new
PutOutSo before after count old new (Err error) =
    (error ≡ errors.Memory) × (new ≡ old) × (given_out after.log ≡ given_out before.log)

-- A server without a link, at which this has happened: the connection is up, each request that was
-- whole was answered, and of each that isn't it keeps what it needs.
-- rule: engines (own) Without a link a server answers whole requests, a client reads one
pub record IsServingAlone (values : Values) (responder : Responder) (end : EndLog) : Type 0 where
  pub responding : IsResponding values end
  pub represents : EndRepresents values responder.server.end end
  pub up : end.log.failed ≡ None
  pub keeps : KeepsRequests responder.requests end
  pub count : responder.answered ≡ length end.accepted

-- What a server has put out. It goes on where it went on.
pub record ServerPutOut (values : Values) (old new : Responder) (end : EndLog) (count : ℕ)
    (before now : List ℕ) (result : Result ℕ LinkError) : Type 0 where
  pub after : EndLog
  pub responding : IsResponding values after
  pub represents : EndRepresents values new.server.end after
  pub same : IsSameOfMessages end after
  pub so : PutOutSo end after count before now result
  pub goes_on : IsServingAlone values old end → IsServingAlone values new after

-- Whatever has happened at a server, `put_out` does so.
-- rule: engines (own) Without a link a server answers whole requests, a client reads one
abbrev pub ServerPutsOut : (old new : Responder) → ℕ → (before now : List ℕ) → Result ℕ LinkError
    → Type 0
ServerPutsOut old new count before now result =
    (values : Values) (end : EndLog) → EndRepresents values old.server.end end
    → IsResponding values end → ServerPutOut values old new end count before now result

-- Why a server without a link makes no progress: it is out of rounds; it can count no more answers;
-- or its end has refused an answer, maybe since so much output waits, or a reset, though memory was
-- there.
pub data MakesNoProgress (end : EndLog) : Type 0 where
  out_of_rounds : IsOutOfRounds end → MakesNoProgress end
  counts_no_more : 2 ^ 32 - 1 ≤ length end.accepted → MakesNoProgress end
  answer_refused : (before : EndLog) (id : ℕ) (message : SentMessage) (refusal : EndRefusal)
      → ends_message (parts_on id before.handed) ≡ true
      → answer_to (parts_on id before.handed) ≡ Some message
      → MayRespond before id message (Err refusal) end
      → error_after refusal ≡ errors.NoProgress → MakesNoProgress end
  reset_refused : (id : ℕ) (refusal : Refusal)
      → is_too_large_body (parts_on id end.handed) ≡ true
      → Contains end.log.calls (ResetStream id calm, Refused refusal) → refusal ≢ TooManyResets
      → error_after (Conn refusal) ≡ errors.NoProgress → MakesNoProgress end

-- Why a server stops: the connection has failed with this code, or a stream can't be reset any
-- more; memory was refused, and the connection has no other fault; or it makes no progress.
-- rule: engines (own) Without a link a server answers whole requests, a client reads one
unfoldable pub StopsAlone : EndLog → LinkError → Type 0
StopsAlone end (errors.Stream number) = FailsWith end.log number ⊎ CannotReset end number
StopsAlone end errors.Memory = HasNoConnectionFault end.log
StopsAlone end errors.NoProgress = MakesNoProgress end
StopsAlone end error = ⊥

-- what a server has made of a piece
unfoldable pub TakesInSo : Values → Responder → EndLog → List ℕ → EndLog
    → Result (Unit {0}) LinkError → Type 0
TakesInSo values responder end piece after (Ok done) =
    IsServingAlone values responder after × UsesPiece end.log after.log piece []
TakesInSo values responder end piece after (Err error) =
    IsResponding values after × EndRepresents values responder.server.end after
    × ((unused : List ℕ) × UsesPiece end.log after.log piece unused) × StopsAlone after error

-- Whatever has happened at a server that goes on, `take_in` does so.
-- rule: engines (own) Without a link a server answers whole requests, a client reads one
abbrev pub ServerTakesIn : (old new : Responder) → List ℕ → Result (Unit {0}) LinkError → Type 0
ServerTakesIn old new piece result =
    (values : Values) (end : EndLog) → IsServingAlone values old end
    → (after : EndLog) × TakesInSo values new end piece after result

-- A client without a link, at which this has happened: the connection is up, the message was
-- accepted for its stream, and of the response, which isn't whole, it keeps what has come.
pub record IsFetchingAlone (values : Values) (message : SentMessage) (fetcher : Fetcher)
    (end : EndLog) : Type 0 where
  pub fetching : IsFetching values message 0 end
  pub represents : EndRepresents values fetcher.client.end end
  pub accepted : said_for fetcher.id end.accepted ≡ Some (at_once message)
  pub up : end.log.failed ≡ None
  pub come : HasCome fetcher.coming (parts_on fetcher.id end.handed)
  pub unfinished : fetcher.whole ≡ false

-- The response is whole, and that is noted.
pub record IsFetchedAlone (values : Values) (message : SentMessage) (fetcher : Fetcher)
    (end : EndLog) : Type 0 where
  pub fetching : IsFetching values message 0 end
  pub represents : EndRepresents values fetcher.client.end end
  pub accepted : said_for fetcher.id end.accepted ≡ Some (at_once message)
  pub response : IsWhole fetcher.coming (parts_on fetcher.id end.handed)
  pub noted : fetcher.whole ≡ true

-- What a client has put out. It goes on where it went on, and what has come whole stays so.
pub record ClientPutOut (values : Values) (message : SentMessage) (old new : Fetcher)
    (end : EndLog) (count : ℕ) (before now : List ℕ) (result : Result ℕ LinkError) : Type 0 where
  pub after : EndLog
  pub fetching : IsFetching values message 0 after
  pub represents : EndRepresents values new.client.end after
  pub same : IsSameOfMessages end after
  pub so : PutOutSo end after count before now result
  pub goes_on : IsFetchingAlone values message old end → IsFetchingAlone values message new after
  pub fetched : IsFetchedAlone values message old end → IsFetchedAlone values message new after

-- rule: engines (own) Without a link a server answers whole requests, a client reads one
abbrev pub ClientPutsOut : (old new : Fetcher) → ℕ → (before now : List ℕ) → Result ℕ LinkError
    → Type 0
ClientPutsOut old new count before now result =
    (values : Values) (message : SentMessage) (end : EndLog)
    → EndRepresents values old.client.end end → IsFetching values message 0 end
    → ClientPutOut values message old new end count before now result

-- Why a fetch stops: the connection has failed with this code; the stream was dropped; memory was
-- refused, and the connection has no other fault; or the client is out of rounds.
unfoldable pub StopsFetchAlone : EndLog → (id : ℕ) → LinkError → Type 0
StopsFetchAlone end id (errors.Stream number) = FailsWith end.log number
StopsFetchAlone end id (errors.Reset number) = WasDropped end id number
StopsFetchAlone end id errors.Memory = HasNoConnectionFault end.log
StopsFetchAlone end id errors.NoProgress = IsOutOfRounds end
StopsFetchAlone end id error = ⊥

-- what a client has made of a piece: nothing is used of it once the response is whole
unfoldable pub FetchesInSo : Values → SentMessage → Fetcher → EndLog → List ℕ → EndLog
    → Result Bool LinkError → Type 0
FetchesInSo values message fetcher end piece after (Ok false) =
    IsFetchingAlone values message fetcher after × UsesPiece end.log after.log piece []
FetchesInSo values message fetcher end piece after (Ok true) =
    IsFetchedAlone values message fetcher after
    × ((unused : List ℕ) × UsesPiece end.log after.log piece unused)
FetchesInSo values message fetcher end piece after (Err error) =
    IsFetching values message 0 after × EndRepresents values fetcher.client.end after
    × (said_for fetcher.id after.accepted ≡ Some (at_once message))
    × ((unused : List ℕ) × UsesPiece end.log after.log piece unused)
    × StopsFetchAlone after fetcher.id error

-- Whatever has happened at a client whose response isn't whole, `take_in` does so.
-- rule: engines (own) Without a link a server answers whole requests, a client reads one
abbrev pub ClientTakesIn : (old new : Fetcher) → List ℕ → Result Bool LinkError → Type 0
ClientTakesIn old new piece result =
    (values : Values) (message : SentMessage) (end : EndLog)
    → IsFetchingAlone values message old end
    → (after : EndLog) × FetchesInSo values message new end piece after result
