-- What drives a server or a client, over a link or over octets that it is handed, makes of it.
use Rattle.std.specs.Prelude.{◌≡◌, ◌≢◌, ◌⊎◌, ◌≤◌, ◌<◌, ◌-◌, ◌^◌, ℕ, Bool, true, false, List}
use Rattle.std.specs.Prelude.{[], length, drop, Some, None, Result, Ok, Err}
use Rattle.std.specs.List.{Contains}
use Rattle.h2_frame.specs.declared.code.Code.{Code}
use Rattle.h2_spec_log.specs.declared.refusal.Refusal.{Refusal}
use Rattle.h2_spec_log.specs.declared.refusal.Refusal.TheVariants.{OutputFull, TooManyResets}
use Rattle.h2_spec_log.specs.Acts.{Values, ResetStream, Refused}
use Rattle.h2_spec_log.specs.Log.{Log, waiting}
use Rattle.h2_message.specs.Messages.{SentMessage}
use Rattle.h2_message.specs.Phases.{ends_message}
use Rattle.h2_laws_pair.specs.Tokens.{at_once}
use Rattle.h2_ends.specs.declared.end.End.{End}
use Rattle.h2_ends.specs.declared.refusal.EndRefusal.{EndRefusal}
use Rattle.h2_ends.specs.declared.refusal.EndRefusal.TheVariants.{Conn}
use Rattle.h2_ends.specs.Ends.{EndLog, said_for, parts_on}
use Rattle.h2_ends.specs.EndCalls.{MayRespond}
use Rattle.h2_ends.specs.Represents.{EndRepresents}
use Rattle.h2_link.specs.declared.error.LinkError.{LinkError}
use Rattle.h2_link.specs.declared.error.LinkError.TheVariants as errors
use Rattle.h2_engines.specs.declared.fetcher.Coming.{Coming}
use Rattle.h2_engines.specs.declared.machine.Heard.{Heard}
use Rattle.h2_engines.specs.declared.request.Next.{Next}
use Rattle.h2_engines.specs.declared.request.Next.TheVariants as nexts
use Rattle.h2_engines.specs.declared.request.Requests.{Requests}
use Rattle.h2_engines.specs.Answers.{answer_to, is_too_large_body}
use Rattle.h2_engines.specs.ClientHistories.{IsFetching}
use Rattle.h2_engines.specs.Failures.{CannotPutOut, IsOfClient, IsOfServer, error_after}
use Rattle.h2_engines.specs.Fetches.{EndsUnfinished, WasDropped}
use Rattle.h2_engines.specs.Linked.{Traffic, HasGiven, IsLinked, HasStalled, HasTakenAll}
use Rattle.h2_engines.specs.Linked.{HasTakenFirst}
use Rattle.h2_engines.specs.PartialMessages.{KeepsNext, HasCome, IsWhole}
use Rattle.h2_engines.specs.Sending.{WritesOut}
use Rattle.h2_engines.specs.ServerHistories.{IsResponding, calm}
use Rattle.h2_engines.specs.Serves.{CannotReset, HasReturnedAll, HasSentAll}
use Rattle.h2_engines.specs.ServerSteps.{IsSameOfMessages, error_with}
use Rattle.h2_engines.specs.WithoutLink.{PutOutSo}

-- what a machine keeps beside its end: a server the requests that aren't whole, and how many it has
-- answered; a client the stream of its request, what has come of the response, and whether it is
-- whole
pub data MessageState : Type 0 where
  Serving : (requests : Requests) → (answered : ℕ) → MessageState
  Fetching : (id : ℕ) → (coming : Coming) → (whole : Bool) → MessageState

-- a machine
pub record MachineState : Type 0 where
  pub end : End
  pub kept : MessageState

-- what is driven: an end with these values, a client with this message; and what its link had given
-- and taken at the start
pub record Course : Type 0 where
  pub values : Values
  pub message : SentMessage
  pub start : Traffic

-- What may have happened at the end of a machine.
abbrev pub Happens : Course → MessageState → EndLog → Type 0
Happens course (Serving requests answered) end = IsResponding course.values end
Happens course (Fetching id coming whole) end = IsFetching course.values course.message 0 end

-- What a machine keeps of what has happened while the connection is up, by what is to be done.
unfoldable pub Keeps : SentMessage → MessageState → EndLog → Next → Type 0
Keeps message (Serving requests answered) end next =
    KeepsNext requests end next × (answered ≡ length end.accepted)
Keeps message (Fetching id coming whole) end nexts.Whole =
    (said_for id end.accepted ≡ Some (at_once message)) × IsWhole coming (parts_on id end.handed)
    × (whole ≡ true)
Keeps message (Fetching id coming whole) end (nexts.Answer stream request) = ⊥
Keeps message (Fetching id coming whole) end (nexts.Reset stream) = ⊥
Keeps message (Fetching id coming whole) end next =
    (said_for id end.accepted ≡ Some (at_once message)) × HasCome coming (parts_on id end.handed)
    × (whole ≡ false)

-- A machine that is driven, at which this has happened and that is to be done: the connection is
-- up, and these octets that the link gave were not used yet.
pub record IsDriven (course : Course) (now : Traffic) (held : MachineState) (end : EndLog)
    (unused : List ℕ) (next : Next) : Type 0 where
  pub happened : Happens course held.kept end
  pub represents : EndRepresents course.values held.end end
  pub linked : IsLinked course.start now end.log unused
  pub up : end.log.failed ≡ None
  pub keeps : Keeps course.message held.kept end next

-- The machine is a server, or a client, and ends so by itself.
abbrev pub StopsWith : (serves : Bool) → LinkError → Type 0
StopsWith true error = IsOfServer error
StopsWith false error = IsOfClient error

-- Where it is driven over a link, that may fail.
abbrev pub MayEnd : (writes serves : Bool) → LinkError → Type 0
MayEnd true serves errors.Device = Unit {0}
MayEnd writes serves error = StopsWith serves error

-- what holds of a client that ends early: its message was accepted, and its response isn't whole,
-- unless memory was refused
abbrev pub EndsBeforeResponse : SentMessage → MessageState → EndLog → LinkError → Type 0
EndsBeforeResponse message (Serving requests answered) end error = Unit {0}
EndsBeforeResponse message (Fetching id coming whole) end error =
    (said_for id end.accepted ≡ Some (at_once message)) × EndsUnfinished end id (Err error)

-- Why a server ends by itself: it can't reset a stream any more; it can count no more answers; or
-- its end has refused an answer or a reset, though memory was there. Where all output was written
-- before, no answer is refused since that is full.
pub data ServerStops (writes : Bool) (end : EndLog) (error : LinkError) : Type 0 where
  cannot_reset : (number : ℕ) → error ≡ errors.Stream number → CannotReset end number
      → ServerStops writes end error
  counts_no_more : error ≡ errors.NoProgress → 2 ^ 32 - 1 ≤ length end.accepted
      → ServerStops writes end error
  answer_refused : error ≡ errors.NoProgress → (before : EndLog) (id : ℕ) (message : SentMessage)
      (refusal : EndRefusal) → ends_message (parts_on id before.handed) ≡ true
      → answer_to (parts_on id before.handed) ≡ Some message
      → MayRespond before id message (Err refusal) end
      → (writes ≡ true → refusal ≢ Conn OutputFull)
      → error_after refusal ≡ errors.NoProgress → ServerStops writes end error
  reset_refused : error ≡ errors.NoProgress → (id : ℕ) (refusal : Refusal)
      → is_too_large_body (parts_on id end.handed) ≡ true
      → Contains end.log.calls (ResetStream id calm, Refused refusal) → refusal ≢ TooManyResets
      → error_after (Conn refusal) ≡ errors.NoProgress → ServerStops writes end error

-- Why a machine ends by itself; a client since the stream of its request was dropped.
abbrev pub StopsItself : (writes : Bool) → MessageState → EndLog → LinkError → Type 0
StopsItself writes (Serving requests answered) end error = ServerStops writes end error
StopsItself writes (Fetching id coming whole) end error =
    (number : ℕ) × (error ≡ errors.Reset number) × WasDropped end id number

-- Why memory is said to be refused while a machine is driven: the connection is up, or output can't
-- be put out. A connection that has failed for it is `has_failed`.
abbrev pub LacksWhileDriven : (writes : Bool) → Log → Type 0
LacksWhileDriven writes log = (log.failed ≡ None) ⊎ ((writes ≡ true) × CannotPutOut log)

-- Why a machine that is driven ends early.
pub data EndsFor (writes : Bool) (start now : Traffic) (kept : MessageState) (end : EndLog)
    (error : LinkError) : Type 0 where
  lacks_memory : error ≡ errors.Memory → LacksWhileDriven writes end.log
      → EndsFor writes start now kept end error
  link_fails : error ≡ errors.Device → writes ≡ true → EndsFor writes start now kept end error
  has_failed : (code : Code) → end.log.failed ≡ Some code → error ≡ error_with code
      → (writes ≡ true → HasTakenAll start now end.log) → EndsFor writes start now kept end error
  has_stalled : error ≡ errors.NoProgress → HasStalled now end
      → EndsFor writes start now kept end error
  stops_itself : StopsItself writes kept end error → EndsFor writes start now kept end error

-- A machine that is driven has ended early. Without a link nothing is written.
pub record HasEnded (writes : Bool) (course : Course) (now : Traffic) (held : MachineState)
    (end : EndLog) (error : LinkError) : Type 0 where
  pub happened : Happens course held.kept end
  pub represents : EndRepresents course.values held.end end
  pub unused : List ℕ
  pub given : HasGiven course.start now end.log unused
  pub taken : HasTakenFirst course.start now end.log
  pub alone : writes ≡ false → IsLinked course.start now end.log unused
  pub holds : EndsBeforeResponse course.message held.kept end error
  pub why : EndsFor writes course.start now held.kept end error

-- Why a machine can't hear on: the connection has failed, before its response is whole; or it is up
-- and memory was refused, or the machine ends by itself.
pub data HearsNoMore (message : SentMessage) (kept : MessageState) (end : EndLog)
    (error : LinkError) : Type 0 where
  fails : (code : Code) → end.log.failed ≡ Some code → error ≡ error_with code
      → ((other : LinkError) → EndsBeforeResponse message kept end other)
      → HearsNoMore message kept end error
  gives_up : end.log.failed ≡ None → EndsBeforeResponse message kept end error
      → (error ≡ errors.Memory) ⊎ ((writes : Bool) → StopsItself writes kept end error)
      → HearsNoMore message kept end error

-- A machine can't hear on, for this error; octets that it has not used are left.
pub record HasHeardLast (course : Course) (now : Traffic) (held : MachineState) (end : EndLog)
    (error : LinkError) : Type 0 where
  pub happened : Happens course held.kept end
  pub represents : EndRepresents course.values held.end end
  pub unused : List ℕ
  pub linked : IsLinked course.start now end.log unused
  pub why : HearsNoMore course.message held.kept end error

-- what was made of octets that were handed to a call of `take`
unfoldable pub HearsSo : Course → (now : Traffic) → (before : EndLog) → (piece : List ℕ)
    → MachineState → EndLog → Result Heard LinkError → Type 0
HearsSo course now before piece held after (Ok heard) =
    IsDriven course now held after (drop heard.used piece) heard.next
    × (length before.log.turns < length after.log.turns)
    × (heard.next ≡ nexts.Done → heard.used ≡ length piece)
HearsSo course now before piece held after (Err error) =
    HasHeardLast course now held after error × (length before.log.turns ≤ length after.log.turns)

-- Octets were handed to a call of `take`, whatever has happened at a machine that is driven.
abbrev pub Hears : (old new : MachineState) → List ℕ → Result Heard LinkError → Type 0
Hears old new piece result =
    (course : Course) (now : Traffic) (end : EndLog)
    → IsDriven course now old end piece nexts.Again
    → (after : EndLog) × HearsSo course now end piece new after result

-- what is due: an answer, or a reset
abbrev pub IsDue : Next → Type 0
IsDue (nexts.Answer id request) = Unit {0}
IsDue (nexts.Reset id) = Unit {0}
IsDue next = ⊥

-- what was made of it, where all output was written before if that is said
unfoldable pub RespondedSo : (writes : Bool) → Course → (now : Traffic) → MachineState → EndLog
    → (unused : List ℕ) → Result (Unit {0}) LinkError → Type 0
RespondedSo writes course now held after unused (Ok done) =
    IsDriven course now held after unused nexts.Again
RespondedSo writes course now held after unused (Err error) =
    HasEnded writes course now held after error

-- What is due is done at a machine that is driven, where all output was written before if that is
-- said.
abbrev pub Responds : (old new : MachineState) → Next → Result (Unit {0}) LinkError → Type 0
Responds old new due result =
    (writes : Bool) (course : Course) (now : Traffic) (end : EndLog) (unused : List ℕ)
    → IsDue due → (writes ≡ true → waiting end.log ≡ 0)
    → IsDriven course now old end unused due
    → (after : EndLog) × (length end.log.turns ≤ length after.log.turns)
    × RespondedSo writes course now new after unused result

-- Whatever has happened at the end of a machine and over the link, what waits is written.
abbrev pub WritesWaiting : (before now : Traffic) → (old new : MachineState)
    → Result (Unit {0}) LinkError → Type 0
WritesWaiting before now old new result =
    (course : Course) (end : EndLog) (unused : List ℕ) → EndRepresents course.values old.end end
    → Happens course old.kept end → IsLinked course.start before end.log unused
    → WritesOut (Happens course old.kept) course.values course.start now end new.end unused result

-- what the link has given and taken; without one, that is whatever it was
abbrev pub flow : (writes : Bool) → (real base : Traffic) → Traffic
flow true real base = real
flow false real base = base

-- What is due is done, over a link once all that waits is written.
abbrev pub WritesAndResponds : (writes : Bool) → (before now : Traffic) → (old new : MachineState)
    → Next → Result (Unit {0}) LinkError → Type 0
WritesAndResponds writes before now old new due result =
    (course : Course) (base : Traffic) (end : EndLog) (unused : List ℕ) → IsDue due
    → IsDriven course (flow writes before base) old end unused due
    → (after : EndLog) × (length end.log.turns ≤ length after.log.turns)
    × RespondedSo writes course (flow writes now base) new after unused result

-- What can't hear on ends so.
abbrev pub EndsEarly : (writes : Bool) → (before now : Traffic) → (old new : MachineState)
    → (error result : LinkError) → Type 0
EndsEarly writes before now old new error result =
    (course : Course) (base : Traffic) (end : EndLog)
    → HasHeardLast course (flow writes before base) old end error
    → (after : EndLog) × (length end.log.turns ≤ length after.log.turns)
    × HasEnded writes course (flow writes now base) new after result

-- how the taking of a piece ends: with nothing left of it, with a response that is whole, or early
unfoldable pub TakenSo : (writes : Bool) → Course → (now : Traffic) → MachineState → EndLog
    → Result Bool LinkError → Type 0
TakenSo writes course now held after (Ok false) = IsDriven course now held after [] nexts.Again
TakenSo writes course now held after (Ok true) =
    (unused : List ℕ) × IsDriven course now held after unused nexts.Whole
TakenSo writes course now held after (Err error) = HasEnded writes course now held after error

-- A machine that is driven takes a piece, and does what becomes due.
abbrev pub MachineTakesPiece : (writes : Bool) → (before now : Traffic) → (old new : MachineState)
    → (piece : List ℕ) → Result Bool LinkError → Type 0
MachineTakesPiece writes before now old new piece result =
    (course : Course) (base : Traffic) (end : EndLog)
    → IsDriven course (flow writes before base) old end piece nexts.Again
    → (after : EndLog) × (length end.log.turns ≤ length after.log.turns)
    × TakenSo writes course (flow writes now base) new after result

-- What a machine has sent before it reads on over a link: all that could be. Of a client that holds
-- once it has used octets: it sends its body after the first of them.
abbrev pub HasSentFor : MessageState → EndLog → Type 0
HasSentFor (Serving requests answered) end = HasSentAll end
HasSentFor (Fetching id coming whole) end = end.log.input ≢ [] → HasSentAll end

-- how the driving over a link ends: where its input has ended, all was used, what could be sent was
-- sent, credit was returned, and all is written
unfoldable pub DrivenSo : Course → (now : Traffic) → MachineState → EndLog → Result Bool LinkError
    → Type 0
DrivenSo course now held after (Ok false) =
    IsDriven course now held after [] nexts.Again × HasTakenAll course.start now after.log
    × HasReturnedAll after.log × HasSentFor held.kept after
DrivenSo course now held after (Ok true) =
    (unused : List ℕ) × IsDriven course now held after unused nexts.Whole
DrivenSo course now held after (Err error) = HasEnded true course now held after error

-- The input has ended, where a response isn't whole.
abbrev pub MeetsEnd : Result Bool LinkError → (ended : Bool) → Type 0
MeetsEnd (Ok false) ended = ended ≡ true
MeetsEnd result ended = Unit {0}

-- A machine is driven over a link, until that has ended or the machine has all that it wants.
abbrev pub Drives : (before now : Traffic) → (old new : MachineState) → Result Bool LinkError
    → Type 0
Drives before now old new result =
    (course : Course) (end : EndLog) → IsDriven course before old end [] nexts.Again
    → HasSentFor old.kept end → (after : EndLog) × DrivenSo course now new after result

-- What an end has put out, where nothing else has happened.
pub record HasPutOut (P : EndLog → Type 0) (values : Values) (new : End) (end : EndLog) (count : ℕ)
    (before now : List ℕ) (result : Result ℕ LinkError) : Type 0 where
  pub after : EndLog
  pub happened : P after
  pub represents : EndRepresents values new after
  pub same : IsSameOfMessages end after
  pub so : PutOutSo end after count before now result

-- Whatever has happened at a machine, at most so many of the octets that wait are put out.
abbrev pub PutsWaiting : (old new : MachineState) → ℕ → (before now : List ℕ) → Result ℕ LinkError
    → Type 0
PutsWaiting old new count before now result =
    (course : Course) (end : EndLog) → EndRepresents course.values old.end end
    → Happens course old.kept end
    → HasPutOut (Happens course old.kept) course.values new.end end count before now result
