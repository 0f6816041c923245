-- What has happened at a served connection, and over its link.
-- contract: h2_serve::serve_handler
use Rattle.std.specs.Prelude.{◌≡◌, ◌⊎◌, ◌<◌, ◌≤◌, ℕ, Bool, true, false, List, [], ◌++◌, length}
use Rattle.std.specs.Prelude.{MatchBool, Some, None, Result, Ok, Err}
use Rattle.std.specs.Io.KnownBytes.{Appends}
use Rattle.h2_frame.specs.declared.code.Code.{Code}
use Rattle.h2_spec_log.specs.declared.role.Role.TheVariants.{Server}
use Rattle.h2_spec_log.specs.Acts.{Values}
use Rattle.h2_spec_log.specs.CallRules.{returns_before_put_out}
use Rattle.h2_spec_log.specs.Log.{waiting}
use Rattle.h2_spec_log.specs.LogView.{log_view}
use Rattle.h2_conn.specs.Conn.{octets_queued}
use Rattle.h2_ends.specs.Ends.{EndLog}
use Rattle.h2_ends.specs.Represents.{EndRepresents, new_end_log}
use Rattle.h2_host.specs.declared.party.Own.TheVariants as owns
use Rattle.h2_link.specs.declared.error.LinkError.{LinkError}
use Rattle.h2_link.specs.declared.error.LinkError.TheVariants as errors
use Rattle.h2_engines.specs.Failures.{HasNoConnectionFault}
use Rattle.h2_engines.specs.Linked.{Traffic, HasStalled}
use Rattle.h2_engines.specs.ServerSteps.{error_with}
use Rattle.h2_engines.specs.Serves.{HasReturnedAll}
use Rattle.h2_server.specs.declared.connection.Connection.{Connection}
use Rattle.h2_server.specs.Connections.{Calls, FailsSo, input_kept}
use Rattle.h2_server.specs.Exchanges.{Handling, IsEmptied, Relations, handling_of}
use Rattle.h2_server.specs.Phases.{is_phase_down, is_phase_over}
use Rattle.h2_server.specs.Steps.{Steps}
use Rattle.h2_server.specs.Turns.{LosesSo}
use Rattle.h2_serve.specs.Answered.{AnswersEach}
use Rattle.h2_serve.specs.Endings.{IsClosedForMemory, IsInputCut, IsInputWhole}

-- a connection at its beginning: its values, its handler, and what had gone over the link before
pub record Beginning (H : Type 0) : Type 0 where
  pub values : Values
  pub handler : H
  pub start : Traffic

-- what is kept of exchanges then: none
abbrev pub handling_first : {H W : Type 0} → H → Handling H W
handling_first handler = record { handler = handler; entries = [] }

-- Since then the server with its handler has made such steps as its handler allows, and beside them
-- only calls of its own: it has used these octets and given out these, and now this is its log, and
-- so it is handled. What was handed out was told, unless something may be lost, for memory.
pub record HasHandled {H W : Type 0} (rel : Relations H W) (begin : Beginning H) (loses : Bool)
    (used given : List ℕ) (after : EndLog) (now : Handling H W) : Type 0 where
  pub steps : Steps rel loses after now used given (new_end_log Server begin.values)
      (handling_first begin.handler)

-- It is served: of the octets that the link gave it has used all but these, which it keeps, or has
-- dropped because it is down; and the link has taken all that it has given out. Something may be
-- lost only where it is closed. One that is down has told its handler that each exchange is over.
-- rule: engines (own) A handler answers over any link
pub record IsServing {H W : Type 0} (rel : Relations H W) (begin : Beginning H) (now : Traffic)
    (connection : Connection H W) : Type 0 where
  pub after : EndLog
  pub used : List ℕ
  pub rest : List ℕ
  pub given : List ℕ
  pub loses : Bool
  pub has : HasHandled rel begin loses used given after (handling_of connection.exchanges)
  pub represents : EndRepresents begin.values connection.server.end after
  pub kept : (rest ≡ input_kept connection) ⊎ (is_phase_down connection.phase ≡ true)
  pub closed : loses ≡ true → is_phase_over connection.phase ≡ true
  pub failing : FailsSo connection.phase after
  pub told : is_phase_down connection.phase ≡ true → IsEmptied (handling_of connection.exchanges)
  pub input : Appends begin.start.given now.given (used ++ rest)
  pub output : Appends begin.start.taken now.taken given

-- Why it can't be served on, by the error, where this much of what it has given out, and of what
-- waits, was not taken: with N2 the connection has failed with this code, and not for want of
-- memory, and all was taken, its GOAWAY last; with N3 it was closed because an allocation was
-- refused, or its server is up, or has failed with INTERNAL_ERROR; with N5 a write has taken nothing,
-- or 2^64 - 1 turns have passed. Of N1 nothing is said here; with the others it doesn't end so.
-- rule: engines (own) N2 has the code with which the connection failed; memory is N3
-- rule: engines (own) N5 comes only where a write has taken nothing
abbrev pub StopsServingFor : {H W : Type 0} → (now : Traffic) → EndLog → Connection H W
    → (untaken : List ℕ) → LinkError → Type 0
StopsServingFor now end connection untaken (errors.Stream number) =
    ((code : Code) × (end.log.failed ≡ Some code) × (errors.Stream number ≡ error_with code))
    × ((untaken ≡ []) × (IsClosedForMemory connection → ⊥))
StopsServingFor now end connection untaken errors.Memory =
    IsClosedForMemory connection ⊎ HasNoConnectionFault end.log
StopsServingFor now end connection untaken errors.NoProgress = HasStalled now end
StopsServingFor now end connection untaken errors.Device = Unit {0}
StopsServingFor now end connection untaken (errors.Reset number) = ⊥
StopsServingFor now end connection untaken errors.Refused = ⊥
StopsServingFor now end connection untaken errors.CutOff = ⊥

-- It is served no more: it has used the first of the octets that the link gave, and the link has
-- taken the first of those that it has given out, and of those that wait after them. What was
-- handed out last may be lost, for memory.
-- rule: engines (own) A handler answers over any link
pub record HasStoppedServing {H W : Type 0} (rel : Relations H W) (begin : Beginning H)
    (now : Traffic) (connection : Connection H W) (error : LinkError) : Type 0 where
  pub after : EndLog
  pub used : List ℕ
  pub unused : List ℕ
  pub given : List ℕ
  pub taken : List ℕ
  pub untaken : List ℕ
  pub has : HasHandled rel begin true used given after (handling_of connection.exchanges)
  pub represents : EndRepresents begin.values connection.server.end after
  pub told : is_phase_down connection.phase ≡ true → IsEmptied (handling_of connection.exchanges)
  pub input : Appends begin.start.given now.given (used ++ unused)
  pub split : given ++ octets_queued connection.server.end.conn ≡ taken ++ untaken
  pub output : Appends begin.start.taken now.taken taken
  pub so : StopsServingFor now after connection untaken error

-- All that could be written was, and the link has taken it; all octets that the link gave were
-- used; and while the server is up no credit of it waits to be returned (RFC 9113, section 6.9).
pub record HasWritten {H W : Type 0} (rel : Relations H W) (begin : Beginning H) (now : Traffic)
    (connection : Connection H W) : Type 0 where
  pub serving : IsServing rel begin now connection
  pub up : is_phase_down connection.phase ≡ false
  pub used : serving.rest ≡ []
  pub all : waiting serving.after.log ≡ 0
  pub returned : serving.after.log.failed ≡ None → HasReturnedAll serving.after.log

-- All that it has given out, and all that waits after that, was taken, by a link that was written
-- to though the connection can't go on: it has used the first of the octets that the link gave.
-- rule: engines (own) Over a link input is used in order and all output is written
pub record HasWrittenLast {H W : Type 0} (rel : Relations H W) (begin : Beginning H) (now : Traffic)
    (connection : Connection H W) : Type 0 where
  pub after : EndLog
  pub used : List ℕ
  pub unused : List ℕ
  pub given : List ℕ
  pub has : HasHandled rel begin true used given after (handling_of connection.exchanges)
  pub represents : EndRepresents begin.values connection.server.end after
  pub told : is_phase_down connection.phase ≡ true → IsEmptied (handling_of connection.exchanges)
  pub input : Appends begin.start.given now.given (used ++ unused)
  pub output : Appends begin.start.taken now.taken
      (given ++ octets_queued connection.server.end.conn)

-- What has become of one that was written: where it was down, its last output was taken; else it is
-- served on, and no turn is undone. Or the write has failed.
abbrev pub WrittenSo : {H W : Type 0} → (rel : Relations H W) → (begin : Beginning H)
    → (now : Traffic) → (before : EndLog) → (old new : Connection H W)
    → Result (Unit {0}) LinkError → Type 0
WrittenSo rel begin now before old new (Ok done) =
    MatchBool (is_phase_down old.phase) (HasWrittenLast rel begin now new)
    ((is : IsServing rel begin now new) × (length before.log.turns ≤ length is.after.log.turns))
WrittenSo rel begin now before old new (Err error) = HasStoppedServing rel begin now new error

-- Its output is written, where that was made ready, or it is down.
abbrev pub WritesServing : {H W : Type 0} → Relations H W → (before now : Traffic)
    → (old new : Connection H W) → Result (Unit {0}) LinkError → Type 0
WritesServing {H} rel before now old new result =
    (begin : Beginning H) (is : IsServing rel begin before old)
    → (is_phase_down old.phase ≡ false
    → returns_before_put_out (log_view is.after.log) ≡ false)
    → WrittenSo rel begin now is.after old new result

-- It was given its turn, and is up: its output was made ready, and a turn has passed since.
pub record HasTurned {H W : Type 0} (rel : Relations H W) (begin : Beginning H) (now : Traffic)
    (before : EndLog) (connection : Connection H W) : Type 0 where
  pub serving : IsServing rel begin now connection
  pub ready : returns_before_put_out (log_view serving.after.log) ≡ false
  pub later : length before.log.turns < length serving.after.log.turns

-- It is given its turn, and is up then, or down.
abbrev pub TurnsServing : {H W : Type 0} → Relations H W → (old new : Connection H W) → (up : Bool)
    → Type 0
TurnsServing {H} rel old new up =
    (begin : Beginning H) (now : Traffic) (is : IsServing rel begin now old)
    → MatchBool up (HasTurned rel begin now is.after new) (IsServing rel begin now new)

-- All of its output was written, and all octets were used; then the link has given these.
abbrev pub TakesServing : {H W : Type 0} → Relations H W → (octets : List ℕ)
    → (old new : Connection H W) → Type 0
TakesServing {H} rel octets old new =
    (begin : Beginning H) (before now : Traffic) (is : HasWritten rel begin before old)
    → Appends before.given now.given octets → Appends before.taken now.taken []
    → (then : IsServing rel begin now new)
    × (length is.serving.after.log.turns ≤ length then.after.log.turns)

-- All that can be sent is written, and a turn has passed; or it can't be.
abbrev pub SendsServing : {H W : Type 0} → Relations H W → (before now : Traffic)
    → (old new : Connection H W) → Result (Unit {0}) LinkError → Type 0
SendsServing {H} rel before now old new (Ok done) =
    (begin : Beginning H) (is : IsServing rel begin before old)
    → (written : HasWritten rel begin now new)
    × (length is.after.log.turns < length written.serving.after.log.turns)
SendsServing {H} rel before now old new (Err error) =
    (begin : Beginning H) → IsServing rel begin before old
    → HasStoppedServing rel begin now new error

-- It is served until the input ends; then all of its output was written.
abbrev pub DrivesServing : {H W : Type 0} → Relations H W → (before now : Traffic)
    → (old new : Connection H W) → Result (Unit {0}) LinkError → Type 0
DrivesServing {H} rel before now old new (Ok done) =
    (begin : Beginning H) → IsServing rel begin before old → HasWritten rel begin now new
DrivesServing {H} rel before now old new (Err error) =
    (begin : Beginning H) → IsServing rel begin before old
    → HasStoppedServing rel begin now new error

-- One that is down can't go on, and ends so.
abbrev pub EndsServingFor : {H W : Type 0} → Relations H W → (before now : Traffic)
    → (old new : Connection H W) → LinkError → Type 0
EndsServingFor {H} rel before now old new error =
    (begin : Beginning H) → IsServing rel begin before old
    → HasStoppedServing rel begin now new error

-- The transport of a connection is gone: its handler has been told that each exchange is over.
-- rule: handlers (own) Of each exchange a handler learns once that it is over, and why
pub record IsLost {H W : Type 0} (rel : Relations H W) (old new : Connection H W) : Type 0 where
  pub calls : Calls rel owns.Lost [] old new
  pub loses : LosesSo rel old new
  pub told : IsEmptied (handling_of new.exchanges)

-- How serving a connection has ended: its input has ended where it may, all of that was used and
-- all of the output was taken, and each request was answered whole or its stream reset; or it has
-- ended where it may not; or before that. Then of each exchange the handler has learned that it is
-- over.
-- rule: engines (own) A handler answers over any link
pub data HasServed {H W : Type 0} (rel : Relations H W) (begin : Beginning H) (now : Traffic)
    : Result ℕ LinkError → Type 0 where
  is_served : (connection lost : Connection H W) (is : HasWritten rel begin now connection)
      → IsLost rel connection lost → IsInputWhole is.serving.after.log
      → AnswersEach is.serving.after
      → HasServed rel begin now (Ok connection.exchanges.totals.requests)
  is_cut_off : (connection lost : Connection H W) (is : HasWritten rel begin now connection)
      → IsLost rel connection lost → IsInputCut is.serving.after.log
      → HasServed rel begin now (Err errors.CutOff)
  has_stopped : (connection lost : Connection H W) (error : LinkError)
      → HasStoppedServing rel begin now connection error → IsLost rel connection lost
      → HasServed rel begin now (Err error)
  lacks_memory : now ≡ begin.start → HasServed rel begin now (Err errors.Memory)

abbrev pub ServesBy : {H W : Type 0} → Relations H W → Values → H → (before now : Traffic)
    → Result ℕ LinkError → Type 0
ServesBy {H} rel values handler before now result =
    HasServed rel (record { values = values; handler = handler; start = before }) now result
