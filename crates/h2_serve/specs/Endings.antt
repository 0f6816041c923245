-- How a connection that a handler serves over a link ends.
use Rattle.std.specs.Prelude.{◌≡◌, ◌≢◌, ◌⊎◌, ℕ, Bool, Some, None, Result, Ok, Err, MatchBool}
use Rattle.h2_frame.specs.declared.code.Code.{Code}
use Rattle.h2_spec_log.specs.Acts.{Values}
use Rattle.h2_spec_log.specs.Log.{Log}
use Rattle.h2_conn.specs.declared.conn.Conn.{Conn}
use Rattle.h2_conn.specs.Conn.{ConnRepresents}
use Rattle.h2_host.specs.declared.party.Bound.TheVariants.{Memory}
use Rattle.h2_link.specs.declared.error.LinkError.{LinkError}
use Rattle.h2_link.specs.declared.error.LinkError.TheVariants as errors
use Rattle.h2_engines.specs.Failures.{HasNoConnectionFault}
use Rattle.h2_engines.specs.ServerSteps.{error_with}
use Rattle.h2_engines.specs.Serves.{IsAtRest, IsCutOff}
use Rattle.h2_server.specs.declared.connection.Connection.{Connection}
use Rattle.h2_server.specs.declared.reason.CloseReason.TheVariants.{Refused}
use Rattle.h2_server.specs.Phases.{reason_of}

-- It ends so while it is driven: not with N4, N6 and N7.
abbrev pub IsOfDriving : LinkError → Type 0
IsOfDriving (errors.Reset code) = ⊥
IsOfDriving errors.Refused = ⊥
IsOfDriving errors.CutOff = ⊥
IsOfDriving error = Unit {0}

-- It was closed because an allocation was refused.
abbrev pub IsClosedForMemory : {H W : Type 0} → Connection H W → Type 0
IsClosedForMemory connection = reason_of connection.phase ≡ Some (Refused Memory)

-- Whatever has happened at its server, the error of one that has ended is N3 where it was closed
-- because an allocation was refused; else that of the code with which it has failed, or N3 where
-- its server is up or lacked memory.
-- rule: engines (own) N2 has the code with which the connection failed; memory is N3
abbrev pub IsErrorOf : {H W : Type 0} → Connection H W → LinkError → Type 0
IsErrorOf connection (errors.Stream number) =
    (IsClosedForMemory connection → ⊥)
    × ((values : Values) (log : Log) → ConnRepresents values connection.server.end.conn log
    → (code : Code) × (log.failed ≡ Some code) × (errors.Stream number ≡ error_with code))
IsErrorOf connection errors.Memory =
    IsClosedForMemory connection ⊎ ((values : Values) (log : Log)
    → ConnRepresents values connection.server.end.conn log → HasNoConnectionFault log)
IsErrorOf connection error = ⊥

-- The input has ended where it may: no stream is active, and no part is held of the preface, of a
-- frame or of a field block (RFC 9113, section 4.3).
-- rule: engines (own) N4 comes only where the input ended early
pub record IsInputWhole (log : Log) : Type 0 where
  pub rests : IsAtRest log
  pub no_block : log.begun ≡ None

-- The connection is up, and the input has ended where it may not.
-- rule: engines (own) N4 comes only where the input ended early
abbrev pub IsInputCut : Log → Type 0
IsInputCut log = IsCutOff log ⊎ ((log.failed ≡ None) × (log.begun ≢ None))

-- Whatever has happened at an end that is up, whether a part of a frame is held or a stream active.
-- rule: engines (own) N4 comes only where the input ended early
abbrev pub IsUnfinishedSo : Conn → Bool → Type 0
IsUnfinishedSo conn answer =
    (values : Values) (log : Log) → ConnRepresents values conn log → log.failed ≡ None
    → MatchBool answer (IsCutOff log) (IsAtRest log)

-- Whatever has happened at an end that is up, whether its input has ended where it may not.
-- rule: engines (own) N4 comes only where the input ended early
abbrev pub IsCutOffSo : Conn → Bool → Type 0
IsCutOffSo conn answer =
    (values : Values) (log : Log) → ConnRepresents values conn log → log.failed ≡ None
    → MatchBool answer (IsInputCut log) (IsInputWhole log)

-- How many requests have come to a connection whose input has ended where it may; or with which
-- error it has ended: that of a connection that has failed, or N4.
abbrev pub CountsServed : {H W : Type 0} → Connection H W → Result ℕ LinkError → Type 0
CountsServed connection (Ok count) =
    (count ≡ connection.exchanges.totals.requests) × ((values : Values) (log : Log)
    → ConnRepresents values connection.server.end.conn log → IsInputWhole log)
CountsServed connection (Err errors.CutOff) =
    (values : Values) (log : Log) → ConnRepresents values connection.server.end.conn log
    → IsInputCut log
CountsServed connection (Err error) = IsErrorOf connection error
