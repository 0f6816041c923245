-- An end after a piece was handed to it.
use Rattle.std.specs.Prelude.{◌≡◌, ◌≢◌, ℕ, List, map, drop, Option, Some, None}
use Rattle.h2_frame.specs.declared.code.Code.{Code}
use Rattle.h2_frame.specs.declared.code.Code.TheVariants.{InternalError}
use Rattle.h2_cli.specs.declared.failure.Failure.TheVariants as failures
use Rattle.h2_spec_log.specs.declared.role.Role.{Role}
use Rattle.h2_spec_log.specs.Acts.{Values, Turn}
use Rattle.h2_spec_log.specs.Log.{Log}
use Rattle.h2_laws_end.specs.Replays.{Take, TakesAll, IsReplay, octets_of_acts}
use Rattle.h2_conn.specs.declared.conn.Conn.{Conn}
use Rattle.h2_conn.specs.Conn.{ConnRepresents}
use Rattle.h2_events.specs.declared.replayer.ReplayError.{ReplayError}
use Rattle.h2_events.specs.declared.replayer.ReplayError.TheVariants.{Fault, Failed}

-- the first values of an end's settings (RFC 9113, section 6.5.2), and 100 streams (own)
-- rule: replay (own) The status is 0 only where an end took the whole input
abbrev pub first_values : Values
first_values =
    record { table_limit = 4096; initial_window = 65535; max_streams = 100; max_frame = 16384 }

-- the octets of pieces, of which the newest stands first
abbrev pub joined_pieces : List (List ℕ) → List ℕ
joined_pieces pieces = octets_of_acts (map Take pieces)

-- The end was new, took these pieces, the newest first, and no other call was made; and it hasn't
-- failed.
pub record EndReplays (role : Role) (pieces : List (List ℕ)) (conn : Conn) : Type 0 where
  pub log : Log
  pub turns : List Turn
  pub represents : ConnRepresents first_values conn log
  pub replay : IsReplay role first_values (map Take pieces) log turns
  pub up : log.failed ≡ None

-- Whatever log it represents: `take` was called until the piece was used and nothing more was
-- reported, or until the connection failed with a code.
-- rule: replay (own) The status is 0 only where an end took the whole input
abbrev pub HandsPiece : Conn → List ℕ → Option Code → Conn → Type 0
HandsPiece old piece fault new =
    (values : Values) (log : Log) → ConnRepresents values old log
    → (after : Log) × TakesAll log piece fault after × ConnRepresents values new after

-- The same of a prefix of the piece: what comes of the octets after it comes of the piece.
abbrev pub TakesPrefix : Conn → List ℕ → ℕ → Conn → Type 0
TakesPrefix old piece done new =
    (values : Values) (log : Log) → ConnRepresents values old log
    → (between : Log) × ConnRepresents values new between
    × ((fault : Option Code) (after : Log) → TakesAll between (drop done piece) fault after
    → TakesAll log piece fault after)

-- The connection has failed with the code: for a fault of the peer, or out of memory.
-- rule: replay (own) The status is 1 only where that end has failed
abbrev pub ReportsCode : Code → ReplayError → Type 0
ReportsCode code (Fault other) = (other ≡ code) × (code ≢ InternalError)
ReportsCode code (Failed failure) = (code ≡ InternalError) × (failure ≡ failures.Memory)

-- The error is a failure: no fault of the peer, and not that the input isn't hexadecimal.
abbrev pub IsFailed : ReplayError → Type 0
IsFailed (Fault code) = ⊥
IsFailed (Failed failure) = failure ≢ failures.BadHex

-- what an error of handing a piece to an end says of the end; a failure says nothing of it
abbrev pub ReplayErrorReports : Conn → List ℕ → ReplayError → Conn → Type 0
ReplayErrorReports old piece (Fault code) new =
    HandsPiece old piece (Some code) new × (code ≢ InternalError)
ReplayErrorReports old piece (Failed failure) new = failure ≢ failures.BadHex
