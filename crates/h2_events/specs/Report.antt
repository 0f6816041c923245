-- What the status of `h2 replay` reports of its input.
use Rattle.std.specs.Prelude.{◌≡◌, ◌≢◌, ℕ, List, ◌++◌, map, Option, Some, None, Ok, MatchBool}
use Rattle.hex.specs.Hex.{decode_of}
use Rattle.h2_frame.specs.declared.code.Code.{Code}
use Rattle.h2_frame.specs.declared.code.Code.TheVariants.{InternalError}
use Rattle.h2_cli.specs.declared.status.Status.{Status}
use Rattle.h2_cli.specs.declared.status.Status.TheVariants as statuses
use Rattle.h2_cli.specs.Hexadecimal.{without_blanks}
use Rattle.h2_spec_log.specs.declared.role.Role.{Role}
use Rattle.h2_spec_log.specs.Acts.{Turn}
use Rattle.h2_spec_log.specs.Log.{Log}
use Rattle.h2_laws_end.specs.Replays.{Take, IsReplay}
use Rattle.h2_events.specs.declared.options.ReplayOptions.{ReplayOptions}
use Rattle.h2_events.specs.Replayer.{first_values, joined_pieces}

-- The octets were handed to `take` of a new end in these pieces, the newest first, and no other
-- call was made; and this is the end's log then.
-- rule: replay (own) The status is 0 only where an end took the whole input
pub record IsReplayOf (role : Role) (octets : List ℕ) (log : Log) : Type 0 where
  pub pieces : List (List ℕ)
  pub turns : List Turn
  pub replay : IsReplay role first_values (map Take pieces) log turns
  pub all : joined_pieces pieces ≡ octets

-- The end took all of the octets, and hasn't failed.
-- rule: replay (own) The status is 0 only where an end took the whole input
pub record TakesInput (role : Role) (octets : List ℕ) : Type 0 where
  pub log : Log
  pub replay : IsReplayOf role octets log
  pub up : log.failed ≡ None

-- The end took the first of the octets, and failed in them with this code, which isn't that of an
-- end without memory.
-- rule: replay (own) The status is 1 only where that end has failed
pub record FailsInInput (role : Role) (octets : List ℕ) (code : Code) : Type 0 where
  pub taken : List ℕ
  pub unread : List ℕ
  pub split : octets ≡ taken ++ unread
  pub log : Log
  pub replay : IsReplayOf role taken log
  pub failed : log.failed ≡ Some code
  pub theirs : code ≢ InternalError

-- what came of the octets, by the code with which the connection failed
abbrev pub ReplayReports : Role → List ℕ → Option Code → Type 0
ReplayReports role octets None = TakesInput role octets
ReplayReports role octets (Some code) = FailsInInput role octets code

-- the status, by the code with which the connection failed
-- rule: replay (own) The status is 1 only where that end has failed
abbrev pub replay_status : Option Code → Status
replay_status None = statuses.Good
replay_status (Some code) = statuses.Fault

-- What the status reports of the octets.
abbrev pub ReplayReportsOctets : Role → List ℕ → Status → Type 0
ReplayReportsOctets role octets statuses.Good = TakesInput role octets
ReplayReportsOctets role octets statuses.Fault = (code : Code) × FailsInInput role octets code
ReplayReportsOctets role octets statuses.Usage = ⊥
ReplayReportsOctets role octets statuses.Device = ⊥
ReplayReportsOctets role octets statuses.Memory = ⊥

-- What the status reports of text that gives the octets in hexadecimal.
abbrev pub ReplayReportsText : Role → List ℕ → Status → Type 0
ReplayReportsText role text status =
    (octets : List ℕ) × (decode_of (without_blanks text) ≡ Ok octets)
    × ReplayReportsOctets role octets status

-- What the status reports of the input.
-- rule: replay (own) The status is 0 only where an end took the whole input
abbrev pub ReplayReportsInput : ReplayOptions → List ℕ → Status → Type 0
ReplayReportsInput options given status =
    MatchBool options.hex
    (ReplayReportsText options.role given status)
    (ReplayReportsOctets options.role given status)
