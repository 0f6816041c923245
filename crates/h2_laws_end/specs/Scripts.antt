-- What happened to an end, octet by octet, however the octets were cut into pieces: the octets that
-- were used, the calls with their answers, the streams that were reported as unprocessed, and where
-- memory was refused, in order.
use Rattle.std.specs.Prelude.{◌≡◌, ℕ, Bool, true, false, List, [], ◌∷◌, ◌++◌}
use Rattle.std.specs.Prelude.{map as each}
use Rattle.h2_spec_log.specs.declared.role.Role.{Role}
use Rattle.h2_spec_log.specs.Acts.{Values, Act, Answer}
use Rattle.h2_spec_log.specs.Log.{Log}
use Rattle.h2_spec_log.specs.LogSteps.{limits_from}
use Rattle.h2_spec_log.specs.Histories.{IsLog, begins, took_some, took_one, met_fault}
use Rattle.h2_spec_log.specs.Histories.{ran_out_of_memory, reported_one, called_one, LacksMemory}
use Rattle.h2_spec_log.specs.Histories.{MayRunOutOfMemory, to_report, to_keep, to_take}

pub data Mark : Type 0 where
  -- an octet was used
  Octet : (octet : ℕ) → Mark
  -- a call was answered
  Call : (act : Act) (answer : Answer) → Mark
  -- a stream was reported that the peer doesn't process
  Unprocessed : Mark
  -- memory was refused; in_frame: for the frame that ended with the octet before, which isn't read
  OutOfMemory : (in_frame : Bool) → Mark

-- Whether memory was refused for a frame that had ended.
abbrev pub lacks_in_frame : {role : Role} → {log : Log} → {octets unused : List ℕ}
    → LacksMemory role log octets unused → Bool
lacks_in_frame (to_report none some due) = false
lacks_in_frame (to_keep none takes keeps) = false
lacks_in_frame (to_take takes frame ends needs) = true

abbrev pub is_in_frame : {role : Role} → {log : Log} → {octets : List ℕ}
    → MayRunOutOfMemory role log octets → Bool
is_in_frame may = lacks_in_frame may.1

-- the marks of a log's history, the first one first
-- rule: 4.1 The frames of a stream do not depend on the pieces of its octets
unfoldable pub script_of : {role : Role} → {values : Values} → {log : Log}
    → IsLog role values log → List Mark
script_of (begins in_range) = []
script_of (took_some is takes octets unparsed part) = script_of is ++ each Octet octets
script_of (took_one is takes octets frame decoded ends decodes) =
    script_of is ++ each Octet octets
script_of (met_fault is takes octets fault meets) = script_of is ++ each Octet octets
script_of (ran_out_of_memory is up octets may) =
    script_of is ++ (each Octet octets ++ OutOfMemory (is_in_frame may) ∷ [])
script_of (reported_one is up next) = script_of is ++ Unprocessed ∷ []
script_of (called_one is act answer typed may) = script_of is ++ Call act answer ∷ []

-- a log without its turns, which say where the pieces ended; the limit of payloads of all octets
-- that are still to come is the one that is in force
abbrev pub without_turns : Log → Log
without_turns log = record log { limits = limits_from log; turns = [] }

-- The logs are the same but for their turns.
-- rule: 4.1 The frames of a stream do not depend on the pieces of its octets
abbrev pub AreSameButTurns : Log → Log → Type 0
AreSameButTurns log other = without_turns log ≡ without_turns other
