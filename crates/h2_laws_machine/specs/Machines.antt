-- What calls and other steps make of a machine.
use Rattle.std.specs.Prelude.{◌≡◌, ◌≢◌, ℕ, List, Option, None}
use Rattle.h2_frame.specs.declared.code.Code.TheVariants.{InternalError}
use Rattle.h2_frame.specs.Frames.{Frame}
use Rattle.h2_wire.specs.declared.fault.WireFault.{WireFault}
use Rattle.h2_wire.specs.Faults.{wire_fault_code}
use Rattle.h2_spec_log.specs.Acts.{Act, Answer, Number, Count, Done, OutOfMemory, Refused}
use Rattle.h2_spec_log.specs.Acts.{IsTypedAct}
use Rattle.h2_spec_log.specs.ItemRules.{Decoded}
use Rattle.h2_spec_log.specs.Log.{Log, next_unprocessed}
use Rattle.h2_spec_log.specs.LogSteps.{took_part, took_frame, took_fault, took_out_of_memory}
use Rattle.h2_spec_log.specs.LogSteps.{took_none}
use Rattle.h2_spec_log.specs.LogCalls.{MayAnswer, with_call}
use Rattle.h2_spec_log.specs.Histories.{TakesOctets, TakesPart, TakesFrame, TakesFault}
use Rattle.h2_spec_log.specs.Histories.{IsDecodedFor, MayRunOutOfMemory}
use Rattle.h2_spec_machine.specs.End.{End}
use Rattle.h2_spec_machine.specs.Machine.{after_call, after_frame, fail, close_unprocessed}
use Rattle.h2_spec_machine.specs.Machine.{unprocessed_of_end}

-- A call that is refused changes nothing; one that is out of memory makes the connection fail;
-- any other is accepted.
unfoldable pub end_after : End → Act → Answer → End
end_after e act (Refused refusal) = e
end_after e act OutOfMemory = fail InternalError e.streams.last_processed e
end_after e act (Number id) = after_call e act
end_after e act (Count count) = after_call e act
end_after e act Done = after_call e act

-- A step of a log, and what it makes of a machine that represents the log.
pub data MachineStep : Type 0 where
  -- octets were used, and no frame ended with them; these are left
  uses_part : (octets unparsed : List ℕ) → MachineStep
  -- octets were used, with whose last a frame ended
  ends_frame : (octets : List ℕ) (frame : Frame) (decoded : Option Decoded) → MachineStep
  -- octets were used, whose last makes a fault of the stream
  meets_fault : (octets : List ℕ) (fault : WireFault) → MachineStep
  -- octets were used, and memory was refused
  runs_out_of_memory : (octets : List ℕ) → MachineStep
  -- a stream was reported that the peer doesn't process
  reports_unprocessed : MachineStep
  is_called : (act : Act) (answer : Answer) → MachineStep

-- The step may be the next one of the log.
unfoldable pub MayStep : Log → MachineStep → Type 0
MayStep log (uses_part octets unparsed) = TakesOctets log × TakesPart log.role log octets unparsed
MayStep log (ends_frame octets frame decoded) =
    TakesOctets log × TakesFrame log.role log octets frame × IsDecodedFor log decoded frame
MayStep log (meets_fault octets fault) = TakesOctets log × TakesFault log.role log octets fault
MayStep log (runs_out_of_memory octets) =
    (log.failed ≡ None) × MayRunOutOfMemory log.role log octets
MayStep log reports_unprocessed = (log.failed ≡ None) × (next_unprocessed log ≢ 0)
MayStep log (is_called act answer) = IsTypedAct act × MayAnswer log act answer

-- the log after the step
unfoldable pub log_after : Log → MachineStep → Log
log_after log (uses_part octets unparsed) = took_part log octets unparsed
log_after log (ends_frame octets frame decoded) = took_frame log octets decoded frame
log_after log (meets_fault octets fault) = took_fault log octets fault
log_after log (runs_out_of_memory octets) = took_out_of_memory log octets
log_after log reports_unprocessed = took_none log
log_after log (is_called act answer) = with_call log act answer

-- the machine after the step; which stream is unprocessed it says itself
unfoldable pub machine_after : End → MachineStep → End
machine_after e (uses_part octets unparsed) = e
machine_after e (ends_frame octets frame decoded) = after_frame e decoded frame
machine_after e (meets_fault octets fault) = fail (wire_fault_code fault)
    e.streams.last_processed e
machine_after e (runs_out_of_memory octets) = fail InternalError e.streams.last_processed e
machine_after e reports_unprocessed = close_unprocessed e
    (unprocessed_of_end e.role e.streams.entries e.goaway.received)
machine_after e (is_called act answer) = end_after e act answer
