-- Pairs in which memory was not refused and the layer above made no connection fail; and what
-- neither end of such a pair reports (RFC 9113, section 5.4).
use Rattle.std.specs.Prelude.{◌≡◌, ◌≢◌, ◌⊎◌, ℕ, true, false, List, None}
use Rattle.std.specs.List.{Contains}
use Rattle.h2_spec_log.specs.Acts.{Values, Act, Answer, ResetStream, Refuse, Fail, Done}
use Rattle.h2_spec_log.specs.Acts.{OutOfMemory}
use Rattle.h2_spec_log.specs.Events.{ResetEvent}
use Rattle.h2_spec_log.specs.Log.{Log}
use Rattle.h2_spec_log.specs.LogView.{log_view}
use Rattle.h2_spec_log.specs.CallRules.{refusal_of, refuse_fault}
use Rattle.h2_laws_machine.specs.Machines.{MachineStep, runs_out_of_memory}
use Rattle.h2_laws_pair.specs.Pairs.{Half, HalfStep, calls, takes, loses, IsPair, begins}
use Rattle.h2_laws_pair.specs.Pairs.{client_steps, server_steps}

-- Where the layer above refuses a stream, the stream is reset, and the connection does not fail;
-- nor does that layer end it.
abbrev pub LeavesUp : Log → Act → Type 0
LeavesUp log (Refuse id code) =
    refusal_of (log_view log) (Refuse id code) ≡ None → refuse_fault (log_view log) code ≡ None
LeavesUp log (Fail code) = refusal_of (log_view log) (Fail code) ≡ None → ⊥
LeavesUp log act = Unit {0}

-- The connection does not fail in the step because it is out of memory, nor by the layer above. A
-- call may be refused when out of memory.
unfoldable pub IsUndisturbedStep : (one other : Half) → {new_one new_other : Half}
    → HalfStep one other new_one new_other → Type 0
IsUndisturbedStep one other (calls act answer typed may) =
    (answer ≢ OutOfMemory) × LeavesUp one.log act
IsUndisturbedStep one other (takes step rest may no_call incoming) =
    (octets : List ℕ) → step ≢ runs_out_of_memory octets
IsUndisturbedStep one other (loses octets rest failed incoming) = Unit {0}

-- So it was in each step of the pair.
unfoldable pub IsUndisturbed : {client_values server_values : Values} → {client server : Half}
    → IsPair client_values server_values client server → Type 0
IsUndisturbed (begins client_range server_range) = Unit {0}
IsUndisturbed (client_steps before step) = IsUndisturbed before × IsUndisturbedStep _ _ step
IsUndisturbed (server_steps before step) = IsUndisturbed before × IsUndisturbedStep _ _ step

-- A call asked for a reset of the stream, with the code, and was accepted.
abbrev pub WasAsked : List (Act × Answer) → (id code : ℕ) → Type 0
WasAsked asked id code =
    Contains asked (ResetStream id code, Done) ⊎ Contains asked (Refuse id code, Done)

-- The connection has not failed, no stream was reset for a fault of the peer's, and whatever stream
-- the peer has reset, that was asked of the peer.
pub record IsFaultless (log other : Log) : Type 0 where
  pub up : log.failed ≡ None
  pub no_stream_fault : (id code : ℕ) → Contains log.reported (ResetEvent id code true) → ⊥
  pub asked : (id code : ℕ) → Contains log.reported (ResetEvent id code false)
      → WasAsked other.calls id code
