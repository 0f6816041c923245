-- How a cutter keeps its state: what a buffer represents, and what is true of it between calls.
use Rattle.std.specs.Prelude.{◌≡◌, ℕ, ◌+◌, ◌^◌, ◌<◌, ◌≤◌, Bool, true, false, List, [], length, take}
use Rattle.std.specs.Prelude.{Option, None, Some}
use Rattle.h2_frame.specs.declared.heads.Head.{Head}
use Rattle.h2_frame.specs.Heads.{head_of, form_fault}
use Rattle.h2_wire.specs.declared.fault.WireFault.{WireFault}
use Rattle.h2_wire.specs.declared.buffer.Buffer.{Buffer}
use Rattle.h2_wire.specs.declared.buffer.Phase.{Phase}
use Rattle.h2_wire.specs.declared.buffer.Phase.TheVariants as phases
use Rattle.h2_wire.specs.Faults.{is_bad_preface}
use Rattle.h2_wire.specs.Streams.{preface}
use Rattle.h2_wire.specs.Cutter.{CutterState}

-- what was used and isn't part of a frame that was answered
abbrev pub unparsed_of : Phase → List ℕ → List ℕ
unparsed_of (phases.Preface matched) octets = take matched preface
unparsed_of phases.Head octets = octets
unparsed_of (phases.Payload head) octets = octets
unparsed_of phases.Lent octets = []
unparsed_of (phases.Failed fault) octets = []

-- whether the preface is expected and not complete
-- rule: 3.4 (own) No octet of the preface is stored, so memory is not refused in it
abbrev pub is_in_preface : Phase → Bool
is_in_preface (phases.Preface matched) = true
is_in_preface phases.Head = false
is_in_preface (phases.Payload head) = false
is_in_preface phases.Lent = false
is_in_preface (phases.Failed fault) = is_bad_preface fault

-- the fault that ended the stream
abbrev pub fault_of : Phase → Option WireFault
fault_of (phases.Preface matched) = None
fault_of phases.Head = None
fault_of (phases.Payload head) = None
fault_of phases.Lent = None
fault_of (phases.Failed fault) = Some fault

-- the state that a buffer represents
abbrev pub state_of : Buffer → CutterState
state_of buffer =
    record {
      limit = buffer.limit;
      greatest = buffer.greatest;
      in_preface = is_in_preface buffer.phase;
      unparsed = unparsed_of buffer.phase buffer.octets.items;
      kept = buffer.octets.items;
      place = buffer.place;
      fault = fault_of buffer.phase;
    }

-- The octets begin with this head, which has no fault of its form and a length of at most the
-- greatest limit, and are less than its frame. The limit may have been lowered since the head came.
pub record IsPartialPayload (greatest : ℕ) (head : Head) (octets : List ℕ) : Type 0 where
  pub nine : 9 ≤ length octets
  pub is_head : head ≡ head_of octets
  pub bounded : head.length < 2 ^ 24
  pub form : form_fault head ≡ None
  pub within : head.length ≤ greatest
  pub short : length octets < 9 + head.length

-- the octets that are kept fit the phase, where the limits of payloads had this as the greatest
abbrev pub FitsPhase : ℕ → Phase → List ℕ → Type 0
FitsPhase greatest (phases.Preface matched) octets = (matched < 24) × (octets ≡ [])
FitsPhase greatest phases.Head octets = length octets < 9
FitsPhase greatest (phases.Payload head) octets = IsPartialPayload greatest head octets
FitsPhase greatest phases.Lent octets = Unit {0}
FitsPhase greatest (phases.Failed fault) octets = Unit {0}

-- what is true of a buffer between calls
pub record BufferInvariant (buffer : Buffer) : Type 0 where
  pub within : buffer.limit ≤ buffer.greatest
  pub fits : FitsPhase buffer.greatest buffer.phase buffer.octets.items
