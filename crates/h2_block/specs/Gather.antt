-- What a gatherer is between calls, and what each call makes of it, whatever the frames have been
-- so far.
-- contract: h2_block::Gather::take
use Rattle.std.specs.Prelude.{◌≡◌, List, [], ◌∷◌, ◌++◌, Option, Some, None, MatchOption, Result, Ok}
use Rattle.std.specs.Prelude.{Err}
use Rattle.h2_frame.specs.declared.code.Code.{Code}
use Rattle.h2_frame.specs.declared.code.Code.TheVariants.{ProtocolError, InternalError}
use Rattle.h2_frame.specs.declared.code.Code.TheVariants.{EnhanceYourCalm}
use Rattle.h2_frame.specs.Frames.{Frame, frame_of}
use Rattle.h2_frame.specs.declared.frame.FrameRef.{FrameRef}
use Rattle.h2_block.specs.declared.fault.BlockFault.{BlockFault}
use Rattle.h2_block.specs.declared.fault.BlockFault.TheVariants as faults
use Rattle.h2_block.specs.declared.gathered.Gathered.{Gathered}
use Rattle.h2_block.specs.declared.gathered.Gathered.TheVariants.{Pass, More, Block}
use Rattle.h2_block.specs.Grouping.{Item, alone, block, Begun, Groups, next_fault, GroupingFaultAt}

-- a gatherer between calls
pub record GatherState : Type 0 where
  -- the block that has begun
  pub begun : Option Begun
  -- the fault that ended the frames
  pub fault : Option BlockFault

-- The gatherer represents the frames so far, which are the items, and then what has begun.
-- rule: 4.3 (own) A gatherer says what it holds of a block, and if it is inside one
pub record GatherRepresents (state : GatherState) (frames : List Frame)
    (items : List Item) : Type 0 where
  pub sound : state.fault ≡ None
  pub split : Groups frames items state.begun

-- the items that a call answered: one or none
abbrev pub gathered_items : Gathered → List Item
gathered_items (Pass frame) = alone (frame_of frame) ∷ []
gathered_items More = []
gathered_items (Block stream end octets) = block stream end octets.items ∷ []

-- After a call that took the frame: if the gatherer represented `frames` and `items`, it now
-- represents `frames` with this one appended, and `items` with what was answered appended.
abbrev pub GatherContinues : GatherState → Frame → Gathered → GatherState → Type 0
GatherContinues old frame gathered new =
    (frames : List Frame) (items : List Item) → GatherRepresents old frames items
    → GatherRepresents new (frames ++ frame ∷ []) (items ++ gathered_items gathered)

-- After a call that met the fault: if the gatherer represented `frames` and `items`, then `frames`
-- with this one appended are at fault, right after `items`.
-- rule: 5.4.1 After a fault each layer answers that fault and changes nothing
pub record GatherFaults (old : GatherState) (frame : Frame) (fault : BlockFault)
    (new : GatherState) : Type 0 where
  pub known : new.fault ≡ Some fault
  pub none_begun : new.begun ≡ None
  pub faulty : next_fault old.begun frame ≡ Some fault
  pub at : (frames : List Frame) (items : List Item) → GatherRepresents old frames items
      → GroupingFaultAt (frames ++ frame ∷ []) items fault

-- What a call that fails leaves. Lack of memory changes nothing, and after a fault the gatherer
-- stays as it is.
-- rule: 5.4.1 After a fault each layer answers that fault and changes nothing
abbrev pub GatherFails : GatherState → Frame → BlockFault → GatherState → Type 0
GatherFails old frame faults.Memory new = new ≡ old
GatherFails old frame faults.Interrupted new =
    MatchOption old.fault (GatherFaults old frame faults.Interrupted new) (λ known. new ≡ old)
GatherFails old frame faults.Stray new =
    MatchOption old.fault (GatherFaults old frame faults.Stray new) (λ known. new ≡ old)
GatherFails old frame faults.TooLong new =
    MatchOption old.fault (GatherFaults old frame faults.TooLong new) (λ known. new ≡ old)

-- what a call makes of the gatherer
abbrev pub GatherTakes : GatherState → Frame → Result Gathered BlockFault → GatherState → Type 0
GatherTakes old frame (Ok gathered) new = GatherContinues old frame gathered new
GatherTakes old frame (Err fault) new = GatherFails old frame fault new

-- A frame at fault is reported.
abbrev pub ReportsFault : Option Begun → Frame → Result Gathered BlockFault → Type 0
ReportsFault begun frame result =
    (fault : BlockFault) → next_fault begun frame ≡ Some fault → result ≡ Err fault

-- What is passed on is the frame itself.
abbrev pub PassesItself : FrameRef → Result Gathered BlockFault → Type 0
PassesItself frame result = (other : FrameRef) → result ≡ Ok (Pass other) → other ≡ frame

-- Nothing is passed on.
abbrev pub PassesNothing : Result Gathered BlockFault → Type 0
PassesNothing result = (other : FrameRef) → result ≡ Ok (Pass other) → ⊥

-- After a block that was answered none has begun.
abbrev pub LeavesNone : Result Gathered BlockFault → GatherState → Type 0
LeavesNone (Ok (Block stream end octets)) new = new.begun ≡ None
LeavesNone (Ok (Pass frame)) new = Unit {0}
LeavesNone (Ok More) new = Unit {0}
LeavesNone (Err fault) new = Unit {0}

-- the code with which the connection ends: a block that is interrupted or stray is a PROTOCOL_ERROR
-- (RFC 9113, section 6.10), one that is too long an ENHANCE_YOUR_CALM (section 10.5), and lack of
-- memory an INTERNAL_ERROR
-- rule: 6.10 Inside a block any frame but its CONTINUATION is PROTOCOL_ERROR
-- rule: 10.5 (own) A block of more than 65,552 octets is ENHANCE_YOUR_CALM
-- rule: 5.4 (own) Out of memory is INTERNAL_ERROR
abbrev pub block_fault_code : BlockFault → Code
block_fault_code faults.Interrupted = ProtocolError
block_fault_code faults.Stray = ProtocolError
block_fault_code faults.TooLong = EnhanceYourCalm
block_fault_code faults.Memory = InternalError
