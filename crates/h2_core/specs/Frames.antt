-- The end after a call that takes a frame, and the call's result.
use Rattle.std.specs.Prelude.{not, ◌&&◌, true, false}
use Rattle.std.specs.Prelude.{◌≡◌, ◌⊎◌, List, [], Option, Some, None, Result, Ok, Err}
use Rattle.hpack.specs.Blocks.{Block}
use Rattle.hpack.specs.Lists.{NoBlock}
use Rattle.hpack.specs.declared.types.field.Field.{Field}
use Rattle.h2_frame.specs.declared.code.Code.{Code}
use Rattle.h2_frame.specs.declared.code.Code.TheVariants.{InternalError}
use Rattle.h2_frame.specs.Frames.{Frame}
use Rattle.h2_block.specs.Grouping.{alone, block}
use Rattle.h2_spec_log.specs.Events.{Event}
use Rattle.h2_spec_log.specs.ItemRules.{Decoded, FrameStep, fails_with, begins_block, completes}
use Rattle.h2_spec_log.specs.ItemRules.{frame_step, may_be_first}
use Rattle.h2_spec_log.specs.Memory.{step_needs_memory}
use Rattle.h2_spec_machine.specs.End.{End, end_view}
use Rattle.h2_spec_machine.specs.Machine.{after_frame, with_begun, fail}
use Rattle.h2_core.specs.declared.endpoint.Endpoint.{Endpoint}
use Rattle.h2_core.specs.Events.{FrameEvent}
use Rattle.h2_core.specs.Failure.{FailsAlike}
use Rattle.h2_core.specs.Items.{events_reported, item_events}

-- `decoded` is what the field block that a frame completes says at the end's table and limit, or
-- nothing where it says nothing. Nothing is decoded of anything else.
abbrev pub IsDecodedBy : End → Option Decoded → FrameStep → Type 0
IsDecodedBy e None (completes (block stream end octets)) =
    NoBlock e.reading.table e.own.in_force.table_limit octets
IsDecodedBy e (Some decoded) (completes (block stream end octets)) =
    Block e.reading.table e.own.in_force.table_limit octets decoded.fields decoded.after
IsDecodedBy e decoded (completes (alone frame)) = decoded ≡ None
IsDecodedBy e decoded (begins_block begun) = decoded ≡ None
IsDecodedBy e decoded (fails_with code) = decoded ≡ None

-- what is reported of a frame
abbrev pub step_events : End → Option Decoded → FrameStep → List Event
step_events e decoded (fails_with code) = []
step_events e decoded (begins_block begun) = []
step_events e decoded (completes item) = item_events (with_begun e None) decoded item

abbrev pub frame_events : End → Option Decoded → Frame → List Event
frame_events e decoded frame = step_events e decoded (frame_step (end_view e) frame)

-- The end is the machine after the frame, hasn't failed, and what is reported of the frame is
-- returned.
pub record FrameTaken (e : End) (frame : Frame) (list : List Field) (reported : Option FrameEvent)
    (new : End) : Type 0 where
  pub decoded : Option Decoded
  pub says : IsDecodedBy e decoded (frame_step (end_view e) frame)
  pub after : new ≡ after_frame e decoded frame
  pub up : new.failed ≡ None
  pub events : events_reported list reported ≡ frame_events e decoded frame

-- The machine fails with the frame, and so does the end, with the same code.
pub record FrameFails (e : End) (frame : Frame) (code : Code) (new : End) : Type 0 where
  pub decoded : Option Decoded
  pub says : IsDecodedBy e decoded (frame_step (end_view e) frame)
  pub fails : (after_frame e decoded frame).failed ≡ Some code
  pub after : FailsAlike (after_frame e decoded frame) new

-- Memory was refused, and the connection failed for that.
pub record FailsWithoutMemory (e : End) (code : Code) (new : End) : Type 0 where
  pub lacks : code ≡ InternalError
  pub after : FailsAlike (fail InternalError e.streams.last_processed e) new

-- Memory was refused to a frame that may take some, and the connection failed for that.
-- rule: 5.4 (own) Being out of memory hides no other fault of the connection
pub record FrameLacksMemory (e : End) (frame : Frame) (code : Code) (new : End) : Type 0 where
  pub needs : step_needs_memory (end_view (with_begun e None)) (frame_step (end_view e) frame)
      ≡ true
  pub fails : FailsWithoutMemory e code new

-- the result of a call that takes a frame, and the end after it
abbrev pub EndTakesFrame : End → Frame → List Field → Result (Option FrameEvent) Code → End → Type 0
EndTakesFrame e frame list (Ok reported) new = FrameTaken e frame list reported new
EndTakesFrame e frame list (Err code) new =
    FrameFails e frame code new ⊎ FrameLacksMemory e frame code new

-- The frame isn't the first one, or may be.
abbrev pub IsStarted : Endpoint → Frame → Type 0
IsStarted one frame = (not one.started && not (may_be_first frame)) ≡ false
