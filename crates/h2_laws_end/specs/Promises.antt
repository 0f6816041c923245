-- Octets with which an end doesn't run out of memory, however little there is.
use Rattle.std.specs.Prelude.{◌≡◌, true, false, ℕ, List, ◌++◌, None}
use Rattle.h2_frame.specs.Frames.{Frame, Data, Priority, Ping, WindowUpdate, Unknown}
use Rattle.h2_wire.specs.Cutter.{BeginsWithFrame}
use Rattle.h2_block.specs.Grouping.{alone}
use Rattle.h2_spec_log.specs.Log.{Log}
use Rattle.h2_spec_log.specs.View.{View}
use Rattle.h2_spec_log.specs.Verdicts.{NoEvent, Reported}
use Rattle.h2_spec_log.specs.ItemRules.{verdict_of}
use Rattle.h2_spec_log.specs.Memory.{cutter_of, frame_needs_memory}
use Rattle.h2_spec_log.specs.Histories.{TakesOctets, TakesFrame}

-- All unprocessed streams were reported, nothing is unparsed, and a frame lies whole in the piece
-- that takes no memory.
-- rule: 5.4 (own) A frame whole in its piece that needs no memory is never refused any
pub record NeedsNoMemory (log : Log) (piece : List ℕ) : Type 0 where
  pub takes : TakesOctets log
  pub begins : BeginsWithFrame (cutter_of log) piece
  pub octets : List ℕ
  pub unused : List ℕ
  pub joined : piece ≡ octets ++ unused
  pub frame : Frame
  pub ends : TakesFrame log.role log octets frame
  pub needs_none : frame_needs_memory log frame ≡ false

-- The frame is of a kind that takes no memory: PRIORITY, a frame of an unknown type, the answer to
-- a PING, WINDOW_UPDATE without a fault, or DATA without END_STREAM that is reported.
-- rule: 5.4 (own) A frame whole in its piece that needs no memory is never refused any
abbrev pub IsFree : View → Frame → Type 0
IsFree view (Priority stream octets) = Unit {0}
IsFree view (Unknown kind flags stream payload) = Unit {0}
IsFree view (Ping true octets) = Unit {0}
IsFree view (WindowUpdate stream increment) =
    verdict_of view None (alone (WindowUpdate stream increment)) ≡ NoEvent
IsFree view (Data stream false octets pad) =
    verdict_of view None (alone (Data stream false octets pad)) ≡ Reported
IsFree view frame = ⊥
