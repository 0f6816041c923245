-- The items that an end has read are its frames, grouped (RFC 9113, sections 4.3 and 6.10).
use Rattle.std.specs.Prelude.{◌≡◌, ◌≤◌, List, [], ◌++◌, length, Option, None}
use Rattle.h2_frame.specs.Frames.{Frame}
use Rattle.h2_block.specs.Grouping.{Begun, Groups}
use Rattle.h2_spec_log.specs.Log.{Log}
use Rattle.h2_laws_log.specs.Sending.{oldest_first}

-- The frames are the items and the block that has begun; after a failure one more frame may stand
-- at the end, with which the connection failed.
-- rule: 4.3 A field block is its HEADERS' fragment and those of CONTINUATION
pub record AreGrouped (log : Log) : Type 0 where
  pub preceding : List Frame
  pub last : List Frame
  pub begun : Option Begun
  pub joined : log.frames ≡ preceding ++ last
  pub one : length last ≤ 1
  pub groups : Groups preceding (oldest_first log.received) begun
  pub up : log.failed ≡ None → (last ≡ []) × (log.begun ≡ begun)
