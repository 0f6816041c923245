-- A prefix of what an end has written.
use Rattle.std.specs.Prelude.{◌≡◌, not, ℕ, List, ◌++◌, Option}
use Rattle.h2_frame.specs.Frames.{Frame}
use Rattle.h2_wire.specs.Streams.{Limits, Frames}
use Rattle.h2_block.specs.Grouping.{Item, Begun, Groups}
use Rattle.h2_spec_log.specs.declared.role.Role.{Role}
use Rattle.h2_spec_log.specs.Settings.{is_server}
use Rattle.h2_laws_log.specs.Sending.{oldest_first}

-- The octets are read without a fault, as frames and octets after them, and the frames are items
-- and a block that has begun; these items are the first of those that were written.
-- rule (law): 4.1 What an end sends is read as its frames, without a fault
pub record IsPrefixOfItems (role : Role) (limits : Limits) (octets : List ℕ) (sent : List Item)
    : Type 0 where
  pub frames : List Frame
  pub unparsed : List ℕ
  pub items : List Item
  pub begun : Option Begun
  pub later : List Item
  pub read : Frames (not (is_server role)) limits octets frames unparsed
  pub groups : Groups frames items begun
  pub first : oldest_first sent ≡ items ++ later
