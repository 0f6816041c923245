-- The invariant of an encoder: what is true of its parts between calls.
use Rattle.std.specs.Prelude.{◌≤◌}
use Rattle.hpack.specs.declared.encode.encoder.Encoder.TheInside.{Inside}
use Rattle.hpack.specs.PendingTable.{IsReady}

-- The least limit is no greater than the one now, and nothing is pending.
pub record EncoderInvariant (inside : Inside) : Type 0 where
  pub least : inside.least ≤ inside.limit
  pub ready : IsReady inside.pending inside.table
