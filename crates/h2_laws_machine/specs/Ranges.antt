-- In which ranges the values of an end are, so that code can keep them in numbers of 32 and 64
-- bits.
use Rattle.std.specs.Prelude.{◌≡◌, ℕ, ◌+◌, ◌≤◌, Bool, false, pos, ◌+ℤ◌, int_lt}
use Rattle.std.specs.Prelude.{List, [], ◌∷◌, length, Option, Some, None}
use Rattle.std.specs.FinMap as map
use Rattle.hpack.specs.Sizes.{table_size}
use Rattle.hpack.specs.Blocks.{Block}
use Rattle.h2_frame.specs.Frames.{Frame}
use Rattle.h2_block.specs.Grouping.{Begun, block, max_block_octets}
use Rattle.h2_spec_log.specs.Acts.{Values, AreInRange}
use Rattle.h2_spec_log.specs.Limits.{max_table_limit, most_max_frame}
use Rattle.h2_spec_log.specs.States.{greatest_number}
use Rattle.h2_spec_log.specs.View.{StreamView}
use Rattle.h2_spec_log.specs.Windows.{greatest_window}
use Rattle.h2_spec_log.specs.ItemRules.{Decoded, completes, frame_step}
use Rattle.h2_spec_machine.specs.Represents.{NoneAboveHighest}
use Rattle.h2_spec_machine.specs.End.{StreamEntry, active_entry, reset_entry, End, end_view}
use Rattle.h2_spec_machine.specs.End.{stream_at}

-- A stream's send window is at most the greatest window, and no further below the peer's initial
-- window than that. Its receive window, with what is owed, is at most the own initial window, and
-- no further below it. So both are above -2^31.
pub record StreamIsInRange (e : End) (stream : StreamView) : Type 0 where
  pub send_most : int_lt (pos greatest_window) stream.send_window ≡ false
  pub send_least : int_lt (stream.send_window +ℤ pos greatest_window) (pos e.peer.initial_window)
      ≡ false
  pub recv_most : int_lt (pos e.own.in_force.initial_window) (stream.recv_window +ℤ pos stream.owed)
      ≡ false
  pub recv_least : int_lt (stream.recv_window +ℤ pos greatest_window)
      (pos e.own.in_force.initial_window) ≡ false

pub record ValuesAreInRange (e : End) : Type 0 where
  pub highest : e.streams.highest ≤ greatest_number
  pub last_processed : e.streams.last_processed ≤ e.streams.highest
  pub goaway_sent : (last : ℕ) → e.goaway.sent ≡ Some last → last ≤ greatest_number
  pub send : e.windows.send ≤ greatest_window
  pub granted : e.windows.granted ≤ greatest_window
  pub initial_window : e.peer.initial_window ≤ greatest_window
  pub own_window : e.own.in_force.initial_window ≤ greatest_window
  pub own_frame : e.own.in_force.max_frame ≤ most_max_frame
  pub table_limit : e.own.in_force.table_limit ≤ max_table_limit
  pub awaited : (values : Values) → e.own.awaited ≡ Some values → AreInRange values
  pub streams : (i : ℕ) (stream : StreamView) → stream_at e i ≡ Some stream
      → StreamIsInRange e stream
  -- No stream is active with the number 0, which is the connection's (RFC 9113, section 5.1.1).
  pub connection : stream_at e 0 ≡ None
  pub begun : (begun : Begun) → e.reading.begun ≡ Some begun
      → length begun.octets ≤ max_block_octets
  pub table : table_size e.reading.table.entries ≤ e.reading.table.maximum
  pub maximum : e.reading.table.maximum ≤ max_table_limit

-- What was seen of a field block that the frame completes is what it says at the end's table and
-- limit.
abbrev pub IsDecodedAt : End → Option Decoded → Frame → Type 0
IsDecodedAt e decoded frame = (stream : ℕ) (end : Bool) (octets : List ℕ) (one : Decoded)
    → frame_step (end_view e) frame ≡ completes (block stream end octets) → decoded ≡ Some one
    → Block e.reading.table e.own.in_force.table_limit octets one.fields one.after

-- how many entries are active, and how many are of streams that were reset
unfoldable pub count_active : List (ℕ × StreamEntry) → ℕ
count_active [] = 0
count_active ((i, active_entry stream) ∷ entries) = 1 + count_active entries
count_active ((i, reset_entry) ∷ entries) = count_active entries

unfoldable pub count_reset : List (ℕ × StreamEntry) → ℕ
count_reset [] = 0
count_reset ((i, active_entry stream) ∷ entries) = count_reset entries
count_reset ((i, reset_entry) ∷ entries) = 1 + count_reset entries

-- The counts are those of the entries, so that there are as many entries at most as are active and
-- as were reset: 2,000 where the end is bounded. Nothing is kept of numbers that weren't used.
pub record CountsEntries (e : End) : Type 0 where
  pub active : count_active (map.entries e.streams.entries) ≡ e.streams.active_count
  pub resets : count_reset (map.entries e.streams.entries) ≤ e.streams.resets
  pub used : NoneAboveHighest e
