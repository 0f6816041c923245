-- Entries of the table as values of the machine.
use Rattle.std.specs.Prelude.{ℕ, ◌^◌, ◌+◌, ◌||◌, Bool, false, ℤ, pos, ◌+ℤ◌, ◌-ℤ◌, int_lt, Option}
use Rattle.std.specs.Prelude.{Some, None}
use Rattle.h2_spec_log.specs.View.{StreamView}
use Rattle.h2_spec_log.specs.Windows.{greatest_window}
use Rattle.h2_spec_machine.specs.End.{StreamEntry as MachineEntry, active_entry, reset_entry}
use Rattle.h2_streams.specs.declared.entry.Stream.{Stream}
use Rattle.h2_streams.specs.declared.entry.Entry.{Entry}
use Rattle.h2_streams.specs.declared.entry.Entry.TheVariants.{Active, Reset}

-- a stream as the rules look at it
abbrev pub stream_view : Stream → StreamView
stream_view stream = record {
  send_window = stream.send_window;
  recv_window = stream.recv_window;
  owed = stream.owed;
  ended_in = stream.state.ended_in;
  ended_out = stream.state.ended_out;
}

-- an entry as the machine keeps it
abbrev pub entry_value : Entry → MachineEntry
entry_value (Active stream) = active_entry (stream_view stream)
entry_value Reset = reset_entry

-- Whether a window is further than 2^32 from zero: none of an end's is (RFC 9113, section 6.9.1).
abbrev pub is_far : ℤ → Bool
is_far window = int_lt (pos (2 ^ 32)) window || int_lt window (pos 0 -ℤ pos (2 ^ 32))

-- Whether another initial window brings the greatest of the send windows above 2^31 - 1 (section
-- 6.9.2); there may be none.
abbrev pub is_above_by_shift : (old new : ℕ) → Option ℤ → Bool
is_above_by_shift old new None = false
is_above_by_shift old new (Some window) = int_lt (pos (greatest_window + old)) (window +ℤ pos new)

-- a number, or 0 where there is none
abbrev pub number_or_none : Option ℕ → ℕ
number_or_none None = 0
number_or_none (Some number) = number
