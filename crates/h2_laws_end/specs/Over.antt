-- Streams that are over, and those on which nothing can be sent (RFC 9113, sections 5.1 and 6.9).
use Rattle.std.specs.Prelude.{◌≡◌, ℕ, ◌&&◌, Bool, true, false, pos, int_lt}
use Rattle.h2_spec_log.specs.States.{is_used}
use Rattle.h2_spec_log.specs.Windows.{connection_send_window}
use Rattle.h2_spec_log.specs.Log.{Log, active, send_window}

-- Whether a number was used: it was opened, or passed over.
-- rule (law): 5.1 A used number stays used, and a stream that is over stays over
abbrev pub is_number_used : Log → ℕ → Bool
is_number_used log i = is_used log.role i log.received log.sent

-- A stream is over: its number was used, and it isn't active.
-- rule (law): 5.1 A used number stays used, and a stream that is over stays over
pub record IsOver (log : Log) (i : ℕ) : Type 0 where
  pub was_used : is_number_used log i ≡ true
  pub not_active : active log i ≡ false

-- Whether both windows let an octet go on the stream.
-- rule (law): 6.9 Where nothing is owed nothing is, until octets are reported
abbrev pub has_room : Log → ℕ → Bool
has_room log i =
    int_lt (pos 0) (send_window log i)
    && int_lt (pos 0) (connection_send_window log.received log.sent)
