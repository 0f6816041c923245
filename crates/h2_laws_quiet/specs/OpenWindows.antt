-- What an end may send where nothing is under way and all credit was returned (RFC 9113, sections
-- 6.9.1 and 6.9.2).
use Rattle.std.specs.Prelude.{◌≡◌, ℕ, ◌≤◌, pos, true, false}
use Rattle.std.specs.List.{list_any}
use Rattle.h2_spec_log.specs.Items.{ends}
use Rattle.h2_spec_log.specs.Log.{Log, active, granted, send_window}
use Rattle.h2_spec_log.specs.Settings.{value_read}
use Rattle.h2_spec_log.specs.Windows.{first_window, connection_send_window}

-- All windows of an end are open. It may send 65,535 octets on the connection, and what the other
-- end widened that by; and on each active stream that it has not ended, the initial window that it
-- has received last, 65,535 before any, which is 1 at least.
-- rule (law): joined (own) Two ends that are driven get quiet, and all that was accepted arrives
pub record HasOpenWindows (log theirs : Log) : Type 0 where
  pub connection : connection_send_window log.received log.sent ≡ pos (granted theirs)
  pub streams : (i : ℕ) → active log i ≡ true → list_any (ends i) log.sent ≡ false
      → send_window log i ≡ pos (value_read 4 first_window log.received)
  pub some : 1 ≤ value_read 4 first_window log.received
