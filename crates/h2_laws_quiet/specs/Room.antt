-- What a round needs to go on at full speed, and how much that is (RFC 9113, sections 6.9.1 and
-- 6.9.2).
use Rattle.std.specs.Prelude.{◌≡◌, ℕ, ◌+◌, ◌*◌, ◌<◌, ◌==◌, min, not}
use Rattle.h2_spec_log.specs.Limits.{full_output}
use Rattle.h2_spec_log.specs.Log.{Log, owed, waiting}
use Rattle.h2_spec_log.specs.Settings.{value_read}
use Rattle.h2_spec_log.specs.States.{count_below}
use Rattle.h2_spec_log.specs.Windows.{first_window}
use Rattle.h2_laws_quiet.specs.Work.{above_streams}

-- the window that will be in force on a new stream to an end, by the last value of
-- SETTINGS_INITIAL_WINDOW_SIZE that it has sent, and no more than that of a new connection
abbrev pub window_ahead : (reader : Log) → ℕ
window_ahead reader = min first_window (value_read 4 first_window reader.sent)

-- on how many streams an end owes something
abbrev pub streams_owed : Log → ℕ
streams_owed log = count_below (above_streams log) (λ j. not (owed log j == 0))

-- An end has room for all credit that it owes: two WINDOW_UPDATE for each stream on which something
-- is owed, 26 octets together, do not fill its output; and no other credit is unreturned.
-- rule (law): joined (own) Two ends that are driven get quiet, and all that was accepted arrives
pub record CreditHasRoom (log : Log) : Type 0 where
  pub output : waiting log + 26 * streams_owed log < full_output
  pub none_unreturned : log.unreturned ≡ 0
