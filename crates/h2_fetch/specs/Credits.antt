-- Which credit a client returns before a read.
use Rattle.std.specs.Prelude.{◌||◌, ℕ, nat_lt, ℤ, pos, Bool, false, if◌then◌else◌}
use Rattle.std.specs.Prelude.{Option, Some, None}
use Rattle.h2_spec_log.specs.CallRules.{reader_owed}
use Rattle.h2_spec_log.specs.Log.{Log}
use Rattle.h2_spec_log.specs.LogView.{log_view}
use Rattle.h2_flow.specs.Credit.{is_credit_due}
use Rattle.h2_conn.specs.PeerRoom.{reader_peer_room}
use Rattle.h2_engines.specs.declared.sending.Credit.{Credit}
use Rattle.h2_engines.specs.declared.sending.Credit.TheVariants.{Kept}

-- Whether credit for so many octets is due in a window, if there is one.
-- rule: 6.9 (own) Credit is returned by half of a window
abbrev pub is_due_in : (left : Option ℤ) → (owed : ℤ) → Bool
is_due_in None owed = false
is_due_in (Some left) owed = is_credit_due owed left

-- Whether what is owed on a stream is due in its window, or in the connection's.
-- rule: 6.9 (own) Credit is returned by half of a window
abbrev pub is_due_on : Log → (id : ℕ) → Bool
is_due_on log id =
    is_due_in (reader_peer_room (log_view log) id) (pos (reader_owed (log_view log) id))
    || is_due_in (reader_peer_room (log_view log) 0) (pos (reader_owed (log_view log) id))

-- The credit that is returned before a read: all that may be, if the last read gave fewer than
-- 131,072 octets, so that the next one may wait, or if credit is due; otherwise none.
-- rule: 6.9 (own) Credit is returned by half of a window
abbrev pub credit_before : Log → (id last : ℕ) → Credit → Credit
credit_before log id last credit =
    if nat_lt last 131072 || is_due_on log id then credit else Kept
