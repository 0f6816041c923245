-- A stream's window is conserved over two ends.
use Rattle.h2_laws_end.proofs.Names.{◌≡◌, ℕ, ◌+◌, true, false, pos, List, ◌++◌, arith, list_any}
use Rattle.h2_laws_end.proofs.Names.{ints, Item, Role, data_on, ends, increment_on, Values}
use Rattle.h2_laws_end.proofs.Names.{first_window, Log, acked, active, IsLog, ◌+ℤ◌, total}
use Rattle.h2_laws_end.proofs.Names.{own_value, owed, send_window}
use Rattle.std.proofs.Common.{ℤ}
use Rattle.h2_spec_log.specs.Settings.{value_read}
use Rattle.h2_laws_log.proofs.WindowsOfTwoEnds.{stream_meets}
use Rattle.h2_laws_end.proofs.ReceiveWindowCalls.{window_is_initial}

-- What meets a window, with what is owed on it, is what the window and that are.
met_and_owed : (met window : ℤ) (back owes first : ℕ) → met +ℤ pos back ≡ window
    → window +ℤ pos owes ≡ pos first → met +ℤ pos (back + owes) ≡ pos first
met_and_owed met window back owes first meets initial = omega (arith, ints, meets, initial)

-- What one end may send, what is under way, and what is owed are the initial window.
pub window_conserved : (role : Role) (values : Values) (log theirs : Log) (way back : List Item)
    (i : ℕ) → IsLog role values theirs → log.sent ≡ way ++ theirs.received
    → theirs.sent ≡ back ++ log.received
    → active theirs i ≡ true → list_any (ends i) theirs.received ≡ false
    → value_read 4 first_window log.received
    ≡ own_value 4 first_window (acked theirs) theirs.sent
    → (send_window log i +ℤ pos (total (data_on i) way))
    +ℤ pos (total (increment_on i) back + owed theirs i)
    ≡ pos (own_value 4 first_window (acked theirs) theirs.sent)
window_conserved role values log theirs way back i is took gave alive goes same =
    met_and_owed _ _ _ _ _ (stream_meets _ _ _ _ _ _ _ _ took
    gave same) (window_is_initial _ _ _ _ is alive goes)
