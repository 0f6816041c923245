-- A call that is answered with a number was accepted.
use Rattle.h2_replay.proofs.Names.{◌≡◌, ℕ, Bool, false, List, sym, SendData, Count, Log, with_call}
use Rattle.std.proofs.Common.{◌<◌, pos, int_lt}
use Rattle.h2_spec_log.specs.Log.{send_window}
use Rattle.h2_spec_log.specs.LogCalls.{MayAnswer, accepts, refuses, lacks, fails}
use Rattle.h2_spec_log.specs.Windows.{connection_send_window}
use Rattle.h2_laws_end.proofs.DataWindows.{windows_hold}
use Rattle.h2_replay.proofs.laws.windows_of_a_replay.Goals as goal

by_answer : (log : Log) (id count : ℕ) (octets : List ℕ) (end : Bool)
    → MayAnswer log (SendData id octets end) (Count count) → 0 < count
    → (int_lt (send_window (with_call log (SendData id octets end) (Count count)) id) (pos 0)
    ≡ false)
    × (int_lt (connection_send_window log.received
    (with_call log (SendData id octets end) (Count count)).sent) (pos 0) ≡ false)
by_answer log id count octets end (accepts free is) some =
    windows_hold log id count octets end free (sym is) some
by_answer log id count octets end (refuses refusal why is) some = cc
by_answer log id count octets end (lacks free lacking is) some = cc
by_answer log id count octets end (fails free lacking is) some = cc

pub returns : goal.returns
returns c role values acts log turns id count octets end is may some =
    by_answer log id count octets end may some
