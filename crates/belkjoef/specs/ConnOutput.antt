-- Output of a connection without the rules of messages that is lent or copied to C.
use Rattle.std.specs.Prelude.{◌≡◌, ℕ, ℤ, List, ◌++◌, length, take, drop, min, false, IsOk}
use Rattle.std.specs.Prelude.{Result, Ok, Err, Option, None, Some}
use Rattle.h2_spec_log.specs.declared.refusal.Refusal.{Refusal}
use Rattle.h2_spec_log.specs.Acts.{Values, PutOut, Count, Refused}
use Rattle.h2_spec_log.specs.CallRules.{returns_before_put_out}
use Rattle.h2_spec_log.specs.Log.{Log, waiting}
use Rattle.h2_spec_log.specs.LogView.{log_view}
use Rattle.h2_spec_log.specs.LogCalls.{MayAnswer, with_call}
use Rattle.h2_conn.specs.declared.conn.Conn.{Conn}
use Rattle.h2_conn.specs.Conn.{ConnRepresents}
use Rattle.belkjoef.specs.declared.conn.HeldConn.{HeldConn}
use Rattle.belkjoef.specs.Numbers.{ok}
use Rattle.belkjoef.specs.Output.{output_waiting}

-- Whatever has happened, these octets wait.
abbrev pub OctetsWaitIn : Conn → List ℕ → Type 0
OctetsWaitIn conn octets = (values : Values) (log : Log) → ConnRepresents values conn log
    → octets ≡ output_waiting log

-- Whatever has happened, nothing is returned before output is taken away, so that takes no memory.
abbrev pub IsReadyConn : Conn → Type 0
IsReadyConn conn = (values : Values) (log : Log) → ConnRepresents values conn log
    → returns_before_put_out (log_view log) ≡ false

-- Where it is so, this is no refusal.
abbrev pub ConnOkIfReady : Conn → Result ℕ Refusal → Type 0
ConnOkIfReady conn result = (values : Values) (log : Log) → ConnRepresents values conn log
    → returns_before_put_out (log_view log) ≡ false → IsOk result

-- the same of what a place holds
abbrev pub HoldsReadyConn : Option HeldConn → Type 0
HoldsReadyConn None = Unit {0}
HoldsReadyConn (Some held) = IsReadyConn held.conn

-- Where nothing is returned first, the answer is no refusal.
abbrev pub ConnFineIfReady : Option HeldConn → ℤ → Type 0
ConnFineIfReady None answer = Unit {0}
ConnFineIfReady (Some held) answer = (values : Values) (log : Log)
    → ConnRepresents values held.conn log
    → returns_before_put_out (log_view log) ≡ false → answer ≡ ok

-- The output is made ready, and then as many octets as wait and as there is room for are copied
-- into the buffer and taken away. Where memory is refused the buffer is as it was.
-- rule: c (own) The output that waits is lent, or copied and taken away
unfoldable pub MayCopyOutOfConn : Log → (before buffer : List ℕ) → Result ℕ Refusal → Log → Type 0
MayCopyOutOfConn log before buffer (Err refusal) after =
    MayAnswer log (PutOut 0) (Refused refusal)
    × (after ≡ with_call log (PutOut 0) (Refused refusal))
    × (buffer ≡ before)
MayCopyOutOfConn log before buffer (Ok count) after =
    let ready = with_call log (PutOut 0) (Count 0) in
    MayAnswer log (PutOut 0) (Count 0)
    × MayAnswer ready (PutOut count) (Count count)
    × (after ≡ with_call ready (PutOut count) (Count count))
    × (count ≡ min (length before) (waiting ready))
    × (buffer ≡ take count (output_waiting ready) ++ drop count before)

-- Whatever has happened at the connection, it does so.
abbrev pub ConnCopiesOut : (before buffer : List ℕ) → Conn → Result ℕ Refusal → Conn → Type 0
ConnCopiesOut before buffer old result new =
    (values : Values) (log : Log) → ConnRepresents values old log
    → (after : Log) × MayCopyOutOfConn log before buffer result after
    × ConnRepresents values new after
