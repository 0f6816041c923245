-- Output that is lent or copied to C.
use Rattle.std.specs.Prelude.{◌≡◌, ◌<◌, ℕ, ℤ, List, ◌++◌, length, take, drop, min, false, IsOk}
use Rattle.std.specs.Prelude.{Result, Ok, Err, Option, None, Some}
use Rattle.std.specs.Borrow.{Bor}
use Rattle.std.specs.Io.{StartsWith}
use Rattle.h2_spec_log.specs.declared.refusal.Refusal.{Refusal}
use Rattle.h2_spec_log.specs.Acts.{Values, PutOut, Count, Refused}
use Rattle.h2_spec_log.specs.CallRules.{returns_before_put_out}
use Rattle.h2_spec_log.specs.Log.{Log, waiting}
use Rattle.h2_spec_log.specs.LogView.{log_view}
use Rattle.h2_spec_log.specs.LogCalls.{MayAnswer, with_call}
use Rattle.h2_conn.specs.Conn.{ConnRepresents}
use Rattle.h2_conn.specs.declared.conn.Conn.{Conn}
use Rattle.h2_ends.specs.declared.end.End.{End}
use Rattle.h2_ends.specs.Ends.{EndLog}
use Rattle.h2_ends.specs.EndTakes.{end_with_log}
use Rattle.h2_ends.specs.Represents.{EndRepresents}
use Rattle.belkjoef.specs.declared.held.Held.{Held}
use Rattle.belkjoef.specs.declared.output.BjSpan.{BjSpan}
use Rattle.belkjoef.specs.Helds.{held_end}
use Rattle.belkjoef.specs.Lent.{span_of}
use Rattle.belkjoef.specs.Numbers.{ok}

-- the output that waits
abbrev pub output_waiting : Log → List ℕ
output_waiting log = drop log.given log.written

-- Whatever has happened, these octets wait.
abbrev pub OctetsWait : End → List ℕ → Type 0
OctetsWait end octets = (values : Values) (log : Log) → ConnRepresents values end.conn log
    → octets ≡ output_waiting log

-- Whatever has happened, the first octets that wait lie in these two parts: none only where none
-- waits.
abbrev pub FirstWait : Conn → (one two : List ℕ) → Type 0
FirstWait conn one two = (values : Values) (log : Log) → ConnRepresents values conn log
    → StartsWith (output_waiting log) (one ++ two)
    × (0 < length (output_waiting log) → 0 < length one)

-- Whatever has happened, nothing is returned before output is taken away, so that takes no memory.
abbrev pub IsReadyOutput : End → Type 0
IsReadyOutput end = (values : Values) (log : Log) → ConnRepresents values end.conn log
    → returns_before_put_out (log_view log) ≡ false

-- Where it is so, this is no refusal.
abbrev pub OkIfReady : End → Result ℕ Refusal → Type 0
OkIfReady end result = (values : Values) (log : Log) → ConnRepresents values end.conn log
    → returns_before_put_out (log_view log) ≡ false → IsOk result

-- the same of what a place holds
abbrev pub HoldsReady : Option Held → Type 0
HoldsReady None = Unit {0}
HoldsReady (Some held) = IsReadyOutput (held_end held)

-- Where nothing is returned first, the answer is no refusal.
abbrev pub FineIfReady : Option Held → ℤ → Type 0
FineIfReady None answer = Unit {0}
FineIfReady (Some held) answer = (values : Values) (log : Log)
    → ConnRepresents values (held_end held).conn log
    → returns_before_put_out (log_view log) ≡ false → answer ≡ ok

-- The first two parts of the output are lent, and nothing has changed.
-- rule: c (own) The output that waits is lent, or copied and taken away
pub record LendsOutput (answer : ℤ) (first second : BjSpan) (old new : Held) : Type 0 where
  pub one : Bor (List ℕ)
  pub two : Bor (List ℕ)
  pub told : answer ≡ ok
  pub first_is : first ≡ span_of one
  pub second_is : second ≡ span_of two
  pub wait : FirstWait (held_end old).conn one.now two.now
  pub same : new ≡ old

-- The output is made ready, and then as many octets as wait and as there is room for are copied
-- into the buffer and taken away. Where memory is refused the buffer is as it was.
-- rule: c (own) The output that waits is lent, or copied and taken away
unfoldable pub MayCopyOut : EndLog → (before buffer : List ℕ) → Result ℕ Refusal → EndLog → Type 0
MayCopyOut end before buffer (Err refusal) after =
    MayAnswer end.log (PutOut 0) (Refused refusal)
    × (after ≡ end_with_log end (with_call end.log (PutOut 0) (Refused refusal)))
    × (buffer ≡ before)
MayCopyOut end before buffer (Ok count) after =
    let ready = with_call end.log (PutOut 0) (Count 0) in
    MayAnswer end.log (PutOut 0) (Count 0)
    × MayAnswer ready (PutOut count) (Count count)
    × (after ≡ end_with_log end (with_call ready (PutOut count) (Count count)))
    × (count ≡ min (length before) (waiting ready))
    × (buffer ≡ take count (output_waiting ready) ++ drop count before)

-- Whatever has happened at the end, it does so.
abbrev pub EndCopiesOut : (before buffer : List ℕ) → End → Result ℕ Refusal → End → Type 0
EndCopiesOut before buffer old result new =
    (values : Values) (end : EndLog) → EndRepresents values old end
    → (after : EndLog) × MayCopyOut end before buffer result after
    × EndRepresents values new after
