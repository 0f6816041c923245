-- A connection after a call, and the octets that it puts out.
use Rattle.std.specs.Prelude.{◌≡◌, ℕ, List, take, drop}
use Rattle.h2_spec_log.specs.Acts as logs
use Rattle.h2_spec_log.specs.Acts.{Values, shown}
use Rattle.h2_spec_log.specs.Log.{Log}
use Rattle.h2_spec_log.specs.LogCalls.{MayAnswer, with_call}
use Rattle.h2_laws_end.specs.Replays.{ReplayAct, Take, Make}
use Rattle.h2_conn.specs.declared.conn.Conn.{Conn}
use Rattle.h2_conn.specs.Conn.{ConnRepresents}
use Rattle.h2_replay.specs.declared.acts.Act.{Act}
use Rattle.h2_replay.specs.declared.acts.Act.TheVariants as acts
use Rattle.h2_replay.specs.declared.turns.Answer.{Answer}
use Rattle.h2_replay.specs.declared.turns.Answer.TheVariants as answers
use Rattle.h2_replay.specs.Values.{act_value}

-- the call of an act; of octets there is none
abbrev pub call_made : ReplayAct → logs.Act
call_made (Make act) = act
call_made (Take octets) = logs.SendGoAway

abbrev pub call_of : Act → logs.Act
call_of act = call_made (act_value act)

-- It is a call.
abbrev pub IsCall : Act → Type 0
IsCall (acts.Take octets) = ⊥
IsCall act = Unit {0}

-- the answer of a call; none is a fault
abbrev pub answer_value : Answer → logs.Answer
answer_value (answers.Id id) = logs.Number id
answer_value (answers.Count count) = logs.Count count
answer_value answers.Done = logs.Done
answer_value (answers.Refused refusal) = logs.Refused refusal
answer_value (answers.Fault code) = logs.OutOfMemory

-- The call may have an answer that shows this one, the connection represents the log with it, and
-- the octets are the next ones of the log's output, as many as were put out.
pub record MakesCallOf (values : Values) (log : Log) (act : logs.Act) (answer : logs.Answer)
    (octets : List ℕ) (new : Conn) : Type 0 where
  pub one : logs.Answer
  pub shows : shown one ≡ answer
  pub may : MayAnswer log act one
  pub represents : ConnRepresents values new (with_call log act one)
  pub given : octets ≡ drop log.given (take (with_call log act one).given
      (with_call log act one).written)

-- Whatever log the connection represented.
abbrev pub MakesCall : Conn → logs.Act → logs.Answer → List ℕ → Conn → Type 0
MakesCall old act answer octets new =
    (values : Values) (log : Log) → ConnRepresents values old log
    → MakesCallOf values log act answer octets new
