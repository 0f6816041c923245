-- When a connection represents the log of an end, and the connection after its calls.
use Rattle.std.specs.Prelude.{◌≡◌, ◌<◌, ℕ, ◌+◌, ◌||◌, if◌then◌else◌, List, ◌++◌, length}
use Rattle.std.specs.Prelude.{take, drop}
use Rattle.std.specs.Io.{StartsWith}
use Rattle.std.specs.Prelude.{Option, Some, None, is_some, Result, Ok, Err}
use Rattle.h2_spec_log.specs.declared.refusal.Refusal.{Refusal}
use Rattle.h2_spec_log.specs.Acts.{Values, Act, Answer, Refused, PutOut, Count, shown}
use Rattle.h2_spec_log.specs.Settings.{is_server}
use Rattle.h2_spec_log.specs.Log.{Log, next_number}
use Rattle.h2_spec_log.specs.LogCalls.{MayAnswer, with_call}
use Rattle.h2_laws_end.specs.Takes.{MayTake}
use Rattle.h2_core.specs.Endpoint.{end_of}
use Rattle.h2_conn.specs.declared.conn.Conn.{Conn}
use Rattle.h2_conn.specs.declared.taken.Taken.{Taken}
use Rattle.h2_conn.specs.declared.taken.ConnFault.{ConnFault}
use Rattle.h2_conn.specs.Parts.{PartsRepresent}
use Rattle.h2_conn.specs.declared.taken.Progress.{Progress}
use Rattle.h2_conn.specs.Events.{answer_taken, answer_progress, code_result}

-- The connection represents the log of an end with these values of its own settings.
abbrev pub ConnRepresents : Values → Conn → Log → Type 0
ConnRepresents values conn log =
    PartsRepresent values conn.cutter conn.counts conn.why
    (end_of conn.end) log

-- Whatever log it represents: the answer is one that a call of `take` may give after it, and the
-- connection represents the log with that call.
abbrev pub ConnTakes : Conn → List ℕ → Result Taken ConnFault → Conn → Type 0
ConnTakes old piece result new =
    (values : Values) (log : Log) → ConnRepresents values old log
    → (after : Log) × MayTake log piece (answer_taken result) after
    × ConnRepresents values new after

-- The same before anything is lent, where the fields that are kept and these octets are reported.
-- rule: calls (own) take uses octets up to one frame's end, and answers one event at most
abbrev pub ConnAdvances : Conn → List ℕ → (octets : List ℕ) → Result Progress ConnFault → Conn
    → Type 0
ConnAdvances old piece octets result new =
    (values : Values) (log : Log) → ConnRepresents values old log
    → (after : Log)
    × MayTake log piece (answer_progress new.end.list octets (code_result result)) after
    × ConnRepresents values new after

-- the answer of a call, by its result
abbrev pub answer_by : {A : Type 0} → (A → Answer) → Result A Refusal → Answer
answer_by accepted (Ok value) = accepted value
answer_by accepted (Err refusal) = Refused refusal

-- Whatever log it represents: the call may have the answer, and the connection represents the log
-- with the call and its answer.
abbrev pub ConnAnswers : Conn → Act → Answer → Conn → Type 0
ConnAnswers old act answer new =
    (values : Values) (log : Log) → ConnRepresents values old log
    → MayAnswer log act answer × ConnRepresents values new (with_call log act answer)

-- The same of an answer that shows this one: where an allocation was refused to `refuse`, it is
-- done and the connection has failed.
abbrev pub ConnShows : Conn → Act → Answer → Conn → Type 0
ConnShows old act answer new =
    (values : Values) (log : Log) → ConnRepresents values old log
    → (one : Answer) × (shown one ≡ answer) × MayAnswer log act one
    × ConnRepresents values new (with_call log act one)

-- The octets that were put out are the next ones of the log's output.
abbrev pub GivesOut : Conn → ℕ → ℕ → (before after : List ℕ) → Type 0
GivesOut old count given before after =
    (values : Values) (log : Log) → ConnRepresents values old log
    → after ≡ before ++ drop log.given
    (take (log.given + given) (with_call log (PutOut count) (Count given)).written)

-- the octets that a connection has queued
abbrev pub octets_queued : Conn → List ℕ
octets_queued conn = conn.end.output.waiting

-- Octets of the output that waits begin at a place, some at least where some wait there.
-- rule: calls (own) An end lends its output, and says the place of a fault
abbrev pub LendsFrom : Conn → (at : ℕ) → (part : List ℕ) → Type 0
LendsFrom conn at part =
    (values : Values) (log : Log) → ConnRepresents values conn log
    → StartsWith (drop at (drop log.given log.written)) part
    × (at < length (drop log.given log.written) → 0 < length part)

-- the number of the stream that a client opens next; none once the connection has failed, and at a
-- server
-- rule: calls (own) An end answers of its state, and of little once it has failed
abbrev pub reader_next_number : Log → Option ℕ
reader_next_number log =
    if is_some log.failed || is_server log.role then None else Some (next_number log)
