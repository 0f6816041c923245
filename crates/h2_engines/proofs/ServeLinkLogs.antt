-- What calls and octets that were taken leave of the input and the output of a log.
use Rattle.h2_engines.proofs.Names
use Names.{◌≡◌, ◌≤◌, ℕ, List, length, refl, sym, ◌∙◌, subst, Act, Answer, Refuse, PutOut, Fail}
use Names.{OutOfMemory, Refused, Log, Keeps-call, given_out, call_given, Result, EndRefusal, EndLog}
use Names.{MayPump, MayReleaseAll, Traffic, IsLinked, IsSameOfMessages, items_failed, with_call}
use Names.{◌≢◌, TakeAnswer, MayTake, ends_no_frame, ends_frame, meets_fault, reports_unprocessed}
use Rattle.h2_laws_machine.specs.Machines.{log_after, MachineStep}
use Rattle.h2_laws_pair.proofs.LogOutput.{gives_call, Adds, adds_reads}
use Rattle.h2_laws_end.specs.Takes.{has_failed, runs_out_of_memory}
use Rattle.h2_laws_pair.proofs.CarriedOctets.{given_same}
use Rattle.h2_laws_pair.proofs.StepsOfLogs.{step_adds, IsNoCall}
use Rattle.h2_engines.proofs.LinkInvariants.{IsQuiet, CallsKeep, sends_quietly, pumped_keeps}
use Rattle.h2_engines.proofs.LinkInvariants.{released_keeps}
use Rattle.h2_engines.proofs.TakeMessages.{KeepsCalls, keeps_by_call}
use Rattle.h2_laws_machine.specs.Machines as steps

-- Octets were added to the output, and as many were given out.
abbrev pub Writes : Log → Log → Type 0
Writes = Adds

-- No change,
pub writes_none : (log : Log) → Writes log log
writes_none = adds_reads.failures.writes.none

-- and one after another.
pub writes_twice : {one two three : Log} → Writes one two → Writes two three → Writes one three
writes_twice {one} {two} {three} = adds_reads.failures.writes.twice one two three

-- The same octets are given out.
pub writes_given : {before after : Log} → before.given ≤ length before.written
    → Writes before after → given_out after ≡ given_out before
writes_given {before} {after} = given_same before after

-- A call that puts no output out.
pub call_writes : (log : Log) (act : Act) (answer : Answer) → ((count : ℕ) → act ≢ PutOut count)
    → Writes log (with_call log act answer)
call_writes log act answer other =
    let gives = gives_call log act answer in
    record {
      octets = gives.octets;
      written = gives.written;
      given = call_given log act answer other;
      items = gives.items;
      sent = gives.sent;
      payloads = gives.payloads;
      paid = gives.paid;
      each_one = gives.each_one;
    }

-- Octets that were taken.
step_writes : (log : Log) {after : Log} (step : MachineStep) → IsNoCall step
    → after ≡ log_after log step
    → Writes log after
step_writes log {after} step none same =
    subst (λ (new : Log). Writes log new) (sym same) (step_adds log step none)

pub take_writes : {log after : Log} {piece : List ℕ} {answer : TakeAnswer}
    → MayTake log piece answer after → Writes log after
unfolding log_after
take_writes {log} (has_failed code failed answers same) =
    subst (λ (new : Log). Writes log new) (sym same) (writes_none log)
take_writes {log} (reports_unprocessed up some answers same) =
    step_writes log steps.reports_unprocessed (λ act said wrong. cc) same
take_writes {log} {piece} (ends_no_frame takes unparsed part answers same) =
    step_writes log (steps.uses_part piece unparsed) (λ act said wrong. cc) same
take_writes {log} (ends_frame takes octets unused joined frame decoded framed sees same answers) =
    step_writes log (steps.ends_frame octets frame decoded) (λ act said wrong. cc) same
take_writes {log} (meets_fault takes octets unused joined fault at answers same) =
    step_writes log (steps.meets_fault octets fault) (λ act said wrong. cc) same
take_writes {log} (runs_out_of_memory up octets unused joined may answers same) =
    step_writes log (steps.runs_out_of_memory octets) (λ act said wrong. cc) same

-- A call goes on: it has used no octets and given none out, and fails nothing.
pub record GoesOn (before after : Log) : Type 0 where
  pub writes : Writes before after
  pub input : after.input ≡ before.input
  pub failed : after.failed ≡ before.failed

pub goes_none : (log : Log) → GoesOn log log
goes_none log = record { writes = writes_none log; input = refl; failed = refl }

pub goes_twice : {one two three : Log} → GoesOn one two → GoesOn two three → GoesOn one three
goes_twice a b =
    record {
      writes = writes_twice a.writes b.writes;
      input = b.input ∙ a.input;
      failed = b.failed ∙ a.failed;
    }

call_failed : (log : Log) (act : Act) (answer : Answer) → IsQuiet act answer
    → (with_call log act answer).failed ≡ log.failed
unfolding with_call
call_failed log act (Refused refusal) quiet = refl
call_failed log act OutOfMemory quiet = absurd quiet
call_failed log (Refuse id code) answer quiet = absurd quiet
call_failed log (Fail code) answer quiet = absurd quiet
call_failed log (PutOut count) answer quiet = absurd quiet
call_failed log act answer quiet = items_failed log act answer

quiet_put : (act : Act) (answer : Answer) → IsQuiet act answer → (count : ℕ) → act ≢ PutOut count
quiet_put act OutOfMemory quiet count same = absurd quiet
quiet_put (PutOut n) answer quiet count same = absurd quiet
quiet_put act answer quiet count same = cc

pub call_goes : (log : Log) (act : Act) (answer : Answer) → IsQuiet act answer
    → GoesOn log (with_call log act answer)
call_goes log act answer quiet =
    record {
      writes = call_writes log act answer (quiet_put act answer quiet);
      input = (Keeps-call log act answer).input;
      failed = call_failed log act answer quiet;
    }

-- The end goes on over the link.
pub goes_links : {start now : Traffic} {before after : Log} {unused : List ℕ}
    → before.given ≤ length before.written → GoesOn before after → IsLinked start now before unused
    → IsLinked start now after unused
goes_links {start} {now} {unused} within goes linked =
    record {
      given = rw goes.input linked.given;
      taken = rw ((writes_given within goes.writes)) linked.taken;
    }

-- Nothing was accepted and handed out, and the connection goes on.
pub record StaysOn (before after : EndLog) : Type 0 where
  pub goes : GoesOn before.log after.log
  pub accepted : after.accepted ≡ before.accepted
  pub handed : after.handed ≡ before.handed
  pub calls : KeepsCalls before.log after.log

pub stays_none : (end : EndLog) → StaysOn end end
stays_none end =
    record {
      goes = goes_none end.log;
      accepted = refl;
      handed = refl;
      calls = λ act answer was. was;
    }

pub stays_twice : {one two three : EndLog} → StaysOn one two → StaysOn two three
    → StaysOn one three
stays_twice a b =
    record {
      goes = goes_twice a.goes b.goes;
      accepted = b.accepted ∙ a.accepted;
      handed = b.handed ∙ a.handed;
      calls = λ act answer was. b.calls act answer (a.calls act answer was);
    }

-- So it is after the calls of a pump or a release.
calls_stay : (before : EndLog) → CallsKeep (StaysOn before)
calls_stay before end act answer sends stays =
    stays_twice stays (record {
      goes = call_goes end.log act answer (sends_quietly act answer sends);
      accepted = refl;
      handed = refl;
      calls = keeps_by_call end.log act answer;
    })

pub pumped_stays : (before : EndLog) (result : Result ℕ EndRefusal) (after : EndLog)
    → MayPump before result after → StaysOn before after
pumped_stays before result after may =
    pumped_keeps (StaysOn before) (calls_stay before) before result after may (stays_none before)

pub released_stays : (before : EndLog) (result : Result (Unit {0}) EndRefusal) (after : EndLog)
    → MayReleaseAll before result after → StaysOn before after
released_stays before result after may =
    released_keeps (StaysOn before) (calls_stay before) before result after may (stays_none before)

-- Nothing of a message has happened.
pub stays_same : {before after : EndLog} → StaysOn before after → IsSameOfMessages before after
stays_same stays =
    record {
      accepted = stays.accepted;
      handed = stays.handed;
      calls = stays.calls;
      failed = stays.goes.failed;
      used = stays.goes.input;
    }
