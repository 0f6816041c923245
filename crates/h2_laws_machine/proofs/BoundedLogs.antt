-- Of every log that comes about there is a machine that represents it and is bounded.
use Rattle.h2_laws_machine.proofs.Names
use Names.{◌≡◌, ◌+◌, ◌≤◌, None, ap, sym, ◌∙◌, Role, Act, Open, Log, View, IsLog, End}
use Names.{true, Refused, log_view, answer_of, end_view, end_after, IsBounded, uses_part, is_called}
use Names.{arith, subst, Answer, waiting, Refusal, accepts, refuses, lacks, fails, Memory, MayStep}
use Names.{both_ways, Values, max_resets, MayAnswer, refusal_of, Represents, max_active, ends_frame}
use Names.{wire_fault_code, InternalError, may_fail_for_memory, runs_out_of_memory, machine_after}
use Names.{OutOfMemory, IsTypedAct, max_output, active_count, goaway_size, MachineStep, meets_fault}
use Rattle.h2_laws_machine.specs.Machines.{reports_unprocessed}
use Rattle.h2_spec_log.specs.Log.{resets_written}
use Rattle.h2_laws_machine.proofs.BoundsOfSteps.{call_bounded, new_bounded, frame_bounded, is_up}
use Rattle.h2_laws_machine.proofs.BoundsOfSteps.{is_bounded, failed_bounded, ended_up}
use Rattle.h2_laws_machine.proofs.CallLaw.{up_since}
use Rattle.h2_laws_machine.proofs.CallRefusals.{refusal_same}
use Rattle.h2_laws_machine.proofs.EveryStep.{every_log_has}
use Rattle.h2_laws_machine.proofs.WaitingOutput.{waits_much}

-- After a call that isn't refused and has the answer of the rules, which is never that memory was
-- refused.
accepted_bounded : (e : End) (view : View) (act : Act) → refusal_of (end_view e) act ≡ None
    → IsTypedAct act → IsBounded e → IsBounded (end_after e act (answer_of view act))
unfolding end_after
accepted_bounded e view (Open fields end) free typed bounded = call_bounded _ _ free typed bounded
accepted_bounded e view act free typed bounded = call_bounded e act free typed bounded

-- A refused call changes nothing.
refused_bounded : (e : End) (act : Act) (refusal : Refusal) → IsBounded e
    → IsBounded (end_after e act (Refused refusal))
unfolding end_after
refused_bounded e act refusal bounded = bounded

-- A call that isn't refused, and to which memory was refused so that the connection fails.
failing_bounded : (values : Values) (e : End) (log : Log) (act : Act) → Represents values e log
    → refusal_of (log_view log) act ≡ None → may_fail_for_memory (log_view log) act ≡ true
    → IsBounded e
    → IsBounded (end_after e act OutOfMemory)
unfolding end_after may_fail_for_memory
failing_bounded values e log act s none fails_so bounded =
    let log_up = up_since log act (λ count same. both_ways _
    (ap (may_fail_for_memory (log_view log)) same) fails_so) none in
    failed_bounded e InternalError e.streams.last_processed (is_up e (s.failed ∙ log_up) bounded)

-- After a call.
asked_bounded : (values : Values) (e : End) (log : Log) (act : Act) (answer : Answer)
    → Represents values e log → IsTypedAct act → MayAnswer log act answer → IsBounded e
    → IsBounded (end_after e act answer)
asked_bounded values e log act answer s typed (accepts none is) bounded =
    subst (λ (other : Answer). IsBounded (end_after e act other)) (sym is)
    (accepted_bounded e (log_view log) act (refusal_same values e log act s ∙ none) typed bounded)
asked_bounded values e log act answer s typed (refuses refusal first is) bounded =
    subst (λ (other : Answer). IsBounded (end_after e act other)) (sym is)
    (refused_bounded e act refusal bounded)
asked_bounded values e log act answer s typed (lacks none may is) bounded =
    subst (λ (other : Answer). IsBounded (end_after e act other)) (sym is)
    (refused_bounded e act Memory bounded)
asked_bounded values e log act answer s typed (fails none may is) bounded =
    subst (λ (other : Answer). IsBounded (end_after e act other)) (sym is)
    (failing_bounded values e log act s none may bounded)

-- A step keeps a machine bounded.
step_bounded : (values : Values) (e : End) (log : Log) (step : MachineStep)
    → Represents values e log
    → MayStep log step → IsBounded e → IsBounded (machine_after e step)
unfolding MayStep machine_after
step_bounded values e log (uses_part octets unparsed) s may bounded = bounded
step_bounded values e log (ends_frame octets frame decoded) s (takes, read, sees) bounded =
    frame_bounded e decoded frame (s.failed ∙ takes.up) bounded
step_bounded values e log (meets_fault octets fault) s (takes, at) bounded =
    failed_bounded e (wire_fault_code fault) e.streams.last_processed
    (is_up e (s.failed ∙ takes.up) bounded)
step_bounded values e log (runs_out_of_memory octets) s (up, may) bounded =
    failed_bounded e InternalError e.streams.last_processed (is_up e (s.failed ∙ up) bounded)
step_bounded values e log reports_unprocessed s (up, some) bounded =
    is_bounded _ (ended_up _ _ 0 (is_up e (s.failed ∙ up) bounded))
step_bounded values e log (is_called act answer) s (typed, may) bounded =
    asked_bounded values e log act answer s typed may bounded

-- Of every log that comes about there is a bounded machine.
machine_of : (role : Role) (values : Values) (log : Log) → IsLog role values log
    → (e : End) × Represents values e log × IsBounded e
machine_of role values = every_log_has _ _ IsBounded (new_bounded role values) (step_bounded values)

module _ (role : Role) (values : Values) (log : Log) where
  -- At most 262,144 octets wait, and a GOAWAY after a failure.
  pub few_wait : IsLog role values log → waiting log ≤ max_output + goaway_size
  few_wait is =
      let (e, s, bounded) = machine_of role values log is in
      omega (arith, bounded.output, waits_much e log s.output)

  -- At most 262,144 octets wait as long as the connection hasn't failed.
  pub few_wait_while_up : IsLog role values log → log.failed ≡ None → waiting log ≤ max_output
  few_wait_while_up is up =
      let (e, s, bounded) = machine_of role values log is in
      omega (arith, bounded.up (s.failed ∙ up), waits_much e log s.output)

  -- At most 1,000 RST_STREAM were sent.
  pub few_resets : IsLog role values log → resets_written log ≤ max_resets
  few_resets is =
      let (e, s, bounded) = machine_of role values log is in
      omega (arith, bounded.resets, s.streams.resets)

  -- At most 1,000 streams are active.
  pub few_active : IsLog role values log → active_count log ≤ max_active
  unfolding active_count
  few_active is =
      let (e, s, bounded) = machine_of role values log is in
      omega (arith, bounded.active_count, s.streams.active_count)
