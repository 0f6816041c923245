-- What the steps of a log that are no calls make of it, of its input and of its output.
use Rattle.h2_laws_log.proofs.GrowthBySteps.{HoldsOfReads, holds_used, holds_frame, holds_failure}
use Rattle.h2_laws_log.proofs.GrowthBySteps.{holds_none}
use Rattle.h2_spec_log.proofs.StreamLemmas.{Keeps-none}
use Rattle.h2_laws_pair.proofs.Names
use Names.{◌≡◌, ◌≢◌, ◌≤◌, [], ◌++◌, length, None, refl, sym, ◌∙◌, append-nil, Role, Act, Answer}
use Names.{Values, Log, used, with_sent, IsLog, Keeps-frame, MachineStep, uses_part, ends_frame}
use Names.{meets_fault, runs_out_of_memory, reports_unprocessed, is_called, MayStep, log_after}
use Names.{every_log_has_machine, octets_used}
use Rattle.h2_laws_pair.proofs.LogOutput.{Adds, adds_reads}

-- The step is no call.
abbrev pub IsNoCall : MachineStep → Type 0
IsNoCall step = (act : Act) (answer : Answer) → step ≢ is_called act answer

-- An end makes such a step as long as it hasn't failed.
pub step_up : (log : Log) (step : MachineStep) → IsNoCall step → MayStep log step
    → log.failed ≡ None
unfolding MayStep
step_up log (uses_part octets unparsed) none (takes, part) = takes.up
step_up log (ends_frame octets frame decoded) none (takes, read, sees) = takes.up
step_up log (meets_fault octets fault) none (takes, at) = takes.up
step_up log (runs_out_of_memory octets) none (up, may) = up
step_up log reports_unprocessed none (up, some) = up
step_up log (is_called act answer) none may = absurd (none act answer refl)

-- It adds the octets that it uses to the input.
pub step_input : (log : Log) (step : MachineStep) → IsNoCall step
    → (log_after log step).input ≡ log.input ++ octets_used step
unfolding log_after used with_sent
step_input log (uses_part octets unparsed) none = refl
step_input log (ends_frame octets frame decoded) none = (Keeps-frame _ _ frame).input
step_input log (meets_fault octets fault) none = refl
step_input log (runs_out_of_memory octets) none = refl
step_input log reports_unprocessed none = (Keeps-none log).input ∙ sym (append-nil log.input)
step_input log (is_called act answer) none = absurd (none act answer refl)

-- A relation that holds of each small change holds of the log before it and the log after it.
pub step_holds : (R : Log → Log → Type 0) → HoldsOfReads R → (log : Log) (step : MachineStep)
    → IsNoCall step → R log (log_after log step)
unfolding log_after
step_holds R holds log (uses_part octets unparsed) none = holds_used R holds log octets unparsed
step_holds R holds log (ends_frame octets frame decoded) none =
    holds.failures.writes.twice log (used log octets []) _ (holds_used R holds log octets [])
    (holds_frame R holds (used log octets []) decoded frame)
step_holds R holds log (meets_fault octets fault) none =
    holds.failures.writes.twice log (used log octets []) _ (holds_used R holds log octets [])
    (holds_failure R holds.failures _ _ (used log octets []))
step_holds R holds log (runs_out_of_memory octets) none =
    holds.failures.writes.twice log (used log octets []) _ (holds_used R holds log octets [])
    (holds_failure R holds.failures _ _ (used log octets []))
step_holds R holds log reports_unprocessed none = holds_none R holds log
step_holds R holds log (is_called act answer) none = absurd (none act answer refl)

-- It adds octets to the output, and gives none out.
pub step_adds : (log : Log) (step : MachineStep) → IsNoCall step → Adds log (log_after log step)
step_adds = step_holds Adds adds_reads

-- No more is given out than was written.
pub given_within : (role : Role) (values : Values) (log : Log) → IsLog role values log
    → log.given ≤ length log.written
given_within role values log is = (every_log_has_machine role values log is).1.output.given
