-- By what the end's pump has answered.
use Rattle.h2_engines.proofs.Names.{Ok, Err, ap, ◌∙◌, error_after, err_from_is_err_and, EndsAfter}
use Rattle.h2_engines.proofs.sending.pump.Goals as goal

pub returns-clause-pumps : goal.returns-clause-pumps
unfolding EndsAfter
returns-clause-pumps g c =
    (Ok _, rw c.in_ok-unless_refused.ensures.ok at c.pump.ensures, tt)

pub returns-in_err-unless_refused-clause-pumps : goal.returns-in_err-unless_refused-clause-pumps
unfolding EndsAfter
returns-in_err-unless_refused-clause-pumps g c =
    let answer = err_from_is_err_and c.from_residual.result c.from_residual.ensures.1 in
    let (refused, refusal, is, made, ends) = c.in_err-unless_refused.ensures.err in
    rw (answer.1, answer.2)
    (Err refused, rw is at c.pump.ensures, ends ∙ ap error_after made)
