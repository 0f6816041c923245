-- By the lemmas on a call's answer.
use Rattle.h2_conn.proofs.Names.{◌∙◌, ap, Err, refl, IsTypedAct, err_from_is_err_and}
use Rattle.h2_spec_log.specs.Acts.{Fail}
use Rattle.h2_conn.proofs.AskCalls.{refused_answers}
use Rattle.h2_conn.proofs.AskSound.{call_kept}
use Rattle.h2_conn.proofs.WhyCalls.{represented, end_represented}
use Rattle.h2_conn.proofs.conn.Conn.fail.Goals as goal

pub invariant_of-self : goal.invariant_of-self
unfolding IsTypedAct
invariant_of-self c =
    assumption (call_kept c.fail_on_request.result _ _ (Fail c.args.code) _ refl
    tt
    c.args.self.now.sound c.args.self.now.cuts
    c.fail_on_request.ensures.ok c.fail_on_request.ensures.err)

pub invariant_of-self-2 : goal.invariant_of-self-2
unfolding IsTypedAct
invariant_of-self-2 c =
    assumption (call_kept c.fail_on_request.result _ _ (Fail c.args.code) _ refl
    tt
    c.args.self.now.sound c.args.self.now.cuts
    c.fail_on_request.ensures.ok c.fail_on_request.ensures.err)

pub returns-in_err-fail_on_request : goal.returns-in_err-fail_on_request
unfolding IsTypedAct
returns-in_err-fail_on_request c =
    let answer = err_from_is_err_and c.from_residual.result c.from_residual.ensures.1 in
    rw (answer.1, answer.2) (represented {act = Fail c.args.code} refl tt
    (refused_answers _ _ _ (Fail c.args.code)
    c.in_err-fail_on_request.field-0.0 refl tt
    (λ memory. absurd (c.fail_on_request.ensures.memory
    (c.in_err-fail_on_request.was ∙ ap Err memory)))
    c.in_err-fail_on_request.ensures.err))

pub returns : goal.returns
returns c = end_represented c.in_ok-fail_on_request.ensures.ok
