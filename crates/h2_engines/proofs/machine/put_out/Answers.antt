-- By the lemmas on output that is put out.
use Rattle.h2_engines.proofs.Names.{refl, ap, ◌∙◌, arith, err_from_is_err_and, error_after}
use Rattle.h2_engines.proofs.WithoutLinkPutOut.{machine_put, machine_refused, machine_unsent}
use Rattle.h2_engines.proofs.machine.put_out.Goals as goal

pub returns-in_err-send-clause-puts : goal.returns-in_err-send-clause-puts
returns-in_err-send-clause-puts g c =
    let answer = err_from_is_err_and c.from_residual.result c.from_residual.ensures.1 in
    rw (answer.1, answer.2)
    (machine_unsent (g.M.Machine.held c.args.machine.now)
    (g.M.Machine.held c.send.new.self) c.args.count _ _
    c.in_err-send.field-0.0 c.in_err-send.ensures.sends refl)

pub returns-clause-puts : goal.returns-clause-puts
returns-clause-puts g c =
    machine_put (g.M.Machine.held c.args.machine.now) (g.M.Machine.held c.send.new.self)
    (g.M.Machine.held c.give_out.new.self) c.args.count c.in_ok-given.given c.args.out.now.items
    c.give_out.new.out.items c.in_ok-send.field-0 (omega arith)
    c.in_ok-send.ensures.sends (rw c.in_ok-given.ensures.ok at c.give_out.ensures.answers)
    (rw c.in_ok-given.ensures.ok at c.give_out.ensures.ok)

pub returns-in_err-given-clause-puts : goal.returns-in_err-given-clause-puts
returns-in_err-given-clause-puts g c =
    let answer = err_from_is_err_and c.from_residual-in_err-given.result
    c.from_residual-in_err-given.ensures.1 in
    let (refused, refusal, same, made, ends) = c.in_err-given.ensures.err in
    rw (answer.1, answer.2) (machine_refused (g.M.Machine.held c.args.machine.now)
    (g.M.Machine.held c.send.new.self) (g.M.Machine.held c.give_out.new.self)
    c.args.count refused c.in_ok-send.field-0 (omega arith)
    c.in_ok-send.ensures.sends (rw same at c.give_out.ensures.answers)
    (ends ∙ ap error_after made) (rw same at c.give_out.ensures.err))
