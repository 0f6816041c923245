use Rattle.h2_ends.proofs.Names.{refl, err_from_is_err_and}
use Rattle.h2_ends.proofs.ControlSteps.{reset_is_refused, reset_is_done}
use Rattle.h2_ends.proofs.end.End.reset.Goals as goal

pub returns-in_err-reset : goal.returns-in_err-reset
returns-in_err-reset c =
    let answer = err_from_is_err_and c.from_residual.result c.from_residual.ensures.1 in
    rw (answer.1, answer.2) (reset_is_refused c.args.self.now _ refl refl refl c.args.id
    c.args.code _ c.in_err-reset.ensures)

pub returns : goal.returns
returns c = λ values end is.
    let made = reset_is_done c.args.self.now (record c.args.self.now { conn = c.reset.new.self })
    refl refl refl values end c.args.id c.args.code is c.in_ok-reset.ensures in
    (made.0, c.forget_if_over.ensures.represents values _ made.1)
