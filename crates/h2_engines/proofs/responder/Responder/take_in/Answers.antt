-- By how the server was driven without a link.
use Rattle.h2_engines.proofs.Names.{err_from_is_err_and}
use Rattle.h2_engines.proofs.ServeEnds.{takes_in, takes_in_part}
use Rattle.h2_engines.proofs.MachineViews.{begun}
use Rattle.h2_engines.proofs.responder.Responder.take_in.Goals as goal

pub returns-in_err-take_all-clause-takes : goal.returns-in_err-take_all-clause-takes
returns-in_err-take_all-clause-takes c =
    let answer = err_from_is_err_and c.from_residual.result c.from_residual.ensures.1 in
    rw (answer.1, answer.2)
    (takes_in_part begun begun c.args.self.now c.take_all.new.machine c.args.piece.now
    c.in_err-take_all.field-0.0 c.in_err-take_all.ensures.takes)

pub returns-clause-takes : goal.returns-clause-takes
returns-clause-takes c =
    takes_in begun begun c.args.self.now c.take_all.new.machine c.args.piece.now
    c.in_ok-take_all.field-0 c.in_ok-take_all.ensures.takes
