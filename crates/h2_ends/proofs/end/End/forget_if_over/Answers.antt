use Rattle.h2_ends.proofs.Names.{None, refl, sym, ◌∙◌}
use Rattle.h2_ends.proofs.ControlForgets.{forgets}
use Rattle.h2_ends.proofs.TableSteps.{keeps_but}
use Rattle.h2_ends.proofs.end.End.forget_if_over.Goals as goal

pub returns-then-not-is_active-clause-represents :
    goal.returns-then-not-is_active-clause-represents
returns-then-not-is_active-clause-represents c = λ values end is.
    forgets values c.args.self.now _ end c.args.id is
    (sym (c.is_active.ensures values end.log is.streams.conn) ∙ c.if-not-is_active.true) refl refl
    refl (keeps_but c.args.self.now _ c.args.id None c.remove.ensures.updates)
