use Rattle.h2_message.proofs.Names.{Option, ℕ, sym, ap, differs_from}
use Rattle.h2_message.proofs.checks.differs_from.Goals as goal

pub returns-in-None : goal.returns-in-None
unfolding differs_from
returns-in-None c = sym (ap (λ (o : Option ℕ). differs_from o c.args.count) c.in-None.is)

pub returns-in-Some : goal.returns-in-Some
unfolding differs_from
returns-in-Some c = sym (ap (λ (o : Option ℕ). differs_from o c.args.count) c.in-Some.is)
