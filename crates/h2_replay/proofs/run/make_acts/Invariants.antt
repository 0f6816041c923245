-- The acts so far are made, whatever the values of the new end.
use Rattle.h2_replay.proofs.Names.{Role, Values, ConnRepresents, opened, Records, acts_made}
use Rattle.h2_replay.proofs.run.make_acts.Given as goal

abbrev pub invariant-loop-act : goal.invariant-loop-act
invariant-loop-act l =
    (role : Role) (values : Values) → ConnRepresents values l.fn.conn (opened role values)
    → Records role values (acts_made l.yielded) l.conn l.turns.items
