-- By what a turn makes of how it is served.
use Rattle.h2_engines.proofs.Names.{sym, ◌∙◌}
use Rattle.h2_serve.proofs.TurnsGiven.{serves_turn}
use Rattle.h2_serve.proofs.serve.take_turn.Goals as goal

pub returns-clause-turns : goal.returns-clause-turns
returns-clause-turns g c begin now was =
    serves_turn c.args.connection.now c.advance.new.self was
    (sym c.is_down.ensures ∙ c.if-is_down.false) c.advance.ensures.calls c.advance.ensures.turns
    c.is_down-2.result c.is_down-2.ensures
