-- By the machine's condition.
use Rattle.h2_core.proofs.Names.{refl, before_put_out_at}
use Rattle.h2_core.proofs.endpoint.Endpoint.return_before_output.Goals as goal

pub returns-then-returns_before_output : goal.returns-then-returns_before_output
unfolding before_put_out_at
returns-then-returns_before_output c =
    rw (← c.if-returns_before_output.ensures) (cc)

pub returns-else-returns_before_output : goal.returns-else-returns_before_output
unfolding before_put_out_at
returns-else-returns_before_output c = rw (← c.if-returns_before_output.ensures) refl
