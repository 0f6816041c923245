-- By the lemmas on bodies that are handed out.
use Rattle.h2_get.proofs.Bodies.{hands_body}
use Rattle.h2_get.proofs.receive.bodies_are_in_order.Goals as goal

pub returns : goal.returns
returns c = hands_body
