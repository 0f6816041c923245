use Rattle.h2_message.proofs.Names.{◌≡◌, drop, asks_head}
use Rattle.h2_message.proofs.message.asks_head.Given as goal

abbrev pub invariant-loop-field : goal.invariant-loop-field
invariant-loop-field l = asks_head (drop l.field-index l.head) ≡ asks_head l.head
