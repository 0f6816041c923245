use Rattle.h2_message.proofs.Names.{refl}
use Rattle.h2_message.specs.Messages.{request_head}
use Rattle.h2_message.proofs.message.Message.request.Goals as goal

pub returns : goal.returns
unfolding request_head
returns c = (
  rw (
    c.in_ok-push-4.ensures.items,
    c.in_ok-push-3.ensures.items,
    c.in_ok-push-2.ensures.items,
    c.in_ok-push.ensures.items,
    c.in_ok-head.ensures.items,
    c.named.ensures,
    c.named-2.ensures,
    c.named-3.ensures,
    c.named-4.ensures,
    c.from_static.ensures,
    c.in_ok-copy_of.ensures,
    c.in_ok-copy_of-2.ensures,
    c.in_ok-copy_of-3.ensures,
  ) refl,
  c.new.ensures.items,
  refl,
)
