-- One more octet is there.
use Rattle.std.proofs.Common.{◌%◌, ◌++◌, [], ◌∷◌, ap, sym, ◌∙◌}
use Rattle.h2_net.specs.Loopback.{posted_octets}
use Rattle.h2_net.proofs.PostedRequest.{one_more_octet}
use Rattle.h2_net.proofs.loopback.posted_octets.Goals as goal

pub loop-place-init : goal.loop-place-init
unfolding posted_octets
loop-place-init c = c.new-body.ensures.items

pub loop-place-preserved : goal.loop-place-preserved
loop-place-preserved c =
    c.in_ok-push.ensures.items
    ∙ ap (λ l. l ++ c.loop-place.place % 251 ∷ []) c.loop-place.invariant
    ∙ sym (one_more_octet c.loop-place.place)
