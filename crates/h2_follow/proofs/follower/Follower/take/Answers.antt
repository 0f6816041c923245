-- The side of the octets advances.
use Rattle.h2_follow.proofs.Names.{refl}
use Rattle.h2_follow.proofs.FollowerLemmas.{take_told}
use Rattle.h2_follow.proofs.follower.Follower.take.Goals as goal

pub returns : goal.returns
returns g c =
    take_told c.show.result c.args.self.now _ c.show.new.self c.client_with-client.result
    (c.args.read.now.node, c.args.read.now.octets.items) c.side_of.result _ _ _
    c.client_with-client.ensures (λ log reads. reads) refl refl c.side_of.ensures
    c.deref-2.ensures.value c.show.ensures
