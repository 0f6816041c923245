-- Octets of a line are taken, where it gives some.
use Rattle.h2_follow.proofs.FollowerLemmas.{none_shown}
use Rattle.h2_follow.proofs.follower.Follower.take_line.Goals as goal

pub returns-in-Some : goal.returns-in-Some
returns-in-Some g c = rw c.in-Some.is c.take.ensures

pub returns-in-None : goal.returns-in-None
returns-in-None g c =
    rw c.in-None.is (none_shown c.args.self.now (g.W.Write.contents c.args.out.now))
