-- Nothing has come.
use Rattle.h2_follow.proofs.Names.{refl}
use Rattle.h2_follow.proofs.FollowerLemmas.{none_taken}
use Rattle.h2_follow.proofs.follower.Follower.new.Goals as goal

pub returns : goal.returns
returns c =
    none_taken _ c.args.least refl refl refl c.new-3.ensures c.new-4.ensures c.in_ok-new.ensures
    c.in_ok-new-2.ensures refl
