-- The lines are those of these octets alone.
use Rattle.h2_follow.proofs.Names.{refl}
use Rattle.h2_follow.proofs.FollowerLemmas.{show_told}
use Rattle.h2_follow.proofs.follower.Follower.show.Goals as goal

pub returns : goal.returns
returns g c =
    show_told c.show_parts-shown.result c.args.self.now
    (record c.args.self.now { lines = c.clear.new.self }) c.show_parts-shown.new.self c.args.side
    c.args.octets.now _ _ _ (λ log reads. reads) c.clear.ensures.items refl refl
    c.show_parts-shown.ensures (rw c.deref.ensures.value at c.in_ok-write_all.ensures.bytes)
    c.in_ok-flush.ensures.bytes
