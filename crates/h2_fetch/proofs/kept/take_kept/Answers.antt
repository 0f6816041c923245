-- By the lemmas on the queue of a stream.
use Rattle.h2_fetch.proofs.KeptQueues.{empty_removed, taken_then}
use Rattle.h2_fetch.proofs.kept.take_kept.Goals.{else-is_empty_at, then-is_empty_at}
use Rattle.h2_fetch.proofs.kept.take_kept.Goals as goal

pub returns : goal.returns
returns c =
    elim c.if-is_empty_at.branch [
      | then-is_empty_at w ↦ rw w.kept-is (taken_then c.args.id c.in_ok-came.came
          c.args.kept.now.entries c.take_first.new.kept.entries w.remove.new.self.entries
          c.in_ok-came.ensures (empty_removed c.args.id c.take_first.new.kept.entries
          w.remove.new.self.entries (c.is_empty_at.ensures w.if-is_empty_at.true)
          w.remove.ensures.updates))
      | else-is_empty_at w ↦ rw w.kept-is c.in_ok-came.ensures
    ]
