use Rattle.std.specs.Vec.{vec_capacity, vec_len}
use Rattle.std.specs.VecDeque.{deque_len}
use Rattle.h2_host.proofs.RunsMade.{RunsSo}
use Rattle.h2_host.proofs.host.Host.run.Given as goal

-- So many of the steps were made.
abbrev pub invariant-loop-made : goal.invariant-loop-made
invariant-loop-made g l =
    RunsSo g.P.Party.steps g.P.Party.held_of g.P.Party.ready_of l.fn.self l.self l.fn.steps.items
    l.steps.items l.replies.items (deque_len l.steps) (vec_len l.replies)
    (vec_capacity l.replies)

abbrev pub decreases-loop-made : goal.decreases-loop-made
decreases-loop-made g l = deque_len l.steps
