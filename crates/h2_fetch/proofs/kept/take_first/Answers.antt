-- By the lemmas on the queue of a stream.
use Rattle.h2_fetch.proofs.KeptQueues.{first_taken, none_taken}
use Rattle.h2_fetch.proofs.kept.take_first.Goals as goal

pub returns-in_err-get_mut : goal.returns-in_err-get_mut
returns-in_err-get_mut c =
    rw c.from_residual.ensures (none_taken c.args.id c.args.kept.now _
    c.in_err-get_mut.ensures.value c.get_mut.follows.holds-at-none)

pub returns : goal.returns
returns c =
    first_taken c.args.id c.args.kept.now _ c.in_ok-get_mut.field-0.now
    (record { parts = c.pop_front.new.self }) c.in_ok-get_mut.ensures.value
    (c.get_mut.follows.holds (record { parts = c.pop_front.new.self })) c.pop_front.result
    c.pop_front.ensures.items (λ none. (rw none at c.pop_front.ensures.cases).0)
