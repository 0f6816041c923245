-- What is left of the last frame, after all of the queue.
use Rattle.std.proofs.Common.{◌≡◌, ◌-◌, ◌++◌, length, drop, ap, sym, ◌∙◌, arith, take_all}
use Rattle.h2_output.specs.Output.{OutputState, waiting_of_last}
use Rattle.h2_output.proofs.WovenLemmas.{weave-beyond}
use Rattle.h2_output.proofs.output.Output.waiting_from.Goals as goal

pub returns-in-Some-clause-part : goal.returns-in-Some-clause-part
returns-in-Some-clause-part c =
    let queue = c.self.inside.queue.items in
    let last = c.in-Some.last in
    let rest = drop last.given last.octets in
    let size = c.len-queued.ensures.value in
    let waiting : c.args.self.now.waiting ≡ queue ++ rest =
    sym (ap (λ (state : OutputState). state.waiting) c.self.view_is)
    ∙ ap (λ l. queue ++ waiting_of_last l) c.in-Some.is in
    let is : drop c.args.at c.args.self.now.waiting ≡ c.part_from-in-Some.result.now =
    ap (drop c.args.at) waiting
    ∙ weave-beyond queue rest c.args.at (omega (arith, c.if-at-queued.false, size))
    ∙ ap (λ n. drop (c.args.at - n) rest) (sym size) ∙ sym c.part_from-in-Some.ensures in
    rw is (take_all (length c.part_from-in-Some.result.now) c.part_from-in-Some.result.now
    (omega arith))
