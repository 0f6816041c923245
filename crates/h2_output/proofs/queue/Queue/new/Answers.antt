-- Nothing is there.
use Rattle.std.proofs.Common.{◌≡◌, ◌≤◌, length, refl, ap, ◌∙◌, arith}
use Rattle.h2_output.specs.Woven.{weave, octets_before}
use Rattle.h2_output.proofs.queue.Queue.new.Goals as goal

pub invariant_of-result : goal.invariant_of-result
unfolding octets_before
invariant_of-result c =
    let none : c.new-2.result.before ≡ 0 =
    c.new-2.result.placed ∙ ap octets_before c.new-2.ensures in
    let fits : c.new-2.result.before ≤ length c.new.result.items = omega (arith, none) in fits

pub returns : goal.returns
unfolding weave
returns c = rw (c.new-2.ensures, c.new.ensures.items) refl
