-- What joins the queue comes last.
use Rattle.std.proofs.Common.{◌≤◌, ◌++◌, length, ap, ◌∙◌, arith}
use Rattle.h2_output.specs.Woven.{QueueState, octets_before}
use Rattle.h2_output.proofs.WovenLemmas.{weave-append}
use Rattle.h2_output.proofs.queue.Queue.extend_reserved.Goals as goal

pub returns-clause-items : goal.returns-clause-items
returns-clause-items c =
    let spans = c.self.inside.spans in
    let fits : octets_before spans.all.items ≤ length c.self.inside.own.items =
    omega (arith, spans.placed, c.self.invariant) in
    rw c.extend_reserved.ensures.items
    (weave-append spans.all.items c.self.inside.own.items c.args.octets.now fits
    ∙ ap (λ (s : QueueState). s.items ++ c.args.octets.now) c.self.view_is)
