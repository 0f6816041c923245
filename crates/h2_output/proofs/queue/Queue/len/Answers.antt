-- All octets are those of the queue and those of the spans.
use Rattle.std.proofs.Common.{length, ap, arith}
use Rattle.h2_output.specs.Woven.{QueueState}
use Rattle.h2_output.proofs.WovenLemmas.{weave-length}
use Rattle.h2_output.proofs.queue.Queue.len.Goals as goal

pub returns-clause-value : goal.returns-clause-value
returns-clause-value c =
    let spans = c.self.inside.spans in
    let all = weave-length spans.all.items c.self.inside.own.items in
    let view = ap (λ (s : QueueState). length s.items) c.self.view_is in
    omega (arith, c.len.ensures.value, all, spans.counted, view)
