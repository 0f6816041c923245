-- All octets are those of the queue and those of the spans.
use Rattle.std.proofs.Common.{◌≡◌, length, ap, arith, length-drop}
use Rattle.h2_output.specs.Woven.{QueueState, weave}
use Rattle.h2_output.proofs.WovenLemmas.{weave-length}
use Rattle.h2_output.proofs.queue.Queue.take_away.Goals as goal

pub returns-then-queued-len-clause-whole : goal.returns-then-queued-len-clause-whole
returns-then-queued-len-clause-whole c = λ none.
    let spans = c.self.inside.spans in
    let own = c.self.inside.own in
    let spare = ap (λ (s : QueueState). s.spare) c.self.view_is in
    let shared = ap (λ (s : QueueState). s.shared) c.self.view_is in
    let view = ap (λ (s : QueueState). length s.items) c.self.view_is in
    omega (
      arith,
      spare,
      shared,
      view,
      weave-length spans.all.items own.items,
      spans.counted,
      c.clear.ensures.spare,
    )

pub returns-else-queued-len-clause-whole : goal.returns-else-queued-len-clause-whole
returns-else-queued-len-clause-whole c = λ none.
    let spans = c.self.inside.spans in
    let own = c.self.inside.own in
    let new = c.take_away-queued.new.self in
    let view = ap (λ (s : QueueState). length s.items) c.self.view_is in
    let fits = c.take_away-queued.ensures.fits own.items c.self.invariant
    (omega (arith, view, c.requires.within)) in
    let left : length (weave new.all.items c.advance.new.self.items) ≡ 0 = ap length none in
    let items = ap length c.advance.ensures.items in
    absurd (omega (
      arith,
      left,
      items,
      fits,
      c.if-queued-len.false,
      c.len.ensures.value,
      weave-length new.all.items c.advance.new.self.items,
      length-drop c.take_away-queued.result own.items,
    ))
