-- What joins the queue comes last, and a span after all of it does.
use Rattle.std.proofs.Common.{◌≡◌, ◌+◌, ◌-◌, ◌≤◌, ◌++◌, length, ap, ◌∙◌, arith}
use Rattle.h2_output.specs.Woven.{QueueState, weave, octets_before}
use Rattle.h2_output.specs.declared.span.Span.{Span}
use Rattle.h2_output.proofs.WovenLemmas.{weave-append, weave-span}
use Rattle.h2_output.proofs.queue.Queue.share.Goals.{in-Some-2, in-None-2}
use Rattle.h2_output.proofs.queue.Queue.share.Goals as goal

pub returns-then-len-lt-LEAST_SHARED-clause-items :
    goal.returns-then-len-lt-LEAST_SHARED-clause-items
returns-then-len-lt-LEAST_SHARED-clause-items c =
    let spans = c.self.inside.spans in
    let fits : octets_before spans.all.items ≤ length c.self.inside.own.items =
    omega (arith, spans.placed, c.self.invariant) in
    rw (c.extend_reserved.ensures.items, c.as_slice.ensures)
    (weave-append spans.all.items c.self.inside.own.items c.args.octets fits
    ∙ ap (λ (s : QueueState). s.items ++ c.args.octets) c.self.view_is)

pub returns-in-Some-clause-items : goal.returns-in-Some-clause-items
returns-in-Some-clause-items c =
    let spans = c.self.inside.spans in
    let given = c.in-Some.ensures.refused in
    let fits : octets_before spans.all.items ≤ length c.self.inside.own.items =
    omega (arith, spans.placed, c.self.invariant) in
    let added : weave c.add.new.self.all.items c.extend_reserved-in-Some.new.self.items
    ≡ c.args.self.now.items ++ c.args.octets =
    rw (given.1, c.extend_reserved-in-Some.ensures.items, c.as_slice-in-Some.ensures, given.0)
    (weave-append spans.all.items c.self.inside.own.items c.args.octets fits
    ∙ ap (λ (s : QueueState). s.items ++ c.args.octets) c.self.view_is) in
    elim c.match-refused.branch [
      | in-Some-2 w ↦ rw w.self-is added
      | in-None-2 w ↦ rw w.self-is added
    ]

pub returns-in_default-clause-items : goal.returns-in_default-clause-items
returns-in_default-clause-items c =
    let spans = c.self.inside.spans in
    let own = c.self.inside.own.items in
    let span : Span = record {
      before = c.len-2.result - spans.before;
      octets = c.args.octets;
    } in
    let all : octets_before spans.all.items + span.before ≡ length own =
    omega (arith, spans.placed, c.self.invariant, c.len-2.ensures.value) in
    rw c.in_default.ensures.added.0
    (weave-span spans.all.items span own all
    ∙ ap (λ (s : QueueState). s.items ++ c.args.octets) c.self.view_is)
