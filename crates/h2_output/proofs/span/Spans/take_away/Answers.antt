-- By the lemmas on taking from the front of what is woven.
use Rattle.std.proofs.Common.{◌≡◌, ◌+◌, ◌-◌, ◌≤◌, ◌∷◌, length, drop, ap, sym, ◌∙◌, arith}
use Rattle.std.proofs.Common.{length-drop, drop-drop, drop_of_length-le, subst, []}
use Rattle.std.proofs.Common.{eqb-true, deque_len}
use Rattle.h2_output.specs.Woven.{weave, octets_before, octets_shared}
use Rattle.h2_output.proofs.WovenLemmas.{weave-early, weave-past, weave-inside, weave-passed}
use Rattle.h2_output.proofs.WovenLemmas.{weave-length}
use Rattle.h2_output.proofs.span.Spans.take_away.Goals as goal

pub overflow_sub-self : goal.overflow_sub-self
unfolding octets_before
overflow_sub-self c =
    let ahead : octets_before c.loop-span.self.all.items
    ≡ c.in-Some.span.before + octets_before c.pop_front.new.self.items =
    ap octets_before c.in-Some.ensures.items in omega (arith, ahead)

pub invariant_of-self : goal.invariant_of-self
unfolding octets_before octets_shared
invariant_of-self c =
    let ahead : octets_before c.loop-span.self.all.items
    ≡ c.in-Some.span.before + octets_before c.pop_front.new.self.items =
    ap octets_before c.in-Some.ensures.items in
    let shares : octets_shared c.loop-span.self.all.items
    ≡ length c.in-Some.span.octets + octets_shared c.pop_front.new.self.items =
    ap octets_shared c.in-Some.ensures.items in
    let put = c.push_front_reserved.ensures.items in
    let before : octets_before c.push_front_reserved.new.self.items
    ≡ c.in-Some.span.before - c.loop-span.left + octets_before c.pop_front.new.self.items =
    ap octets_before put in
    let now : octets_shared c.push_front_reserved.new.self.items
    ≡ length c.in-Some.span.octets + octets_shared c.pop_front.new.self.items =
    ap octets_shared put in
    let counted : c.loop-span.self.shared ≡ octets_shared c.push_front_reserved.new.self.items =
    omega (arith, shares, now) in
    record {
      placed = omega (arith, ahead, before);
      counted = counted;
      bounded = c.loop-span.self.bounded;
    }

pub returns-then-left-span-clause-woven : goal.returns-then-left-span-clause-woven
unfolding octets_before
returns-then-left-span-clause-woven c = λ queue fits within.
    let left = c.loop-span.left in
    let queued = c.loop-span.queued in
    let rest = c.pop_front.new.self.items in
    let ahead : octets_before c.loop-span.self.all.items
    ≡ c.in-Some.span.before + octets_before c.pop_front.new.self.items =
    ap octets_before c.in-Some.ensures.items in
    let enough : c.in-Some.span.before + octets_before rest ≤ length (drop queued queue) =
    omega (arith, ahead, fits, length-drop queued queue) in
    c.loop-span.invariant.woven queue fits
    ∙ ap (λ s. drop left (weave s (drop queued queue))) c.in-Some.ensures.items
    ∙ weave-early c.in-Some.span rest (drop queued queue) left (omega arith) enough
    ∙ ap (λ s. weave s (drop left (drop queued queue)))
    (sym c.push_front_reserved.ensures.items)
    ∙ ap (weave c.push_front_reserved.new.self.items) (drop-drop left queued queue)

pub returns-then-left-span-clause-fits : goal.returns-then-left-span-clause-fits
unfolding octets_before
returns-then-left-span-clause-fits c = λ queue fits within.
    let ahead : octets_before c.loop-span.self.all.items
    ≡ c.in-Some.span.before + octets_before c.pop_front.new.self.items =
    ap octets_before c.in-Some.ensures.items in omega (arith, ahead)

pub overflow_sub-self-in-Some : goal.overflow_sub-self-in-Some
unfolding octets_before
overflow_sub-self-in-Some c =
    let ahead : octets_before c.loop-span.self.all.items
    ≡ c.in-Some.span.before + octets_before c.pop_front.new.self.items =
    ap octets_before c.in-Some.ensures.items in omega (arith, ahead)

pub overflow_sub-self-then-left-len : goal.overflow_sub-self-then-left-len
unfolding octets_shared
overflow_sub-self-then-left-len c =
    let ahead : octets_shared c.loop-span.self.all.items
    ≡ length c.in-Some.span.octets + octets_shared c.pop_front.new.self.items =
    ap octets_shared c.in-Some.ensures.items in omega (arith, ahead)

pub invariant_of-self-then-left-len : goal.invariant_of-self-then-left-len
unfolding octets_before octets_shared
invariant_of-self-then-left-len c =
    let ahead : octets_before c.loop-span.self.all.items
    ≡ c.in-Some.span.before + octets_before c.pop_front.new.self.items =
    ap octets_before c.in-Some.ensures.items in
    let shares : octets_shared c.loop-span.self.all.items
    ≡ length c.in-Some.span.octets + octets_shared c.pop_front.new.self.items =
    ap octets_shared c.in-Some.ensures.items in
    let put = c.push_front_reserved-then-left-len.ensures.items in
    let before : octets_before c.push_front_reserved-then-left-len.new.self.items
    ≡ 0 + octets_before c.pop_front.new.self.items = ap octets_before put in
    let now : octets_shared c.push_front_reserved-then-left-len.new.self.items
    ≡ length c.advance.new.self + octets_shared c.pop_front.new.self.items =
    ap octets_shared put in
    let left = ap length c.advance.ensures in
    let size = length-drop (c.loop-span.left - c.in-Some.span.before) c.in-Some.span.octets in
    record {
      placed = omega (arith, ahead, before);
      counted = omega (arith, shares, now, left, size);
      bounded = omega (arith, c.loop-span.self.bounded);
    }

pub returns-then-left-len-clause-woven : goal.returns-then-left-len-clause-woven
unfolding octets_before
returns-then-left-len-clause-woven c = λ queue fits within.
    let left = c.loop-span.left in
    let span = c.in-Some.span in
    let queued = c.loop-span.queued in
    let rest = c.pop_front.new.self.items in
    let new = c.push_front_reserved-then-left-len.new.self.items in
    let ahead : octets_before c.loop-span.self.all.items
    ≡ c.in-Some.span.before + octets_before c.pop_front.new.self.items =
    ap octets_before c.in-Some.ensures.items in
    let enough : span.before + octets_before rest ≤ length (drop queued queue) =
    omega (arith, ahead, fits, length-drop queued queue) in
    c.loop-span.invariant.woven queue fits
    ∙ ap (λ s. drop left (weave s (drop queued queue))) c.in-Some.ensures.items
    ∙ weave-past span rest (drop queued queue) left (omega arith) enough
    ∙ weave-inside span rest (drop span.before (drop queued queue)) (left - span.before)
    (omega arith)
    ∙ ap (λ octets. weave (record { before = 0; octets = octets } ∷ rest)
    (drop span.before (drop queued queue))) (sym c.advance.ensures)
    ∙ ap (λ s. weave s (drop span.before (drop queued queue)))
    (sym c.push_front_reserved-then-left-len.ensures.items)
    ∙ ap (weave new) (drop-drop span.before queued queue)

pub returns-then-left-len-clause-fits : goal.returns-then-left-len-clause-fits
unfolding octets_before
returns-then-left-len-clause-fits c = λ queue fits within.
    let ahead : octets_before c.loop-span.self.all.items
    ≡ c.in-Some.span.before + octets_before c.pop_front.new.self.items =
    ap octets_before c.in-Some.ensures.items in omega (arith, ahead)

pub overflow_sub-self-in-Some-2 : goal.overflow_sub-self-in-Some-2
unfolding octets_shared
overflow_sub-self-in-Some-2 c =
    let ahead : octets_shared c.loop-span.self.all.items
    ≡ length c.in-Some.span.octets + octets_shared c.pop_front.new.self.items =
    ap octets_shared c.in-Some.ensures.items in omega (arith, ahead)

pub invariant_of-self-in-Some : goal.invariant_of-self-in-Some
unfolding octets_before octets_shared
invariant_of-self-in-Some c =
    let ahead : octets_before c.loop-span.self.all.items
    ≡ c.in-Some.span.before + octets_before c.pop_front.new.self.items =
    ap octets_before c.in-Some.ensures.items in
    let shares : octets_shared c.loop-span.self.all.items
    ≡ length c.in-Some.span.octets + octets_shared c.pop_front.new.self.items =
    ap octets_shared c.in-Some.ensures.items in
    record {
      placed = omega (arith, ahead);
      counted = omega (arith, shares);
      bounded = omega (arith, c.loop-span.self.bounded);
    }

pub loop-span-preserved-else-left-len : goal.loop-span-preserved-else-left-len
unfolding octets_before octets_shared
loop-span-preserved-else-left-len c =
    let left = c.loop-span.left in
    let span = c.in-Some.span in
    let queued = c.loop-span.queued in
    let rest = c.pop_front.new.self.items in
    let kept = c.loop-span.invariant in
    let ahead : octets_before c.loop-span.self.all.items
    ≡ c.in-Some.span.before + octets_before c.pop_front.new.self.items =
    ap octets_before c.in-Some.ensures.items in
    let shares : octets_shared c.loop-span.self.all.items
    ≡ length c.in-Some.span.octets + octets_shared c.pop_front.new.self.items =
    ap octets_shared c.in-Some.ensures.items in
    record {
      counted = omega arith;
      before = omega (arith, ahead);
      shared = omega (arith, shares);
      less = omega arith;
      passed = omega (arith, ahead);
      enough = λ queue fits within.
          omega (
            arith,
            ahead,
            shares,
            kept.enough queue fits within,
            weave-length c.loop-span.self.all.items (drop queued queue),
            weave-length rest (drop (queued + span.before) queue),
            length-drop queued queue,
            length-drop (queued + span.before) queue,
          );
      woven = λ queue fits.
          let enough : span.before + octets_before rest ≤ length (drop queued queue) =
          omega (arith, ahead, fits, length-drop queued queue) in
          let size = c.len-left.ensures.value in
          kept.woven queue fits
          ∙ ap (λ s. drop left (weave s (drop queued queue))) c.in-Some.ensures.items
          ∙ weave-passed span rest (drop queued queue) left (omega arith) (omega arith) enough
          ∙ ap (λ n. drop (left - span.before - n)
          (weave rest (drop span.before (drop queued queue)))) (sym size)
          ∙ ap (λ q. drop (left - span.before - c.len-left.result) (weave rest q))
          (drop-drop span.before queued queue);
    }

pub loop-span-preserved : goal.loop-span-preserved
unfolding octets_before octets_shared
loop-span-preserved c =
    let left = c.loop-span.left in
    let span = c.in-Some.span in
    let queued = c.loop-span.queued in
    let rest = c.pop_front.new.self.items in
    let kept = c.loop-span.invariant in
    let ahead : octets_before c.loop-span.self.all.items
    ≡ c.in-Some.span.before + octets_before c.pop_front.new.self.items =
    ap octets_before c.in-Some.ensures.items in
    let shares : octets_shared c.loop-span.self.all.items
    ≡ length c.in-Some.span.octets + octets_shared c.pop_front.new.self.items =
    ap octets_shared c.in-Some.ensures.items in
    record {
      counted = omega arith;
      before = omega (arith, ahead);
      shared = omega (arith, shares);
      less = omega arith;
      passed = omega (arith, ahead);
      enough = λ queue fits within.
          omega (
            arith,
            ahead,
            shares,
            kept.enough queue fits within,
            weave-length c.loop-span.self.all.items (drop queued queue),
            weave-length rest (drop (queued + span.before) queue),
            length-drop queued queue,
            length-drop (queued + span.before) queue,
          );
      woven = λ queue fits.
          let enough : span.before + octets_before rest ≤ length (drop queued queue) =
          omega (arith, ahead, fits, length-drop queued queue) in
          let size = c.len-left.ensures.value in
          kept.woven queue fits
          ∙ ap (λ s. drop left (weave s (drop queued queue))) c.in-Some.ensures.items
          ∙ weave-passed span rest (drop queued queue) left (omega arith) (omega arith) enough
          ∙ ap (λ n. drop (left - span.before - n)
          (weave rest (drop span.before (drop queued queue)))) (sym size)
          ∙ ap (λ q. drop (left - span.before - c.len-left.result) (weave rest q))
          (drop-drop span.before queued queue);
    }

pub returns-clause-woven : goal.returns-clause-woven
unfolding weave
returns-clause-woven c = λ queue fits within.
    let left = c.loop-span.left in
    let queued = c.loop-span.queued in
    let all = c.loop-span.self.all in
    let none : all.items ≡ [] =
    drop_of_length-le all.items {i = 0} (omega (arith, c.in_default.ensures.cases.0, all.ok.0)) in
    c.loop-span.invariant.woven queue fits
    ∙ ap (λ s. drop left (weave s (drop queued queue))) none
    ∙ drop-drop left queued queue
    ∙ ap (λ s. weave s (drop (queued + left) queue)) (sym none ∙ c.in_default.ensures.items)

pub returns-clause-fits : goal.returns-clause-fits
unfolding weave octets_before
returns-clause-fits c = λ queue fits within.
    let left = c.loop-span.left in
    let queued = c.loop-span.queued in
    let all = c.loop-span.self.all in
    let none : all.items ≡ [] =
    drop_of_length-le all.items {i = 0} (omega (arith, c.in_default.ensures.cases.0, all.ok.0)) in
    let last : left ≤ length (drop queued queue) =
    subst (λ s. left ≤ length (weave s (drop queued queue))) none
    (c.loop-span.invariant.enough queue fits within) in
    let first : octets_before all.items ≡ 0 = ap octets_before none in
    omega (arith, last, first, c.loop-span.self.placed, length-drop queued queue)

pub returns-then-is_empty-clause-woven : goal.returns-then-is_empty-clause-woven
unfolding weave
returns-then-is_empty-clause-woven c = λ queue fits within.
    let all = c.args.self.now.all in
    let zero : deque_len all ≡ 0 = eqb-true (deque_len all) 0 (sym c.if-is_empty.ensures) in
    let none : all.items ≡ [] =
    drop_of_length-le all.items {i = 0} (omega (arith, zero, all.ok.0)) in
    ap (λ s. drop c.args.count (weave s queue)) none
    ∙ ap (λ s. weave s (drop c.args.count queue)) (sym none)

pub returns-then-is_empty-clause-fits : goal.returns-then-is_empty-clause-fits
unfolding weave octets_before
returns-then-is_empty-clause-fits c = λ queue fits within.
    let all = c.args.self.now.all in
    let zero : deque_len all ≡ 0 = eqb-true (deque_len all) 0 (sym c.if-is_empty.ensures) in
    let none : all.items ≡ [] =
    drop_of_length-le all.items {i = 0} (omega (arith, zero, all.ok.0)) in
    let some : c.args.count ≤ length queue =
    subst (λ s. c.args.count ≤ length (weave s queue)) none within in
    let first : octets_before all.items ≡ 0 = ap octets_before none in
    omega (arith, some, first, c.args.self.now.placed)
