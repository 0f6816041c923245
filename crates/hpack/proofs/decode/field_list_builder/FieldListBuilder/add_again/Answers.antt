use Rattle.hpack.proofs.Names.{refl, ℕ, ◌+◌, ◌-◌, ◌^◌, min, ap, sym, ◌∙◌, arith}
use Rattle.hpack.proofs.RepeatedLemmas.{again_within_limit, again_over_limit}
use Rattle.hpack.proofs.decode.field_list_builder.FieldListBuilder.add_again.Goals as goal

pub returns-then-size-left-clause-ok : goal.returns-then-size-left-clause-ok
returns-then-size-left-clause-ok c = λ list_limit before field has.
    again_within_limit c.args.self.now _ c.in-Some-last.place.now c.in-Some.left
    c.saturating_add-size.result c.in-Some.is
    (sym (rw c.deref.ensures.value at c.in-Some-last.ensures.value))
    (c.saturating_add-size.ensures
    ∙ ap (λ (n : ℕ). min (n + 32) (2 ^ 64 - 1)) c.saturating_sub.ensures)
    (omega arith) list_limit before field has (omega (arith, c.if-size-left.true)) refl
    c.in_ok-push.ensures.items refl

pub returns-clause-ok : goal.returns-clause-ok
returns-clause-ok c = λ list_limit before field has.
    again_over_limit c.args.self.now _ c.in-Some-last.place.now c.in-Some.left
    c.saturating_add-size.result c.in-Some.is
    (sym (rw c.deref.ensures.value at c.in-Some-last.ensures.value))
    (c.saturating_add-size.ensures
    ∙ ap (λ (n : ℕ). min (n + 32) (2 ^ 64 - 1)) c.saturating_sub.ensures)
    (omega arith) list_limit before field has (omega (arith, c.if-size-left.false))
    c.clear-2.ensures.items refl
