use Rattle.h2_message.proofs.Names.{sym, ap, ap₂, ◌∙◌, Field, bytes_eq, is_named}
use Rattle.h2_message.proofs.MessageHeads.{method-here, method-later, no-method}
use Rattle.h2_message.proofs.message.asks_head.Goals as goal

pub returns-then-eq : goal.returns-then-eq
unfolding is_named
returns-then-eq c =
    c.eq-then-eq.ensures
    ∙ (ap₂ bytes_eq (c.as_slice-then-eq.ensures ∙ ap (λ (f : Field). f.value) c.field-item.is)
    c.as_slice-then-eq-2.ensures
    ∙ method-here c.args.head.now c.loop-field.field-index c.field-item.result
    c.loop-field-test.true
    (sym (ap₂ bytes_eq (c.as_slice.ensures ∙ ap (λ (f : Field). f.name) c.field-item.is)
    c.as_slice-in-loop-field.ensures)
    ∙ sym c.if-eq.ensures) c.loop-field.invariant)

pub loop-field-preserved : goal.loop-field-preserved
unfolding is_named
loop-field-preserved c =
    method-later c.args.head.now c.loop-field.field-index c.field-item.result c.loop-field-test.true
    (sym (ap₂ bytes_eq (c.as_slice.ensures ∙ ap (λ (f : Field). f.name) c.field-item.is)
    c.as_slice-in-loop-field.ensures)
    ∙ sym c.if-eq.ensures) c.loop-field.invariant

pub returns : goal.returns
returns c =
    no-method c.args.head.now c.loop-field.field-index c.loop-field-test.false
    c.loop-field.invariant
