use Rattle.hpack.proofs.Names.{◌∙◌, ap, sym}
use Rattle.hpack.specs.FieldLists.{value_of}
use Rattle.hpack.proofs.FieldListLemmas.{value_first}
use Rattle.hpack.proofs.types.field_list.FieldList.value.Goals as goal

pub returns-then-eq : goal.returns-then-eq
returns-then-eq c =
    c.loop-field.invariant
    ∙ value_first _ _ _ _ c.in-Some.ensures.steps (sym c.eq.ensures ∙ c.if-eq.true)

pub loop-field-preserved : goal.loop-field-preserved
loop-field-preserved c =
    c.loop-field.invariant
    ∙ value_first _ _ _ _ c.in-Some.ensures.steps (sym c.eq.ensures ∙ c.if-eq.false)

pub returns : goal.returns
unfolding value_of
returns c = c.loop-field.invariant ∙ ap (value_of c.args.name.now) c.in-None.ensures.steps.0
