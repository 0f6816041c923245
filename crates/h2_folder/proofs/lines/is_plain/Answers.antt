-- A field that is no condition leaves the conditions as they are.
use Rattle.std.proofs.Common.{◌∙◌, sym}
use Rattle.h2_folder.proofs.LineLemmas.{plain_end, plain_first}
use Rattle.h2_folder.proofs.lines.is_plain.Goals as goal

pub loop-field-preserved : goal.loop-field-preserved
loop-field-preserved c =
    sym (plain_first _ _ _ c.in-Some.ensures.steps
    (sym c.is_condition.ensures ∙ c.if-is_condition.false)) ∙ c.loop-field.invariant

pub returns : goal.returns
returns c = λ _. sym c.loop-field.invariant ∙ plain_end _ c.in-None.ensures.steps.0
