-- A line more of the name is joined to the value.
use Rattle.std.proofs.Common.{◌∙◌, List, Some, ap, sym, ℕ}
use Rattle.h2_folder.specs.Lines.{joined_on}
use Rattle.h2_folder.proofs.LineLemmas.{joined_end, joined_first}
use Rattle.h2_folder.proofs.lines.joined_value.Goals as goal

pub loop-field-preserved : goal.loop-field-preserved
loop-field-preserved c =
    sym (joined_first _ _ _ _ _ c.in-Some.ensures.steps (sym c.eq.ensures ∙ c.if-eq.false))
    ∙ c.loop-field.invariant

pub loop-field-preserved-then-eq : goal.loop-field-preserved-then-eq
loop-field-preserved-then-eq c =
    ap (λ (line : List ℕ). joined_on (Some line) c.args.name.now c.next.new.self)
    c.in_ok-with_line.ensures
    ∙ sym (joined_first _ _ _ _ _ c.in-Some.ensures.steps (sym c.eq.ensures ∙ c.if-eq.true))
    ∙ c.loop-field.invariant

pub returns : goal.returns
returns c = joined_end _ c.args.name.now _ c.in-None.ensures.steps.0 ∙ c.loop-field.invariant
