use Rattle.hpack.proofs.Names.{length, ap, arith}
use Rattle.hpack.proofs.ChoiceLemmas.{chosen_never, chosen_indexed, chosen_plain, chosen_added}
use Rattle.hpack.proofs.encode.choice.choose.Goals as goal

pub returns-then-field-clause-chosen : goal.returns-then-field-clause-chosen
returns-then-field-clause-chosen c =
    chosen_never _ _ _ c.if-field.true c.name_index-named.ensures.value

pub returns-then-found-gt0-clause-chosen : goal.returns-then-found-gt0-clause-chosen
returns-then-found-gt0-clause-chosen c =
    chosen_indexed _ _ _ c.if-field.false c.exact_index-found.ensures.value c.if-found-gt0.true

pub returns-then-size-maximum-clause-chosen : goal.returns-then-size-maximum-clause-chosen
returns-then-size-maximum-clause-chosen c =
    let name = ap length c.as_slice-2.ensures in
    let value = ap length c.as_slice-3.ensures in
    chosen_plain _ _ _ _ c.if-field.false c.exact_index-found.ensures.value (omega arith)
    c.name_index-named-2.ensures.value (omega arith)

pub returns-clause-chosen : goal.returns-clause-chosen
returns-clause-chosen c =
    let name = ap length c.as_slice-2.ensures in
    let value = ap length c.as_slice-3.ensures in
    chosen_added _ _ _ _ c.if-field.false c.exact_index-found.ensures.value (omega arith)
    c.name_index-named-2.ensures.value (omega arith)

pub returns-clause-fits : goal.returns-clause-fits
returns-clause-fits c =
    omega (arith, ap length c.as_slice-2.ensures, ap length c.as_slice-3.ensures)
