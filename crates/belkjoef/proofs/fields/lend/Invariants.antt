use Rattle.std.specs.Prelude.{drop}
use Rattle.belkjoef.proofs.LentFields.{LentBelow}
use Rattle.belkjoef.proofs.fields.lend.Given as goal

abbrev pub invariant-loop-place : goal.invariant-loop-place
invariant-loop-place l = LentBelow (drop l.from l.list) l.initial.fields l.fields l.place
