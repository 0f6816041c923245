use Rattle.std.specs.Prelude.{◌≡◌, ◌++◌, take}
use Rattle.belkjoef.specs.Given.{fields_given}
use Rattle.belkjoef.proofs.kept.copy_rest.Given as goal

abbrev pub invariant-loop-field : goal.invariant-loop-field
invariant-loop-field l =
    l.copies.items ≡ l.initial.copies.items ++ fields_given (take l.field-index l.fields)
