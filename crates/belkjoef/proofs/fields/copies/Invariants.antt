use Rattle.std.specs.Prelude.{◌≡◌, take}
use Rattle.belkjoef.specs.Given.{fields_given}
use Rattle.belkjoef.proofs.fields.copies.Given as goal

abbrev pub invariant-loop-field : goal.invariant-loop-field
invariant-loop-field l = l.copies.items ≡ fields_given (take l.field-index l.fields)
