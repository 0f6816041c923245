use Rattle.std.specs.Prelude.{◌≡◌, length, take}
use Rattle.belkjoef.specs.Given.{fields_given}
use Rattle.belkjoef.proofs.kept.recopy_first.Given as goal

abbrev pub invariant-loop-place : goal.invariant-loop-place
invariant-loop-place l = (length l.copies.items ≡ length l.initial.copies.items)
    × (take l.place l.copies.items ≡ fields_given (take l.place l.fields))
