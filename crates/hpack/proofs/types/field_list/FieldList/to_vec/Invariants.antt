use Rattle.hpack.proofs.Names.{◌≡◌, ◌++◌}
use Rattle.hpack.proofs.types.field_list.FieldList.to_vec.Given as goal

-- What is copied and what is left are all fields.
abbrev pub invariant-loop-field : goal.invariant-loop-field
invariant-loop-field l = l.copies.items ++ l.field-iterator ≡ l.fn.self
