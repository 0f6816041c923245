use Rattle.hpack.proofs.Names.{◌≡◌}
use Rattle.hpack.specs.FieldLists.{value_of}
use Rattle.hpack.proofs.types.field_list.FieldList.value.Given as goal

-- The first field with the name is the first of those that are left.
abbrev pub invariant-loop-field : goal.invariant-loop-field
invariant-loop-field l = value_of l.fn.name l.fn.self ≡ value_of l.fn.name l.field-iterator
