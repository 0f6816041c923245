use Rattle.hpack.proofs.Names.{◌≡◌, ◌++◌, drop, IsExtended, encoding_of_fields, after_fields}
use Rattle.hpack.proofs.Names.{AreOctets, represented, IsPendingTable, PreservesAdded, capacity_of}
use Rattle.hpack.proofs.encode.fields.append_fields.Given as goal

abbrev pub invariant-loop-field : goal.invariant-loop-field
invariant-loop-field l = record {
  pending : IsPendingTable l.pending l.table;
  written : l.out.items ++ encoding_of_fields (represented l.pending l.table)
      (drop l.field-index l.fields)
      ≡ l.initial.out.items ++ encoding_of_fields (represented l.initial.pending l.table) l.fields;
  after : after_fields (represented l.pending l.table) (drop l.field-index l.fields)
      ≡ after_fields (represented l.initial.pending l.table) l.fields;
  added : PreservesAdded l.table l.initial.pending l.pending;
  octets : AreOctets (drop l.field-index l.fields) → AreOctets l.fields;
  capacity : capacity_of l.pending ≡ capacity_of l.initial.pending;
  extended : IsExtended l.initial.out.items l.out.items;
}
