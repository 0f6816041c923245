-- The size of the fields so far, whose names and values are octets.
use Rattle.hpack.proofs.Names.{◌≡◌, ◌-◌, ◌^◌, min, take, drop, list_size, AreOctets}
use Rattle.hpack.proofs.types.list_size.list_size.Given as goal

abbrev pub invariant-loop-field : goal.invariant-loop-field
invariant-loop-field l = record {
  size : l.size ≡ min (list_size (take l.field-index l.fields)) (2 ^ 64 - 1);
  octets : AreOctets (drop l.field-index l.fields) → AreOctets l.fields;
}
