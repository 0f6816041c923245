-- The fields so far are copied, and their octets are octets.
use Rattle.h2_joined.proofs.Names.{take, AreOctets, ◌≡◌}
use Rattle.h2_joined.proofs.kept.copy_fields.Given as goal

abbrev pub invariant-loop-field : goal.invariant-loop-field
invariant-loop-field l = record {
  same : l.copy.items ≡ take l.field-index l.fields;
  octets : AreOctets l.copy.items;
}
