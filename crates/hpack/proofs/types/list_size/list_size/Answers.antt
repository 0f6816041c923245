use Rattle.hpack.proofs.Names.{subst, arith, common_steps, AllByRecursion, IsOctet}
use Rattle.hpack.proofs.StateLemmas.{octets_step, octets_end}
use Rattle.hpack.proofs.types.list_size.list_size.Goals as goal

pub loop-field-preserved : goal.loop-field-preserved
loop-field-preserved c = record {
  size = grind (arith, common_steps);
  octets = octets_step c.args.fields.now c.loop-field.field-index c.field-item.result
      c.loop-field-test.true c.field-item.is (
        subst (AllByRecursion IsOctet) c.as_slice.ensures c.size_of_octets-one.ensures.name,
        subst (AllByRecursion IsOctet) c.as_slice-in-loop-field.ensures
            c.size_of_octets-one.ensures.value,
      ) c.loop-field.invariant.octets;
}

pub returns-clause-octets : goal.returns-clause-octets
returns-clause-octets c = octets_end c.args.fields.now c.loop-field.field-index
    c.loop-field-test.false c.loop-field.invariant.octets
