use Rattle.hpack.proofs.Names.{represented, subst, ◌∙◌, AllByRecursion, IsOctet}
use Rattle.hpack.proofs.FieldLemmas.{write_step, after_step, write_end, after_end, extended_more}
use Rattle.hpack.proofs.StateLemmas.{octets_step, octets_end}
use Rattle.hpack.proofs.encode.fields.append_fields.Goals as goal

pub loop-field-preserved : goal.loop-field-preserved
loop-field-preserved c =
    let table = represented c.loop-field.pending c.args.table.now in
    let after = represented c.append_one.new.pending c.args.table.now in
    record {
      pending = c.in_ok-append_one.ensures.pending;
      written = write_step c.args.out.now.items c.loop-field.out.items c.append_one.new.out.items
          table after c.args.fields.now c.loop-field.field-index c.field-item.result _
          c.loop-field-test.true c.field-item.is c.in_ok-append_one.ensures.written
          c.in_ok-append_one.ensures.after c.loop-field.invariant.written;
      after = after_step table after _ c.args.fields.now c.loop-field.field-index
          c.field-item.result c.loop-field-test.true c.field-item.is
          c.in_ok-append_one.ensures.after c.loop-field.invariant.after;
      added = λ base is. c.in_ok-append_one.ensures.added base
          (c.loop-field.invariant.added base is);
      octets = octets_step c.args.fields.now c.loop-field.field-index c.field-item.result
          c.loop-field-test.true c.field-item.is (
            subst (AllByRecursion IsOctet) c.as_slice.ensures c.are_octets.ensures,
            subst (AllByRecursion IsOctet) c.as_slice-in-loop-field.ensures
                c.are_octets-in-loop-field.ensures,
          ) c.loop-field.invariant.octets;
      capacity = c.append_one.ensures.capacity ∙ c.loop-field.invariant.capacity;
      extended = extended_more c.args.out.now.items c.loop-field.out.items
          c.append_one.new.out.items _ c.loop-field.invariant.extended
          c.in_ok-append_one.ensures.written;
    }

pub returns-clause-written : goal.returns-clause-written
returns-clause-written c =
    write_end c.loop-field.out.items _ (represented c.loop-field.pending c.args.table.now)
    c.args.fields.now c.loop-field.field-index c.loop-field-test.false
    c.loop-field.invariant.written

pub returns-clause-after : goal.returns-clause-after
returns-clause-after c =
    after_end (represented c.loop-field.pending c.args.table.now) _ c.args.fields.now
    c.loop-field.field-index c.loop-field-test.false c.loop-field.invariant.after

pub returns-clause-octets : goal.returns-clause-octets
returns-clause-octets c = octets_end c.args.fields.now c.loop-field.field-index
    c.loop-field-test.false c.loop-field.invariant.octets
