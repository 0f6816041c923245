use Rattle.hpack.proofs.Names.{◌∷◌, [], ◌++◌, take, err_from_is_err_and}
use Rattle.hpack.proofs.PrefixLemmas.{octets_after, split_at_count}
use Rattle.hpack.proofs.BlockLemmas.{reads_more, reads_all, reads_fault, none_left, some_left}
use Rattle.hpack.proofs.decode.fields.read_fields.Goals as goal

pub returns-in_err-count-clause-fault : goal.returns-in_err-count-clause-fault
returns-in_err-count-clause-fault c =
    let p = err_from_is_err_and c.from_residual.result c.from_residual.ensures.1 in
    rw (p.1, p.2) (reads_fault c.args.table.now c.loop-unparsed.table c.args.octets.now
    c.loop-unparsed.unparsed.now c.loop-unparsed.invariant.0 _
    (some_left _ c.loop-unparsed-test.ensures) c.loop-unparsed.invariant.1
    c.in_err-count.ensures.fault)

pub loop-unparsed-preserved : goal.loop-unparsed-preserved
loop-unparsed-preserved c =
    let unparsed = c.loop-unparsed.unparsed.now in
    let done = c.loop-unparsed.invariant.0 in
    let count = c.in_ok-count.count in
    let next = c.in_ok-count.ensures.ok.1 done c.loop-unparsed.invariant.3 in (
      done ++ next.field ∷ [],
      reads_more c.args.table.now c.loop-unparsed.table c.read_next.new.table c.args.octets.now
          unparsed (take count unparsed) (octets_after unparsed count) done next.field
          (split_at_count unparsed count) next.step c.loop-unparsed.invariant.1,
      λ list_limit empty. next.added list_limit (c.loop-unparsed.invariant.2 list_limit empty),
      next.repeatable,
    )

pub returns-clause-ok : goal.returns-clause-ok
returns-clause-ok c =
    let done = c.loop-unparsed.invariant.0 in (
      done,
      reads_all c.args.table.now c.loop-unparsed.table c.args.octets.now
          c.loop-unparsed.unparsed.now done (none_left _ c.loop-unparsed-test.ensures)
          c.loop-unparsed.invariant.1,
      c.loop-unparsed.invariant.2,
    )
