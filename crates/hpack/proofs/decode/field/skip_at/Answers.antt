use Rattle.hpack.proofs.Names.{take, false, refl, err_from_is_err_and, Field}
use Rattle.hpack.proofs.PrefixLemmas.{octets_after, split_at_count, fault_moves}
use Rattle.hpack.proofs.StepLemmas.{index_first, index_step, no_index_step}
use Rattle.hpack.proofs.decode.field.skip_at.Goals as goal

pub returns-in_err-count-clause-fault : goal.returns-in_err-count-clause-fault
returns-in_err-count-clause-fault c =
    let p = err_from_is_err_and c.from_residual.result c.from_residual.ensures.1 in
    let first = index_first _ (c.begins_with_index.ensures.0 c.if-begins_with_index.true) in
    rw (p.1, p.2) (fault_moves _ _ _ _ _ (no_index_step _ _ first.0) c.in_err-count.ensures.fault)

pub returns-then-begins_with_index-clause-ok : goal.returns-then-begins_with_index-clause-ok
returns-then-begins_with_index-clause-ok c =
    let octets = c.args.octets.now in
    let table = c.args.table.now in
    let count = c.in_ok-count.count in
    let read = c.in_ok-count.ensures.ok in
    let first = index_first octets (c.begins_with_index.ensures.0 c.if-begins_with_index.true) in
    let field : Field = record { name = _; value = _; sensitive = false } in (
      field,
      read.0,
      index_step table octets (take count octets) (octets_after octets count) field
          (split_at_count octets count) first.0 first.1 read.1 refl,
    )
