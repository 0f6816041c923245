use Rattle.hpack.proofs.Names.{take, false, sym, subst, ◌∙◌, refl, err_from_is_err_and, Field, Step}
use Rattle.hpack.proofs.FieldListLemmas.{read_alone}
use Rattle.hpack.proofs.PrefixLemmas.{octets_after, split_at_count, fault_moves}
use Rattle.hpack.proofs.StepLemmas.{index_first, index_step, no_index_step}
use Rattle.hpack.proofs.decode.field.owned_at.Goals as goal

pub returns-in_err-name-clause-fault : goal.returns-in_err-name-clause-fault
returns-in_err-name-clause-fault c =
    let p = err_from_is_err_and c.from_residual.result c.from_residual.ensures.1 in
    let first = index_first _ (c.begins_with_index.ensures.0 c.if-begins_with_index.true) in
    rw (p.1, p.2) (fault_moves _ _ _ _ _ (no_index_step _ _ first.0) c.in_err-name.ensures.fault)

pub returns-then-begins_with_index-clause-ok : goal.returns-then-begins_with_index-clause-ok
returns-then-begins_with_index-clause-ok c =
    let octets = c.args.octets.now in
    let table = c.args.table.now in
    let count = c.in_ok-name.count in
    let read = c.in_ok-name.ensures.ok in
    let first = index_first octets (c.begins_with_index.ensures.0 c.if-begins_with_index.true) in
    let field : Field = record {
      name = c.in_ok-name.name.now;
      value = c.in_ok-name.value.now;
      sensitive = false;
    } in (
      read.0,
      subst (λ (f : Field). Step table (take count octets) f table) (sym c.in_ok-copy_of.ensures)
          (index_step table octets (take count octets) (octets_after octets count) field
          (split_at_count octets count) first.0 first.1 read.1 refl),
    )

pub returns-clause-ok : goal.returns-clause-ok
returns-clause-ok c =
    let octets = c.args.octets.now in
    let count = c.in_ok-read.read.count in
    let read = c.in_ok-read.ensures.ok in
    let same = (rw (c.split_at.ensures.front, c.split_at.ensures.back, c.deref.ensures.value) at
    c.in_ok-field.ensures)
    ∙ read_alone c.reserve.new.self.items c.field_at.new.out.items read.0 c.in_ok-read.read read.1
    (c.reserve.ensures.items ∙ c.clear.ensures.items) in (
      read.2,
      subst (λ (f : Field). Step c.args.table.now (take count octets) f c.field_at.new.table)
          (sym same) read.3,
    )
