use Rattle.hpack.proofs.Names.{take, false, refl, arith, IfOk-weaker, IfErr-weaker}
use Rattle.hpack.proofs.Names.{err_from_is_err_and, IsIndex, IsLiteral, IsStep, prefix_bits_of}
use Rattle.hpack.proofs.PrefixLemmas.{octets_after, split_at_count, fault_moves}
use Rattle.hpack.proofs.StepLemmas.{index_step, literal_step, no_index_step, no_literal_step}
use Rattle.hpack.proofs.decode.field.field_at.Goals as goal

pub returns-in_err-name_len-clause-fault : goal.returns-in_err-name_len-clause-fault
returns-in_err-name_len-clause-fault c =
    let octets = c.args.octets.now in
    let table = c.args.table.now in
    let p = err_from_is_err_and c.from_residual.result c.from_residual.ensures.1 in
    rw (p.1, p.2) (fault_moves (IsIndex table.entries) (IsStep table) octets octets _
    (no_index_step table octets c.if-first-ge128.true) c.in_err-name_len.ensures.fault)

pub returns-then-first-ge128-clause-ok : goal.returns-then-first-ge128-clause-ok
returns-then-first-ge128-clause-ok c =
    let octets = c.args.octets.now in
    let count = c.in_ok-name_len.count in
    let h = c.in_ok-name_len.ensures.ok in (
      record { name = h.0; value = h.1; sensitive = false },
      record { joined = h.2; named = h.3; marked = refl },
      h.4,
      index_step c.args.table.now octets (take count octets) (octets_after octets count)
          (record { name = h.0; value = h.1; sensitive = false }) (split_at_count octets count)
          c.if-first-ge128.true (omega (arith, c.type_inv.octets 0)) h.5 refl,
    )

pub returns-clause-ok : goal.returns-clause-ok
returns-clause-ok c =
    let octets = c.args.octets.now in
    IfOk-weaker c.literal_at.result _ _ (λ read h. (
      record { name = h.0; value = h.1; sensitive = read.sensitive },
      record { joined = h.2; named = h.3; marked = refl },
      h.4,
      literal_step c.args.table.now _ octets (take read.count octets)
          (octets_after octets read.count)
          (record { name = h.0; value = h.1; sensitive = read.sensitive }) c.in-Some.kind
          (split_at_count octets read.count) c.in-Some.ensures h.5 h.6 h.7,
    )) c.literal_at.ensures.ok

pub returns-clause-fault : goal.returns-clause-fault
returns-clause-fault c =
    let octets = c.args.octets.now in
    let table = c.args.table.now in
    IfErr-weaker c.literal_at.result _ _
    (λ fault. fault_moves (IsLiteral table.entries (prefix_bits_of c.in-Some.kind)) (IsStep table)
    octets octets fault (no_literal_step table octets c.in-Some.kind c.in-Some.ensures))
    c.literal_at.ensures.fault
