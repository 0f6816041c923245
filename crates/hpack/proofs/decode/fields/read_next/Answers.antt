use Rattle.hpack.proofs.Names.{ℕ, ◌∷◌, [], take, ap, sym, ◌∙◌, arith}
use Rattle.hpack.proofs.RepeatedLemmas.{repeats_next, reads_index, reads_other, some_read}
use Rattle.hpack.proofs.RepeatedLemmas.{take_first}
use Rattle.hpack.proofs.decode.fields.read_next.Goals as goal

pub returns-then-first-repeatable-clause-ok : goal.returns-then-first-repeatable-clause-ok
returns-then-first-repeatable-clause-ok c =
    let octets = c.args.octets.now in (
      omega (arith, c.requires),
      λ done is. repeats_next c.args.table.now (take 1 octets) c.args.repeatable
          c.args.builder.now _ done
          (take_first octets 0 c.requires ∙ ap (λ (n : ℕ). n ∷ [])
          (sym c.from-first.ensures ∙ c.if-first-repeatable.true))
          (omega (arith, c.type_inv.octets 0, c.from-first.ensures, c.if-first-repeatable.true))
          c.in_ok-add_again.ensures.ok is,
    )

pub returns-then-count-eq1-clause-ok : goal.returns-then-count-eq1-clause-ok
returns-then-count-eq1-clause-ok c =
    let octets = c.args.octets.now in
    let read = c.in_ok-count.ensures.ok in (
      read.1,
      λ done is. reads_index c.args.table.now _ (take c.in_ok-count.count octets)
          c.from-first.result c.args.builder.now _ done read.0
          (ap (λ (n : ℕ). take n octets) c.if-count-eq1.true ∙ (take_first octets 0 c.requires
          ∙ ap (λ (n : ℕ). n ∷ []) (sym c.from-first.ensures)))
          (omega (arith, c.if-first-ge128.true)) read.2 read.3,
    )

pub returns-then-count-eq1-clause-long : goal.returns-then-count-eq1-clause-long
returns-then-count-eq1-clause-long c =
    let read = c.in_ok-count.ensures.ok in
    some_read c.args.table.now _ c.args.octets.now c.in_ok-count.count read.0 read.1 read.2

pub returns-else-count-eq1-clause-ok : goal.returns-else-count-eq1-clause-ok
returns-else-count-eq1-clause-ok c =
    let read = c.in_ok-count.ensures.ok in (
      read.1,
      λ done is. reads_other c.args.table.now _ (take c.in_ok-count.count c.args.octets.now)
          c.args.builder.now _ done read.0 read.2 read.3,
    )

pub returns-else-count-eq1-clause-long : goal.returns-else-count-eq1-clause-long
returns-else-count-eq1-clause-long c =
    let read = c.in_ok-count.ensures.ok in
    some_read c.args.table.now _ c.args.octets.now c.in_ok-count.count read.0 read.1 read.2

pub returns-clause-ok : goal.returns-clause-ok
returns-clause-ok c =
    let read = c.in_ok-count-2.ensures.ok in (
      read.1,
      λ done is. reads_other c.args.table.now _ (take c.in_ok-count-2.count c.args.octets.now)
          c.args.builder.now _ done read.0 read.2 read.3,
    )

pub returns-clause-long : goal.returns-clause-long
returns-clause-long c =
    let read = c.in_ok-count-2.ensures.ok in
    some_read c.args.table.now _ c.args.octets.now c.in_ok-count-2.count read.0 read.1 read.2
