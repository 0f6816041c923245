use Rattle.hpack.proofs.Names.{◌<◌, ℕ, List, ◌++◌, sym, ap, ◌∙◌, arith, one_shl, all_ones}
use Rattle.hpack_text.proofs.IntegerWriting.{integer-short, first_octet_fits}
use Rattle.hpack.proofs.encode.field.append_int.Goals as goal

pub overflow_add-first_bits : goal.overflow_add-first_bits
overflow_add-first_bits c =
    omega (
      arith,
      first_octet_fits c.args.prefix_bits c.args.first_bits c.requires.at_most (omega arith)
          c.requires.first_bits,
      one_shl c.args.prefix_bits 64 (omega arith),
    )

pub returns-then-value-prefix_bits-clause-ok : goal.returns-then-value-prefix_bits-clause-ok
returns-then-value-prefix_bits-clause-ok c =
    let short : c.args.value < all_ones c.args.prefix_bits =
    omega (arith, c.if-value-prefix_bits.true, one_shl c.args.prefix_bits 64 (omega arith)) in
    c.in_ok-push.ensures.items
    ∙ ap (λ (xs : List ℕ). c.args.out.now.items ++ xs)
    (sym (integer-short c.args.prefix_bits c.args.first_bits c.args.value short))
