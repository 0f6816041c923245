use Rattle.hpack_text.proofs.Names.{◌<◌, ◌≤◌, ℕ, List, ◌++◌, sym, ap, ◌∙◌, arith, on_ok_weaker}
use Rattle.hpack_text.proofs.Names.{on_err_weaker, all_ones}
use Rattle.std.proofs.lemmas.Nat.{one_shl}
use Rattle.hpack_text.proofs.IntegerWriting.{integer-short, first_octet_fits, integer-some}
use Rattle.hpack_text.proofs.IntegerWriting.{integer_joined, length-integer_long}
use Rattle.hpack_text.proofs.WriteLemmas.{OnErr-from}
use Rattle.hpack_text.proofs.integers.append_integer.Goals as goal

pub overflow_add-first_bits : goal.overflow_add-first_bits
overflow_add-first_bits c =
    omega (
      arith,
      first_octet_fits c.args.prefix c.args.first_bits c.requires.at_most (omega arith)
          c.requires.first_bits,
      one_shl c.args.prefix 64 (omega arith),
    )

pub overflow_add-first_bits-2 : goal.overflow_add-first_bits-2
overflow_add-first_bits-2 c =
    omega (
      arith,
      first_octet_fits c.args.prefix c.args.first_bits c.requires.at_most (omega arith)
          c.requires.first_bits,
      one_shl c.args.prefix 64 (omega arith),
    )

pub returns-in_err-push-clause-full : goal.returns-in_err-push-clause-full
returns-in_err-push-clause-full c =
    OnErr-from c.from_residual.result
    (omega (
      arith,
      c.in_err-push.ensures.full,
      integer-some c.args.prefix c.args.first_bits c.args.value,
    ))

pub returns-then-value-all_ones-clause-ok : goal.returns-then-value-all_ones-clause-ok
returns-then-value-all_ones-clause-ok c =
    let short : c.args.value < all_ones c.args.prefix =
    omega (arith, c.if-value-all_ones.true, one_shl c.args.prefix 64 (omega arith)) in
    c.in_ok-push.ensures.items
    ∙ ap (λ (xs : List ℕ). c.args.out.now.items ++ xs)
    (sym (integer-short c.args.prefix c.args.first_bits c.args.value short))

pub returns-in_err-push-2-clause-full : goal.returns-in_err-push-2-clause-full
returns-in_err-push-2-clause-full c =
    OnErr-from c.from_residual-in_err-push-2.result
    (omega (
      arith,
      c.in_err-push-2.ensures.full,
      integer-some c.args.prefix c.args.first_bits c.args.value,
    ))

pub returns-clause-ok : goal.returns-clause-ok
returns-clause-ok c =
    let ones = one_shl c.args.prefix 64 (omega arith) in
    let long : all_ones c.args.prefix ≤ c.args.value =
    omega (arith, c.if-value-all_ones.false, ones) in
    on_ok_weaker c.append_continuation.result
    (λ octets. integer_joined c.args.prefix c.args.first_bits c.args.value _ _ _ _ long ones
    c.in_ok-push-2.ensures.items octets) c.append_continuation.ensures.ok

pub returns-clause-full : goal.returns-clause-full
returns-clause-full c =
    let ones = one_shl c.args.prefix 64 (omega arith) in
    let long : all_ones c.args.prefix ≤ c.args.value =
    omega (arith, c.if-value-all_ones.false, ones) in
    on_err_weaker c.append_continuation.result (λ full.
    omega (
      arith,
      full,
      c.in_ok-push-2.ensures.len,
      c.push-2.ensures.capacity,
      length-integer_long c.args.prefix c.args.first_bits c.args.value _ long ones,
    ))
    c.append_continuation.ensures.full
