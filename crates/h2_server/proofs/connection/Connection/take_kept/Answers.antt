-- First octets of those that were kept were used, and the others are kept.
use Rattle.std.proofs.Common.{◌≡◌, ◌∙◌, ◌++◌, List, ℕ, ap, arith, drop, length, min, sym, take}
use Rattle.std.specs.Vec.{vec_len}
use Rattle.std.proofs.lemmas.List.{drop_min, take_rest}
use Rattle.std.proofs.lemmas.Result.{err_from_is_err_and}
use Rattle.h2_server.proofs.Turned.{kept_split, kept_used}
use Rattle.h2_server.proofs.connection.Connection.take_kept.Goals as goal

pub returns-in_err-count-clause-takes : goal.returns-in_err-count-clause-takes
returns-in_err-count-clause-takes g c =
    let items = c.args.self.now.kept.items in
    let used = c.args.self.now.used in
    let from = c.min-from.result in
    let answer = err_from_is_err_and c.from_residual.result c.from_residual.ensures.1 in
    let long : vec_len c.args.self.now.kept ≡ length items =
    omega (arith, c.args.self.now.kept.ok.0) in
    let place : from ≡ min used (length items) =
    c.min-from.ensures ∙ ap (λ (n : ℕ). min used n) (c.len.ensures ∙ long) in
    let same : drop from items ≡ drop used items =
    ap (λ (n : ℕ). drop n items) place ∙ drop_min used items in
    rw (answer.1, answer.2) (rw (take_rest c.deref.result.now from, c.deref.ensures.value, same)
    at c.in_err-count.ensures.handles)

pub returns-then-self-len-clause-takes : goal.returns-then-self-len-clause-takes
returns-then-self-len-clause-takes g c =
    let items = c.args.self.now.kept.items in
    let used = c.args.self.now.used in
    let from = c.min-from.result in
    let first = take c.in_ok-count.count (drop from items) in
    let long : vec_len c.args.self.now.kept ≡ length items =
    omega (arith, c.args.self.now.kept.ok.0) in
    let place : from ≡ min used (length items) =
    c.min-from.ensures ∙ ap (λ (n : ℕ). min used n) (c.len.ensures ∙ long) in (
      first,
      rw (take_rest c.deref.result.now from, c.deref.ensures.value)
          at c.in_ok-count.ensures.handles,
      kept_used items used from c.in_ok-count.count place
          (omega (arith, long, c.if-self-len.true, c.len-2.ensures))
          ∙ ap (λ (rest : List ℕ). first ++ rest) (sym c.clear.ensures.items),
    )

pub returns-else-self-len-clause-takes : goal.returns-else-self-len-clause-takes
returns-else-self-len-clause-takes g c =
    let items = c.args.self.now.kept.items in
    let used = c.args.self.now.used in
    let from = c.min-from.result in
    let long : vec_len c.args.self.now.kept ≡ length items =
    omega (arith, c.args.self.now.kept.ok.0) in
    let place : from ≡ min used (length items) =
    c.min-from.ensures ∙ ap (λ (n : ℕ). min used n) (c.len.ensures ∙ long) in (
      take c.in_ok-count.count (drop from items),
      rw (take_rest c.deref.result.now from, c.deref.ensures.value)
          at c.in_ok-count.ensures.handles,
      kept_split items used from c.in_ok-count.count place,
    )
