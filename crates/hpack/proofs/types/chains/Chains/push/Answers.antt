use Rattle.hpack.proofs.Names.{◌≡◌, ◌∙◌, ℕ, ◌-◌, ◌<◌, get_or, length, ◌∷◌, sym, ap, subst, arith}
use Rattle.hpack.proofs.Names.{Buffer, bucket_of, LeadsTo, AreLinked}
use Rattle.std.proofs.lemmas.List.{get_or_read}
use Rattle.hpack.proofs.ChainLemmas.{heads_pushed, linked_pushed}
use Rattle.hpack.proofs.types.chains.Chains.push.Goals as goal

pub returns-clause-chains : goal.returns-clause-chains
returns-clause-chains c = λ bucket entries one chains is few.
    let middle = c.keep_countable.new.self in
    let now = c.keep_countable.ensures.chains bucket entries chains few in
    let own = c.bucket_at-bucket.result in
    let counted : c.len.result ≡ length middle.newest.items = omega (arith, c.len.ensures) in
    let same : bucket one ≡ own =
    is ∙ (ap (λ (n : ℕ). bucket_of n c.args.hash) (sym c.keep_countable.ensures.buckets)
    ∙ (ap (λ (n : ℕ). bucket_of n c.args.hash) (sym counted)
    ∙ sym c.bucket_at-bucket.ensures.value)) in
    let within : own < length middle.newest.items =
    omega (arith, c.bucket_at-bucket.ensures.within, c.len.ensures) in
    let skip : c.saturating_sub.result ≡ middle.pushed - get_or middle.newest.items own 0 =
    c.saturating_sub.ensures ∙ ap (λ (n : ℕ). middle.pushed - n)
    (get_or_read middle.newest.items own c.index.result.now within c.index.ensures 0) in
    let leads : LeadsTo bucket (bucket one) entries c.saturating_sub.result =
    subst (λ (n : ℕ). LeadsTo bucket n entries c.saturating_sub.result) (sym same)
    (subst (λ (n : ℕ). LeadsTo bucket own entries n) (sym skip) (now.heads own within)) in
    record {
      heads = heads_pushed bucket one entries middle.newest.items middle.pushed own same within
          middle.pushed_before now.heads;
      linked = subst (λ (b : Buffer ℕ). AreLinked bucket (one ∷ entries) b.items)
          (sym c.push_front.ensures.items)
          (linked_pushed bucket one entries middle.skips.items c.saturating_sub.result
          middle.skips.capacity leads now.linked
          (omega (arith, few, c.keep_countable.ensures.capacity)));
    }
