use Rattle.hpack.proofs.Names.{ℕ, ◌∷◌, length, sym, ap, subst, arith, Exact, Name, bucket_of}
use Rattle.hpack.proofs.Names.{AreChains, bucket_by}
use Rattle.hpack.proofs.types.chains.Index.push.Goals as goal

pub returns-clause-entries : goal.returns-clause-entries
returns-clause-entries c = λ entries one is hashes few.
    let names = length c.args.self.now.names.newest.items in
    let exacts = length c.args.self.now.exacts.newest.items in
    record {
      names = subst (λ (n : ℕ). AreChains (bucket_by Name n) (one ∷ entries) c.push.new.self)
          (sym c.push.ensures.buckets)
          (c.push.ensures.chains (bucket_by Name names) entries one is.names
          (ap (bucket_of names) (sym hashes.of_name)) few);
      exacts = subst (λ (n : ℕ). AreChains (bucket_by Exact n) (one ∷ entries) c.push-2.new.self)
          (sym c.push-2.ensures.buckets)
          (c.push-2.ensures.chains (bucket_by Exact exacts) entries one is.exacts
          (ap (bucket_of exacts) (sym hashes.of_both))
          (omega (arith, few, c.args.self.now.same_capacity)));
    }
