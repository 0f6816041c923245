use Rattle.hpack.proofs.Names.{ℕ, sym, subst, static_entries, LeadsTo, name_bucket}
use Rattle.hpack.proofs.StaticChainLemmas.{place_leads}
use Rattle.hpack.proofs.encode.static_chains.first_place.Goals as goal

pub returns : goal.returns
returns c =
    let own = c.bucket_at.result in
    subst (λ (n : ℕ). LeadsTo name_bucket n static_entries c.from.result) c.bucket_at.ensures.value
    (subst (λ (n : ℕ). LeadsTo name_bucket own static_entries n) (sym c.from.ensures)
    (place_leads own c.bucket_at.ensures.within))
