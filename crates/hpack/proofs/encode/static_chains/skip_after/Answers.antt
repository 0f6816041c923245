use Rattle.hpack.proofs.Names.{ℕ, suc, ◌≡◌, ◌+◌, drop, get_or, sym, subst, arith, static_entries}
use Rattle.hpack.proofs.Names.{LeadsTo, name_bucket}
use Rattle.hpack.specs.declared.encode.static_chains.TheConstants.{SKIPS}
use Rattle.hpack.proofs.StaticChainLemmas.{static_linked, static_length}
use Rattle.hpack.proofs.ChainLemmas.{linked_at}
use Rattle.hpack.proofs.encode.static_chains.skip_after.Goals as goal

pub returns-clause-leads : goal.returns-clause-leads
returns-clause-leads c = λ other.
    let place = c.args.place in
    let own = name_bucket (get_or static_entries place other) in
    let next : suc place ≡ place + 1 = omega arith in
    subst (λ (n : ℕ). LeadsTo name_bucket own (drop (place + 1) static_entries) n)
    (sym c.from.ensures)
    (subst (λ (n : ℕ). LeadsTo name_bucket own (drop n static_entries) (get_or SKIPS place 0)) next
    (linked_at name_bucket static_entries SKIPS place other static_linked
    (omega (arith, c.requires, static_length))))
