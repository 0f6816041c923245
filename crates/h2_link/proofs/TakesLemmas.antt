-- A link that took some first octets and then more has taken the first octets.
use Rattle.std.proofs.Common.{◌≡◌, ◌≤◌, ◌+◌, ◌-◌, ◌++◌, ℕ, List, length, take, drop, Option}
use Rattle.std.proofs.Common.{sym, ap, ◌∙◌, subst, arith, take-take, take-add, length-take}
use Rattle.std.proofs.Math.Seq.{take-length}
use Rattle.std.specs.Io.KnownBytes.{Appends}
use Rattle.std.proofs.KnownBytes.{Appends-trans}
use Rattle.h2_link.specs.Links.{TakesFirst}

-- so many first octets, and then so many of the others
take_followed : (octets : List ℕ) (written count : ℕ) → count ≤ length octets - written
    → take written octets ++ take count (take (length octets - written) (drop written octets))
    ≡ take (written + count) octets
take_followed octets written count few =
    let others = take-take count (length octets - written) (drop written octets) few in
    ap (λ l. take written octets ++ l) others ∙ sym (take-add written count octets)

-- first octets were taken, and then some of the others, as a write says
pub takes_more : (before middle after : Option (List ℕ)) (octets : List ℕ) (written count : ℕ)
    → written ≤ length octets → Appends before middle (take written octets)
    → TakesFirst middle after (take (length octets - written) (drop written octets)) count
    → TakesFirst before after octets (written + count)
takes_more before middle after octets written count within took more =
    let most = length-take (length octets - written) (drop written octets) in
    let few : count ≤ length octets - written = omega (arith, more.within) in
    let both = Appends-trans before middle after _ _ took more.took in
    record {
      within = omega arith;
      took = subst (Appends before after) (take_followed octets written count few) both;
    }

-- all octets were taken, once as many were as there are
pub takes_all : (before after : Option (List ℕ)) (octets : List ℕ) (written : ℕ)
    → written ≡ length octets → Appends before after (take written octets)
    → Appends before after octets
takes_all before after octets written all took =
    subst (Appends before after) (ap (λ n. take n octets) all ∙ take-length octets) took
