-- Whether credit is returned, by how much more is unreturned and how much output is queued.
use Rattle.h2_core.proofs.Names.{◌≡◌, ℕ, ◌<◌, ◌≤◌, Bool, true, false, if◌then◌else◌, length, ap}
use Rattle.h2_core.proofs.Names.{arith, nat_tests, returns_credit, End, return_credit}
use Rattle.h2_core.proofs.Names.{more_unreturned, add_unreturned}

-- It is, where there is more, and less than 65,536 octets are queued.
pub returned : (more : ℕ) (e : End) → 0 < more → length e.output.waiting < 65536
    → add_unreturned more e ≡ return_credit (more_unreturned e more)
unfolding add_unreturned
returned more e some few =
    let test : returns_credit more (length e.output.waiting) ≡ true = grind (arith, nat_tests) in
    ap (λ (b : Bool). if b then return_credit (more_unreturned e more) else more_unreturned e more)
    test

-- It isn't, where 65,536 octets or more are queued.
pub kept_when_full : (more : ℕ) (e : End) → 65536 ≤ length e.output.waiting
    → add_unreturned more e ≡ more_unreturned e more
unfolding add_unreturned
kept_when_full more e full =
    let test : returns_credit more (length e.output.waiting) ≡ false = grind (arith, nat_tests) in
    ap (λ (b : Bool). if b then return_credit (more_unreturned e more) else more_unreturned e more)
    test

-- It isn't, where there is no more.
pub kept_without_more : (more : ℕ) (e : End) → more ≤ 0
    → add_unreturned more e ≡ more_unreturned e more
unfolding add_unreturned
kept_without_more more e none =
    let test : returns_credit more (length e.output.waiting) ≡ false = grind (arith, nat_tests) in
    ap (λ (b : Bool). if b then return_credit (more_unreturned e more) else more_unreturned e more)
    test
