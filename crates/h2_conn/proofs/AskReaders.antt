-- The least active stream above a number, as a connection returns it.
use Rattle.h2_conn.proofs.Names.{◌≡◌, ℕ, ◌||◌, Bool, true, false, if◌then◌else◌, Option, Some, None}
use Rattle.h2_conn.proofs.Names.{refl, arith, is_some, IfSome, nat_tests, Code}
use Rattle.std.proofs.Common.{◌<◌, ◌==◌}
use Rattle.h2_streams.specs.Streams.{number_or_none}

-- A number above another isn't 0.
not_zero : (above number : ℕ) → above < number → (number == 0) ≡ false
not_zero above number more = grind (arith, nat_tests)

-- What the test of a number gives.
live_some : (number : ℕ) (test : Bool) → test ≡ false → Some number
    ≡ (if test then None else Some number)
live_some number true is = cc
live_some number false is = refl

-- The next active number, or none, by the number or 0.
pub live_by : (answer : Option ℕ) (failed : Option Code) (above first : ℕ)
    → number_or_none answer ≡ (if is_some failed then 0 else first)
    → IfSome answer (λ number. above < number)
    → answer ≡ (if is_some failed || first == 0 then None else Some first)
live_by None None above first is more = rw (← is) refl
live_by None (Some code) above first is more = refl
live_by (Some number) None above first is more =
    rw (← is) (live_some number (number == 0) (not_zero above number more))
live_by (Some number) (Some code) above first is more =
    absurd (omega (arith, is, more))
