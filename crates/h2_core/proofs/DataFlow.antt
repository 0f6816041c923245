-- What DATA takes of the windows.
use Rattle.h2_core.proofs.Names.{◌≡◌, ℕ, ◌<◌, ◌≤◌, ◌+◌, true, false, pos, List, length, Some, arith}
use Rattle.h2_core.proofs.Names.{nat_tests, ints, length-append, exceeds}
use Rattle.std.proofs.Common.{replicate}
use Rattle.std.proofs.lemmas.List.{length-replicate}
use Rattle.h2_frame.specs.Encoding.{padded}

-- The octets with their padding and the pad length are those of the payload.
pub flow_with : (count : ℕ) (octets : List ℕ)
    → length octets + (1 + count) ≡ length (padded octets (Some count))
flow_with count octets =
    omega (
      arith,
      length-append octets (replicate {A = ℕ} count 0),
      length-replicate {A = ℕ} count 0,
    )

-- Whether it exceeds the connection's window.
pub exceeds_connection : (flow window : ℕ) → window < flow → exceeds flow (pos window) ≡ true
exceeds_connection flow window much = grind (arith, ints, nat_tests)

pub within_connection : (flow window : ℕ) → flow ≤ window → exceeds flow (pos window) ≡ false
within_connection flow window few = grind (arith, ints, nat_tests)
