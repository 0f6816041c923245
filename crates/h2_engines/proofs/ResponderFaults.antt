-- How often a link has failed, and what it has taken, where writing to it has ended early.
use Rattle.h2_engines.proofs.Names.{◌≡◌, ℕ, ◌+◌, List, Option, Err, ap, ◌∙◌, LinkError}
use Rattle.h2_engines.proofs.Names.{failures_at_end, IsOfCall, EndsWriting, ◌≢◌, IsOfServer}
use Rattle.h2_engines.specs.Failures.{IsOfClient}
use Rattle.h2_link.specs.Links.{WritesAll, TakesFirst}
use Rattle.h2_link.specs.declared.error.LinkError.TheVariants as errors

-- The link took some first octets,
pub written_some : (before after : Option (List ℕ)) (failures failures_now : ℕ)
    (error : LinkError) (octets : List ℕ)
    → WritesAll before after failures failures_now (Err error) octets
    → (count : ℕ) × TakesFirst before after octets count
unfolding WritesAll
written_some before after failures failures_now errors.Device octets so = so.0
written_some before after failures failures_now errors.NoProgress octets so = so.0
written_some before after failures failures_now other octets so = absurd so

-- has failed where that is said,
pub written_failures : (A : Type 0) (before after : Option (List ℕ)) {first failures : ℕ} (now : ℕ)
    (error : LinkError) (octets : List ℕ) → failures ≡ first
    → WritesAll before after failures now (Err error) octets
    → now ≡ failures_at_end {A = A} first (Err error)
unfolding WritesAll
written_failures A before after now errors.Device octets same so =
    so.1 ∙ ap (λ (n : ℕ). n + 1) same
written_failures A before after now errors.NoProgress octets same so = so.1 ∙ same
written_failures A before after now other octets same so = absurd so

-- and nothing else ends it.
pub written_ends : (before after : Option (List ℕ)) (failures failures_now : ℕ)
    (error : LinkError) (octets : List ℕ)
    → WritesAll before after failures failures_now (Err error) octets → EndsWriting error
unfolding WritesAll
written_ends before after failures failures_now errors.Device octets so = tt
written_ends before after failures failures_now errors.NoProgress octets so = tt
written_ends before after failures failures_now other octets so = absurd so

-- It takes no memory.
pub written_known : (before after : Option (List ℕ)) (failures failures_now : ℕ)
    (error : LinkError) (octets : List ℕ)
    → WritesAll before after failures failures_now (Err error) octets → error ≢ errors.Memory
unfolding WritesAll
written_known before after failures failures_now errors.Memory octets so is = absurd so
written_known before after failures failures_now error octets so is = cc

-- A call of an end is none of a link, so the link has not failed by it.
pub call_failures : (A : Type 0) {first : ℕ} (now : ℕ) (error : LinkError) → IsOfCall error
    → now ≡ first → now ≡ failures_at_end {A = A} first (Err error)
call_failures A now errors.Memory is same = same
call_failures A now errors.NoProgress is same = same
call_failures A now other is same = absurd is

-- A call of an end may end a server.
pub call_ends_server : (error : LinkError) → IsOfCall error → IsOfServer error
call_ends_server errors.Memory is = tt
call_ends_server errors.NoProgress is = tt
call_ends_server other is = absurd is

-- It may end a client.
pub call_ends_client : (error : LinkError) → IsOfCall error → IsOfClient error
call_ends_client errors.Memory is = tt
call_ends_client errors.NoProgress is = tt
call_ends_client other is = absurd is
