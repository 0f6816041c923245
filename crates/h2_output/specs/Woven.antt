-- A queue of octets with spans of others between them, as a list of all of them.
use Rattle.std.specs.Prelude.{ℕ, ◌+◌, ◌^◌, List, [], ◌∷◌, ◌++◌, length, take, drop}
use Rattle.h2_output.specs.declared.span.Span.{Span}

-- octets that wait in order
pub record QueueState : Type 0 where
  -- the octets, the first one first
  pub items : List ℕ
  -- for how many octets there is room without taking memory
  pub spare : ℕ
  -- how many of the octets lie where who has given them has them
  pub shared : ℕ

-- All octets in order: each span after so many of the queue as it says, and then what is left of
-- the queue.
-- rule: calls (own) Frames join the output that waits, in order
unfoldable pub weave : List Span → (queue : List ℕ) → List ℕ
weave [] queue = queue
weave (span ∷ spans) queue =
    take span.before queue ++ (span.octets ++ weave spans (drop span.before queue))

-- how many octets of the queue come before the last of the spans
unfoldable pub octets_before : List Span → ℕ
octets_before [] = 0
octets_before (span ∷ spans) = span.before + octets_before spans

-- how many octets the spans have
unfoldable pub octets_shared : List Span → ℕ
octets_shared [] = 0
octets_shared (span ∷ spans) = length span.octets + octets_shared spans

-- how many octets are shared at once, at most
abbrev pub most_shared : ℕ
most_shared = 2 ^ 32
