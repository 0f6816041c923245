-- The output that waits, as a value.
use Rattle.std.specs.Prelude.{ℕ, Bool, List, [], drop, Option, Some, None}
use Rattle.h2_output.specs.declared.last_frame.LastFrame.{LastFrame}

-- rule: calls (own) Frames join the output that waits, in order
-- rule: calls (own) Output is given out in order and once
pub record OutputState : Type 0 where
  -- the octets that wait, the first one first
  pub waiting : List ℕ
  -- for how many octets there is room without taking memory
  pub spare : ℕ
  -- how many of the octets that wait lie where who has given them has them
  pub shared : ℕ
  -- whether the GOAWAY of a failed connection was added, after which nothing is
  pub ended : Bool

-- what waits of the last frame
-- rule: 5.4.1 (own) The GOAWAY of a failed connection goes out last, once, without memory
abbrev pub waiting_of_last : Option LastFrame → List ℕ
waiting_of_last None = []
waiting_of_last (Some last) = drop last.given last.octets

-- room for the encoding of each control frame that an end adds: the longest of them, GOAWAY without
-- debug octets and PING, have 17
abbrev pub max_control_octets : ℕ
max_control_octets = 64
