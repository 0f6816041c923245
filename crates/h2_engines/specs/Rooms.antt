-- How much is reserved for a body.
use Rattle.std.specs.Prelude.{ℕ, ◌*◌, max}

-- the most room after more was made, where there was this room, and so many octets are kept
-- rule: engines (own) What is reserved for a body is at most ten times what is kept
abbrev pub most_room : (room kept : ℕ) → ℕ
most_room room kept = max room (10 * kept)
