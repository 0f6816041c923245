-- What a host answers of the connection whose turn it is, and of all.
use Rattle.std.specs.Prelude.{◌≡◌, ◌≤◌, ◌<◌, ◌+◌, ◌-◌, ◌++◌, ℕ, List, [], length}
use Rattle.std.specs.Prelude.{true, false}
use Rattle.std.specs.Io.{StartsWith}
use Rattle.h2_host.specs.declared.state.HostState.{HostState}
use Rattle.h2_host.specs.declared.token.Token.{Token}
use Rattle.h2_host.specs.Tokens.{IsAt, IsNow}
use Rattle.h2_host.specs.Turns.{has_turn, most_given, most_taken}

-- Two slices are first octets of what waits, the first before the second; the first has octets
-- where any wait.
pub record LendsFirst (waiting first second : List ℕ) : Type 0 where
  pub part : StartsWith waiting (first ++ second)
  pub some : 0 < length waiting → 0 < length first

-- The connection that has the token, if it is of now and it is its turn, gives first octets of its
-- own output, as many as two slices have and as are left of its turn: some where any wait and the
-- turn has some left. No other connection gives any.
-- rule: hosts (own) Who has the turn gives its own output, and nobody else any
pub record LendsInTurn {P : Type 0} (output_of : P → List ℕ) (host : HostState P) (token : Token)
    (first second : List ℕ) : Type 0 where
  pub few : length first + length second ≤ most_given - host.turn.gave
  pub own : (party : P) → IsAt host.table.slots.items token party
      → StartsWith (output_of party) (first ++ second)
  pub some : (party : P) → IsAt host.table.slots.items token party
      → has_turn host.turn.token token ≡ true → 0 < length (output_of party)
      → host.turn.gave < most_given → 0 < length first
  pub not_now : (IsNow host.table.slots.items token → ⊥) → first ++ second ≡ []
  pub not_its_turn : has_turn host.turn.token token ≡ false → first ++ second ≡ []

-- How many octets of the connection that has the token are taken, at most: if it is its turn and
-- none have come in it, that is for the connection to say; else none are.
-- rule: hosts (own) Who has the turn takes octets once, if it takes any
pub record TakesInTurn {P : Type 0} (takes : P → ℕ → Type 0) (host : HostState P)
    (token : Token) (size : ℕ) : Type 0 where
  pub own : (party : P) → IsAt host.table.slots.items token party
      → has_turn host.turn.token token ≡ true → host.turn.came ≡ false → takes party size
  pub within : size ≤ most_taken
  pub came : host.turn.came ≡ true → size ≡ 0
  pub not_now : (IsNow host.table.slots.items token → ⊥) → size ≡ 0
  pub not_its_turn : has_turn host.turn.token token ≡ false → size ≡ 0
