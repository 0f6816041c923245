-- A connection's answers and what becomes of it follow from its own moves, whatever happens on
-- others.
use Rattle.std.specs.Prelude.{◌≡◌, ◌≢◌, ◌<◌, ℕ, List, [], ◌∷◌, ◌++◌, Some, None}
use Rattle.std.specs.Prelude.{if◌then◌else◌}
use Rattle.std.specs.List.{AllByRecursion}
use Rattle.h2_host.specs.declared.party.Answer.{Answer}
use Rattle.h2_host.specs.declared.party.Own.{Own}
use Rattle.h2_host.specs.declared.party.Own.TheVariants as owns
use Rattle.h2_host.specs.declared.table.Slot.{Slot}
use Rattle.h2_host.specs.declared.token.Token.{Token}
use Rattle.h2_host.specs.Parties.{IsOwnOfHost}
use Rattle.h2_host.specs.Tokens.{IsAt, IsNow, is_same_token, slot_at}

-- a step that one connection has made: the octets that came, and its answer
pub record Move : Type 0 where
  pub own : Own
  pub octets : List ℕ
  pub answer : Answer

-- the same, with which connection it was
pub record MoveOf : Type 0 where
  pub token : Token
  pub move : Move

-- the moves of one connection, in order
unfoldable pub moves_of : Token → List MoveOf → List Move
moves_of token [] = []
moves_of token (one ∷ moves) =
    if is_same_token one.token token then one.move ∷ moves_of token moves else moves_of token moves

-- a connection that makes these moves, one after another, with nothing beside it; `steps` says
-- what one step may make of it
unfoldable pub IsRunAlone : {P : Type 0} → (steps : P → Own → List ℕ → Answer → P → Type 0)
    → (old : P) → List Move → (new : P) → Type 0
IsRunAlone steps old [] new = new ≡ old
IsRunAlone {P = P} steps old (move ∷ moves) new =
    (next : P) × steps old move.own move.octets move.answer next × IsRunAlone steps next moves new

-- Each connection that was there and is there still is what its own moves make of it, alone.
-- rule: hosts (own) A connection is what its own steps make of it
abbrev pub RunsAlone : {P : Type 0} → (steps : P → Own → List ℕ → Answer → P → Type 0)
    → (old new : List (Slot P)) → List MoveOf → Type 0
RunsAlone {P = P} steps old new moves =
    (token : Token) (before after : P) → IsAt old token before → IsAt new token after
    → IsRunAlone steps before (moves_of token moves) after

-- Each place but one is as it was.
abbrev pub KeepsOtherPlaces : {P : Type 0} → (old new : List (Slot P)) → (place : ℕ) → Type 0
KeepsOtherPlaces old new place =
    (other : ℕ) → other ≢ place → slot_at new other ≡ slot_at old other

-- A step of one connection: its place has what that may make of it.
pub record StepsOne {P : Type 0} (steps : P → Own → List ℕ → Answer → P → Type 0)
    (old new : List (Slot P)) (token : Token) (move : Move) : Type 0 where
  pub before : P
  pub after : P
  pub at : IsAt old token before
  pub is : IsAt new token after
  pub so : steps before move.own move.octets move.answer after
  pub others : KeepsOtherPlaces old new token.place

-- A connection has got a place that none had.
pub record OpensPlace {P : Type 0} (old new : List (Slot P)) (token : Token) (party : P)
    : Type 0 where
  pub free : (other : P) (generation : ℕ)
      → IsAt old (record { place = token.place; generation = generation }) other → ⊥
  pub is : IsAt new token party
  pub generation : (slot : Slot P) → slot_at old token.place ≡ Some slot
      → slot.generation ≡ token.generation
  pub others : KeepsOtherPlaces old new token.place

-- A connection has left its place, whose next one has a greater generation.
pub record LeavesPlace {P : Type 0} (old new : List (Slot P)) (token : Token) : Type 0 where
  pub party : P
  pub at : IsAt old token party
  pub slot : Slot P
  pub is : slot_at new token.place ≡ Some slot
  pub older : token.generation < slot.generation
  pub empty : slot.party ≡ None
  pub others : KeepsOtherPlaces old new token.place

-- At each place the same connection is, of the same generation: what the host notes of it beside
-- may be other.
abbrev pub IsSameOfParties : {P : Type 0} → (old new : List (Slot P)) → Type 0
IsSameOfParties {P = P} old new =
    (place : ℕ) (slot : Slot P) → slot_at old place ≡ Some slot
    → (next : Slot P) × (slot_at new place ≡ Some next) × (next.generation ≡ slot.generation)
    × (next.party ≡ slot.party)

-- What happens at the places of a host, with the moves of the connections, in order.
pub data HappensAt {P : Type 0} (steps : P → Own → List ℕ → Answer → P → Type 0)
    (new : List (Slot P)) : (old : List (Slot P)) → List MoveOf → Type 0 where
  nothing : HappensAt steps new new []
  moved : (old next : List (Slot P)) (moves : List MoveOf) (token : Token) (move : Move)
      → StepsOne steps old next token move → HappensAt steps new next moves
      → HappensAt steps new old (record { token = token; move = move } ∷ moves)
  opened : (old next : List (Slot P)) (moves : List MoveOf) (token : Token) (party : P)
      → OpensPlace old next token party → HappensAt steps new next moves
      → HappensAt steps new old moves
  left : (old next : List (Slot P)) (moves : List MoveOf) (token : Token)
      → LeavesPlace old next token → HappensAt steps new next moves → HappensAt steps new old moves
  noted : (old next : List (Slot P)) (moves : List MoveOf) → IsSameOfParties old next
      → HappensAt steps new next moves → HappensAt steps new old moves

abbrev pub IsOfHost : Move → Type 0
IsOfHost move = IsOwnOfHost move.own

-- These moves were made, each of them of the host's own: time that passes, or a refusal. Whoever was
-- there is there still.
pub record HostMoves {P : Type 0} (steps : P → Own → List ℕ → Answer → P → Type 0)
    (old new : List (Slot P)) : Type 0 where
  pub moves : List MoveOf
  pub happens : HappensAt steps new old moves
  pub own : AllByRecursion (λ m. IsOfHost m.move) moves
  pub stay : (token : Token) → IsNow old token → IsNow new token

-- the time of a step that is time that passes
abbrev pub time_of : Own → List ℕ
time_of (owns.Passed now) = now ∷ []
time_of own = []

-- the times that a connection sees in its moves, in order
unfoldable pub times_in : List Move → List ℕ
times_in [] = []
times_in (move ∷ moves) = time_of move.own ++ times_in moves

abbrev pub times_of : Token → List MoveOf → List ℕ
times_of token moves = times_in (moves_of token moves)

-- Time passes for all: each connection that is there makes the step of this time, once; and besides
-- some may be refused.
-- rule: hosts (own) Each connection sees each time that passes, once
pub record PassesTime {P : Type 0} (steps : P → Own → List ℕ → Answer → P → Type 0)
    (old new : List (Slot P)) (time : ℕ) : Type 0 where
  pub host : HostMoves steps old new
  pub each : (token : Token) → IsNow old token → times_of token host.moves ≡ time ∷ []
