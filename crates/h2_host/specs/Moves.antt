-- What the functions that move one connection make of a host.
use Rattle.std.specs.Prelude.{◌≡◌, ◌≢◌, ◌<◌, ◌≤◌, ◌+◌, ◌^◌, ℕ, List, length, Bool, true}
use Rattle.std.specs.Prelude.{Option, Some, None}
use Rattle.h2_host.specs.declared.party.Answer.{Answer}
use Rattle.h2_host.specs.declared.party.Own.{Own}
use Rattle.h2_host.specs.declared.state.HostState.{HostState}
use Rattle.h2_host.specs.declared.table.Slot.{Slot}
use Rattle.h2_host.specs.declared.token.Token.{Token}
use Rattle.h2_host.specs.Bounds.{slot_held, IsGreatestHolder}
use Rattle.h2_host.specs.Isolation.{StepsOne}
use Rattle.h2_host.specs.Parties.{IsGivenUp, IsRefusal}
use Rattle.h2_host.specs.Steps.{FitsOne, KeepsQueue, MakesSteps, slots_of}
use Rattle.h2_host.specs.Tokens.{IsAt, IsNow, slot_at}
use Rattle.h2_host.specs.Turns.{is_due}

-- The turn is the same, and so are the bounds, and the queue but for its end.
pub record KeepsFrame {P : Type 0} (old new : HostState P) : Type 0 where
  pub turn : new.turn ≡ old.turn
  pub kept : KeepsQueue old new

-- A step of one connection, and what it makes of the sum.
pub record MakesOne {P : Type 0} (steps : P → Own → List ℕ → Answer → P → Type 0)
    (held_of : P → ℕ) (ready_of : P → Bool) (old new : HostState P) (token : Token) (own : Own)
    (octets : List ℕ) (answer : Answer) : Type 0 where
  pub step : StepsOne steps (slots_of old) (slots_of new) token
      (record { own = own; octets = octets; answer = answer })
  pub sum : new.held + held_of step.before ≡ old.held + held_of step.after
  pub small : held_of step.after < 2 ^ 64
  pub given_up : IsRefusal own → IsGivenUp answer (held_of step.after) (ready_of step.after)

-- It is made, since the token is of now.
abbrev pub IsMadeOne : {P : Type 0} → (steps : P → Own → List ℕ → Answer → P → Type 0)
    → (held_of : P → ℕ) → (ready_of : P → Bool) → (old new : HostState P) → Token → Own
    → (octets : List ℕ) → Option Answer → Type 0
IsMadeOne steps held_of ready_of old new token own octets None = ⊥
IsMadeOne steps held_of ready_of old new token own octets (Some answer) =
    MakesOne steps held_of ready_of old new token own octets answer

-- The same, and then perhaps refusals.
abbrev pub IsMade : {P : Type 0} → (steps : P → Own → List ℕ → Answer → P → Type 0)
    → (held_of : P → ℕ) → (old new : HostState P) → Token → Own → (octets : List ℕ)
    → Option Answer → Type 0
IsMade steps held_of old new token own octets None = ⊥
IsMade steps held_of old new token own octets (Some answer) =
    MakesSteps steps held_of old.limits.held old.limits.held_in_all (slots_of old) (slots_of new)
    token (record { own = own; octets = octets; answer = answer })

-- No other place holds more than one may.
abbrev pub OthersWithin : {P : Type 0} → (held_of : P → ℕ) → List (Slot P) → (most place : ℕ)
    → Type 0
OthersWithin {P = P} held_of slots most place =
    (other : ℕ) (slot : Slot P) → other ≢ place → slot_at slots other ≡ Some slot
    → slot_held held_of slot ≤ most

-- Whatever connection has the token, it is refused if it holds too much.
abbrev pub RefusesOwn : {P : Type 0} → (steps : P → Own → List ℕ → Answer → P → Type 0)
    → (held_of : P → ℕ) → (old new : HostState P) → Token → Type 0
RefusesOwn {P = P} steps held_of old new token =
    (party : P) → IsAt (slots_of old) token party
    → FitsOne steps held_of old.limits.held (slots_of old) (slots_of new) token party

-- There is memory for one more in the queue, if this place is to be put there.
abbrev pub HasSpace : {P : Type 0} → (ready_of : P → Bool) → Slot P → (length capacity : ℕ)
    → Type 0
HasSpace ready_of slot length capacity = is_due ready_of slot ≡ true → length < capacity

-- what a place holds, if there is such a place
abbrev pub HoldsAt : {P : Type 0} → (held_of : P → ℕ) → List (Slot P) → (place held : ℕ) → Type 0
HoldsAt {P = P} held_of slots place held =
    (slot : Slot P) → slot_at slots place ≡ Some slot → slot_held held_of slot ≡ held

-- No connection has the place.
abbrev pub NobodyAt : {P : Type 0} → List (Slot P) → (place : ℕ) → Type 0
NobodyAt {P = P} slots place =
    (slot : Slot P) → slot_at slots place ≡ Some slot → slot.party ≡ None

-- The token is of now, and of this place.
abbrev pub NowAt : {P : Type 0} → List (Slot P) → (place : ℕ) → Token → Type 0
NowAt slots place token = IsNow slots token × (token.place ≡ place)

-- The token is of now, and its connection holds most, and something.
pub record HoldsMost {P : Type 0} (held_of : P → ℕ) (slots : List (Slot P)) (token : Token)
    : Type 0 where
  pub now : IsNow slots token
  pub greatest : IsGreatestHolder held_of slots token.place
  pub some : 0 < slot_held held_of greatest.slot

-- Of the places below this one, `greatest` holds `most`, if that isn't 0.
pub record IsGreatestBelow {P : Type 0} (held_of : P → ℕ) (slots : List (Slot P))
    (place greatest most : ℕ) : Type 0 where
  pub most_of : (other : ℕ) (one : Slot P) → slot_at slots other ≡ Some one → other < place
      → slot_held held_of one ≤ most
  pub lowest : (other : ℕ) (one : Slot P) → slot_at slots other ≡ Some one → other < greatest
      → slot_held held_of one < most
  pub there : 0 < most
      → (slot : Slot P) × (slot_at slots greatest ≡ Some slot) × (slot_held held_of slot ≡ most)
