-- In which order connections have their turns, and what one turn lets a connection take and give.
use Rattle.std.specs.Prelude.{◌≡◌, ◌⊎◌, ◌+◌, ℕ, List, [], ◌∷◌, length, Option, Some}
use Rattle.std.specs.Prelude.{None, count_by, Bool, true, false, nat_lt, not, ◌&&◌, ◌||◌}
use Rattle.std.specs.Prelude.{if◌then◌else◌}
use Rattle.h2_host.specs.declared.party.Own.{Own}
use Rattle.h2_host.specs.declared.party.Own.TheVariants as owns
use Rattle.h2_host.specs.declared.table.Slot.{Slot}
use Rattle.h2_host.specs.declared.token.Token.{Token}
use Rattle.h2_host.specs.declared.turn.Turn.{Turn}
use Rattle.h2_host.specs.Tokens.{is_same_token, slot_at}

-- what one turn lets a connection take and give, in octets; two frames whose payloads have 16,384
-- octets have as many as it takes
abbrev pub most_taken : ℕ
most_taken = 32786

abbrev pub most_given : ℕ
most_given = 65536

-- The place is in the queue.
unfoldable pub WaitsIn : (place : ℕ) → (queue : List ℕ) → Type 0
WaitsIn place [] = ⊥
WaitsIn place (one ∷ queue) = (one ≡ place) ⊎ WaitsIn place queue

-- No place is in the queue twice.
unfoldable pub WaitOnce : (queue : List ℕ) → Type 0
WaitOnce [] = Unit {0}
WaitOnce (one ∷ queue) = (WaitsIn one queue → ⊥) × WaitOnce queue

-- The queue has just the places that are marked so, each once.
pub record IsQueueOf {P : Type 0} (slots : List (Slot P)) (queue : List ℕ) : Type 0 where
  pub once : WaitOnce queue
  pub marked : (place : ℕ) → WaitsIn place queue
      → (slot : Slot P) × (slot_at slots place ≡ Some slot) × (slot.queued ≡ true)
  pub waits : (place : ℕ) (slot : Slot P) → slot_at slots place ≡ Some slot → slot.queued ≡ true
      → WaitsIn place queue
  pub count : length queue ≡ count_by (λ (slot : Slot P). slot.queued) slots

-- Whether a place has a connection that is ready.
abbrev pub is_ready_party : {P : Type 0} → (ready_of : P → Bool) → Option P → Bool
is_ready_party ready_of None = false
is_ready_party ready_of (Some party) = ready_of party

abbrev pub is_ready_slot : {P : Type 0} → (ready_of : P → Bool) → Slot P → Bool
is_ready_slot ready_of slot = is_ready_party ready_of slot.party

-- Whether a place is to be put into the queue: its connection is ready, and it isn't there.
abbrev pub is_due : {P : Type 0} → (ready_of : P → Bool) → Slot P → Bool
is_due ready_of slot = is_ready_slot ready_of slot && not slot.queued

-- a place after it was put into the queue where it is to be
abbrev pub slot_queued : {P : Type 0} → (ready_of : P → Bool) → Slot P → Slot P
slot_queued ready_of slot =
    record slot { queued = slot.queued || is_ready_slot ready_of slot }

-- what a queue gets of a place
abbrev pub queue_more : {P : Type 0} → (ready_of : P → Bool) → Slot P → (place : ℕ) → List ℕ
queue_more ready_of slot place = if is_due ready_of slot then place ∷ [] else []

-- It is the turn of the connection at this place.
abbrev pub HasTurn : Option Token → (place : ℕ) → Type 0
HasTurn None place = ⊥
HasTurn (Some token) place = token.place ≡ place

-- Whoever is ready waits in the queue, or has the turn.
abbrev pub ReadyWait : {P : Type 0} → (ready_of : P → Bool) → List (Slot P) → Option Token → Type 0
ReadyWait {P = P} ready_of slots turn =
    (place : ℕ) (slot : Slot P) → slot_at slots place ≡ Some slot
    → is_ready_slot ready_of slot ≡ true → (slot.queued ≡ true) ⊎ HasTurn turn place

-- No connection at these places is ready.
unfoldable pub NoneReady : {P : Type 0} → (ready_of : P → Bool) → List (Slot P)
    → (places : List ℕ) → Type 0
NoneReady ready_of slots [] = Unit {0}
NoneReady {P = P} ready_of slots (place ∷ places) =
    ((slot : Slot P) → slot_at slots place ≡ Some slot → is_ready_slot ready_of slot ≡ false)
    × NoneReady ready_of slots places

-- the turn of nobody, and that of a connection as it begins
abbrev pub turn_of : Option Token → Turn
turn_of token = record { token = token; came = false; asked = false; gave = 0 }

-- The turn is this connection's.
abbrev pub has_turn : Option Token → Token → Bool
has_turn None token = false
has_turn (Some one) token = is_same_token one token

-- what is left of a turn after a step of the connection that has it; none if the turn does not
-- allow it: octets come once, and no more than it lets; it acts once; and what goes in all is no
-- more than it lets
-- rule: hosts (own) A turn takes 32,786 octets and gives 65,536 at most
abbrev pub counted_in : Turn → Own → (octets : ℕ) → Option Turn
counted_in turn owns.Came octets =
    if turn.came || nat_lt most_taken octets then None else Some (record turn { came = true })
counted_in turn owns.Turn octets =
    if turn.asked then None else Some (record turn { asked = true })
counted_in turn (owns.Went count) octets =
    if nat_lt most_given (turn.gave + count) then None
    else Some (record turn { gave = turn.gave + count })
counted_in turn own octets = Some turn

-- Whether a step of a connection needs its turn.
abbrev pub needs_turn : Own → Bool
needs_turn owns.Came = true
needs_turn owns.Turn = true
needs_turn (owns.Went count) = true
needs_turn own = false

-- Whether a step is time that passes: no driver gives it to one connection.
abbrev pub is_time : Own → Bool
is_time (owns.Passed now) = true
is_time own = false

-- what is left of the turn after a step of a connection; none if the step may not be made now
abbrev pub turn_left : Turn → Token → Own → (octets : ℕ) → Option Turn
turn_left turn token own octets =
    if is_time own then None
    else if not (needs_turn own) then Some turn
    else if has_turn turn.token token then counted_in turn own octets
    else None
