-- What the functions that change the queue make of a host.
use Rattle.std.specs.Prelude.{◌≡◌, ◌<◌, ◌++◌, ◌∷◌, ℕ, List, [], length, Bool, true, false}
use Rattle.std.specs.Prelude.{Option, Some, None, slice_set}
use Rattle.std.specs.VecDeque.{deque_capacity}
use Rattle.h2_host.specs.declared.state.HostState.{HostState}
use Rattle.h2_host.specs.declared.table.Slot.{Slot}
use Rattle.h2_host.specs.declared.token.Token.{Token}
use Rattle.h2_host.specs.Isolation.{IsSameOfParties}
use Rattle.h2_host.specs.Steps.{IsFirstReady, slots_of}
use Rattle.h2_host.specs.Tokens.{IsAt, slot_at}
use Rattle.h2_host.specs.Turns.{NoneReady, is_due, is_ready_slot, queue_more, slot_queued, turn_of}

-- The places, the queue, the turn and the time may be other, and nothing else is.
pub record KeepsBeside {P : Type 0} (old new : HostState P) : Type 0 where
  pub held : new.held ≡ old.held
  pub limits : new.limits ≡ old.limits
  pub capacity : deque_capacity new.queue ≡ deque_capacity old.queue

-- There is memory for this place in the queue, if it is to be put there.
abbrev pub HasPlaceSpace : {P : Type 0} → (ready_of : P → Bool) → HostState P → (place : ℕ) → Type 0
HasPlaceSpace {P = P} ready_of host place =
    (slot : Slot P) → slot_at (slots_of host) place ≡ Some slot → is_due ready_of slot ≡ true
    → length host.queue.items < deque_capacity host.queue

-- The place is in the queue where it is to be.
pub record QueuesPlace {P : Type 0} (ready_of : P → Bool) (old new : HostState P) (place : ℕ)
    : Type 0 where
  pub beside : KeepsBeside old new
  pub turn : new.turn ≡ old.turn
  pub slots : (slot : Slot P) → slot_at (slots_of old) place ≡ Some slot
      → (slots_of new ≡ slice_set (slots_of old) place (slot_queued ready_of slot))
      × (new.queue.items ≡ old.queue.items ++ queue_more ready_of slot place)
  pub none : slot_at (slots_of old) place ≡ None
      → (slots_of new ≡ slots_of old) × (new.queue.items ≡ old.queue.items)

-- Nobody has the turn; whoever had it is in the queue, where it is to be.
pub record EndsTurn {P : Type 0} (old new : HostState P) : Type 0 where
  pub same : IsSameOfParties (slots_of old) (slots_of new)
  pub back : IsSameOfParties (slots_of new) (slots_of old)
  pub limits : new.limits ≡ old.limits
  pub turn : new.turn.token ≡ None
  pub added : List ℕ
  pub queue : new.queue.items ≡ old.queue.items ++ added

-- Nobody waits, and nothing has changed.
abbrev pub IsEmptyQueue : {P : Type 0} → (old new : HostState P) → Type 0
IsEmptyQueue old new = (old.queue.items ≡ []) × (new ≡ old)

-- The first place was taken from the queue, and is marked so.
pub record PopsPlace {P : Type 0} (old new : HostState P) (place : ℕ) : Type 0 where
  pub beside : KeepsBeside old new
  pub turn : new.turn ≡ old.turn
  pub queue : old.queue.items ≡ place ∷ new.queue.items
  pub slot : Slot P
  pub at : slot_at (slots_of old) place ≡ Some slot
  pub slots : slots_of new ≡ slice_set (slots_of old) place (record slot { queued = false })

-- The place has a connection that is ready, whose token this is; or none.
abbrev pub HasReady : {P : Type 0} → (ready_of : P → Bool) → List (Slot P) → (place : ℕ)
    → Option Token → Type 0
HasReady {P = P} ready_of slots place None =
    (slot : Slot P) → slot_at slots place ≡ Some slot → is_ready_slot ready_of slot ≡ false
HasReady {P = P} ready_of slots place (Some token) =
    (token.place ≡ place) × ((party : P) × IsAt slots token party × (ready_of party ≡ true))

-- Of the queue these have passed, none of them ready, and the next one has got the turn, if one is
-- ready.
pub record FindsFirst {P : Type 0} (ready_of : P → Bool) (old new : HostState P)
    (next : Option Token) : Type 0 where
  pub same : IsSameOfParties (slots_of old) (slots_of new)
  pub limits : new.limits ≡ old.limits
  pub turn : new.turn ≡ turn_of next
  pub passed : List ℕ
  pub none_ready : NoneReady ready_of (slots_of old) passed
  pub queue : IsFirstReady ready_of (slots_of old) old.queue.items passed next new.queue.items
