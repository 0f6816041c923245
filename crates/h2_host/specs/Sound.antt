-- What is true of each host between its calls.
use Rattle.std.specs.Prelude.{◌≡◌, ◌<◌, ◌≤◌, ◌^◌, ℕ, length, Bool}
use Rattle.std.specs.VecDeque.{deque_capacity}
use Rattle.h2_host.specs.declared.state.HostState.{HostState}
use Rattle.h2_host.specs.Bounds.{EachWithin, held_in_all}
use Rattle.h2_host.specs.Turns.{IsQueueOf, ReadyWait}

-- The sum is the sum, the queue has just who is marked so, whoever is ready waits or has the turn,
-- there is memory for each place in the queue, and there are no more places than there may be, nor
-- than 2^20.
pub record IsSteady {P : Type 0} (held_of : P → ℕ) (ready_of : P → Bool) (host : HostState P)
    : Type 0 where
  pub sum : host.held ≡ held_in_all held_of host.table.slots.items
  pub queue : IsQueueOf host.table.slots.items host.queue.items
  pub ready : ReadyWait ready_of host.table.slots.items host.turn.token
  pub space : length host.table.slots.items ≤ deque_capacity host.queue
  pub places : length host.table.slots.items ≤ host.limits.connections
  pub few : length host.table.slots.items ≤ 2 ^ 20
  pub sized : host.limits.held_in_all < 2 ^ 64

-- Beside that, no connection holds more than one may, and all of them no more than they may.
pub record IsSoundHost {P : Type 0} (held_of : P → ℕ) (ready_of : P → Bool) (host : HostState P)
    : Type 0 where
  pub steady : IsSteady held_of ready_of host
  pub each : EachWithin held_of host.table.slots.items host.limits.held
  pub all : host.held ≤ host.limits.held_in_all
