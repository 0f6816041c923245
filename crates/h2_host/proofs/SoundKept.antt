-- A host is sound still, once one of its places was written.
use Rattle.std.specs.Prelude.{◌≡◌, ◌≢◌, ◌<◌, ◌≤◌, ◌+◌, ◌^◌, ◌++◌, [], ℕ, List, length, Bool}
use Rattle.std.specs.Prelude.{Option, Some, None, slice_set}
use Rattle.std.specs.VecDeque.{deque_capacity}
use Rattle.std.proofs.Common.{refl, sym, ap, subst, arith, inl, inr, ◌∙◌}
use Rattle.std.proofs.lemmas.List.{append-nil, length-set}
use Rattle.std.proofs.lemmas.Option.{slice_get_cases}
use Rattle.h2_host.specs.declared.state.HostState.{HostState}
use Rattle.h2_host.specs.declared.table.Slot.{Slot}
use Rattle.h2_host.specs.declared.token.Token.{Token}
use Rattle.h2_host.specs.declared.turn.Turn.{Turn}
use Rattle.h2_host.specs.Bounds.{EachWithin, held_in_all, slot_held}
use Rattle.h2_host.specs.Isolation.{IsSameOfParties}
use Rattle.h2_host.specs.Queueing.{KeepsBeside, QueuesPlace}
use Rattle.h2_host.specs.Sound.{IsSoundHost, IsSteady}
use Rattle.h2_host.specs.Steps.{slots_of}
use Rattle.h2_host.specs.Tokens.{slot_at}
use Rattle.h2_host.specs.Turns.{IsQueueOf, ReadyWait, WaitOnce, WaitsIn, queue_more}
use Rattle.h2_host.specs.Turns.{slot_queued}
use Rattle.h2_host.proofs.Places.{at_written, back_written, same_itself, same_written}
use Rattle.h2_host.proofs.Queues.{OthersWait, queue_written, ready_written}
use Rattle.h2_host.proofs.Sums.{sum_written}

-- What is true of a host whoever has the turn, and whoever waits.
pub record IsCounted {P : Type 0} (held_of : P → ℕ) (host : HostState P) : Type 0 where
  pub sum : host.held ≡ held_in_all held_of (slots_of host)
  pub queue : IsQueueOf (slots_of host) host.queue.items
  pub space : length (slots_of host) ≤ deque_capacity host.queue
  pub places : length (slots_of host) ≤ host.limits.connections
  pub few : length (slots_of host) ≤ 2 ^ 20
  pub sized : host.limits.held_in_all < 2 ^ 64
  pub each : EachWithin held_of (slots_of host) host.limits.held
  pub all : host.held ≤ host.limits.held_in_all

module _ {P : Type 0} (held_of : P → ℕ) (ready_of : P → Bool) where
  pub counted_of : (host : HostState P) → IsSoundHost held_of ready_of host → IsCounted held_of host
  counted_of host is = record {
    sum = is.steady.sum;
    queue = is.steady.queue;
    space = is.steady.space;
    places = is.steady.places;
    few = is.steady.few;
    sized = is.steady.sized;
    each = is.each;
    all = is.all;
  }

  -- With everybody waiting it is sound, whoever has the turn.
  pub sound_of : (host : HostState P) (turn : Turn) → IsCounted held_of host
      → ReadyWait ready_of (slots_of host) turn.token
      → IsSoundHost held_of ready_of (record host { turn = turn })
  sound_of host turn is wait = record {
    steady = record {
      sum = is.sum;
      queue = is.queue;
      ready = wait;
      space = is.space;
      places = is.places;
      few = is.few;
      sized = is.sized;
    };
    each = is.each;
    all = is.all;
  }

  -- No place holds more than one may, where one was written that doesn't.
  pub each_written : (slots : List (Slot P)) (place most : ℕ) (slot next : Slot P)
      → ((other : ℕ) (one : Slot P) → other ≢ place → slot_at slots other ≡ Some one
      → slot_held held_of one ≤ most)
      → slot_at slots place ≡ Some slot → slot_held held_of next ≤ most
      → EachWithin held_of (slice_set slots place next) most
  each_written slots place most slot next each at small = λ other one there.
      elim (at_written slots place other slot next one at there) [
        | inl (here, written) ↦
            subst (λ (s : Slot P). slot_held held_of s ≤ most) (sym written) small
        | inr (differs, unwritten) ↦ each other one differs unwritten
      ]

  -- The sum is the same where a place was written with the same connection.
  pub sum_kept : (slots : List (Slot P)) (place : ℕ) (slot next : Slot P)
      → slot_at slots place ≡ Some slot → next.party ≡ slot.party
      → held_in_all held_of (slice_set slots place next) ≡ held_in_all held_of slots
  sum_kept slots place slot next at party =
      let sum = sum_written (slot_held held_of) slots place slot next at in
      let same : slot_held held_of next ≡ slot_held held_of slot =
      ap (λ p. slot_held held_of (record slot { party = p })) party in
      omega (arith, sum, same)

  -- A place was written with the same connection, and the queue is right of it.
  pub counted_written : (old new : HostState P) (place : ℕ) (slot next : Slot P)
      → IsCounted held_of old → slot_at (slots_of old) place ≡ Some slot
      → next.party ≡ slot.party → slots_of new ≡ slice_set (slots_of old) place next
      → IsQueueOf (slice_set (slots_of old) place next) new.queue.items → KeepsBeside old new
      → IsCounted held_of new
  counted_written old new place slot next is at party written queue beside =
      let slots = slice_set (slots_of old) place next in
      let long : length (slots_of new) ≡ length (slots_of old) =
      ap length written ∙ length-set (slots_of old) place next in
      let held = beside.held in
      let capacity = beside.capacity in
      let space = is.space in
      let few = is.few in
      let places = is.places in
      let all = is.all in
      let connections = ap (λ l. l.connections) beside.limits in
      let in_all = ap (λ l. l.held_in_all) beside.limits in
      let small : slot_held held_of next ≤ old.limits.held =
      subst (λ p. slot_held held_of (record slot { party = p }) ≤ old.limits.held) (sym party)
      (is.each place slot at) in
      record {
        sum = held ∙ (is.sum ∙ (sym (sum_kept (slots_of old) place slot next at party)
            ∙ ap (held_in_all held_of) (sym written)));
        queue = subst (λ s. IsQueueOf s new.queue.items) (sym written) queue;
        space = omega (arith, long, space, capacity);
        places = omega (arith, long, places, connections);
        few = omega (arith, long, few);
        sized = subst (λ l. l.held_in_all < 2 ^ 64) (sym beside.limits) is.sized;
        each = subst (λ s. EachWithin held_of s new.limits.held) (sym written)
            (subst (λ l. EachWithin held_of slots l.held) (sym beside.limits)
            (each_written (slots_of old) place old.limits.held slot next
            (λ other one differs there. is.each other one there) at small));
        all = omega (arith, held, all, in_all);
      }

  -- A place was put into the queue where it is to be.
  pub counted_queued : (old new : HostState P) (place : ℕ) → IsCounted held_of old
      → QueuesPlace ready_of old new place → IsCounted held_of new
  counted_queued old new place is queues = elim (slice_get_cases (slots_of old) place).1 [
    | inr (past, none) ↦
        let same = queues.none none in
        let held = queues.beside.held in
        let capacity = queues.beside.capacity in
        let connections = ap (λ l. l.connections) queues.beside.limits in
        let in_all = ap (λ l. l.held_in_all) queues.beside.limits in
        let long = ap length same.0 in
        let space = is.space in
        let few = is.few in
        let places = is.places in
        let all = is.all in
        record {
          sum = held ∙ (is.sum ∙ ap (held_in_all held_of) (sym same.0));
          queue = subst (λ s. IsQueueOf s new.queue.items) (sym same.0)
              (subst (IsQueueOf (slots_of old)) (sym same.1) is.queue);
          space = omega (arith, long, space, capacity);
          places = omega (arith, long, places, connections);
          few = omega (arith, long, few);
          sized = subst (λ l. l.held_in_all < 2 ^ 64) (sym queues.beside.limits) is.sized;
          each = subst (λ s. EachWithin held_of s new.limits.held) (sym same.0)
              (subst (λ l. EachWithin held_of (slots_of old) l.held) (sym queues.beside.limits)
              is.each);
          all = omega (arith, held, all, in_all);
        }
    | inl (slot, within, at, read) ↦
        let done = queues.slots slot at in
        counted_written old new place slot (slot_queued ready_of slot) is at refl done.0
        (subst (IsQueueOf (slice_set (slots_of old) place (slot_queued ready_of slot)))
        (sym done.1)
        (queue_written ready_of (slots_of old) old.queue.items place slot slot is.queue at refl))
        queues.beside
  ]

  -- Everybody waits then, where everybody else did.
  pub wait_queued : (old new : HostState P) (place : ℕ) (turn : Option Token)
      → QueuesPlace ready_of old new place → OthersWait ready_of (slots_of old) turn place
      → ReadyWait ready_of (slots_of new) turn
  wait_queued old new place turn queues others =
      elim (slice_get_cases (slots_of old) place).1 [
        | inr (past, none) ↦
            subst (λ s. ReadyWait ready_of s turn) (sym (queues.none none).0)
            (λ other slot at ready. others other slot
            (λ same. let there = ap (slot_at (slots_of old)) (sym same) ∙ at in cc) at ready)
        | inl (slot, within, at, read) ↦
            subst (λ s. ReadyWait ready_of s turn) (sym (queues.slots slot at).0)
            (ready_written ready_of (slots_of old) place slot slot turn others at)
      ]

  -- The connections are the same then.
  pub same_queued : (old new : HostState P) (place : ℕ) → QueuesPlace ready_of old new place
      → IsSameOfParties (slots_of old) (slots_of new)
  same_queued old new place queues = elim (slice_get_cases (slots_of old) place).1 [
    | inr (past, none) ↦ subst (IsSameOfParties (slots_of old)) (sym (queues.none none).0)
        (same_itself (slots_of old))
    | inl (slot, within, at, read) ↦
        subst (IsSameOfParties (slots_of old)) (sym (queues.slots slot at).0)
        (same_written (slots_of old) place slot (slot_queued ready_of slot) at refl refl)
  ]

  -- They were the same before.
  pub back_queued : (old new : HostState P) (place : ℕ) → QueuesPlace ready_of old new place
      → IsSameOfParties (slots_of new) (slots_of old)
  back_queued old new place queues = elim (slice_get_cases (slots_of old) place).1 [
    | inr (past, none) ↦ subst (λ s. IsSameOfParties s (slots_of old)) (sym (queues.none none).0)
        (same_itself (slots_of old))
    | inl (slot, within, at, read) ↦
        subst (λ s. IsSameOfParties s (slots_of old)) (sym (queues.slots slot at).0)
        (back_written (slots_of old) place slot (slot_queued ready_of slot) at refl refl)
  ]

  -- The queue is longer at its end alone.
  pub longer_queued : (old new : HostState P) (place : ℕ) → QueuesPlace ready_of old new place
      → (added : List ℕ) × (new.queue.items ≡ old.queue.items ++ added)
  longer_queued old new place queues = elim (slice_get_cases (slots_of old) place).1 [
    | inr (past, none) ↦ ([], (queues.none none).1 ∙ sym (append-nil old.queue.items))
    | inl (slot, within, at, read) ↦ (queue_more ready_of slot place, (queues.slots slot at).1)
  ]

  -- Whoever is ready and has not the turn of this place waits.
  pub others_than_turn : (slots : List (Slot P)) (token : Token)
      → ReadyWait ready_of slots (Some token) → OthersWait ready_of slots None token.place
  others_than_turn slots token wait = λ other slot differs at ready.
      elim (wait other slot at ready) [
        | inl queued ↦ inl queued
        | inr turn ↦ absurd (differs (sym turn))
      ]

  -- Where nobody has the turn everybody waits, whoever has it then.
  pub wait_anyhow : (slots : List (Slot P)) (turn : Option Token) → ReadyWait ready_of slots None
      → ReadyWait ready_of slots turn
  wait_anyhow slots turn wait = λ other slot at ready. elim (wait other slot at ready) [
    | inl queued ↦ inl queued
    | inr none ↦ absurd none
  ]

  -- A step of one connection, whose place is put into the queue where it is to be.
  pub steady_stepped : (old new : HostState P) (place : ℕ) (slot mid : Slot P) (before after : P)
      → IsSteady held_of ready_of old → slot_at (slots_of old) place ≡ Some slot
      → slot.party ≡ Some before → mid.queued ≡ slot.queued → mid.party ≡ Some after
      → slots_of new ≡ slice_set (slots_of old) place (slot_queued ready_of mid)
      → new.queue.items ≡ old.queue.items ++ queue_more ready_of mid place
      → deque_capacity new.queue ≡ deque_capacity old.queue → new.turn ≡ old.turn
      → new.limits ≡ old.limits → new.held + held_of before ≡ old.held + held_of after
      → IsSteady held_of ready_of new
  steady_stepped old new place slot mid before after is at was queued party written queue
      capacity turn limits held =
      let slots = slots_of old in
      let next = slot_queued ready_of mid in
      let sum = sum_written (slot_held held_of) slots place slot next at in
      let a : slot_held held_of slot ≡ held_of before =
      ap (λ p. slot_held held_of (record slot { party = p })) was in
      let b : slot_held held_of next ≡ held_of after =
      ap (λ p. slot_held held_of (record next { party = p })) party in
      let old_sum = is.sum in
      let long : length (slots_of new) ≡ length slots =
      ap length written ∙ length-set slots place next in
      let space = is.space in
      let few = is.few in
      let places = is.places in
      let connections = ap (λ l. l.connections) limits in
      let new_sum : new.held ≡ held_in_all held_of (slice_set slots place next) =
      omega (arith, sum, a, b, old_sum, held) in
      record {
        sum = new_sum ∙ ap (held_in_all held_of) (sym written);
        queue = subst (λ s. IsQueueOf s new.queue.items) (sym written)
            (subst (IsQueueOf (slice_set slots place next)) (sym queue)
            (queue_written ready_of slots old.queue.items place slot mid is.queue at queued));
        ready = subst (λ t. ReadyWait ready_of (slots_of new) t.token) (sym turn)
            (subst (λ s. ReadyWait ready_of s old.turn.token) (sym written)
            (ready_written ready_of slots place slot mid old.turn.token
            (λ other one differs there ready. is.ready other one there ready) at));
        space = omega (arith, long, space, capacity);
        places = omega (arith, long, places, connections);
        few = omega (arith, long, few);
        sized = subst (λ l. l.held_in_all < 2 ^ 64) (sym limits) is.sized;
      }

-- A host without connections is sound.
pub sound_new : {P : Type 0} (held_of : P → ℕ) (ready_of : P → Bool) (host : HostState P)
    → slots_of host ≡ [] → host.queue.items ≡ [] → host.held ≡ 0
    → host.limits.held_in_all < 2 ^ 64 → IsSoundHost held_of ready_of host
unfolding WaitOnce WaitsIn
sound_new {P = P} held_of ready_of host none empty nothing sized =
    let long = ap length none in
    record {
      steady = record {
        sum = nothing ∙ ap (held_in_all held_of) (sym none);
        queue = subst (λ s. IsQueueOf s host.queue.items) (sym none)
            (subst (IsQueueOf {P = P} []) (sym empty) (record {
              once = tt;
              marked = λ place there. absurd there;
              waits = λ place slot at. absurd (let no = at in cc);
              count = refl;
            }));
        ready = subst (λ s. ReadyWait ready_of s host.turn.token) (sym none)
            (λ place slot at. absurd (let no = at in cc));
        space = omega (arith, long);
        places = omega (arith, long);
        few = omega (arith, long);
        sized = sized;
      };
      each = subst (λ s. EachWithin held_of s host.limits.held) (sym none)
          (λ place slot at. absurd (let no = at in cc));
      all = omega (arith, nothing);
    }
