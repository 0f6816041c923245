-- The first of the queue that is ready gets the turn.
use Rattle.std.specs.Prelude.{◌≡◌, ◌++◌, ◌∷◌, [], ℕ, List, Bool, false, Option}
use Rattle.std.specs.Prelude.{Some, None, slice_set}
use Rattle.std.proofs.Common.{refl, sym, ap, subst, inl, inr, ◌∙◌}
use Rattle.std.proofs.lemmas.List.{append-nil, append_assoc}
use Rattle.h2_host.specs.declared.state.HostState.{HostState}
use Rattle.h2_host.specs.declared.table.Slot.{Slot}
use Rattle.h2_host.specs.declared.token.Token.{Token}
use Rattle.h2_host.specs.declared.turn.Turn.{Turn}
use Rattle.h2_host.specs.Isolation.{IsSameOfParties}
use Rattle.h2_host.specs.Queueing.{EndsTurn, FindsFirst, HasReady, PopsPlace}
use Rattle.h2_host.specs.Sound.{IsSoundHost}
use Rattle.h2_host.specs.Steps.{GivesTurn, IsFirstReady, slots_of}
use Rattle.h2_host.specs.Tokens.{slot_at}
use Rattle.h2_host.specs.Turns.{NoneReady, IsQueueOf, ReadyWait, WaitOnce, WaitsIn, is_ready_party}
use Rattle.h2_host.specs.Turns.{is_ready_slot, turn_of}
use Rattle.h2_host.proofs.Places.{at_kept, at_written, back_written, get_written, same_itself}
use Rattle.h2_host.proofs.Places.{same_twice, same_written}
use Rattle.h2_host.proofs.Queues.{OthersWait, others_wait, queue_popped, ready_idle}
use Rattle.h2_host.proofs.SoundKept.{counted_of, counted_written, sound_of, wait_anyhow}

-- Of the queue these have passed so far, none of them ready, and nobody has the turn.
pub record Passing {P : Type 0} (held_of : P → ℕ) (ready_of : P → Bool) (start now : HostState P)
    : Type 0 where
  pub sound : IsSoundHost held_of ready_of now
  pub nobody : now.turn.token ≡ None
  pub same : IsSameOfParties (slots_of start) (slots_of now)
  pub back : IsSameOfParties (slots_of now) (slots_of start)
  pub limits : now.limits ≡ start.limits
  pub passed : List ℕ
  pub none_ready : NoneReady ready_of (slots_of start) passed
  pub queue : start.queue.items ≡ passed ++ now.queue.items

module _ {P : Type 0} (held_of : P → ℕ) (ready_of : P → Bool) where
  pub passing_begins : (host : HostState P) → IsSoundHost held_of ready_of host
      → host.turn.token ≡ None → Passing held_of ready_of host host
  unfolding NoneReady
  passing_begins host sound nobody = record {
    sound = sound;
    nobody = nobody;
    same = same_itself (slots_of host);
    back = same_itself (slots_of host);
    limits = refl;
    passed = [];
    none_ready = tt;
    queue = refl;
  }

  -- One more that is not ready.
  none_more : (slots : List (Slot P)) (passed : List ℕ) (place : ℕ)
      → NoneReady ready_of slots passed
      → ((slot : Slot P) → slot_at slots place ≡ Some slot → is_ready_slot ready_of slot ≡ false)
      → NoneReady ready_of slots (passed ++ place ∷ [])
  unfolding NoneReady
  none_more slots [] place none idle = (idle, tt)
  none_more slots (one ∷ passed) place none idle =
      (none.0, none_more slots passed place none.1 idle)

  -- None of them is ready before, where the connections are the same.
  none_earlier : (old new : List (Slot P)) (passed : List ℕ) → IsSameOfParties old new
      → NoneReady ready_of new passed → NoneReady ready_of old passed
  unfolding NoneReady
  none_earlier old new [] same none = tt
  none_earlier old new (place ∷ passed) same none = (
    (λ slot at.
        let there = same place slot at in
        sym (ap (is_ready_party ready_of) there.3) ∙ none.0 there.0 there.1),
    none_earlier old new passed same none.1,
  )

  -- What is counted of a host of which the first place was taken from the queue.
  popped_queue : (now next : HostState P) (place : ℕ) → IsSoundHost held_of ready_of now
      → (pops : PopsPlace now next place)
      → IsQueueOf (slice_set (slots_of now) place (record pops.slot { queued = false }))
      next.queue.items
  popped_queue now next place sound pops =
      queue_popped (slots_of now) next.queue.items place pops.slot _
      (subst (IsQueueOf (slots_of now)) pops.queue sound.steady.queue) pops.at refl

  -- The connections are the same then.
  popped_same : (start now next : HostState P) (place : ℕ) → Passing held_of ready_of start now
      → PopsPlace now next place → IsSameOfParties (slots_of start) (slots_of next)
  popped_same start now next place so_far pops =
      same_twice (slots_of start) (slots_of now) (slots_of next) so_far.same
      (subst (IsSameOfParties (slots_of now)) (sym pops.slots)
      (same_written (slots_of now) place pops.slot (record pops.slot { queued = false }) pops.at
      refl refl))

  popped_back : (start now next : HostState P) (place : ℕ) → Passing held_of ready_of start now
      → PopsPlace now next place → IsSameOfParties (slots_of next) (slots_of start)
  popped_back start now next place so_far pops =
      same_twice (slots_of next) (slots_of now) (slots_of start)
      (subst (λ s. IsSameOfParties s (slots_of now)) (sym pops.slots)
      (back_written (slots_of now) place pops.slot (record pops.slot { queued = false }) pops.at
      refl refl)) so_far.back

  -- Everybody waits but whoever is at the place that was taken.
  popped_others : (start now : HostState P) (place : ℕ) → Passing held_of ready_of start now
      → OthersWait ready_of (slots_of now) None place
  popped_others start now place so_far =
      others_wait ready_of (slots_of now) None place
      (subst (ReadyWait ready_of (slots_of now)) so_far.nobody so_far.sound.steady.ready)

  -- A place that is not ready has passed.
  pub passing_on : (start now next : HostState P) (place : ℕ)
      → Passing held_of ready_of start now → PopsPlace now next place
      → HasReady ready_of (slots_of next) place None → Passing held_of ready_of start next
  passing_on start now next place so_far pops idle =
      let slot = pops.slot in
      let written : Slot P = record slot { queued = false } in
      let same = popped_same start now next place so_far pops in
      let here : slot_at (slots_of next) place ≡ Some written =
      ap (λ s. slot_at s place) pops.slots
      ∙ get_written (slots_of now) place slot written pops.at in
      let none = idle written here in
      let nobody = ap (λ (t : Turn). t.token) pops.turn ∙ so_far.nobody in
      let wait = ready_idle ready_of (slots_of now) place slot written None
      (popped_others start now place so_far) pops.at none in
      record {
        sound = sound_of held_of ready_of next next.turn
            (counted_written held_of ready_of now next place slot written
            (counted_of held_of ready_of now so_far.sound) pops.at refl pops.slots
            (popped_queue now next place so_far.sound pops) pops.beside)
            (subst (ReadyWait ready_of (slots_of next)) (sym nobody)
            (subst (λ s. ReadyWait ready_of s None) (sym pops.slots) wait));
        nobody = nobody;
        same = same;
        back = popped_back start now next place so_far pops;
        limits = pops.beside.limits ∙ so_far.limits;
        passed = so_far.passed ++ place ∷ [];
        none_ready = none_more (slots_of start) so_far.passed place so_far.none_ready
            (λ one at.
            let there = same place one at in
            sym (ap (is_ready_party ready_of) there.3) ∙ idle there.0 there.1);
        queue = so_far.queue ∙ (ap (λ q. so_far.passed ++ q) pops.queue
            ∙ sym (append_assoc so_far.passed (place ∷ []) next.queue.items));
      }

  -- Whoever is ready waits, or is at the place that was taken and has the turn.
  ready_turned : (slots : List (Slot P)) (place : ℕ) (slot next : Slot P) (token : Token)
      → OthersWait ready_of slots None place → slot_at slots place ≡ Some slot
      → token.place ≡ place → ReadyWait ready_of (slice_set slots place next) (Some token)
  ready_turned slots place slot next token others at same = λ other one there ready.
      elim (at_written slots place other slot next one at there) [
        | inl (here, written) ↦ inr (same ∙ sym here)
        | inr (differs, unwritten) ↦ elim (others other one differs unwritten ready) [
          | inl queued ↦ inl queued
          | inr none ↦ absurd none
        ]
      ]

  -- The first that is ready has the turn.
  pub passing_found : (start now next : HostState P) (place : ℕ) (token : Token) (turn : Turn)
      → Passing held_of ready_of start now → PopsPlace now next place
      → HasReady ready_of (slots_of next) place (Some token) → turn ≡ turn_of (Some token)
      → FindsFirst ready_of start (record next { turn = turn }) (Some token)
      × IsSoundHost held_of ready_of (record next { turn = turn })
  unfolding WaitOnce
  passing_found start now next place token turn so_far pops ready is =
      let slot = pops.slot in
      let written : Slot P = record slot { queued = false } in
      let once = subst WaitOnce pops.queue so_far.sound.steady.queue.once in
      let wait = ready_turned (slots_of now) place slot written token
      (popped_others start now place so_far) pops.at ready.0 in (
        record {
          same = popped_same start now next place so_far pops;
          limits = pops.beside.limits ∙ so_far.limits;
          turn = is;
          passed = so_far.passed;
          none_ready = so_far.none_ready;
          queue = (
            so_far.queue ∙ (ap (λ q. so_far.passed ++ q) pops.queue
                ∙ ap (λ p. so_far.passed ++ p ∷ next.queue.items) (sym ready.0)),
            subst (λ p. WaitsIn p next.queue.items → ⊥) (sym ready.0) once.0,
            (
              ready.1.0,
              at_kept (slots_of next) (slots_of start) token ready.1.0
                  (popped_back start now next place so_far pops) ready.1.1,
              ready.1.2,
            ),
          );
        },
        sound_of held_of ready_of next turn
            (counted_written held_of ready_of now next place slot written
            (counted_of held_of ready_of now so_far.sound) pops.at refl pops.slots
            (popped_queue now next place so_far.sound pops) pops.beside)
            (subst (λ (t : Turn). ReadyWait ready_of (slots_of next) t.token) (sym is)
            (subst (λ s. ReadyWait ready_of s (Some token)) (sym pops.slots) wait)),
      )

  -- All have passed, and nobody has the turn.
  pub passing_over : (start now : HostState P) (turn : Turn) → Passing held_of ready_of start now
      → now.queue.items ≡ [] → turn ≡ turn_of None
      → FindsFirst ready_of start (record now { turn = turn }) None
      × IsSoundHost held_of ready_of (record now { turn = turn })
  passing_over start now turn so_far empty is = (
    record {
      same = so_far.same;
      limits = so_far.limits;
      turn = is;
      passed = so_far.passed;
      none_ready = so_far.none_ready;
      queue = (
        so_far.queue ∙ (ap (λ q. so_far.passed ++ q) empty ∙ append-nil so_far.passed),
        empty,
      );
    },
    sound_of held_of ready_of now turn (counted_of held_of ready_of now so_far.sound)
        (wait_anyhow held_of ready_of (slots_of now) turn.token
        (subst (ReadyWait ready_of (slots_of now)) so_far.nobody so_far.sound.steady.ready)),
  )

  -- What is found once the turn has ended is given.
  given_queue : (old mid : HostState P) (added passed : List ℕ) (next : Option Token)
      (rest : List ℕ) → IsSameOfParties (slots_of mid) (slots_of old)
      → mid.queue.items ≡ old.queue.items ++ added
      → IsFirstReady ready_of (slots_of mid) mid.queue.items passed next rest
      → IsFirstReady ready_of (slots_of old) (old.queue.items ++ added) passed next rest
  given_queue old mid added passed None rest back queue found =
      (sym queue ∙ found.0, found.1)
  given_queue old mid added passed (Some token) rest back queue found = (
    sym queue ∙ found.0,
    found.1,
    (
      found.2.0,
      at_kept (slots_of mid) (slots_of old) token found.2.0 back found.2.1,
      found.2.2,
    ),
  )

  pub turn_given : (old mid new : HostState P) (next : Option Token) → EndsTurn old mid
      → FindsFirst ready_of mid new next → GivesTurn ready_of old new next
  turn_given old mid new next ends finds = record {
    same = same_twice (slots_of old) (slots_of mid) (slots_of new) ends.same finds.same;
    limits = finds.limits ∙ ends.limits;
    turn = finds.turn;
    added = ends.added;
    passed = finds.passed;
    none_ready = none_earlier (slots_of old) (slots_of mid) finds.passed ends.same
        finds.none_ready;
    queue = given_queue old mid ends.added finds.passed next new.queue.items ends.back ends.queue
        finds.queue;
  }
