-- A host is sound still where a place was made, taken or freed.
use Rattle.std.specs.Prelude.{◌≡◌, ◌<◌, ◌≤◌, ◌+◌, ◌-◌, ◌^◌, ◌++◌, ◌∷◌, [], ℕ, List}
use Rattle.std.specs.Prelude.{length}
use Rattle.std.specs.Prelude.{Bool, true, false, Option, Some, None, slice_set}
use Rattle.std.specs.VecDeque.{deque_capacity}
use Rattle.std.proofs.Common.{refl, sym, ap, subst, arith, inl, inr, ◌∙◌}
use Rattle.std.proofs.lemmas.List.{length-append, length-set}
use Rattle.std.proofs.lemmas.List.Sums.{sum_by_push}
use Rattle.h2_host.specs.declared.party.Answer.{Answer}
use Rattle.h2_host.specs.declared.party.Own.{Own}
use Rattle.h2_host.specs.declared.state.HostState.{HostState}
use Rattle.h2_host.specs.declared.table.Slot.{Slot}
use Rattle.h2_host.specs.declared.token.Token.{Token}
use Rattle.h2_host.specs.Bounds.{EachWithin, held_by, held_in_all, slot_held}
use Rattle.h2_host.specs.Isolation.{HappensAt, nothing, opened, noted, IsSameOfParties}
use Rattle.h2_host.specs.Isolation.{LeavesPlace, OpensPlace}
use Rattle.h2_host.specs.Openings.{EmptiesPlace, MakesPlace, TakesPlace, new_slot}
use Rattle.h2_host.specs.Steps.{slots_of}
use Rattle.h2_host.specs.Tokens.{IsAt, IsNow, WasGiven, slot_at}
use Rattle.h2_host.specs.Turns.{IsQueueOf, ReadyWait, is_ready_slot}
use Rattle.h2_host.proofs.Places.{at_kept, get_unwritten, get_written, longer_cases, one_slot}
use Rattle.h2_host.proofs.Places.{same_itself, same_longer}
use Rattle.h2_host.proofs.Queues.{OthersWait, others_wait, queue_kept, queue_made, ready_idle}
use Rattle.h2_host.proofs.SoundKept.{IsCounted, each_written}
use Rattle.h2_host.proofs.Sums.{item_within, sum_written}

-- Where a place was made each connection is where it was.
pub same_made : {P : Type 0} (old new : List (Slot P)) (most : ℕ) → MakesPlace old new most
    → IsSameOfParties old new
same_made old new most (inl same) = subst (IsSameOfParties old) (sym same) (same_itself old)
same_made old new most (inr made) =
    subst (IsSameOfParties old) (sym made.0) (same_longer old (new_slot ∷ []))

-- There is one more place at most.
pub made_length : {P : Type 0} (old new : List (Slot P)) (most : ℕ) → MakesPlace old new most
    → length new ≤ length old + 1
made_length old new most (inl same) = let long = ap length same in omega (arith, long)
made_length old new most (inr made) =
    let long = ap length made.0 ∙ length-append old (new_slot ∷ []) in omega (arith, long)

module _ {P : Type 0} (held_of : P → ℕ) (ready_of : P → Bool) where
  -- Whoever is ready waits, where a place was made.
  pub wait_made : (old new : List (Slot P)) (most : ℕ) (turn : Option Token)
      → MakesPlace old new most → ReadyWait ready_of old turn → ReadyWait ready_of new turn
  wait_made old new most turn (inl same) wait =
      subst (λ s. ReadyWait ready_of s turn) (sym same) wait
  wait_made old new most turn (inr made) wait =
      subst (λ s. ReadyWait ready_of s turn) (sym made.0)
      (λ place slot at ready. elim (longer_cases old new_slot place slot at) [
        | inl before ↦ wait place slot before ready
        | inr same ↦
            let idle = ap (λ (s : Slot P). is_ready_slot ready_of s) same in
            let contrary : true ≡ false = sym ready ∙ idle in absurd (let no = contrary in cc)
      ])

  -- A place was made, for which there is memory in the queue.
  pub counted_made : (old new : HostState P) → IsCounted held_of old
      → MakesPlace (slots_of old) (slots_of new) old.limits.connections
      → new.queue.items ≡ old.queue.items → length (slots_of new) ≤ deque_capacity new.queue
      → new.held ≡ old.held → new.limits ≡ old.limits → IsCounted held_of new
  counted_made old new is (inl same) queue space held limits =
      let long = ap length same in
      let places = is.places in
      let few = is.few in
      let all = is.all in
      let connections = ap (λ l. l.connections) limits in
      let in_all = ap (λ l. l.held_in_all) limits in
      record {
        sum = held ∙ (is.sum ∙ ap (held_in_all held_of) (sym same));
        queue = subst (λ s. IsQueueOf s new.queue.items) (sym same)
            (subst (IsQueueOf (slots_of old)) (sym queue) is.queue);
        space = space;
        places = omega (arith, long, places, connections);
        few = omega (arith, long, few);
        sized = subst (λ l. l.held_in_all < 2 ^ 64) (sym limits) is.sized;
        each = subst (λ s. EachWithin held_of s new.limits.held) (sym same)
            (subst (λ l. EachWithin held_of (slots_of old) l.held) (sym limits) is.each);
        all = omega (arith, held, all, in_all);
      }
  counted_made old new is (inr made) queue space held limits =
      let more = sum_by_push (slot_held held_of) (slots_of old) new_slot in
      let all = is.all in
      let fits = made.1 in
      let connections = ap (λ l. l.connections) limits in
      let in_all = ap (λ l. l.held_in_all) limits in
      let sum = is.sum in
      let now : new.held ≡ held_in_all held_of (slots_of old ++ new_slot ∷ []) =
      omega (arith, held, sum, more) in
      record {
        sum = now ∙ ap (held_in_all held_of) (sym made.0);
        queue = subst (λ s. IsQueueOf s new.queue.items) (sym made.0)
            (subst (IsQueueOf (slots_of old ++ new_slot ∷ [])) (sym queue)
            (queue_made (slots_of old) old.queue.items new_slot is.queue refl));
        space = space;
        places = omega (arith, fits, connections);
        few = made.2;
        sized = subst (λ l. l.held_in_all < 2 ^ 64) (sym limits) is.sized;
        each = subst (λ s. EachWithin held_of s new.limits.held) (sym made.0)
            (λ place slot at. elim (longer_cases (slots_of old) new_slot place slot at) [
              | inl before ↦ subst (λ l. slot_held held_of slot ≤ l.held) (sym limits)
                  (is.each place slot before)
              | inr same ↦
                  let none = ap (slot_held held_of) same in omega (arith, none)
            ]);
        all = omega (arith, held, all, in_all);
      }

  -- A place was taken by a connection that holds no more than it may, as all do then.
  pub counted_taken : (old new : HostState P) (token : Token) (party : P)
      → IsCounted held_of old → TakesPlace (slots_of old) (slots_of new) token party
      → new.queue ≡ old.queue → new.limits ≡ old.limits
      → new.held ≡ old.held + held_of party → held_of party ≤ old.limits.held
      → new.held ≤ old.limits.held_in_all → IsCounted held_of new
  counted_taken old new token party is takes queue limits held small fits =
      let slots = slots_of old in
      let next : Slot P = record takes.slot { party = Some party } in
      let sum = sum_written (slot_held held_of) slots token.place takes.slot next takes.at in
      let none = ap (held_by held_of) takes.empty in
      let was = is.sum in
      let long = ap length takes.new_is ∙ length-set slots token.place next in
      let space = is.space in
      let capacity = ap deque_capacity queue in
      let places = is.places in
      let few = is.few in
      let connections = ap (λ l. l.connections) limits in
      let in_all = ap (λ l. l.held_in_all) limits in
      let now : new.held ≡ held_in_all held_of (slice_set slots token.place next) =
      omega (arith, sum, none, was, held) in
      record {
        sum = now ∙ ap (held_in_all held_of) (sym takes.new_is);
        queue = subst (λ s. IsQueueOf s new.queue.items) (sym takes.new_is)
            (subst (λ q. IsQueueOf (slice_set slots token.place next) q.items) (sym queue)
            (queue_kept slots old.queue.items token.place takes.slot next is.queue takes.at refl));
        space = omega (arith, long, space, capacity);
        places = omega (arith, long, places, connections);
        few = omega (arith, long, few);
        sized = subst (λ l. l.held_in_all < 2 ^ 64) (sym limits) is.sized;
        each = subst (λ s. EachWithin held_of s new.limits.held) (sym takes.new_is)
            (subst (λ l. EachWithin held_of (slice_set slots token.place next) l.held)
            (sym limits)
            (each_written held_of ready_of slots token.place old.limits.held takes.slot next
            (λ other one differs there. is.each other one there) takes.at small));
        all = omega (arith, fits, in_all);
      }

  -- Everybody else waits as before.
  pub others_taken : (old new : List (Slot P)) (token : Token) (party : P) (turn : Option Token)
      → TakesPlace old new token party → ReadyWait ready_of old turn
      → OthersWait ready_of new turn token.place
  others_taken old new token party turn takes wait = λ other slot differs at ready.
      wait other slot
      (sym (get_unwritten old token.place other (record takes.slot { party = Some party }) differs)
      ∙ (sym (ap (λ s. slot_at s other) takes.new_is) ∙ at)) ready

  -- A place that a connection has left holds nothing, and all hold so much less.
  pub counted_freed : (old new : HostState P) (token : Token) (party : P)
      → IsCounted held_of old → EmptiesPlace (slots_of old) (slots_of new) token party
      → new.queue ≡ old.queue → new.limits ≡ old.limits
      → new.held ≡ old.held - held_of party → IsCounted held_of new
  counted_freed old new token party is frees queue limits held =
      let slots = slots_of old in
      let next : Slot P = record frees.slot { generation = frees.next; party = None } in
      let sum = sum_written (slot_held held_of) slots token.place frees.slot next frees.at in
      let some = ap (held_by held_of) frees.taken in
      let was = is.sum in
      let long = ap length frees.new_is ∙ length-set slots token.place next in
      let space = is.space in
      let capacity = ap deque_capacity queue in
      let places = is.places in
      let few = is.few in
      let all = is.all in
      let connections = ap (λ l. l.connections) limits in
      let in_all = ap (λ l. l.held_in_all) limits in
      let now : new.held ≡ held_in_all held_of (slice_set slots token.place next) =
      omega (arith, sum, some, was, held) in
      record {
        sum = now ∙ ap (held_in_all held_of) (sym frees.new_is);
        queue = subst (λ s. IsQueueOf s new.queue.items) (sym frees.new_is)
            (subst (λ q. IsQueueOf (slice_set slots token.place next) q.items) (sym queue)
            (queue_kept slots old.queue.items token.place frees.slot next is.queue frees.at refl));
        space = omega (arith, long, space, capacity);
        places = omega (arith, long, places, connections);
        few = omega (arith, long, few);
        sized = subst (λ l. l.held_in_all < 2 ^ 64) (sym limits) is.sized;
        each = subst (λ s. EachWithin held_of s new.limits.held) (sym frees.new_is)
            (subst (λ l. EachWithin held_of (slice_set slots token.place next) l.held)
            (sym limits)
            (each_written held_of ready_of slots token.place old.limits.held frees.slot next
            (λ other one differs there. is.each other one there) frees.at (omega arith)));
        all = omega (arith, held, all, in_all);
      }

  -- What a connection holds is counted.
  pub party_within : (host : HostState P) (token : Token) (party : P) → IsCounted held_of host
      → IsAt (slots_of host) token party → held_of party ≤ host.held
  party_within host token party is at =
      let item = item_within (slot_held held_of) (slots_of host) token.place at.slot at.at in
      let some = ap (held_by held_of) at.taken in
      let sum = is.sum in omega (arith, item, some, sum)

  pub wait_freed : (old new : List (Slot P)) (token : Token) (party : P) (turn : Option Token)
      → EmptiesPlace old new token party → ReadyWait ready_of old turn
      → ReadyWait ready_of new turn
  wait_freed old new token party turn frees wait =
      subst (λ s. ReadyWait ready_of s turn) (sym frees.new_is)
      (ready_idle ready_of old token.place frees.slot _ turn
      (others_wait ready_of old turn token.place wait) frees.at refl)

module _ {P : Type 0} where
  -- A connection that takes a place gets it.
  pub opens_taken : (old new : List (Slot P)) (token : Token) (party : P)
      → TakesPlace old new token party → OpensPlace old new token party
  opens_taken old new token party takes =
      let next : Slot P = record takes.slot { party = Some party } in
      record {
        free = λ other generation is.
            let same = one_slot old token.place is.slot takes.slot is.at takes.at in
            let some = is.taken in
            let none = ap (λ (s : Slot P). s.party) same ∙ takes.empty in
            let contrary : Some other ≡ None = sym some ∙ none in cc;
        is = record {
          slot = next;
          at = ap (λ s. slot_at s token.place) takes.new_is
              ∙ get_written old token.place takes.slot next takes.at;
          generation = takes.generation;
          taken = refl;
        };
        generation = λ slot at.
            ap (λ (s : Slot P). s.generation) (one_slot old token.place slot takes.slot at takes.at)
            ∙ takes.generation;
        others = λ other differs.
            ap (λ s. slot_at s other) takes.new_is
            ∙ get_unwritten old token.place other next differs;
      }

  -- One that frees its place leaves it.
  pub leaves_freed : (old new : List (Slot P)) (token : Token) (party : P)
      → EmptiesPlace old new token party → LeavesPlace old new token
  leaves_freed old new token party frees =
      let next : Slot P = record frees.slot { generation = frees.next; party = None } in
      record {
        party = party;
        at = record {
          slot = frees.slot;
          at = frees.at;
          generation = frees.generation;
          taken = frees.taken;
        };
        slot = next;
        is = ap (λ s. slot_at s token.place) frees.new_is
            ∙ get_written old token.place frees.slot next frees.at;
        older = frees.greater;
        empty = refl;
        others = λ other differs.
            ap (λ s. slot_at s other) frees.new_is
            ∙ get_unwritten old token.place other next differs;
      }

  -- Its token is not of now then.
  pub left_no_more : (old new : List (Slot P)) (token : Token) → LeavesPlace old new token
      → IsNow new token → ⊥
  left_no_more old new token leaves now =
      let same = ap (λ (s : Slot P). s.generation)
      (one_slot new token.place leaves.slot now.1.slot leaves.is now.1.at) in
      let generation = now.1.generation in
      let older = leaves.older in omega (arith, same, generation, older)

  -- A token that is given was not given before.
  pub is_fresh : (old mid new : List (Slot P)) (token : Token) (party : P)
      → IsSameOfParties old mid → OpensPlace mid new token party → WasGiven old token → ⊥
  is_fresh old mid new token party same opens given =
      let there = same token.place given.slot given.at in
      let generation = opens.generation there.0 there.1 in
      elim given.before [
        | inl less ↦ let is = there.2 in omega (arith, less, generation, is)
        | inr now ↦ opens.free now.0 token.generation (at_kept old mid token now.0 same now.1)
      ]

  -- A connection is opened: a place was made, taken and put into the queue.
  pub opens_happen : (steps : P → Own → List ℕ → Answer → P → Type 0)
      (old mid next new : List (Slot P)) (token : Token) (party : P) → IsSameOfParties old mid
      → OpensPlace mid next token party → IsSameOfParties next new → HappensAt steps new old []
  opens_happen steps old mid next new token party same opens kept =
      noted old mid [] same
      (opened mid next [] token party opens (noted next new [] kept nothing))
