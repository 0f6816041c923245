-- All that are ready have a turn before any has a second.
use Rattle.std.specs.Prelude.{◌≡◌, ◌≢◌, ◌⊎◌, ◌++◌, ◌∷◌, [], ℕ, List, Bool, true, false, Option}
use Rattle.std.specs.Prelude.{Some}
use Rattle.std.specs.Prelude.{None}
use Rattle.std.proofs.Common.{refl, sym, ap, subst, inl, inr, ◌∙◌}
use Rattle.std.proofs.lemmas.List.{append-nil, append_assoc}
use Rattle.h2_host.specs.declared.host.Made.{Made}
use Rattle.h2_host.specs.declared.host.Reply.{Reply}
use Rattle.h2_host.specs.declared.host.Reply.TheVariants as replies
use Rattle.h2_host.specs.declared.host.Step.{Step}
use Rattle.h2_host.specs.declared.host.Step.TheVariants as host_steps
use Rattle.h2_host.specs.declared.party.Answer.{Answer}
use Rattle.h2_host.specs.declared.party.Own.{Own}
use Rattle.h2_host.specs.declared.state.HostState.{HostState}
use Rattle.h2_host.specs.declared.table.Slot.{Slot}
use Rattle.h2_host.specs.declared.token.Token.{Token}
use Rattle.h2_host.specs.Runs.{GetsTurnBefore, IsReadyAt, RunsWhile, none_made, one_made}
use Rattle.h2_host.specs.Sound.{IsSoundHost}
use Rattle.h2_host.specs.Steps.{AnswersStep, GivesTurn, slots_of}
use Rattle.h2_host.specs.Tokens.{IsAt, slot_at}
use Rattle.h2_host.specs.Turns.{HasTurn, NoneReady, WaitsIn, is_ready_party, is_ready_slot}
use Rattle.h2_host.proofs.Places.{one_slot}

-- The first place waits, and the other does not wait before it.
pub record IsAhead (first other : ℕ) (queue : List ℕ) : Type 0 where
  pub prefix : List ℕ
  pub suffix : List ℕ
  pub split : queue ≡ prefix ++ first ∷ suffix
  pub not_before : WaitsIn other prefix → ⊥

-- A place that waits, where the other does not, is ahead of it.
ahead_of_absent : (first other : ℕ) (queue : List ℕ) → WaitsIn first queue
    → (WaitsIn other queue → ⊥) → IsAhead first other queue
unfolding WaitsIn
ahead_of_absent first other [] never absent = absurd never
ahead_of_absent first other (one ∷ queue) (inl same) absent = record {
  prefix = [];
  suffix = queue;
  split = ap (λ p. p ∷ queue) same;
  not_before = λ never. never;
}
ahead_of_absent first other (one ∷ queue) (inr later) absent =
    let rest = ahead_of_absent first other queue later (λ there. absent (inr there)) in
    record {
      prefix = one ∷ rest.prefix;
      suffix = rest.suffix;
      split = ap (λ q. one ∷ q) rest.split;
      not_before = λ there. elim there [
        | inl same ↦ absent (inl same)
        | inr before ↦ rest.not_before before
      ];
    }

-- It is ahead still, where more come to the end.
ahead_longer : (first other : ℕ) (queue more : List ℕ) → IsAhead first other queue
    → IsAhead first other (queue ++ more)
ahead_longer first other queue more ahead = record {
  prefix = ahead.prefix;
  suffix = ahead.suffix ++ more;
  split = ap (λ q. q ++ more) ahead.split ∙ append_assoc ahead.prefix (first ∷ ahead.suffix) more;
  not_before = ahead.not_before;
}

-- Who is ahead waits.
ahead_waits : (first : ℕ) (prefix suffix : List ℕ) → WaitsIn first (prefix ++ first ∷ suffix)
unfolding WaitsIn
ahead_waits first [] suffix = inl refl
ahead_waits first (one ∷ prefix) suffix = inr (ahead_waits first prefix suffix)

head_same : (a b : ℕ) (xs ys : List ℕ) → a ∷ xs ≡ b ∷ ys → a ≡ b
head_same a b xs ys is = cc

tail_same : (a b : ℕ) (xs ys : List ℕ) → a ∷ xs ≡ b ∷ ys → xs ≡ ys
tail_same a b xs ys is = cc

-- Of those that have passed, and the next one: the first is the next one, or it is ahead still, and
-- the next one isn't the other.
ahead_passed : (first other : ℕ) (prefix suffix passed : List ℕ) (next : ℕ) (rest : List ℕ)
    → prefix ++ first ∷ suffix ≡ passed ++ next ∷ rest → (WaitsIn other prefix → ⊥)
    → (WaitsIn first passed → ⊥)
    → (next ≡ first) ⊎ ((next ≢ other) × IsAhead first other rest)
unfolding WaitsIn
ahead_passed first other [] suffix [] next rest same absent not_passed =
    inl (sym (head_same first next suffix rest same))
ahead_passed first other [] suffix (one ∷ passed) next rest same absent not_passed =
    absurd (not_passed (inl (sym (head_same first one suffix (passed ++ next ∷ rest) same))))
ahead_passed first other (one ∷ prefix) suffix [] next rest same absent not_passed =
    let head = head_same one next (prefix ++ first ∷ suffix) rest same in
    let tail = tail_same one next (prefix ++ first ∷ suffix) rest same in
    inr (
      (λ is. absent (inl (head ∙ is))),
      record {
        prefix = prefix;
        suffix = suffix;
        split = sym tail;
        not_before = λ there. absent (inr there);
      },
    )
ahead_passed first other (one ∷ prefix) suffix (two ∷ passed) next rest same absent not_passed =
    ahead_passed first other prefix suffix passed next rest
    (tail_same one two (prefix ++ first ∷ suffix) (passed ++ next ∷ rest) same)
    (λ there. absent (inr there)) (λ there. not_passed (inr there))

module _ {P : Type 0} (ready_of : P → Bool) where
  -- A connection that is there and ready is not among those that are not.
  none_waits : (slots : List (Slot P)) (passed : List ℕ) (place : ℕ) (slot : Slot P)
      → NoneReady ready_of slots passed → slot_at slots place ≡ Some slot
      → is_ready_slot ready_of slot ≡ true → WaitsIn place passed → ⊥
  unfolding NoneReady WaitsIn
  none_waits slots [] place slot none at ready never = never
  none_waits slots (one ∷ passed) place slot none at ready (inl same) =
      let idle = none.0 slot (ap (slot_at slots) same ∙ at) in
      let contrary : true ≡ false = sym ready ∙ idle in cc
  none_waits slots (one ∷ passed) place slot none at ready (inr later) =
      none_waits slots passed place slot none.1 at ready later

  -- A connection that is ready has a place that is.
  ready_place : (host : HostState P) (token : Token) (is : IsReadyAt ready_of token host)
      → is_ready_slot ready_of is.1.slot ≡ true
  ready_place host token is = ap (is_ready_party ready_of) is.1.taken ∙ is.2

  -- Two connections at one place are the same.
  same_tokens : (slots : List (Slot P)) (a b : Token) (one two : P) → a.place ≡ b.place
      → IsAt slots a one → IsAt slots b two → a ≡ b
  same_tokens slots a b one two same x y =
      let slot = one_slot slots a.place x.slot y.slot x.at (ap (slot_at slots) same ∙ y.at) in
      let generation : a.generation ≡ b.generation =
      sym x.generation ∙ ap (λ (s : Slot _). s.generation) slot ∙ y.generation in
      ap (λ p. record { place = p; generation = a.generation }) same
      ∙ ap (λ n. record { place = b.place; generation = n }) generation

-- A step that gives no turn: the queue is longer at its end.
abbrev pub KeepsTurns : {P : Type 0} → (old new : HostState P) → Reply P → Type 0
KeepsTurns {P = P} old new reply =
    ((added : List ℕ) × (new.queue.items ≡ old.queue.items ++ added))
    × ((first other : Token) (rest : List (Reply P)) → GetsTurnBefore first other rest
    → GetsTurnBefore first other (reply ∷ rest))

-- A step of a host gives a turn, or none.
abbrev pub TurnOrNot : {P : Type 0} → (ready_of : P → Bool) → (old new : HostState P) → Reply P
    → Type 0
TurnOrNot ready_of old new reply =
    KeepsTurns old new reply
    ⊎ ((next : Option Token) × (reply ≡ replies.Turn next) × GivesTurn ready_of old new next)

module _ {P : Type 0} (steps : P → Own → List ℕ → Answer → P → Type 0) (held_of : P → ℕ)
    (ready_of : P → Bool) where
  same_queue : (old new : HostState P) → new ≡ old
      → (added : List ℕ) × (new.queue.items ≡ old.queue.items ++ added)
  same_queue old new same =
      ([], ap (λ (h : HostState P). h.queue.items) same ∙ sym (append-nil old.queue.items))

  turn_or_not : (old new : HostState P) (step : Step P) (octets : List ℕ) (reply : Reply P)
      → AnswersStep steps held_of ready_of old new step octets reply
      → TurnOrNot ready_of old new reply
  unfolding GetsTurnBefore
  turn_or_not old new (host_steps.Opened party) octets (replies.Opened token) is =
      inl ((is.4.added, is.4.queue), (λ first other rest gets. gets))
  turn_or_not old new (host_steps.Opened party) octets (replies.Full back) is =
      inl ((is.3.added, is.3.queue), (λ first other rest gets. gets))
  turn_or_not old new (host_steps.Opened party) octets (replies.Own answer) is = absurd is
  turn_or_not old new (host_steps.Opened party) octets replies.Stale is = absurd is
  turn_or_not old new (host_steps.Opened party) octets replies.NotNow is = absurd is
  turn_or_not old new (host_steps.Opened party) octets replies.Passed is = absurd is
  turn_or_not old new (host_steps.Opened party) octets replies.Closed is = absurd is
  turn_or_not old new (host_steps.Opened party) octets (replies.Turn next) is = absurd is
  turn_or_not old new (host_steps.Own token own) octets (replies.Own answer) is =
      inl ((is.2.added, is.2.queue), (λ first other rest gets. gets))
  turn_or_not old new (host_steps.Own token own) octets replies.Stale is =
      inl (same_queue old new is.1, (λ first other rest gets. gets))
  turn_or_not old new (host_steps.Own token own) octets replies.NotNow is =
      inl (same_queue old new is.2, (λ first other rest gets. gets))
  turn_or_not old new (host_steps.Own token own) octets (replies.Opened other) is = absurd is
  turn_or_not old new (host_steps.Own token own) octets (replies.Full back) is = absurd is
  turn_or_not old new (host_steps.Own token own) octets replies.Passed is = absurd is
  turn_or_not old new (host_steps.Own token own) octets replies.Closed is = absurd is
  turn_or_not old new (host_steps.Own token own) octets (replies.Turn next) is = absurd is
  turn_or_not old new (host_steps.Passed now) octets replies.Passed is =
      inl ((is.2.added, is.2.queue), (λ first other rest gets. gets))
  turn_or_not old new (host_steps.Passed now) octets (replies.Opened other) is = absurd is
  turn_or_not old new (host_steps.Passed now) octets (replies.Full back) is = absurd is
  turn_or_not old new (host_steps.Passed now) octets (replies.Own answer) is = absurd is
  turn_or_not old new (host_steps.Passed now) octets replies.Stale is = absurd is
  turn_or_not old new (host_steps.Passed now) octets replies.NotNow is = absurd is
  turn_or_not old new (host_steps.Passed now) octets replies.Closed is = absurd is
  turn_or_not old new (host_steps.Passed now) octets (replies.Turn next) is = absurd is
  turn_or_not old new (host_steps.Closed token) octets replies.Closed is =
      inl ((is.4.added, is.4.queue), (λ first other rest gets. gets))
  turn_or_not old new (host_steps.Closed token) octets replies.Stale is =
      inl (same_queue old new is.1, (λ first other rest gets. gets))
  turn_or_not old new (host_steps.Closed token) octets (replies.Opened other) is = absurd is
  turn_or_not old new (host_steps.Closed token) octets (replies.Full back) is = absurd is
  turn_or_not old new (host_steps.Closed token) octets (replies.Own answer) is = absurd is
  turn_or_not old new (host_steps.Closed token) octets replies.NotNow is = absurd is
  turn_or_not old new (host_steps.Closed token) octets replies.Passed is = absurd is
  turn_or_not old new (host_steps.Closed token) octets (replies.Turn next) is = absurd is
  turn_or_not old new host_steps.NextTurn octets (replies.Turn next) is = inr (next, refl, is)
  turn_or_not old new host_steps.NextTurn octets (replies.Opened other) is = absurd is
  turn_or_not old new host_steps.NextTurn octets (replies.Full back) is = absurd is
  turn_or_not old new host_steps.NextTurn octets (replies.Own answer) is = absurd is
  turn_or_not old new host_steps.NextTurn octets replies.Stale is = absurd is
  turn_or_not old new host_steps.NextTurn octets replies.NotNow is = absurd is
  turn_or_not old new host_steps.NextTurn octets replies.Passed is = absurd is
  turn_or_not old new host_steps.NextTurn octets replies.Closed is = absurd is

  -- Who is ahead and ready gets the next turn, or is ahead still, and the other gets none.
  turn_ahead : (old new : HostState P) (next : Option Token) (first other : Token)
      (rest : List (Reply P)) → IsReadyAt ready_of first old → GivesTurn ready_of old new next
      → IsAhead first.place other.place old.queue.items
      → (IsAhead first.place other.place new.queue.items → GetsTurnBefore first other rest)
      → GetsTurnBefore first other (replies.Turn next ∷ rest)
  unfolding GetsTurnBefore
  turn_ahead old new None first other rest ready gives ahead later =
      let longer = ahead_longer first.place other.place old.queue.items gives.added ahead in
      let passed : WaitsIn first.place gives.passed =
      subst (WaitsIn first.place) (sym longer.split ∙ gives.queue.0)
      (ahead_waits first.place longer.prefix longer.suffix) in
      absurd (none_waits ready_of (slots_of old) gives.passed first.place ready.1.slot
      gives.none_ready ready.1.at (ready_place ready_of old first ready) passed)
  turn_ahead old new (Some token) first other rest ready gives ahead later =
      let longer = ahead_longer first.place other.place old.queue.items gives.added ahead in
      elim (ahead_passed first.place other.place longer.prefix longer.suffix gives.passed
      token.place new.queue.items (sym longer.split ∙ gives.queue.0) longer.not_before
      (none_waits ready_of (slots_of old) gives.passed first.place ready.1.slot gives.none_ready
      ready.1.at (ready_place ready_of old first ready))) [
        | inl same ↦ inl (same_tokens ready_of (slots_of old) token first gives.queue.2.0 ready.0
            same gives.queue.2.1 ready.1)
        | inr (differs, still) ↦ inr (differs, later still)
      ]

  -- As long as it is ready it gets a turn before the other does.
  run_ahead : (first other : Token) (new old : HostState P) (made : List (Made P))
      (answers : List (Reply P))
      → RunsWhile steps held_of ready_of (IsReadyAt ready_of first) new old made answers
      → IsAhead first.place other.place old.queue.items → GetsTurnBefore first other answers
  unfolding GetsTurnBefore
  run_ahead first other new old made answers (none_made held) ahead = tt
  run_ahead first other new old made answers (one_made start mid one more reply rest held is later)
      ahead =
      elim (turn_or_not old mid one.step one.octets.items reply is) [
        | inl (longer, keeps) ↦ keeps first other rest
            (run_ahead first other new mid more rest later
            (subst (IsAhead first.place other.place) (sym longer.1)
            (ahead_longer first.place other.place old.queue.items longer.0 ahead)))
        | inr (next, same, gives) ↦
            subst (λ r. GetsTurnBefore first other (r ∷ rest)) (sym same)
            (turn_ahead old mid next first other rest held gives ahead
            (λ still. run_ahead first other new mid more rest later still))
      ]

  -- Whoever is ready as another gets its turn is ahead of it.
  ahead_at_first : (before old : HostState P) (first other : Token)
      → IsSoundHost held_of ready_of old → GivesTurn ready_of before old (Some other)
      → first.place ≢ other.place → IsReadyAt ready_of first old
      → IsAhead first.place other.place old.queue.items
  ahead_at_first before old first other sound gives differs ready =
      let wait = sound.steady.ready first.place ready.1.slot ready.1.at
      (ready_place ready_of old first ready) in
      elim wait [
        | inl queued ↦ ahead_of_absent first.place other.place old.queue.items
            (sound.steady.queue.waits first.place ready.1.slot ready.1.at queued) gives.queue.1
        | inr has ↦ absurd
            (differs (sym (subst (λ t. HasTurn t.token first.place) gives.turn has)))
      ]

  -- What holds all along a run holds at first.
  ready_at_first : (first : Token) (new old : HostState P) (made : List (Made P))
      (answers : List (Reply P))
      → RunsWhile steps held_of ready_of (IsReadyAt ready_of first) new old made answers
      → IsReadyAt ready_of first old
  ready_at_first first new old made answers (none_made held) = held
  ready_at_first first new old made answers
      (one_made start mid one more reply rest held is later) = held

  -- Once a connection has got its turn, each other that is ready gets one before it does again.
  pub ready_first : (before old new : HostState P) (made : List (Made P))
      (answers : List (Reply P)) (first other : Token) → IsSoundHost held_of ready_of old
      → GivesTurn ready_of before old (Some other) → first.place ≢ other.place
      → RunsWhile steps held_of ready_of (IsReadyAt ready_of first) new old made answers
      → GetsTurnBefore first other answers
  ready_first before old new made answers first other sound gives differs run =
      run_ahead first other new old made answers run
      (ahead_at_first before old first other sound gives differs
      (ready_at_first first new old made answers run))
