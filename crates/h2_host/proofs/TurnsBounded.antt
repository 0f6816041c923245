-- How many octets the steps of one turn take and give.
use Rattle.std.specs.Prelude.{◌≡◌, ◌≤◌, ◌+◌, ◌-◌, ℕ, List, length, Bool, true, false}
use Rattle.std.specs.Prelude.{Option, Some, None, if◌then◌else◌, nat_lt, ◌||◌}
use Rattle.std.proofs.Common.{refl, sym, ap, subst, arith}
use Rattle.std.proofs.lemmas.Bool.{ltb-false}
use Rattle.h2_host.specs.declared.host.Made.{Made}
use Rattle.h2_host.specs.declared.host.Reply.{Reply}
use Rattle.h2_host.specs.declared.host.Reply.TheVariants as replies
use Rattle.h2_host.specs.declared.host.Step.{Step}
use Rattle.h2_host.specs.declared.host.Step.TheVariants as host_steps
use Rattle.h2_host.specs.declared.party.Answer.{Answer}
use Rattle.h2_host.specs.declared.party.Own.{Own}
use Rattle.h2_host.specs.declared.party.Own.TheVariants as owns
use Rattle.h2_host.specs.declared.state.HostState.{HostState}
use Rattle.h2_host.specs.declared.token.Token.{Token}
use Rattle.h2_host.specs.declared.turn.Turn.{Turn}
use Rattle.h2_host.specs.Runs.{GivesNoTurn, RunsWhile, WithinOneTurn, given_by_step, given_in}
use Rattle.h2_host.specs.Runs.{none_made}
use Rattle.h2_host.specs.Runs.{one_made, taken_by_step, taken_in}
use Rattle.h2_host.specs.Steps.{AnswersStep}
use Rattle.h2_host.specs.Turns.{has_turn, most_given, most_taken, turn_left}

-- how many octets a turn still lets a connection take
pub left_to_take : (came : Bool) → ℕ
left_to_take true = 0
left_to_take false = 32786

-- what a step of one connection takes and gives
takes_of : Own → (octets : ℕ) → ℕ
takes_of owns.Came octets = octets
takes_of own octets = 0

gives_of : Own → ℕ
gives_of (owns.Went count) = count
gives_of own = 0

-- What a step has taken and given is not more than what it leaves less.
record LeavesLess (turn next : Turn) (taken given : ℕ) : Type 0 where
  takes : taken + left_to_take next.came ≤ left_to_take turn.came
  gives : given + (65536 - next.gave) ≤ 65536 - turn.gave

-- Nothing was taken, nor given.
leaves_same : (turn next : Turn) → next.came ≡ turn.came → next.gave ≡ turn.gave
    → LeavesLess turn next 0 0
leaves_same turn next came gave =
    let a = ap left_to_take came in
    record { takes = omega (arith, a); gives = omega (arith, gave) }

-- What a test lets through.
pub let_through : {A : Type 0} (b : Bool) (value : Option A) (it : A)
    → (if b then value else None) ≡ Some it → value ≡ Some it
let_through true value it is = is
let_through false value it is = absurd (let no = is in cc)

-- What a test does not stop.
pub record NotStopped {A : Type 0} (b : Bool) (value it : A) : Type 0 where
  pub stops : b ≡ false
  pub same : value ≡ it

pub not_stopped : {A : Type 0} (b : Bool) (value it : A)
    → (if b then None else Some value) ≡ Some it
    → NotStopped b value it
not_stopped true value it is = absurd (let no = is in cc)
not_stopped false value it is = record { stops = refl; same = cc }

-- Octets that have come, once and not too many.
came_once : (came : Bool) (octets : ℕ) → (came || nat_lt 32786 octets) ≡ false
    → octets ≤ left_to_take came
unfolding left_to_take
came_once true octets is = absurd (let no = is in cc)
came_once false octets is = let fits = ltb-false 32786 octets is in omega (arith, fits)

-- Where octets have come a turn lets no more be taken.
none_left : left_to_take true ≡ 0
unfolding left_to_take
none_left = refl

-- The turn is the same.
same_turn : (turn next : Turn) → Some turn ≡ Some next → LeavesLess turn next 0 0
same_turn turn next is =
    let same : turn ≡ next = cc in
    leaves_same turn next (ap (λ (t : Turn). t.came) (sym same))
    (ap (λ (t : Turn). t.gave) (sym same))

-- A step that the turns allow leaves less by what it takes and gives.
counted_less : (turn next : Turn) (token : Token) (own : Own) (octets : ℕ)
    → turn_left turn token own octets ≡ Some next
    → LeavesLess turn next (takes_of own octets) (gives_of own)
unfolding takes_of gives_of
counted_less turn next token owns.Came octets is =
    let may = not_stopped (turn.came || nat_lt 32786 octets) (record turn { came = true }) next
    (let_through (has_turn turn.token token) _ next is) in
    let fits = came_once turn.came octets may.stops in
    let came = ap left_to_take (ap (λ (t : Turn). t.came) may.same) in
    let none = none_left in
    let gave = ap (λ (t : Turn). t.gave) may.same in
    record {
      takes = omega (arith, fits, came, none);
      gives = omega (arith, gave);
    }
counted_less turn next token owns.Turn octets is =
    let may = not_stopped turn.asked (record turn { asked = true }) next
    (let_through (has_turn turn.token token) _ next is) in
    leaves_same turn next (ap (λ (t : Turn). t.came) (sym may.same))
    (ap (λ (t : Turn). t.gave) (sym may.same))
counted_less turn next token (owns.Went count) octets is =
    let may = not_stopped (nat_lt 65536 (turn.gave + count))
    (record turn { gave = turn.gave + count }) next
    (let_through (has_turn turn.token token) _ next is) in
    let a = ap left_to_take (ap (λ (t : Turn). t.came) may.same) in
    let gave = ap (λ (t : Turn). t.gave) may.same in
    let fits = ltb-false 65536 (turn.gave + count) may.stops in
    record { takes = omega (arith, a); gives = omega (arith, gave, fits) }
counted_less turn next token (owns.Ready reads writes) octets is = same_turn turn next is
counted_less turn next token owns.NoneCame octets is = same_turn turn next is
counted_less turn next token owns.Ended octets is = same_turn turn next is
counted_less turn next token owns.NoneWent octets is = same_turn turn next is
counted_less turn next token owns.Lost octets is = same_turn turn next is
counted_less turn next token (owns.Refused bound) octets is = same_turn turn next is
counted_less turn next token (owns.Passed now) octets is = absurd (let no = is in cc)

module _ {P : Type 0} (steps : P → Own → List ℕ → Answer → P → Type 0) (held_of : P → ℕ)
    (ready_of : P → Bool) where
  own_taken : (token : Token) (own : Own) (octets : ℕ) (answer : Answer)
      → taken_by_step {P = P} (host_steps.Own token own) octets (replies.Own answer)
      ≡ takes_of own octets
  unfolding taken_by_step takes_of
  own_taken token owns.Came octets answer = refl
  own_taken token owns.Turn octets answer = refl
  own_taken token (owns.Went count) octets answer = refl
  own_taken token (owns.Ready reads writes) octets answer = refl
  own_taken token owns.NoneCame octets answer = refl
  own_taken token owns.Ended octets answer = refl
  own_taken token owns.NoneWent octets answer = refl
  own_taken token owns.Lost octets answer = refl
  own_taken token (owns.Refused bound) octets answer = refl
  own_taken token (owns.Passed now) octets answer = refl

  own_given : (token : Token) (own : Own) (answer : Answer)
      → given_by_step {P = P} (host_steps.Own token own) (replies.Own answer) ≡ gives_of own
  unfolding given_by_step gives_of
  own_given token owns.Came answer = refl
  own_given token owns.Turn answer = refl
  own_given token (owns.Went count) answer = refl
  own_given token (owns.Ready reads writes) answer = refl
  own_given token owns.NoneCame answer = refl
  own_given token owns.Ended answer = refl
  own_given token owns.NoneWent answer = refl
  own_given token owns.Lost answer = refl
  own_given token (owns.Refused bound) answer = refl
  own_given token (owns.Passed now) answer = refl

  -- A step that is not made takes nothing.
  none_taken : (token : Token) (own : Own) (octets : ℕ)
      → (taken_by_step {P = P} (host_steps.Own token own) octets replies.Stale ≡ 0)
      × (taken_by_step {P = P} (host_steps.Own token own) octets replies.NotNow ≡ 0)
  unfolding taken_by_step
  none_taken token owns.Came octets = (refl, refl)
  none_taken token owns.Turn octets = (refl, refl)
  none_taken token (owns.Went count) octets = (refl, refl)
  none_taken token (owns.Ready reads writes) octets = (refl, refl)
  none_taken token owns.NoneCame octets = (refl, refl)
  none_taken token owns.Ended octets = (refl, refl)
  none_taken token owns.NoneWent octets = (refl, refl)
  none_taken token owns.Lost octets = (refl, refl)
  none_taken token (owns.Refused bound) octets = (refl, refl)
  none_taken token (owns.Passed now) octets = (refl, refl)

  -- Nor does it give anything.
  none_given : (token : Token) (own : Own)
      → (given_by_step {P = P} (host_steps.Own token own) replies.Stale ≡ 0)
      × (given_by_step {P = P} (host_steps.Own token own) replies.NotNow ≡ 0)
  unfolding given_by_step
  none_given token owns.Came = (refl, refl)
  none_given token owns.Turn = (refl, refl)
  none_given token (owns.Went count) = (refl, refl)
  none_given token (owns.Ready reads writes) = (refl, refl)
  none_given token owns.NoneCame = (refl, refl)
  none_given token owns.Ended = (refl, refl)
  none_given token owns.NoneWent = (refl, refl)
  none_given token owns.Lost = (refl, refl)
  none_given token (owns.Refused bound) = (refl, refl)
  none_given token (owns.Passed now) = (refl, refl)

  -- Two numbers that are 0.
  less_as : (turn next : Turn) (taken given : ℕ) → taken ≡ 0 → given ≡ 0
      → LeavesLess turn next 0 0 → LeavesLess turn next taken given
  less_as turn next taken given a b less =
      let takes = less.takes in
      let gives = less.gives in
      record { takes = omega (arith, a, takes); gives = omega (arith, b, gives) }

  -- Nothing was taken nor given, and the turn is the same.
  no_change : (old new : HostState P) → new.turn ≡ old.turn → LeavesLess old.turn new.turn 0 0
  no_change old new same =
      leaves_same old.turn new.turn (ap (λ (t : Turn). t.came) same)
      (ap (λ (t : Turn). t.gave) same)

  -- A step of a host that gives no turn leaves less by what it takes and gives.
  step_less : (old new : HostState P) (step : Step P) (octets : List ℕ) (reply : Reply P)
      → AnswersStep steps held_of ready_of old new step octets reply → GivesNoTurn step
      → LeavesLess old.turn new.turn (taken_by_step step (length octets) reply)
      (given_by_step step reply)
  unfolding taken_by_step given_by_step GivesNoTurn
  step_less old new (host_steps.Opened party) octets (replies.Opened token) is not_turn =
      no_change old new is.3
  step_less old new (host_steps.Opened party) octets (replies.Full back) is not_turn =
      no_change old new is.2
  step_less old new (host_steps.Opened party) octets (replies.Own answer) is not_turn = absurd is
  step_less old new (host_steps.Opened party) octets replies.Stale is not_turn = absurd is
  step_less old new (host_steps.Opened party) octets replies.NotNow is not_turn = absurd is
  step_less old new (host_steps.Opened party) octets replies.Passed is not_turn = absurd is
  step_less old new (host_steps.Opened party) octets replies.Closed is not_turn = absurd is
  step_less old new (host_steps.Opened party) octets (replies.Turn next) is not_turn = absurd is
  step_less old new (host_steps.Own token own) octets (replies.Own answer) is not_turn =
      subst (λ n. LeavesLess old.turn new.turn n
      (given_by_step {P = P} (host_steps.Own token own) (replies.Own answer)))
      (sym (own_taken token own (length octets) answer))
      (subst (λ n. LeavesLess old.turn new.turn (takes_of own (length octets)) n)
      (sym (own_given token own answer))
      (counted_less old.turn new.turn token own (length octets) is.1))
  step_less old new (host_steps.Own token own) octets replies.Stale is not_turn =
      less_as old.turn new.turn _ _ (none_taken token own (length octets)).0
      (none_given token own).0 (no_change old new (ap (λ (h : HostState P). h.turn) is.1))
  step_less old new (host_steps.Own token own) octets replies.NotNow is not_turn =
      less_as old.turn new.turn _ _ (none_taken token own (length octets)).1
      (none_given token own).1 (no_change old new (ap (λ (h : HostState P). h.turn) is.2))
  step_less old new (host_steps.Own token own) octets (replies.Opened other) is not_turn = absurd is
  step_less old new (host_steps.Own token own) octets (replies.Full back) is not_turn = absurd is
  step_less old new (host_steps.Own token own) octets replies.Passed is not_turn = absurd is
  step_less old new (host_steps.Own token own) octets replies.Closed is not_turn = absurd is
  step_less old new (host_steps.Own token own) octets (replies.Turn next) is not_turn = absurd is
  step_less old new (host_steps.Passed now) octets replies.Passed is not_turn =
      no_change old new is.1
  step_less old new (host_steps.Passed now) octets (replies.Opened other) is not_turn = absurd is
  step_less old new (host_steps.Passed now) octets (replies.Full back) is not_turn = absurd is
  step_less old new (host_steps.Passed now) octets (replies.Own answer) is not_turn = absurd is
  step_less old new (host_steps.Passed now) octets replies.Stale is not_turn = absurd is
  step_less old new (host_steps.Passed now) octets replies.NotNow is not_turn = absurd is
  step_less old new (host_steps.Passed now) octets replies.Closed is not_turn = absurd is
  step_less old new (host_steps.Passed now) octets (replies.Turn next) is not_turn = absurd is
  step_less old new (host_steps.Closed token) octets replies.Closed is not_turn =
      no_change old new is.3
  step_less old new (host_steps.Closed token) octets replies.Stale is not_turn =
      no_change old new (ap (λ (h : HostState P). h.turn) is.1)
  step_less old new (host_steps.Closed token) octets (replies.Opened other) is not_turn = absurd is
  step_less old new (host_steps.Closed token) octets (replies.Full back) is not_turn = absurd is
  step_less old new (host_steps.Closed token) octets (replies.Own answer) is not_turn = absurd is
  step_less old new (host_steps.Closed token) octets replies.NotNow is not_turn = absurd is
  step_less old new (host_steps.Closed token) octets replies.Passed is not_turn = absurd is
  step_less old new (host_steps.Closed token) octets (replies.Turn next) is not_turn = absurd is
  step_less old new host_steps.NextTurn octets reply is not_turn = absurd not_turn

  -- So do all steps within one turn.
  pub run_less : (holds : HostState P → Type 0) (new old : HostState P) (made : List (Made P))
      (answers : List (Reply P))
      → RunsWhile steps held_of ready_of holds new old made answers → WithinOneTurn made
      → (taken_in made answers ≤ left_to_take old.turn.came)
      × (given_in made answers ≤ 65536 - old.turn.gave)
  unfolding taken_in given_in
  run_less holds new old made answers (none_made held) within = (omega arith, omega arith)
  run_less holds new old made answers (one_made start mid one more reply rest held is later)
      within =
      let first = step_less old mid one.step one.octets.items reply is within.0 in
      let others = run_less holds new mid more rest later within.1 in
      let a = first.takes in
      let b = first.gives in
      let c = others.0 in
      let d = others.1 in (omega (arith, a, c), omega (arith, b, d))

  most_left : (came : Bool) → left_to_take came ≤ 32786
  unfolding left_to_take
  most_left true = omega arith
  most_left false = omega arith

  pub run_takes : (holds : HostState P → Type 0) (old new : HostState P) (made : List (Made P))
      (answers : List (Reply P))
      → RunsWhile steps held_of ready_of holds new old made answers → WithinOneTurn made
      → taken_in made answers ≤ most_taken
  run_takes holds old new made answers run within =
      let less = (run_less holds new old made answers run within).0 in
      let most = most_left old.turn.came in omega (arith, less, most)

  pub run_gives : (holds : HostState P → Type 0) (old new : HostState P) (made : List (Made P))
      (answers : List (Reply P))
      → RunsWhile steps held_of ready_of holds new old made answers → WithinOneTurn made
      → given_in made answers ≤ most_given
  run_gives holds old new made answers run within =
      let less = (run_less holds new old made answers run within).1 in omega (arith, less)
