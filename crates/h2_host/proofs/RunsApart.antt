-- Steps of a host that were made one after another happen at its places.
use Rattle.std.specs.Prelude.{◌≡◌, ℕ, List, [], ◌++◌, Bool}
use Rattle.std.proofs.Common.{sym, subst}
use Rattle.h2_host.specs.declared.host.Made.{Made}
use Rattle.h2_host.specs.declared.host.Reply.{Reply}
use Rattle.h2_host.specs.declared.host.Reply.TheVariants as replies
use Rattle.h2_host.specs.declared.host.Step.{Step}
use Rattle.h2_host.specs.declared.host.Step.TheVariants as host_steps
use Rattle.h2_host.specs.declared.party.Answer.{Answer}
use Rattle.h2_host.specs.declared.party.Own.{Own}
use Rattle.h2_host.specs.declared.state.HostState.{HostState}
use Rattle.h2_host.specs.declared.token.Token.{Token}
use Rattle.h2_host.specs.Isolation.{HappensAt, nothing, noted, MoveOf}
use Rattle.h2_host.specs.Runs.{IsRunApart, RunsWhile, none_made, one_made}
use Rattle.h2_host.specs.Steps.{AnswersStep, AnswersClosing, AnswersOpening, AnswersOwn}
use Rattle.h2_host.specs.Steps.{AnswersTime}
use Rattle.h2_host.specs.Steps.{AnswersTurn, slots_of}
use Rattle.h2_host.proofs.HappensMade.{happens_joined, steps_happen}
use Rattle.h2_host.proofs.RunsAlone.{runs_alone}

-- Something happens at the places, with some moves.
abbrev pub HappensSome : {P : Type 0} → (steps : P → Own → List ℕ → Answer → P → Type 0)
    → (old new : HostState P) → Type 0
HappensSome steps old new =
    (moves : List MoveOf) × HappensAt steps (slots_of new) (slots_of old) moves

module _ {P : Type 0} (steps : P → Own → List ℕ → Answer → P → Type 0) (held_of : P → ℕ)
    (ready_of : P → Bool) where
  -- Nothing happens where nothing has changed.
  same_happens : (old new : HostState P) → new ≡ old → HappensSome steps old new
  same_happens old new same = subst (HappensSome steps old) (sym same) ([], nothing)

  own_happens : (old new : HostState P) (token : Token) (own : Own) (octets : List ℕ)
      (reply : Reply P) → AnswersOwn steps held_of old new token own octets reply
      → HappensSome steps old new
  own_happens old new token own octets (replies.Own answer) is =
      steps_happen steps held_of old.limits.held old.limits.held_in_all (slots_of old)
      (slots_of new) token _ is.0
  own_happens old new token own octets replies.Stale is = same_happens old new is.1
  own_happens old new token own octets replies.NotNow is = same_happens old new is.2
  own_happens old new token own octets (replies.Opened other) is = absurd is
  own_happens old new token own octets (replies.Full back) is = absurd is
  own_happens old new token own octets replies.Passed is = absurd is
  own_happens old new token own octets replies.Closed is = absurd is
  own_happens old new token own octets (replies.Turn next) is = absurd is

  opening_happens : (old new : HostState P) (party : P) (reply : Reply P)
      → AnswersOpening steps old new party reply → HappensSome steps old new
  opening_happens old new party (replies.Opened token) is = ([], is.2)
  opening_happens old new party (replies.Full back) is =
      ([], noted (slots_of old) (slots_of new) [] is.1 nothing)
  opening_happens old new party (replies.Own answer) is = absurd is
  opening_happens old new party replies.Stale is = absurd is
  opening_happens old new party replies.NotNow is = absurd is
  opening_happens old new party replies.Passed is = absurd is
  opening_happens old new party replies.Closed is = absurd is
  opening_happens old new party (replies.Turn next) is = absurd is

  closing_happens : (old new : HostState P) (token : Token) (reply : Reply P)
      → AnswersClosing steps old new token reply → HappensSome steps old new
  closing_happens old new token replies.Closed is = ([], is.2)
  closing_happens old new token replies.Stale is = same_happens old new is.1
  closing_happens old new token (replies.Opened other) is = absurd is
  closing_happens old new token (replies.Full back) is = absurd is
  closing_happens old new token (replies.Own answer) is = absurd is
  closing_happens old new token replies.NotNow is = absurd is
  closing_happens old new token replies.Passed is = absurd is
  closing_happens old new token (replies.Turn next) is = absurd is

  time_happens : (old new : HostState P) (now : ℕ) (reply : Reply P)
      → AnswersTime steps old new now reply → HappensSome steps old new
  time_happens old new now replies.Passed is = (is.0.host.moves, is.0.host.happens)
  time_happens old new now (replies.Opened token) is = absurd is
  time_happens old new now (replies.Full back) is = absurd is
  time_happens old new now (replies.Own answer) is = absurd is
  time_happens old new now replies.Stale is = absurd is
  time_happens old new now replies.NotNow is = absurd is
  time_happens old new now replies.Closed is = absurd is
  time_happens old new now (replies.Turn next) is = absurd is

  turn_happens : (old new : HostState P) (reply : Reply P) → AnswersTurn ready_of old new reply
      → HappensSome steps old new
  turn_happens old new (replies.Turn next) is =
      ([], noted (slots_of old) (slots_of new) [] is.same nothing)
  turn_happens old new (replies.Opened token) is = absurd is
  turn_happens old new (replies.Full back) is = absurd is
  turn_happens old new (replies.Own answer) is = absurd is
  turn_happens old new replies.Stale is = absurd is
  turn_happens old new replies.NotNow is = absurd is
  turn_happens old new replies.Passed is = absurd is
  turn_happens old new replies.Closed is = absurd is

  -- A step of a host happens at its places.
  pub answers_happen : (old new : HostState P) (step : Step P) (octets : List ℕ)
      (reply : Reply P) → AnswersStep steps held_of ready_of old new step octets reply
      → HappensSome steps old new
  answers_happen old new (host_steps.Opened party) octets reply is =
      opening_happens old new party reply is
  answers_happen old new (host_steps.Own token own) octets reply is =
      own_happens old new token own octets reply is
  answers_happen old new (host_steps.Passed now) octets reply is =
      time_happens old new now reply is
  answers_happen old new (host_steps.Closed token) octets reply is =
      closing_happens old new token reply is
  answers_happen old new host_steps.NextTurn octets reply is = turn_happens old new reply is

  -- So do many.
  pub run_happens : (holds : HostState P → Type 0) (new old : HostState P) (made : List (Made P))
      (answers : List (Reply P))
      → RunsWhile steps held_of ready_of holds new old made answers → HappensSome steps old new
  run_happens holds new old made answers (none_made held) = ([], nothing)
  run_happens holds new old made answers (one_made start next one more reply rest held is later) =
      let first = answers_happen old next one.step one.octets.items reply is in
      let others = run_happens holds new next more rest later in (
        first.0 ++ others.0,
        happens_joined steps (slots_of next) (slots_of new) (slots_of old) first.0 others.0
            first.1 others.1,
      )

  -- Each connection is what its own moves make of it, alone.
  pub run_apart : (holds : HostState P → Type 0) (old new : HostState P) (made : List (Made P))
      (answers : List (Reply P))
      → RunsWhile steps held_of ready_of holds new old made answers → IsRunApart steps old new
  run_apart holds old new made answers run =
      let all = run_happens holds new old made answers run in (
        all.0,
        all.1,
        runs_alone steps (slots_of new) (slots_of old) all.0 all.1,
      )
