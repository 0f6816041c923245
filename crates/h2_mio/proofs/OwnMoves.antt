-- Octets that come to a connection in its turn, and go: the host refuses neither.
use Rattle.std.specs.Prelude.{◌≡◌, ◌≤◌, ◌<◌, ◌+◌, ◌++◌, ℕ, List, [], Option, length, take}
use Rattle.std.specs.Prelude.{true, false, nat_lt, None, Some}
use Rattle.std.proofs.Common.{arith, refl, subst, sym, ap, ◌∙◌, inl, inr, append-nil}
use Rattle.std.proofs.Common.{length-append}
use Rattle.std.proofs.Transfers.{starts_with_trans}
use Rattle.std.proofs.lemmas.Bool.{cases_Bool}
use Rattle.std.proofs.lemmas.Bool.Decides.{nat_tests}
use Rattle.std.proofs.lemmas.List.{length-take-le}
use Rattle.std.specs.Io.KnownBytes.{Appends}
use Rattle.h2_host.specs.declared.host.Reply.{Reply}
use Rattle.h2_host.specs.declared.host.Reply.TheVariants as replies
use Rattle.h2_host.specs.declared.party.Answer.{Answer}
use Rattle.h2_host.specs.declared.party.Own.{Own}
use Rattle.h2_host.specs.declared.party.Own.TheVariants as owns
use Rattle.h2_host.specs.declared.state.HostState.{HostState}
use Rattle.h2_host.specs.declared.token.Token.{Token}
use Rattle.h2_host.specs.declared.turn.Turn.{Turn}
use Rattle.h2_host.specs.Readers.{LendsInTurn, TakesInTurn}
use Rattle.h2_host.specs.Steps.{AnswersOwn}
use Rattle.h2_host.specs.Turns.{has_turn, most_taken, turn_left}
use Rattle.h2_mio.specs.DriverRuns.{MakesOwnSteps, MakesTurn, IsFirstOfOutput}
use Rattle.h2_mio.specs.DriverRuns.{no_own_step, octets_came, octets_went}

-- Who has the turn, in which none have come, may be handed octets;
may_come : (turn : Turn) (token : Token) (count : ℕ) → has_turn turn.token token ≡ true
    → turn.came ≡ false → count ≤ most_taken → turn_left turn token owns.Came count ≡ None → ⊥
may_come turn token count its came fits none =
    let below : nat_lt 32786 count ≡ false = grind (arith, nat_tests) in
    let some : turn_left turn token owns.Came count ≡ Some (record turn { came = true }) =
    rw (its, came, below) refl in absurd (let no = sym some ∙ none in cc)

-- and so many may go as are left of the turn.
may_go : (turn : Turn) (token : Token) (count : ℕ) → has_turn turn.token token ≡ true
    → turn.gave + count ≤ 65536 → turn_left turn token (owns.Went count) 0 ≡ None → ⊥
may_go turn token count its fits none =
    let below : nat_lt 65536 (turn.gave + count) ≡ false = grind (arith, nat_tests) in
    let some : turn_left turn token (owns.Went count) 0
    ≡ Some (record turn { gave = turn.gave + count }) =
    rw (its, below) refl in absurd (let no = sym some ∙ none in cc)

module _ {P : Type 0} (steps : P → Own → List ℕ → Answer → P → Type 0) (held_of : P → ℕ)
    (output_of : P → List ℕ) (token : Token) where
  -- Who takes octets has the turn, in which none have come: so they are not refused.
  came_is_own : (takes : P → ℕ → Type 0) (old new : HostState P) (octets : List ℕ) (size : ℕ)
      (reply : Reply P) → TakesInTurn takes old token size → 0 < size
      → length octets ≤ size → AnswersOwn steps held_of old new token owns.Came octets reply
      → (answer : Answer)
      × AnswersOwn steps held_of old new token owns.Came octets (replies.Own answer)
  came_is_own takes old new octets size (replies.Own answer) in_turn some fits so = (answer, so)
  came_is_own takes old new octets size replies.Stale in_turn some fits so =
      let none = in_turn.not_now so.0 in absurd (omega (arith, some, none))
  came_is_own takes old new octets size replies.NotNow in_turn some fits so =
      elim (cases_Bool (has_turn old.turn.token token)) [
        | inl its ↦
            elim (cases_Bool old.turn.came) [
              | inl came ↦ let none = in_turn.came came in absurd (omega (arith, some, none))
              | inr none ↦
                  let within = in_turn.within in
                  absurd (may_come old.turn token (length octets) its none
                  (omega (arith, fits, within)) so.1)
            ]
        | inr other ↦
            let none = in_turn.not_its_turn other in absurd (omega (arith, some, none))
      ]
  came_is_own takes old new octets size (replies.Opened other) in_turn some fits so = absurd so
  came_is_own takes old new octets size (replies.Full back) in_turn some fits so = absurd so
  came_is_own takes old new octets size replies.Passed in_turn some fits so = absurd so
  came_is_own takes old new octets size replies.Closed in_turn some fits so = absurd so
  came_is_own takes old new octets size (replies.Turn next) in_turn some fits so = absurd so

  -- Whose output is lent has the turn, and so much is left of it: so that it went is not refused.
  went_is_own : (old new : HostState P) (first second : List ℕ) (count : ℕ) (reply : Reply P)
      → LendsInTurn output_of old token first second → 1 ≤ count
      → count ≤ length first + length second
      → AnswersOwn steps held_of old new token (owns.Went count) [] reply
      → (answer : Answer)
      × AnswersOwn steps held_of old new token (owns.Went count) [] (replies.Own answer)
  went_is_own old new first second count (replies.Own answer) lends some fits so = (answer, so)
  went_is_own old new first second count replies.Stale lends some fits so =
      let none = ap length (lends.not_now so.0) in
      let both = length-append first second in absurd (omega (arith, some, fits, none, both))
  went_is_own old new first second count replies.NotNow lends some fits so =
      elim (cases_Bool (has_turn old.turn.token token)) [
        | inl its ↦
            let few = lends.few in
            absurd (may_go old.turn token count its (omega (arith, some, fits, few)) so.1)
        | inr other ↦
            let none = ap length (lends.not_its_turn other) in
            let both = length-append first second in
            absurd (omega (arith, some, fits, none, both))
      ]
  went_is_own old new first second count (replies.Opened other) lends some fits so = absurd so
  went_is_own old new first second count (replies.Full back) lends some fits so = absurd so
  went_is_own old new first second count replies.Passed lends some fits so = absurd so
  went_is_own old new first second count replies.Closed lends some fits so = absurd so
  went_is_own old new first second count (replies.Turn next) lends some fits so = absurd so

  -- Octets that the transport has given come to who takes some.
  pub came_turn : (takes : P → ℕ → Type 0) (given_old given_new taken_old taken_new
      : Option (List ℕ)) (old new : HostState P) (octets : List ℕ) (size : ℕ)
      (reply : Reply P) → TakesInTurn takes old token size → 0 < size
      → length octets ≤ size → AnswersOwn steps held_of old new token owns.Came octets reply
      → Appends given_old given_new octets → Appends taken_old taken_new []
      → MakesTurn steps held_of output_of token given_old given_new taken_old taken_new new old
  came_turn takes given_old given_new taken_old taken_new old new octets size reply in_turn some
      fits so gave took =
      let own = came_is_own takes old new octets size reply in_turn some fits so in
      record {
        came = octets;
        went = [];
        made = subst
            (λ all. MakesOwnSteps steps held_of output_of token new all [] old)
            (append-nil octets) (octets_came old new octets own.0 own.1 no_own_step);
        gave = gave;
        took = took;
      }

  -- First octets of what is lent have gone that the transport has taken.
  pub went_turn : (given_old given_new taken_old taken_new : Option (List ℕ))
      (old new : HostState P) (first second : List ℕ) (count : ℕ) (reply : Reply P)
      → LendsInTurn output_of old token first second → 1 ≤ count
      → count ≤ length first + length second
      → AnswersOwn steps held_of old new token (owns.Went count) [] reply
      → Appends given_old given_new []
      → Appends taken_old taken_new (take count (first ++ second))
      → MakesTurn steps held_of output_of token given_old given_new taken_old taken_new new old
  went_turn given_old given_new taken_old taken_new old new first second count reply lends some
      fits so gave took =
      let own = went_is_own old new first second count reply lends some fits so in
      let part = take count (first ++ second) in
      let both = length-append first second in
      let long : length part ≡ count =
      length-take-le count (first ++ second) (omega (arith, fits, both)) in
      let is_first : IsFirstOfOutput output_of old token part = λ party at.
      starts_with_trans (output_of party) (first ++ second) part (lends.own party at)
      (ap (λ n. take n (first ++ second)) long) in
      let counted : AnswersOwn steps held_of old new token (owns.Went (length part)) []
      (replies.Own own.0) =
      subst
      (λ n. AnswersOwn steps held_of old new token (owns.Went n) [] (replies.Own own.0))
      (sym long) own.1 in
      record {
        came = [];
        went = part;
        made = subst
            (λ all. MakesOwnSteps steps held_of output_of token new [] all old) (append-nil part)
            (octets_went old new part own.0 (own.1.0.step.before, own.1.0.step.at) is_first
            counted no_own_step);
        gave = gave;
        took = took;
      }
