-- What a driver does with its host in the turn of a connection, and with its socket.
use Rattle.std.specs.Prelude.{ℕ, List, [], ◌++◌, length, Option}
use Rattle.std.specs.Io.{StartsWith}
use Rattle.std.specs.Io.KnownBytes.{Appends}
use Rattle.h2_host.specs.declared.host.Reply.{Reply}
use Rattle.h2_host.specs.declared.host.Reply.TheVariants as replies
use Rattle.h2_host.specs.declared.party.Answer.{Answer}
use Rattle.h2_host.specs.declared.party.Own.{Own}
use Rattle.h2_host.specs.declared.party.Own.TheVariants as owns
use Rattle.h2_host.specs.declared.state.HostState.{HostState}
use Rattle.h2_host.specs.declared.token.Token.{Token}
use Rattle.h2_host.specs.Steps.{AnswersOwn, slots_of}
use Rattle.h2_host.specs.Tokens.{IsAt, IsNow}

-- These octets are the first of those of the connection's output that wait.
abbrev pub IsFirstOfOutput : {P : Type 0} → (output_of : P → List ℕ) → HostState P → Token
    → (first : List ℕ) → Type 0
IsFirstOfOutput {P} output_of host token first =
    (party : P) → IsAt (slots_of host) token party → StartsWith (output_of party) first

-- The step is one of the connection alone, and with it no octets go over the socket.
abbrev pub MovesNone : Own → Type 0
MovesNone owns.Came = ⊥
MovesNone (owns.Went count) = ⊥
MovesNone (owns.Passed now) = ⊥
MovesNone (owns.Refused bound) = ⊥
MovesNone own = Unit {0}

-- Steps of one connection were made, one after another, and none besides: none of another
-- connection, no time has passed, and nobody came or was sent away. In them these octets came to
-- it, and these first ones of its output have gone; no such step was refused.
-- rule: hosts (own) In a turn a driver makes steps of one connection alone
pub data MakesOwnSteps {P : Type 0} (steps : P → Own → List ℕ → Answer → P → Type 0)
    (held_of : P → ℕ) (output_of : P → List ℕ) (token : Token) (new : HostState P)
    : (came went : List ℕ) → (old : HostState P) → Type 0 where
  no_own_step : MakesOwnSteps steps held_of output_of token new [] [] new
  octets_came : {came went : List ℕ} (old next : HostState P) (octets : List ℕ) (answer : Answer)
      → AnswersOwn steps held_of old next token owns.Came octets (replies.Own answer)
      → MakesOwnSteps steps held_of output_of token new came went next
      → MakesOwnSteps steps held_of output_of token new (octets ++ came) went old
  octets_went : {came went : List ℕ} (old next : HostState P) (first : List ℕ) (answer : Answer)
      → IsNow (slots_of old) token → IsFirstOfOutput output_of old token first
      → AnswersOwn steps held_of old next token (owns.Went (length first)) [] (replies.Own answer)
      → MakesOwnSteps steps held_of output_of token new came went next
      → MakesOwnSteps steps held_of output_of token new came (first ++ went) old
  another_step : {came went : List ℕ} (old next : HostState P) (own : Own) (reply : Reply P)
      → MovesNone own → AnswersOwn steps held_of old next token own [] reply
      → MakesOwnSteps steps held_of output_of token new came went next
      → MakesOwnSteps steps held_of output_of token new came went old

-- A connection has had its turn: such steps were made, in which just the octets that its socket
-- gave came to it, and just those of its output have gone that the socket took.
-- rule: hosts (own) A connection gets just what its socket gave; its output alone goes there
pub record MakesTurn {P : Type 0} (steps : P → Own → List ℕ → Answer → P → Type 0)
    (held_of : P → ℕ) (output_of : P → List ℕ) (token : Token)
    (given_old given_new taken_old taken_new : Option (List ℕ)) (new old : HostState P) : Type 0
  where
    pub came : List ℕ
    pub went : List ℕ
    pub made : MakesOwnSteps steps held_of output_of token new came went old
    pub gave : Appends given_old given_new came
    pub took : Appends taken_old taken_new went
