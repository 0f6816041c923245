-- Steps of a host, one after another, and what holds of all of them.
use Rattle.std.specs.Prelude.{◌≡◌, ◌≢◌, ◌⊎◌, ◌+◌, ℕ, List, [], ◌∷◌, length, Bool, true}
use Rattle.std.specs.Prelude.{Some}
use Rattle.std.specs.List.{AllByRecursion}
use Rattle.h2_host.specs.declared.host.Made.{Made}
use Rattle.h2_host.specs.declared.host.Reply.{Reply}
use Rattle.h2_host.specs.declared.host.Reply.TheVariants as replies
use Rattle.h2_host.specs.declared.host.Step.{Step}
use Rattle.h2_host.specs.declared.host.Step.TheVariants as host_steps
use Rattle.h2_host.specs.declared.party.Answer.{Answer}
use Rattle.h2_host.specs.declared.party.Own.{Own}
use Rattle.h2_host.specs.declared.party.Own.TheVariants as owns
use Rattle.h2_host.specs.declared.state.HostState.{HostState}
use Rattle.h2_host.specs.declared.token.Token.{Token}
use Rattle.h2_host.specs.Isolation.{HappensAt, MoveOf, RunsAlone}
use Rattle.h2_host.specs.Steps.{AnswersStep, slots_of}
use Rattle.h2_host.specs.Tokens.{IsAt, WasGiven}

-- These steps were made one after another, each answered so, while this holds of the host: before
-- each of them and after the last.
-- rule: hosts (own) A run makes its steps one after another
pub data RunsWhile {P : Type 0} (steps : P → Own → List ℕ → Answer → P → Type 0)
    (held_of : P → ℕ) (ready_of : P → Bool) (holds : HostState P → Type 0) (new : HostState P)
    : (old : HostState P) → List (Made P) → List (Reply P) → Type 0 where
  none_made : holds new → RunsWhile steps held_of ready_of holds new new [] []
  one_made : (old next : HostState P) (one : Made P) (more : List (Made P)) (reply : Reply P)
      (rest : List (Reply P)) → holds old
      → AnswersStep steps held_of ready_of old next one.step one.octets.items reply
      → RunsWhile steps held_of ready_of holds new next more rest
      → RunsWhile steps held_of ready_of holds new old (one ∷ more) (reply ∷ rest)

-- These steps were made one after another, each answered so.
abbrev pub IsRun : {P : Type 0} → (steps : P → Own → List ℕ → Answer → P → Type 0)
    → (held_of : P → ℕ) → (ready_of : P → Bool) → (old new : HostState P) → List (Made P)
    → List (Reply P) → Type 0
IsRun steps held_of ready_of old new made answers =
    RunsWhile steps held_of ready_of (λ host. Unit {0}) new old made answers

-- the tokens that were given, in order
unfoldable pub tokens_opened : {P : Type 0} → List (Reply P) → List Token
tokens_opened [] = []
tokens_opened (replies.Opened token ∷ rest) = token ∷ tokens_opened rest
tokens_opened (reply ∷ rest) = tokens_opened rest

-- No token was given before, none twice.
-- rule: hosts (own) No token is given twice, and an old one changes nothing
unfoldable pub AreNew : {P : Type 0} → (old : HostState P) → List Token → Type 0
AreNew old [] = Unit {0}
AreNew old (token ∷ tokens) =
    (WasGiven (slots_of old) token → ⊥) × AllByRecursion (λ later. later ≢ token) tokens
    × AreNew old tokens

-- Every step is a step of some connection alone, or of time, or opens or closes: what happens at
-- the places is what the moves make of each connection, alone.
abbrev pub IsRunApart : {P : Type 0} → (steps : P → Own → List ℕ → Answer → P → Type 0)
    → (old new : HostState P) → Type 0
IsRunApart steps old new =
    (moves : List MoveOf) × HappensAt steps (slots_of new) (slots_of old) moves
    × RunsAlone steps (slots_of old) (slots_of new) moves

-- The connection is there and ready.
abbrev pub IsReadyAt : {P : Type 0} → (ready_of : P → Bool) → Token → HostState P → Type 0
IsReadyAt {P = P} ready_of token host =
    (party : P) × IsAt (slots_of host) token party × (ready_of party ≡ true)

-- The first one gets a turn before any connection at the place of the other does.
-- rule: hosts (own) All that are ready have a turn before any has a second
unfoldable pub GetsTurnBefore : {P : Type 0} → (first other : Token) → List (Reply P) → Type 0
GetsTurnBefore first other [] = Unit {0}
GetsTurnBefore first other (replies.Turn (Some token) ∷ rest) =
    (token ≡ first) ⊎ ((token.place ≢ other.place) × GetsTurnBefore first other rest)
GetsTurnBefore first other (reply ∷ rest) = GetsTurnBefore first other rest

-- how many octets a step has taken, and how many it has given
unfoldable pub taken_by_step : {P : Type 0} → Step P → (octets : ℕ) → Reply P → ℕ
taken_by_step (host_steps.Own token owns.Came) octets (replies.Own answer) = octets
taken_by_step step octets reply = 0

unfoldable pub given_by_step : {P : Type 0} → Step P → Reply P → ℕ
given_by_step (host_steps.Own token (owns.Went count)) (replies.Own answer) = count
given_by_step step reply = 0

-- how many octets these steps have taken, and how many they have given
unfoldable pub taken_in : {P : Type 0} → List (Made P) → List (Reply P) → ℕ
taken_in (one ∷ more) (reply ∷ rest) =
    taken_by_step one.step (length one.octets.items) reply + taken_in more rest
taken_in made answers = 0

unfoldable pub given_in : {P : Type 0} → List (Made P) → List (Reply P) → ℕ
given_in (one ∷ more) (reply ∷ rest) = given_by_step one.step reply + given_in more rest
given_in made answers = 0

-- The step gives no turn.
unfoldable pub GivesNoTurn : {P : Type 0} → Step P → Type 0
GivesNoTurn host_steps.NextTurn = ⊥
GivesNoTurn step = Unit {0}

-- All these steps are within one turn.
abbrev pub WithinOneTurn : {P : Type 0} → List (Made P) → Type 0
WithinOneTurn {P = P} made = AllByRecursion (λ (one : Made P). GivesNoTurn one.step) made
