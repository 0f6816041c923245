-- What a step of a host answers, and what it makes of the host.
use Rattle.std.specs.Prelude.{◌≡◌, ◌⊎◌, ◌≤◌, ◌<◌, ℕ, List, [], ◌∷◌, ◌++◌, Bool, true}
use Rattle.std.specs.Prelude.{Option, Some, None, length, max}
use Rattle.h2_host.specs.declared.host.Reply.{Reply}
use Rattle.h2_host.specs.declared.host.Reply.TheVariants as replies
use Rattle.h2_host.specs.declared.host.Step.{Step}
use Rattle.h2_host.specs.declared.host.Step.TheVariants as host_steps
use Rattle.h2_host.specs.declared.party.Answer.{Answer}
use Rattle.h2_host.specs.declared.party.Bound.TheVariants.{Held, HeldInAll}
use Rattle.h2_host.specs.declared.party.Own.{Own}
use Rattle.h2_host.specs.declared.party.Own.TheVariants as owns
use Rattle.h2_host.specs.declared.state.HostState.{HostState}
use Rattle.h2_host.specs.declared.table.Slot.{Slot}
use Rattle.h2_host.specs.declared.token.Token.{Token}
use Rattle.h2_host.specs.Bounds.{held_in_all, IsGreatestHolder}
use Rattle.h2_host.specs.Isolation.{HappensAt, IsSameOfParties, Move, MoveOf, PassesTime}
use Rattle.h2_host.specs.Isolation.{StepsOne}
use Rattle.h2_host.specs.Tokens.{IsAt, IsNow, WasGiven}
use Rattle.h2_host.specs.Turns.{NoneReady, WaitsIn, turn_left, turn_of}

abbrev pub slots_of : {P : Type 0} → HostState P → List (Slot P)
slots_of host = host.table.slots.items

-- The bounds are the same; and the queue is, but for places that come to its end.
pub record KeepsQueue {P : Type 0} (old new : HostState P) : Type 0 where
  pub limits : new.limits ≡ old.limits
  pub added : List ℕ
  pub queue : new.queue.items ≡ old.queue.items ++ added

-- a move in which a connection is refused because of what it holds itself, and because of what all
-- hold
abbrev pub refused_for_own : Answer → Move
refused_for_own answer = record { own = owns.Refused Held; octets = []; answer = answer }

abbrev pub refused_for_all : Answer → Move
refused_for_all answer = record { own = owns.Refused HeldInAll; octets = []; answer = answer }

-- These were refused, one after another, each since all held more than they may, and it the most;
-- of several that held as much the one of the lowest place.
pub data AreRefused {P : Type 0} (steps : P → Own → List ℕ → Answer → P → Type 0)
    (held_of : P → ℕ) (most : ℕ) (old : List (Slot P)) : (new : List (Slot P)) → List MoveOf
    → Type 0 where
  none_refused : AreRefused steps held_of most old old []
  one_refused : (mid new : List (Slot P)) (moves : List MoveOf) (token : Token) (answer : Answer)
      → AreRefused steps held_of most old mid moves → most < held_in_all held_of mid
      → IsGreatestHolder held_of mid token.place
      → StepsOne steps mid new token (refused_for_all answer)
      → AreRefused steps held_of most old new
      (moves ++ record { token = token; move = refused_for_all answer } ∷ [])

-- So many were refused that all fit, and no more.
-- rule: hosts (own) Who holds most is refused until all hold what they may
pub record FitsAll {P : Type 0} (steps : P → Own → List ℕ → Answer → P → Type 0)
    (held_of : P → ℕ) (most : ℕ) (old new : List (Slot P)) : Type 0 where
  pub moves : List MoveOf
  pub refused : AreRefused steps held_of most old new moves
  pub fits : held_in_all held_of new ≤ most

-- The connection was refused since it holds more than one may; or it does not, and nothing was
-- done.
abbrev pub FitsOne : {P : Type 0} → (steps : P → Own → List ℕ → Answer → P → Type 0)
    → (held_of : P → ℕ) → (most : ℕ) → (old new : List (Slot P)) → Token → (party : P) → Type 0
FitsOne steps held_of most old new token party =
    ((held_of party ≤ most) × (new ≡ old))
    ⊎ ((most < held_of party)
    × ((answer : Answer) × StepsOne steps old new token (refused_for_own answer)))

-- A step of one connection, and then perhaps refusals, of it and of others.
pub record MakesSteps {P : Type 0} (steps : P → Own → List ℕ → Answer → P → Type 0)
    (held_of : P → ℕ) (most most_in_all : ℕ) (old new : List (Slot P)) (token : Token)
    (move : Move) : Type 0 where
  pub next : List (Slot P)
  pub step : StepsOne steps old next token move
  pub between : List (Slot P)
  pub fits_one : FitsOne steps held_of most next between token step.after
  pub fits_all : FitsAll steps held_of most_in_all between new

-- What a host answers to a step of one connection: what the connection does, once, where the turns
-- allow it. A token that isn't of now, and a step that the turns do not allow, change nothing.
abbrev pub AnswersOwn : {P : Type 0} → (steps : P → Own → List ℕ → Answer → P → Type 0)
    → (held_of : P → ℕ) → (old new : HostState P) → Token → Own → (octets : List ℕ) → Reply P
    → Type 0
AnswersOwn steps held_of old new token own octets (replies.Own answer) =
    MakesSteps steps held_of old.limits.held old.limits.held_in_all (slots_of old) (slots_of new)
    token (record { own = own; octets = octets; answer = answer })
    × (turn_left old.turn token own (length octets) ≡ Some new.turn)
    × KeepsQueue old new
AnswersOwn steps held_of old new token own octets replies.Stale =
    (IsNow (slots_of old) token → ⊥) × (new ≡ old)
AnswersOwn steps held_of old new token own octets replies.NotNow =
    IsNow (slots_of old) token × (turn_left old.turn token own (length octets) ≡ None)
    × (new ≡ old)
AnswersOwn steps held_of old new token own octets reply = ⊥

-- What a host answers to a connection that was opened: it has a token that was not given before;
-- or there is no place for it, and it is handed back.
abbrev pub AnswersOpening : {P : Type 0}
    → (steps : P → Own → List ℕ → Answer → P → Type 0) → (old new : HostState P) → (party : P)
    → Reply P → Type 0
AnswersOpening steps old new party (replies.Opened token) =
    IsAt (slots_of new) token party × (WasGiven (slots_of old) token → ⊥)
    × HappensAt steps (slots_of new) (slots_of old) [] × (new.turn ≡ old.turn) × KeepsQueue old new
AnswersOpening steps old new party (replies.Full back) =
    (back ≡ party) × IsSameOfParties (slots_of old) (slots_of new) × (new.turn ≡ old.turn)
    × KeepsQueue old new
AnswersOpening steps old new party reply = ⊥

-- What a host answers where a transport was closed: the token is of now no more.
abbrev pub AnswersClosing : {P : Type 0}
    → (steps : P → Own → List ℕ → Answer → P → Type 0) → (old new : HostState P) → Token
    → Reply P → Type 0
AnswersClosing steps old new token replies.Closed =
    IsNow (slots_of old) token × (IsNow (slots_of new) token → ⊥)
    × HappensAt steps (slots_of new) (slots_of old) [] × (new.turn ≡ old.turn) × KeepsQueue old new
AnswersClosing steps old new token replies.Stale =
    (IsNow (slots_of old) token → ⊥) × (new ≡ old)
AnswersClosing steps old new token reply = ⊥

-- What a host answers as time passes: each connection has seen it, once; the time never falls.
abbrev pub AnswersTime : {P : Type 0} → (steps : P → Own → List ℕ → Answer → P → Type 0)
    → (old new : HostState P) → (now : ℕ) → Reply P → Type 0
AnswersTime steps old new now replies.Passed =
    PassesTime steps (slots_of old) (slots_of new) (max old.time now)
    × (new.turn ≡ old.turn) × KeepsQueue old new
AnswersTime steps old new now reply = ⊥

-- Of a queue these have passed, and the next one got the turn, and waits no more; or all have
-- passed, and nobody did.
abbrev pub IsFirstReady : {P : Type 0} → (ready_of : P → Bool) → List (Slot P)
    → (queue passed : List ℕ) → (next : Option Token) → (rest : List ℕ) → Type 0
IsFirstReady ready_of slots queue passed None rest = (queue ≡ passed) × (rest ≡ [])
IsFirstReady {P = P} ready_of slots queue passed (Some token) rest =
    (queue ≡ passed ++ token.place ∷ rest) × (WaitsIn token.place rest → ⊥)
    × ((party : P) × IsAt slots token party × (ready_of party ≡ true))

-- A turn is given to the first of the queue that is ready; whoever had the one before comes to its
-- end, where it is ready still. Those that are passed are not ready any more.
pub record GivesTurn {P : Type 0} (ready_of : P → Bool) (old new : HostState P)
    (next : Option Token) : Type 0 where
  pub same : IsSameOfParties (slots_of old) (slots_of new)
  pub limits : new.limits ≡ old.limits
  pub turn : new.turn ≡ turn_of next
  pub added : List ℕ
  pub passed : List ℕ
  pub none_ready : NoneReady ready_of (slots_of old) passed
  pub queue : IsFirstReady ready_of (slots_of old) (old.queue.items ++ added) passed next
      new.queue.items

-- What a host answers where the next turn is asked for.
abbrev pub AnswersTurn : {P : Type 0} → (ready_of : P → Bool) → (old new : HostState P)
    → Reply P → Type 0
AnswersTurn ready_of old new (replies.Turn next) = GivesTurn ready_of old new next
AnswersTurn ready_of old new reply = ⊥

-- What a host answers to a step, and what that makes of it.
abbrev pub AnswersStep : {P : Type 0} → (steps : P → Own → List ℕ → Answer → P → Type 0)
    → (held_of : P → ℕ) → (ready_of : P → Bool) → (old new : HostState P) → Step P
    → (octets : List ℕ) → Reply P → Type 0
AnswersStep steps held_of ready_of old new (host_steps.Opened party) octets reply =
    AnswersOpening steps old new party reply
AnswersStep steps held_of ready_of old new (host_steps.Own token own) octets reply =
    AnswersOwn steps held_of old new token own octets reply
AnswersStep steps held_of ready_of old new (host_steps.Passed now) octets reply =
    AnswersTime steps old new now reply
AnswersStep steps held_of ready_of old new (host_steps.Closed token) octets reply =
    AnswersClosing steps old new token reply
AnswersStep steps held_of ready_of old new host_steps.NextTurn octets reply =
    AnswersTurn ready_of old new reply
