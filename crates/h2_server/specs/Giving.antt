-- How an answer is given to a server: by one call of it, after which the answer is so far.
use Rattle.std.specs.Prelude.{◌≡◌, ◌⊎◌, ℕ, Bool, true, false, List, [], None, Result, Ok, Err}
use Rattle.std.specs.Prelude.{decimal, if◌then◌else◌, Vec}
use Rattle.std.specs.Global.{Global}
use Rattle.hpack.specs.declared.types.field.Field.{Field}
use Rattle.h2_frame.specs.declared.code.Code.{Code}
use Rattle.h2_frame.specs.declared.code.Code.TheVariants.{InternalError, NoError}
use Rattle.h2_frame.specs.Codes.{code_number}
use Rattle.h2_spec_log.specs.Acts.{Values, Answer, Done, Refused, ResetStream}
use Rattle.h2_spec_log.specs.LogCalls.{MayAnswer, with_call}
use Rattle.h2_spec_log.specs.declared.refusal.Refusal.TheVariants as reasons
use Rattle.h2_message.specs.Messages.{SentMessage, response_head}
use Rattle.h2_message.specs.Values.{message_value}
use Rattle.h2_ends.specs.declared.end.End.{End}
use Rattle.h2_ends.specs.declared.refusal.EndRefusal.{EndRefusal}
use Rattle.h2_ends.specs.declared.refusal.EndRefusal.TheVariants as refusals
use Rattle.h2_ends.specs.Ends.{EndLog}
use Rattle.h2_ends.specs.EndTakes.{end_with_log}
use Rattle.h2_ends.specs.EndCalls.{MayRespond, MayBeginAnswer, MaySendTrailers}
use Rattle.h2_ends.specs.Represents.{EndRepresents}
use Rattle.h2_server.specs.declared.exchange.Stage.{Stage}
use Rattle.h2_server.specs.declared.exchange.Stage.TheVariants as stages
use Rattle.h2_server.specs.declared.giving.Given.{Given}
use Rattle.h2_server.specs.declared.stop.Stop.{Stop}
use Rattle.h2_server.specs.declared.stop.Stop.TheVariants as stops
use Rattle.h2_server.specs.Stages.{server_error}

-- How far an answer is that the server has refused, but for a full output: where it breaks a rule,
-- this follows instead; one that comes too late is not given. After any other refusal the
-- connection can't go on.
-- rule: handlers (own) An answer that breaks a rule is a 500, or a reset once a head went
abbrev pub IsRefusedSo : (instead : Stage) → EndRefusal → Stage → Type 0
IsRefusedSo instead (refusals.BadMessage rule) stage = stage ≡ instead
IsRefusedSo instead (refusals.Conn reasons.ListTooLarge) stage = stage ≡ instead
IsRefusedSo instead refusals.NotAsked stage = stage ≡ stages.Given
IsRefusedSo instead refusals.Answered stage = stage ≡ stages.Given
IsRefusedSo instead (refusals.Conn reasons.NoSuchStream) stage = stage ≡ stages.Given
IsRefusedSo instead (refusals.Conn reasons.Ended) stage = stage ≡ stages.Given
IsRefusedSo instead refusal stage = ⊥

-- How far it is after this answer of the server: `next` once it was taken, as it was where the
-- output is full, and `instead` where it breaks a rule.
abbrev pub IsGivenSo : {A : Type 0} → (next instead : Stage) → (same : Stage → Type 0)
    → Result A EndRefusal → Result Stage Stop → Type 0
IsGivenSo next instead same (Ok done) (Ok stage) = stage ≡ next
IsGivenSo next instead same (Err refusal) (Ok stage) =
    ((refusal ≡ refusals.Conn reasons.OutputFull) × same stage)
    ⊎ IsRefusedSo instead refusal stage
IsGivenSo next instead same (Ok done) (Err stop) = Unit {0}
IsGivenSo next instead same (Err refusal) (Err stop) = Unit {0}

-- The same message waits.
abbrev pub IsMessageStage : SentMessage → Stage → Type 0
IsMessageStage message (stages.Answers other) = message_value other ≡ message
IsMessageStage message stage = ⊥

-- the message that is a status alone
abbrev pub status_alone : (status : ℕ) → SentMessage
status_alone status =
    record { head = response_head (decimal status); body = []; trailers = None }

-- the message that is a head and no more
abbrev pub message_of_head : (head : List Field) → SentMessage
message_of_head head = record { head = head; body = []; trailers = None }

-- What is sent of a message: not the body where it answers HEAD, nor trailers where it refuses a
-- request.
-- rule: HTTP 9.3.2 (own) The body of an answer to HEAD is not sent
abbrev pub sent_of : (to_head refused : Bool) → SentMessage → SentMessage
sent_of to_head refused message = record {
  head = message.head;
  body = if to_head then [] else message.body;
  trailers = if refused then None else message.trailers;
}

-- How far an answer is once its stream was reset: over; as it was, where the output is full; given,
-- where the stream is over, or 1,000 were reset and the reset would only have asked to stop. After
-- any other refusal the connection can't go on.
abbrev pub IsResetSo : Code → Answer → Result Stage Stop → Type 0
IsResetSo code answer (Err stop) = Unit {0}
IsResetSo code Done (Ok stage) = stage ≡ stages.Gone (code_number code)
IsResetSo code (Refused reasons.OutputFull) (Ok stage) = stage ≡ stages.Resets code
IsResetSo code (Refused reasons.NoSuchStream) (Ok stage) = stage ≡ stages.Given
IsResetSo code (Refused reasons.TooManyResets) (Ok stage) =
    (code ≡ NoError) × (stage ≡ stages.Given)
IsResetSo code answer (Ok stage) = ⊥

-- A message was given whole.
pub record GivesMessage (end : EndLog) (id : ℕ) (message : SentMessage) (instead : Stage)
    (result : Result Stage Stop) (after : EndLog) : Type 0 where
  pub answer : Result (Unit {0}) EndRefusal
  pub responds : MayRespond end id message answer after
  pub stage : IsGivenSo stages.Given instead (IsMessageStage message) answer result

-- The same of the code: whatever has happened at the server, that happens.
abbrev pub GivesMessageSo : (old : End) → ℕ → SentMessage → (instead : Stage)
    → Result Stage Stop → (new : End) → Type 0
GivesMessageSo old id message instead result new =
    (values : Values) (end : EndLog) → EndRepresents values old end
    → (after : EndLog) × GivesMessage end id message instead result after
    × EndRepresents values new after

-- how far a response is, by what has become of a piece of it
abbrev pub stage_given : Result Given Stop → Result Stage Stop
stage_given (Ok given) = Ok given.stage
stage_given (Err stop) = Err stop

-- what follows where an answer breaks a rule, as long as no head of one went, and else
abbrev pub instead_of_answer : Stage
instead_of_answer = stages.Fails server_error

abbrev pub instead_of_rest : Stage
instead_of_rest = stages.Resets InternalError

-- The head of a response in parts was given; to HEAD it is all of it.
-- rule: HTTP 9.3.2 (own) The body of an answer to HEAD is not sent
abbrev pub GivesHead : (to_head : Bool) → (end : EndLog) → ℕ → (head : Vec Field Global)
    → Result Stage Stop → (after : EndLog) → Type 0
GivesHead true end id head result after =
    GivesMessage end id (message_of_head head.items) instead_of_answer result after
GivesHead false end id head result after =
    (answer : Result (Unit {0}) EndRefusal) × MayBeginAnswer end id head.items answer after
    × IsGivenSo (stages.Parts false) instead_of_answer (λ stage. stage ≡ stages.Begins head) answer
    result

-- What is given next of an answer to a request, which has the method HEAD or another, and how far
-- that is then: what the handler gave is given, on its own stream, and nothing else.
-- rule: handlers (own) What is given as an answer is what its handler gave
abbrev pub GivesStageSo : (end : EndLog) → ℕ → (to_head refused : Bool) → Stage
    → Result Stage Stop → (after : EndLog) → Type 0
GivesStageSo end id to_head refused (stages.Answers message) result after =
    GivesMessage end id (sent_of to_head refused (message_value message)) instead_of_answer result
    after
GivesStageSo end id to_head refused (stages.Fails status) result after =
    ((result ≡ Err stops.Memory) × (after ≡ end))
    ⊎ GivesMessage end id (status_alone status) instead_of_rest result after
GivesStageSo end id to_head refused (stages.Begins head) result after =
    GivesHead to_head end id head result after
GivesStageSo end id to_head refused (stages.Trails list) result after =
    (answer : Result (Unit {0}) EndRefusal) × MaySendTrailers end id list.items answer after
    × IsGivenSo stages.Given instead_of_rest (λ stage. stage ≡ stages.Trails list) answer result
GivesStageSo end id to_head refused (stages.Resets code) result after =
    (answer : Answer) × MayAnswer end.log (ResetStream id (code_number code)) answer
    × IsResetSo code answer result
    × (after ≡ end_with_log end (with_call end.log (ResetStream id (code_number code)) answer))
GivesStageSo end id to_head refused stage result after = (result ≡ Ok stage) × (after ≡ end)

-- The same of the code: whatever has happened at the server, that happens.
abbrev pub GivesStage : (old : End) → ℕ → (to_head refused : Bool) → Stage → Result Stage Stop
    → (new : End) → Type 0
GivesStage old id to_head refused stage result new =
    (values : Values) (end : EndLog) → EndRepresents values old end
    → (after : EndLog) × GivesStageSo end id to_head refused stage result after
    × EndRepresents values new after
