-- What may happen at a server that answers each whole request.
use Rattle.std.specs.Prelude.{◌≡◌, ◌≢◌, ◌⊎◌, ℕ, Bool, true, false, List, [], ◌∷◌, Some, None}
use Rattle.std.specs.Prelude.{Result}
use Rattle.std.specs.List.{Contains}
use Rattle.h2_spec_log.specs.declared.role.Role.TheVariants.{Server}
use Rattle.h2_spec_log.specs.Acts.{Values, AreInRange, Answer, IsTypedAct, ResetStream, PutOut}
use Rattle.h2_spec_log.specs.Acts.{Done}
use Rattle.h2_spec_log.specs.Events.{ResetEvent}
use Rattle.h2_spec_log.specs.LogCalls.{MayAnswer, with_call}
use Rattle.h2_message.specs.Messages.{SentMessage}
use Rattle.h2_message.specs.Phases.{ends_message}
use Rattle.h2_laws_pair.specs.Tokens.{Said, at_once}
use Rattle.h2_ends.specs.declared.refusal.EndRefusal.{EndRefusal}
use Rattle.h2_ends.specs.Ends.{EndLog, EndAnswer, Passed, said_for, parts_on}
use Rattle.h2_ends.specs.EndTakes.{EndMayTake, end_with_log}
use Rattle.h2_ends.specs.EndCalls.{MayRespond, MayPump, MayReleaseAll}
use Rattle.h2_ends.specs.Represents.{new_end_log}
use Rattle.h2_engines.specs.Answers.{answer_to, is_too_large_body}

-- ENHANCE_YOUR_CALM (RFC 9113, section 7): a body is too large
abbrev pub calm : ℕ
calm = 11

-- What has happened at a server since it was new: it took octets; it answered requests that were
-- whole with what they asked, and reset streams whose request was too large; it released, pumped
-- and gave out.
-- rule: engines (own) A request that is whole is answered once, by method, path and body
pub data IsResponding (values : Values) : EndLog → Type 0 where
  begins : AreInRange values → IsResponding values (new_end_log Server values)
  takes : {end after : EndLog} → IsResponding values end → (piece : List ℕ) (answer : EndAnswer)
      → EndMayTake end piece answer after → IsResponding values after
  answers : {end after : EndLog} → IsResponding values end → (id : ℕ) (message : SentMessage)
      (result : Result (Unit {0}) EndRefusal) → ends_message (parts_on id end.handed) ≡ true
      → is_too_large_body (parts_on id end.handed) ≡ false
      → answer_to (parts_on id end.handed) ≡ Some message
      → MayRespond end id message result after → IsResponding values after
  resets : {end : EndLog} → IsResponding values end → (id : ℕ) (answer : Answer)
      → is_too_large_body (parts_on id end.handed) ≡ true → IsTypedAct (ResetStream id calm)
      → MayAnswer end.log (ResetStream id calm) answer
      → IsResponding values (end_with_log end (with_call end.log (ResetStream id calm) answer))
  releases : {end after : EndLog} → IsResponding values end
      → (result : Result (Unit {0}) EndRefusal) → MayReleaseAll end result after
      → IsResponding values after
  pumps : {end after : EndLog} → IsResponding values end → (result : Result ℕ EndRefusal)
      → MayPump end result after → IsResponding values after
  gives_out : {end : EndLog} → IsResponding values end → (count : ℕ) (answer : Answer)
      → IsTypedAct (PutOut count) → MayAnswer end.log (PutOut count) answer
      → IsResponding values (end_with_log end (with_call end.log (PutOut count) answer))

-- The stream was reset, by either end, and that was handed out.
abbrev pub WasReportedReset : EndLog → ℕ → Type 0
WasReportedReset end id =
    (code : ℕ) × (ours : Bool) × Contains end.handed (Passed (ResetEvent id code ours))

-- The server has reset the stream, since its request was too large.
-- rule: engines (own) A request of more than 1,048,576 octets is ENHANCE_YOUR_CALM
pub record WasTooLarge (end : EndLog) (id : ℕ) : Type 0 where
  pub too_large : is_too_large_body (parts_on id end.handed) ≡ true
  pub reset : Contains end.log.calls (ResetStream id calm, Done)

-- The request is whole, and it was answered with what it asked.
-- rule: engines (own) A request that is whole is answered once, by method, path and body
pub record WasAnswered (end : EndLog) (id : ℕ) : Type 0 where
  pub whole : ends_message (parts_on id end.handed) ≡ true
  pub fits : is_too_large_body (parts_on id end.handed) ≡ false
  pub message : SentMessage
  pub asked : answer_to (parts_on id end.handed) ≡ Some message
  pub answered : said_for id end.accepted ≡ Some (at_once message)

-- No stream is there twice.
unfoldable pub AreOnce : List (ℕ × Said) → Type 0
AreOnce [] = Unit {0}
AreOnce ((id, said) ∷ accepted) = (said_for id accepted ≡ None) × AreOnce accepted

-- Each request that was handed out whole was answered, unless its stream was reset, as that of each
-- too large one was; and nothing else was answered, and no stream twice.
-- rule: engines (own) A request that is whole is answered once, by method, path and body
pub record AnswersAll (end : EndLog) : Type 0 where
  pub all : (id : ℕ) → ends_message (parts_on id end.handed) ≡ true
      → WasAnswered end id ⊎ (WasReportedReset end id ⊎ WasTooLarge end id)
  pub too_large : (id : ℕ) → is_too_large_body (parts_on id end.handed) ≡ true
      → WasReportedReset end id ⊎ WasTooLarge end id
  pub none_else : (id : ℕ) → said_for id end.accepted ≢ None → WasAnswered end id
  pub once : AreOnce end.accepted
