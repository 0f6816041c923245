-- What may happen at a client that makes one request, and what it answers of the response.
use Rattle.std.specs.Prelude.{◌≡◌, ◌+◌, ℕ, Bool, List, map as each, option_map}
use Rattle.std.specs.Prelude.{Result}
use Rattle.std.specs.List.{concat}
use Rattle.h2_spec_log.specs.declared.role.Role.TheVariants.{Client}
use Rattle.h2_spec_log.specs.Acts.{Values, AreInRange, Answer, IsTypedAct, PutOut, Widen, Done}
use Rattle.h2_spec_log.specs.LogCalls.{MayAnswer, with_call}
use Rattle.h2_message.specs.Messages.{SentMessage}
use Rattle.h2_message.specs.Reading.{Part, ReadMessage, message_parts}
use Rattle.h2_ends.specs.declared.refusal.EndRefusal.{EndRefusal}
use Rattle.h2_ends.specs.Ends.{EndLog, EndAnswer}
use Rattle.h2_ends.specs.EndTakes.{EndMayTake, end_with_log}
use Rattle.h2_ends.specs.EndCalls.{MayRequest, MayPump, MayReleaseAll}
use Rattle.h2_ends.specs.Represents.{new_end_log}
use Rattle.h2_engines.specs.declared.fetcher.Fetched.{Fetched}

-- by how much a call that is answered so widens the window of the connection
unfoldable pub widened_by : (count : ℕ) → Answer → ℕ
widened_by count Done = count
widened_by count answer = 0

-- What has happened at a client since it was new: it made one request, with this message; it took
-- octets, released, pumped and gave out, and widened the window of the connection, by so much in
-- all.
-- rule: engines (own) A response that is fetched is the message handed out, whole
-- rule: 6.9.2 (own) The window of the connection is widened by a call, for good
pub data IsFetching (values : Values) (message : SentMessage) : (wide : ℕ) → EndLog → Type 0 where
  begins : AreInRange values → IsFetching values message 0 (new_end_log Client values)
  requests : {after : EndLog} → AreInRange values → (result : Result ℕ EndRefusal)
      → MayRequest (new_end_log Client values) message result after
      → IsFetching values message 0 after
  takes : {wide : ℕ} {end after : EndLog} → IsFetching values message wide end
      → (piece : List ℕ) (answer : EndAnswer) → EndMayTake end piece answer after
      → IsFetching values message wide after
  releases : {wide : ℕ} {end after : EndLog} → IsFetching values message wide end
      → (result : Result (Unit {0}) EndRefusal) → MayReleaseAll end result after
      → IsFetching values message wide after
  pumps : {wide : ℕ} {end after : EndLog} → IsFetching values message wide end
      → (result : Result ℕ EndRefusal) → MayPump end result after
      → IsFetching values message wide after
  gives_out : {wide : ℕ} {end : EndLog} → IsFetching values message wide end
      → (count : ℕ) (answer : Answer) → IsTypedAct (PutOut count)
      → MayAnswer end.log (PutOut count) answer
      → IsFetching values message wide
      (end_with_log end (with_call end.log (PutOut count) answer))
  widens : {wide : ℕ} {end : EndLog} → IsFetching values message wide end
      → (count : ℕ) (answer : Answer) → IsTypedAct (Widen count)
      → MayAnswer end.log (Widen count) answer
      → IsFetching values message (wide + widened_by count answer)
      (end_with_log end (with_call end.log (Widen count) answer))

-- the response as it was read, its body in these parts
abbrev pub response_read : Fetched → (data_parts : List (List ℕ)) → ReadMessage
response_read fetched data_parts = record {
  interims = each (λ list. list.items) fetched.interims.items;
  head = fetched.head.items;
  data_parts = data_parts;
  trailers = option_map (λ list. list.items) fetched.trailers;
}

-- The response is the whole message that these parts are, the first one first.
-- rule: engines (own) A response that is fetched is the message handed out, whole
pub record IsFetched (parts : List (Part × Bool)) (fetched : Fetched) : Type 0 where
  pub data_parts : List (List ℕ)
  pub whole : parts ≡ message_parts (response_read fetched data_parts)
  pub body : fetched.body.items ≡ concat data_parts
