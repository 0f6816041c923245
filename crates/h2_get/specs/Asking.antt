-- Several requests that are made at once on a new connection.
use Rattle.std.specs.Prelude.{◌≡◌, ℕ, List, [], ◌∷◌, ◌++◌, map, Result, Ok, Err}
use Rattle.h2_spec_log.specs.declared.refusal.Refusal.TheVariants.{ListTooLarge}
use Rattle.h2_spec_log.specs.Acts.{Values}
use Rattle.h2_message.specs.Messages.{SentMessage}
use Rattle.h2_ends.specs.declared.refusal.EndRefusal.{EndRefusal}
use Rattle.h2_ends.specs.declared.refusal.EndRefusal.TheVariants.{BadMessage, Conn}
use Rattle.h2_ends.specs.Ends.{EndLog}
use Rattle.h2_ends.specs.EndCalls.{MayRequest}
use Rattle.h2_ends.specs.Represents.{EndRepresents}
use Rattle.h2_link.specs.declared.error.LinkError.{LinkError}
use Rattle.h2_link.specs.declared.error.LinkError.TheVariants as errors
use Rattle.h2_engines.specs.Failures.{error_after}
use Rattle.h2_engines.specs.Linked.{Traffic}
use Rattle.h2_fetch.specs.declared.connection.ClientConnection.{ClientConnection}
use Rattle.h2_fetch.specs.Several.{AnsweredOn, AreComing, AskedOn}
use Rattle.h2_fetch.specs.Several.{IsFetchingSeveral}

-- A new client has made these requests, on these streams, and nothing has come.
-- rule: engines (own) Several responses are printed in the order of their URLs
abbrev pub BeginsSeveral : Values → (messages : List SentMessage) → (ids : List ℕ)
    → ClientConnection → Type 0
BeginsSeveral values messages ids fetch =
    (asked : List AskedOn) × (end : EndLog) × (map (λ one. one.1) asked ≡ messages)
    × (map (λ one. one.0) asked ≡ ids)
    × ((start : Traffic) → AreComing values 0 start start asked fetch end (λ id. []))

-- how a fetch ends whose request was refused for this
abbrev pub error_of_request : EndRefusal → LinkError
error_of_request (BadMessage rule) = errors.Refused
error_of_request (Conn ListTooLarge) = errors.Refused
error_of_request refusal = error_after refusal

-- One of the messages was refused, after those before it were accepted; or no client could be had.
-- rule: engines (own) Several responses are printed in the order of their URLs
pub data RefusesOne (values : Values) (messages : List SentMessage) (error : LinkError) : Type 0
  where
    refuses : (asked : List AskedOn) (message : SentMessage) (more : List SentMessage)
        (end after : EndLog) (refusal : EndRefusal)
        → messages ≡ map (λ one. one.1) asked ++ message ∷ more
        → IsFetchingSeveral values 0 asked end → MayRequest end message (Err refusal) after
        → error ≡ error_of_request refusal → RefusesOne values messages error
    lacks_memory : error ≡ errors.Memory → RefusesOne values messages error

-- what became of a request: it was accepted for a stream, and its response is fetched too, or it
-- was refused for this
unfoldable pub MadeNext : Values → EndLog → SentMessage → EndLog → (old new : ClientConnection)
    → Result ℕ LinkError → Type 0
MadeNext values end message after old new (Ok id) =
    (wide : ℕ) (start now : Traffic) (asked : List AskedOn) (answered : AnsweredOn)
    → AreComing values wide start now asked old end answered
    → AreComing values wide start now (asked ++ (id, message) ∷ []) new after answered
MadeNext values end message after old new (Err error) =
    (refusal : EndRefusal) × MayRequest end message (Err refusal) after
    × (error ≡ error_of_request refusal)

-- Whatever has happened at the client, one more request was made.
abbrev pub MakesNext : SentMessage → Result ℕ LinkError → (old new : ClientConnection) → Type 0
MakesNext message result old new =
    (values : Values) (end : EndLog) → EndRepresents values old.client.end end
    → (after : EndLog) × MadeNext values end message after old new result
