-- What has happened at a client that makes several requests, at once or one after another, and what
-- it answers of each response.
use Rattle.std.specs.Prelude.{◌≡◌, ◌≢◌, ◌==◌, ◌+◌, ℕ, List, [], ◌∷◌, ◌++◌, map, if◌then◌else◌}
use Rattle.std.specs.Prelude.{take, drop, false, Option, Some, None, Result, Ok, Err}
use Rattle.std.specs.List.{Contains}
use Rattle.h2_spec_log.specs.declared.role.Role.TheVariants.{Client}
use Rattle.h2_spec_log.specs.Acts.{Values, AreInRange, Answer, IsTypedAct, PutOut, Release}
use Rattle.h2_spec_log.specs.Acts.{ResetStream, Widen}
use Rattle.h2_spec_log.specs.Events.{ResetEvent, UnprocessedEvent}
use Rattle.h2_spec_log.specs.LogCalls.{MayAnswer, with_call}
use Rattle.h2_numbers.specs.Entries.{value_at}
use Rattle.h2_message.specs.declared.message.Message.{Message}
use Rattle.h2_message.specs.Messages.{SentMessage}
use Rattle.h2_laws_pair.specs.Tokens.{at_once}
use Rattle.h2_ends.specs.declared.refusal.EndRefusal.{EndRefusal}
use Rattle.h2_ends.specs.Ends.{EndLog, EndAnswer, Handed, BodyHanded, InterimHanded, Passed}
use Rattle.h2_ends.specs.Ends.{said_for}
use Rattle.h2_ends.specs.EndTakes.{EndMayTake, end_with_log}
use Rattle.h2_ends.specs.EndCalls.{MayRequest, MayPump, MayReleaseAll}
use Rattle.h2_ends.specs.Represents.{EndRepresents, new_end_log, without_message}
use Rattle.h2_link.specs.declared.error.LinkError.{LinkError}
use Rattle.h2_link.specs.declared.error.LinkError.TheVariants as errors
use Rattle.h2_engines.specs.ClientHistories.{widened_by}
use Rattle.h2_engines.specs.Failures.{IsOutOfMemory}
use Rattle.h2_engines.specs.Fetches.{WasDropped, refused_stream}
use Rattle.h2_engines.specs.Linked.{Traffic, HasGiven, IsLinked, IsLinkedInPart, HasStalled}
use Rattle.h2_engines.specs.Linked.{HasTakenAll}
use Rattle.h2_engines.specs.Serves.{HasFailedWith, HasReturnedAll}
use Rattle.h2_fetch.specs.declared.connection.ClientConnection.{ClientConnection}
use Rattle.h2_fetch.specs.declared.connection.Came.{Came}
use Rattle.h2_fetch.specs.declared.connection.Came.TheVariants.{Part, Dropped}
use Rattle.h2_fetch.specs.declared.kept.Queue.{Queue}
use Rattle.h2_fetch.specs.Parts.{handed_of, is_on}

-- a request that was accepted, with its stream
abbrev pub AskedOn : Type 0
AskedOn = ℕ × SentMessage

-- What has happened at a client since it was new: it made these requests, the first one first, and
-- each was accepted; others were refused; it took octets, released, pumped and gave out, reset
-- streams, and widened the window of the connection, by so much in all.
-- rule: engines (own) Responses of several requests are what is handed out, each in order
pub data IsFetchingSeveral (values : Values) : (wide : ℕ) → List AskedOn → EndLog → Type 0 where
  begins : AreInRange values → IsFetchingSeveral values 0 [] (new_end_log Client values)
  requests : {wide : ℕ} {asked : List AskedOn} {end after : EndLog}
      → IsFetchingSeveral values wide asked end → (id : ℕ) (message : SentMessage)
      → MayRequest end message (Ok id) after
      → IsFetchingSeveral values wide (asked ++ (id, message) ∷ []) after
  refuses : {wide : ℕ} {asked : List AskedOn} {end after : EndLog}
      → IsFetchingSeveral values wide asked end → (message : SentMessage) (refusal : EndRefusal)
      → MayRequest end message (Err refusal) after → IsFetchingSeveral values wide asked after
  takes : {wide : ℕ} {asked : List AskedOn} {end after : EndLog}
      → IsFetchingSeveral values wide asked end → (piece : List ℕ) (answer : EndAnswer)
      → EndMayTake end piece answer after → IsFetchingSeveral values wide asked after
  releases : {wide : ℕ} {asked : List AskedOn} {end after : EndLog}
      → IsFetchingSeveral values wide asked end → (result : Result (Unit {0}) EndRefusal)
      → MayReleaseAll end result after → IsFetchingSeveral values wide asked after
  releases_on : {wide : ℕ} {asked : List AskedOn} {end : EndLog}
      → IsFetchingSeveral values wide asked end → (id count : ℕ) (answer : Answer)
      → IsTypedAct (Release id count) → MayAnswer end.log (Release id count) answer
      → IsFetchingSeveral values wide asked
      (end_with_log end (with_call end.log (Release id count) answer))
  pumps : {wide : ℕ} {asked : List AskedOn} {end after : EndLog}
      → IsFetchingSeveral values wide asked end → (result : Result ℕ EndRefusal)
      → MayPump end result after → IsFetchingSeveral values wide asked after
  gives_out : {wide : ℕ} {asked : List AskedOn} {end : EndLog}
      → IsFetchingSeveral values wide asked end → (count : ℕ) (answer : Answer)
      → IsTypedAct (PutOut count) → MayAnswer end.log (PutOut count) answer
      → IsFetchingSeveral values wide asked
      (end_with_log end (with_call end.log (PutOut count) answer))
  widens : {wide : ℕ} {asked : List AskedOn} {end : EndLog}
      → IsFetchingSeveral values wide asked end → (count : ℕ) (answer : Answer)
      → IsTypedAct (Widen count) → MayAnswer end.log (Widen count) answer
      → IsFetchingSeveral values (wide + widened_by count answer) asked
      (end_with_log end (with_call end.log (Widen count) answer))
  resets : {wide : ℕ} {asked : List AskedOn} {end : EndLog}
      → IsFetchingSeveral values wide asked end → (id code : ℕ) (answer : Answer)
      → IsTypedAct (ResetStream id code) → MayAnswer end.log (ResetStream id code) answer
      → IsFetchingSeveral values wide asked
      (end_with_log end (with_call end.log (ResetStream id code) answer))

-- the octets that were read and not used yet
abbrev pub several_unused : ClientConnection → List ℕ
several_unused fetch = drop fetch.used (take fetch.filled fetch.buffer.items)

-- what has come on a stream: a part of a response as it was handed out, or that the stream was
-- dropped with this code: it was reset, or its request was not processed
pub data OnStream : Type 0 where
  PartOn : (handed : Handed) → OnStream
  DropOn : (code : ℕ) → OnStream

-- what was handed out, where it has come on a stream; interim responses are dropped, and parts of a
-- body without octets that end nothing
abbrev pub as_on : ℕ → Handed → List OnStream
as_on i (InterimHanded id list) = []
as_on i (BodyHanded id [] false) = []
as_on i (Passed (ResetEvent id code ours)) = if id == i then DropOn code ∷ [] else []
as_on i (Passed (UnprocessedEvent id)) = if id == i then DropOn refused_stream ∷ [] else []
as_on i handed = if is_on i handed then PartOn handed ∷ [] else []

-- all that has come on a stream, the first one first
-- rule: engines (own) Responses of several requests are what is handed out, each in order
unfoldable pub all_on : ℕ → List Handed → List OnStream
all_on i [] = []
all_on i (one ∷ handed) = all_on i handed ++ as_on i one

-- what is answered, as it has come on its stream
abbrev pub came_as : ℕ → Came → OnStream
came_as id (Part part) = PartOn (handed_of id part)
came_as id (Dropped code) = DropOn code

-- what is kept of a stream: what has come there and was not answered yet, the first one first
abbrev pub came_in : ℕ → Option (Queue) → List OnStream
came_in id None = []
came_in id (Some queue) = map (came_as id) queue.parts.items

abbrev pub kept_on : ℕ → List (ℕ × Queue) → List OnStream
kept_on id kept = came_in id (value_at id kept)

-- what was answered of each stream
abbrev pub AnsweredOn : Type 0
AnsweredOn = ℕ → List OnStream

-- the same with what is answered next
abbrev pub answered_next : AnsweredOn → (id : ℕ) → Came → AnsweredOn
answered_next answered id came i =
    answered i ++ (if id == i then came_as id came ∷ [] else [])

-- Each stream that is kept as reset was reset, or its request was not processed.
abbrev pub AreDropped : EndLog → List (ℕ × Queue) → Type 0
AreDropped end kept =
    (id code : ℕ) → Contains (kept_on id kept) (DropOn code) → WasDropped end id code

-- A client with these values, at which this has happened, fetches: these messages were accepted,
-- the connection is up, its window was widened by so much in all, the client has used all octets
-- that the link gave since then but those that it keeps, the link took all that it has given out,
-- and of each stream this was answered and that is kept: all that has come there, in order.
-- rule: engines (own) Responses of several requests are what is handed out, each in order
pub record AreComing (values : Values) (wide : ℕ) (start now : Traffic) (asked : List AskedOn)
    (fetch : ClientConnection) (end : EndLog) (answered : AnsweredOn) : Type 0 where
  pub fetching : IsFetchingSeveral values wide asked end
  pub represents : EndRepresents values fetch.client.end end
  pub accepted : (id : ℕ) (message : SentMessage) → Contains asked (id, message)
      → said_for id end.accepted ≡ Some (at_once message)
  pub up : end.log.failed ≡ None
  pub linked : IsLinked start now end.log (several_unused fetch)
  pub parts : (id : ℕ) → all_on id end.handed ≡ answered id ++ kept_on id fetch.kept.entries
  pub dropped : AreDropped end fetch.kept.entries

-- A new client has made no request, and nothing has come.
-- rule: engines (own) Responses of several requests are what is handed out, each in order
abbrev pub BeginsConnection : Values → ClientConnection → Type 0
BeginsConnection values fetch =
    (end : EndLog) × ((start : Traffic) → AreComing values 0 start start [] fetch end (λ id. []))

-- the requests that were accepted, with one more where it was
abbrev pub asked_also : List AskedOn → SentMessage → Result ℕ (Message × EndRefusal) → List AskedOn
asked_also asked message (Ok id) = asked ++ (id, message) ∷ []
asked_also asked message (Err refused) = asked

-- Whatever has happened at a client, a request was made, which was accepted for a stream or refused
-- as its end does it; and the client fetches on, also this one where it was accepted. Of what has
-- come nothing has changed.
-- rule: engines (own) Responses of several requests are what is handed out, each in order
abbrev pub MakesRequest : SentMessage → Result ℕ (Message × EndRefusal)
    → (old new : ClientConnection) → Type 0
MakesRequest message result old new =
    (values : Values) (end : EndLog) → EndRepresents values old.client.end end
    → (after : EndLog) × MayRequest end message (without_message result) after
    × ((wide : ℕ) (start now : Traffic) (asked : List AskedOn) (answered : AnsweredOn)
    → AreComing values wide start now asked old end answered
    → AreComing values wide start now (asked_also asked message result) new after answered)

-- why a fetch has ended early, by its error; out of memory no log says which allocation was refused
abbrev pub StopsAllFor : (start now : Traffic) → EndLog → LinkError → Type 0
StopsAllFor start now end (errors.Stream number) = HasFailedWith start now end.log number
StopsAllFor start now end (errors.Reset number) = ⊥
StopsAllFor start now end errors.CutOff =
    (end.log.failed ≡ None) × HasGiven start now end.log [] × HasTakenAll start now end.log
    × HasReturnedAll end.log
StopsAllFor start now end errors.NoProgress = HasStalled now end
StopsAllFor start now end errors.Memory = IsOutOfMemory end.log
StopsAllFor start now end errors.Device = Unit {0}
StopsAllFor start now end errors.Refused = ⊥

-- The fetch has ended early, with this error: the octets that the client has used are the first
-- that the link gave, the link took the first of its output, the connection's window was widened by
-- so much in all, and of each stream this was answered, that is kept, and the last of it lost: none
-- but where memory was refused.
-- rule: engines (own) Responses of several requests are what is handed out, each in order
pub record HaveStopped (values : Values) (wide : ℕ) (start now : Traffic) (asked : List AskedOn)
    (fetch : ClientConnection) (end : EndLog) (answered : AnsweredOn)
    (error : LinkError) : Type 0 where
  pub fetching : IsFetchingSeveral values wide asked end
  pub represents : EndRepresents values fetch.client.end end
  pub linked : IsLinkedInPart start now end.log
  pub lost : AnsweredOn
  pub parts : (id : ℕ)
      → all_on id end.handed ≡ answered id ++ (kept_on id fetch.kept.entries ++ lost id)
  pub all : error ≢ errors.Memory → (id : ℕ) → lost id ≡ []
  pub so : StopsAllFor start now end error

-- what was answered of a stream, or how the fetch has ended early
-- rule: engines (own) Responses of several requests are what is handed out, each in order
unfoldable pub CameSo : Values → (wide : ℕ) → (start now : Traffic) → List AskedOn
    → ClientConnection → ℕ → AnsweredOn → Result Came LinkError → Type 0
CameSo values wide start now asked fetch id answered (Ok came) =
    (after : EndLog)
    × AreComing values wide start now asked fetch after (answered_next answered id came)
    × ((code : ℕ) → came ≡ Dropped code → WasDropped after id code)
CameSo values wide start now asked fetch id answered (Err error) =
    (after : EndLog) × HaveStopped values wide start now asked fetch after answered error

-- Whatever has happened at a client that fetches, the next part of the response on this stream is
-- asked for.
-- rule: engines (own) Responses of several requests are what is handed out, each in order
abbrev pub AnswersNextOn : (before now : Traffic) → (old new : ClientConnection) → ℕ
    → Result Came LinkError → Type 0
AnswersNextOn before now old new id result =
    (values : Values) (wide : ℕ) (start : Traffic) (asked : List AskedOn) (end : EndLog)
    (answered : AnsweredOn) → AreComing values wide start before asked old end answered
    → CameSo values wide start now asked new id answered result
