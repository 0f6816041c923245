-- What has happened at a client whose response comes in parts, and over its link.
use Rattle.std.specs.Prelude.{◌≡◌, ◌≢◌, ◌<◌, ◌≤◌, ℕ, List, [], ◌∷◌, ◌++◌, length, take, drop}
use Rattle.std.specs.Prelude.{Option, Some, None, Result, Ok, Err}
use Rattle.h2_frame.specs.declared.code.Code.{Code}
use Rattle.h2_spec_log.specs.declared.role.Role.TheVariants.{Client}
use Rattle.h2_spec_log.specs.Acts.{Values}
use Rattle.h2_message.specs.Messages.{SentMessage}
use Rattle.h2_laws_pair.specs.Tokens.{at_once}
use Rattle.h2_ends.specs.Ends.{EndLog, Handed, said_for}
use Rattle.h2_ends.specs.EndCalls.{MayRequest}
use Rattle.h2_ends.specs.Represents.{EndRepresents, new_end_log}
use Rattle.h2_link.specs.declared.error.LinkError.{LinkError}
use Rattle.h2_link.specs.declared.error.LinkError.TheVariants as errors
use Rattle.h2_engines.specs.ClientHistories.{IsFetching}
use Rattle.h2_engines.specs.Failures.{IsOutOfMemory}
use Rattle.h2_engines.specs.Fetches.{WasDropped}
use Rattle.h2_engines.specs.Linked.{Traffic, HasGiven, IsLinked, IsLinkedInPart, HasStalled}
use Rattle.h2_engines.specs.Linked.{HasTakenAll, IsOutOfRounds}
use Rattle.h2_engines.specs.Serves.{HasFailedWith, HasReturnedAll}
use Rattle.h2_engines.specs.ServerSteps.{error_with}
use Rattle.h2_fetch.specs.declared.fetch.PartFetch.{PartFetch}
use Rattle.h2_fetch.specs.declared.part.ResponsePart.{ResponsePart}
use Rattle.h2_engines.specs.declared.sending.Credit.TheVariants.{All}
use Rattle.h2_fetch.specs.Credits.{credit_before}
use Rattle.h2_fetch.specs.Parts.{handed_of, handed_on}
use Rattle.h2_fetch.specs.Sends.{HasReturned}

-- the octets that were read and not used yet
abbrev pub octets_unused : PartFetch → List ℕ
octets_unused fetch = drop fetch.used (take fetch.filled fetch.buffer.items)

-- A client with these values, at which this has happened, fetches: its message was accepted, the
-- connection is up, its window was widened by so much in all, the client has used all octets that
-- the link gave since then but those that it keeps, and the link took all that it has given out.
-- rule: engines (own) A response in parts is what is handed out, in order
pub record IsComing (values : Values) (message : SentMessage) (wide : ℕ) (start now : Traffic)
    (fetch : PartFetch) (end : EndLog) : Type 0 where
  pub fetching : IsFetching values message wide end
  pub represents : EndRepresents values fetch.client.end end
  pub accepted : said_for fetch.id end.accepted ≡ Some (at_once message)
  pub up : end.log.failed ≡ None
  pub linked : IsLinked start now end.log (octets_unused fetch)

-- A new client has made its request, and nothing has come.
pub record BeginsFetch (values : Values) (message : SentMessage) (fetch : PartFetch) : Type 0 where
  pub end : EndLog
  pub requested : MayRequest (new_end_log Client values) message (Ok fetch.id) end
  pub coming : (start : Traffic) → IsComing values message 0 start start fetch end
  pub none : handed_on fetch.id end.handed ≡ []

-- why a fetch has ended early, by its error; out of memory no log says which allocation was refused
-- rule: engines (own) N2 has the code with which the connection failed; memory is N3
-- rule: engines (own) N4 comes only where the input ended early
-- rule: engines (own) N6 has the code with which the request's stream was reset
abbrev pub StopsFor : (start now : Traffic) → EndLog → (id : ℕ) → LinkError → Type 0
StopsFor start now end id (errors.Stream number) = HasFailedWith start now end.log number
StopsFor start now end id (errors.Reset number) = WasDropped end id number
StopsFor start now end id errors.CutOff =
    (end.log.failed ≡ None) × HasGiven start now end.log [] × HasTakenAll start now end.log
    × HasReturnedAll end.log
StopsFor start now end id errors.NoProgress = HasStalled now end
StopsFor start now end id errors.Memory = IsOutOfMemory end.log
StopsFor start now end id errors.Device = Unit {0}
StopsFor start now end id errors.Refused = ⊥

-- The fetch has ended early, with this error: the octets that the client has used are the first
-- that the link gave, the link took the first of its output, and the connection's window was
-- widened by so much in all.
-- rule: engines (own) A response in parts is what is handed out, in order
pub record HasStopped (values : Values) (message : SentMessage) (wide : ℕ) (start now : Traffic)
    (fetch : PartFetch) (end : EndLog) (error : LinkError) : Type 0 where
  pub fetching : IsFetching values message wide end
  pub represents : EndRepresents values fetch.client.end end
  pub accepted : said_for fetch.id end.accepted ≡ Some (at_once message)
  pub linked : IsLinkedInPart start now end.log
  pub so : StopsFor start now end fetch.id error

-- These parts were handed out since, and the last ones not answered: none but where memory was
-- refused.
-- rule: engines (own) A response in parts is what is handed out, in order
pub record HandsSince (id : ℕ) (before after : EndLog) (came : List Handed) (error : LinkError)
    : Type 0 where
  pub lost : List Handed
  pub handed : handed_on id after.handed ≡ handed_on id before.handed ++ (came ++ lost)
  pub all : error ≢ errors.Memory → lost ≡ []

-- The next part was answered, in a turn at least, or the fetch has ended early.
-- rule: engines (own) A response in parts is what is handed out, in order
unfoldable pub ComesSo : Values → SentMessage → (wide : ℕ) → (start now : Traffic) → PartFetch
    → (before after : EndLog) → Result ResponsePart LinkError → Type 0
ComesSo values message wide start now fetch before after (Ok part) =
    IsComing values message wide start now fetch after
    × (handed_on fetch.id after.handed
    ≡ handed_on fetch.id before.handed ++ handed_of fetch.id part ∷ [])
    × (length before.log.turns < length after.log.turns)
ComesSo values message wide start now fetch before after (Err error) =
    HasStopped values message wide start now fetch after error
    × HandsSince fetch.id before after [] error

-- Whatever has happened at a client that fetches, the next part of its response is asked for.
-- rule: engines (own) A response in parts is what is handed out, in order
abbrev pub AnswersNext : (before now : Traffic) → (old new : PartFetch)
    → Result ResponsePart LinkError → Type 0
AnswersNext before now old new result =
    (values : Values) (message : SentMessage) (wide : ℕ) (start : Traffic) (end : EndLog)
    → IsComing values message wide start before old end
    → (after : EndLog) × ComesSo values message wide start now new end after result

-- Why a client can take no more: the connection has failed; the stream was dropped, or memory was
-- refused, for which these parts are lost; or it is out of rounds.
pub data TakesNoMore (end : EndLog) (id : ℕ) (lost : List Handed) (error : LinkError) : Type 0 where
  fails : (code : Code) → end.log.failed ≡ Some code → error ≡ error_with code → lost ≡ []
      → TakesNoMore end id lost error
  lacks_memory : end.log.failed ≡ None → error ≡ errors.Memory → TakesNoMore end id lost error
  was_dropped : (number : ℕ) → end.log.failed ≡ None → error ≡ errors.Reset number
      → WasDropped end id number → lost ≡ [] → TakesNoMore end id lost error
  out_of_rounds : end.log.failed ≡ None → error ≡ errors.NoProgress → IsOutOfRounds end
      → lost ≡ [] → TakesNoMore end id lost error

-- A client has taken its last octets.
pub record HasTakenLast (values : Values) (message : SentMessage) (wide : ℕ) (start now : Traffic)
    (fetch : PartFetch) (before end : EndLog) (error : LinkError) : Type 0 where
  pub fetching : IsFetching values message wide end
  pub represents : EndRepresents values fetch.client.end end
  pub accepted : said_for fetch.id end.accepted ≡ Some (at_once message)
  pub unused : List ℕ
  pub linked : IsLinked start now end.log unused
  pub lost : List Handed
  pub handed : handed_on fetch.id end.handed ≡ handed_on fetch.id before.handed ++ lost
  pub why : TakesNoMore end fetch.id lost error

-- what came of the octets that were read
unfoldable pub TookSo : Values → SentMessage → (wide : ℕ) → (start now : Traffic) → PartFetch
    → (before after : EndLog) → Result (Option ResponsePart) LinkError → Type 0
TookSo values message wide start now fetch before after (Ok (Some part)) =
    IsComing values message wide start now fetch after
    × (handed_on fetch.id after.handed
    ≡ handed_on fetch.id before.handed ++ handed_of fetch.id part ∷ [])
    × (length before.log.turns < length after.log.turns)
TookSo values message wide start now fetch before after (Ok None) =
    IsComing values message wide start now fetch after
    × (handed_on fetch.id after.handed ≡ handed_on fetch.id before.handed)
    × (octets_unused fetch ≡ [])
TookSo values message wide start now fetch before after (Err error) =
    HasTakenLast values message wide start now fetch before after error

abbrev pub TakesUntilPart : (old new : PartFetch) → Result (Option ResponsePart) LinkError → Type 0
TakesUntilPart old new result =
    (values : Values) (message : SentMessage) (wide : ℕ) (start now : Traffic) (end : EndLog)
    → IsComing values message wide start now old end
    → (after : EndLog) × (length end.log.turns ≤ length after.log.turns)
    × TookSo values message wide start now new end after result

-- A piece was read, in a turn at least, or the fetch has ended early; nothing was handed out.
unfoldable pub RefilledSo : Values → SentMessage → (wide : ℕ) → (start now : Traffic) → PartFetch
    → (before after : EndLog) → Result (Unit {0}) LinkError → Type 0
RefilledSo values message wide start now fetch before after (Ok done) =
    IsComing values message wide start now fetch after
    × (length before.log.turns < length after.log.turns)
RefilledSo values message wide start now fetch before after (Err error) =
    HasStopped values message wide start now fetch after error

abbrev pub Refills : (before now : Traffic) → (old new : PartFetch)
    → Result (Unit {0}) LinkError → Type 0
Refills before now old new result =
    (values : Values) (message : SentMessage) (wide : ℕ) (start : Traffic) (end : EndLog)
    → IsComing values message wide start before old end → octets_unused old ≡ []
    → (after : EndLog) × (after.handed ≡ end.handed)
    × HasReturned (credit_before end.log old.id old.filled All) end after
    × RefilledSo values message wide start now new end after result

-- A client that can take no more ends its fetch.
abbrev pub EndsSo : (before now : Traffic) → (old new : PartFetch) → (error result : LinkError)
    → Type 0
EndsSo before now old new error result =
    (values : Values) (message : SentMessage) (wide : ℕ) (start : Traffic) (first end : EndLog)
    → HasTakenLast values message wide start before old first end error
    → (after : EndLog) × HasStopped values message wide start now new after result
    × HandsSince new.id first after [] result
