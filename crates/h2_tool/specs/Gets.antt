-- How `h2 get` ends with one URL, by the words that follow it.
use Rattle.std.specs.Prelude.{◌≡◌, ◌≢◌, ◌⊎◌, ℕ, Bool, true, false, List, Option, Result, Ok}
use Rattle.std.specs.Prelude.{Err, MatchBool, is_some, ◌||◌}
use Rattle.h2_cli.specs.declared.status.Status.{Status}
use Rattle.h2_cli.specs.declared.status.Status.TheVariants.{Good, Fault, Usage, Device, Memory}
use Rattle.h2_message.specs.Messages.{SentMessage}
use Rattle.h2_args.specs.Words.{GetWords}
use Rattle.h2_link.specs.declared.error.LinkError.{LinkError}
use Rattle.h2_engines.specs.declared.fetcher.Fetched.{Fetched}
use Rattle.h2_net.specs.declared.location.Location.{Location}
use Rattle.h2_net.specs.declared.location.TargetFault.{TargetFault}
use Rattle.h2_net.specs.declared.location.TargetFault.TheVariants as faults
use Rattle.h2_net.specs.Endings.{status_with}
use Rattle.h2_get.specs.declared.body.BodyFault.{BodyFault}
use Rattle.h2_get.specs.declared.body.BodyFault.TheVariants as bodies
use Rattle.h2_get.specs.declared.pass_error.StreamError.{StreamError}
use Rattle.h2_get.specs.declared.pass_error.StreamError.TheVariants as streams
use Rattle.h2_get.specs.declared.request.RequestFault.{RequestFault}
use Rattle.h2_get.specs.declared.request.RequestFault.TheVariants as requests
use Rattle.h2_get.specs.Gathers.{GathersRequest}
use Rattle.h2_get.specs.Ports.{NamesAtPort, IsRefusedAtPort}
use Rattle.h2_get.specs.Requests.{IsAskable, IsBodyAsked, IsRefusedRequest, begins_with_at}
use Rattle.h2_get.specs.Requests.{body_word, request_asked}
use Rattle.h2_get.specs.Responses.{PrintsAsked, fails_as_asked}
use Rattle.h2_get.specs.Streams.{StreamsRequest}

-- The location that the words name was fetched with the request that they ask for, with this
-- result, where standard input has these octets.
-- rule: engines (own) The words of get make its request and say what is printed
pub record GetsAsked (words : GetWords) (remaining : Option (List ℕ))
    (result : Result Fetched LinkError) : Type 0 where
  pub location : Location
  pub names : NamesAtPort words.url words.port location
  pub body : List ℕ
  pub is : IsBodyAsked words remaining body
  pub asked : IsAskable words body location
  pub fetches : GathersRequest words (request_asked words body location) result

-- The fetch has ended early, with an error of this status, and nothing was printed.
pub record FailsToGet (words : GetWords) (remaining before after : Option (List ℕ))
    (status : Status) : Type 0 where
  pub error : LinkError
  pub got : GetsAsked words remaining (Err error)
  pub status_is : status_with error ≡ status
  pub unwritten : after ≡ before

-- The URL can't be fetched, for another fault than of memory, and nothing was printed.
pub record IsRefusedUrlOf (words : GetWords) (before after : Option (List ℕ)) : Type 0 where
  pub fault : TargetFault
  pub refused : IsRefusedAtPort words.url words.port fault
  pub other : fault ≢ faults.Memory
  pub unwritten : after ≡ before

-- The words name standard input or a file that can't be read, and nothing was printed.
-- rule: engines (own) The words of get make its request and say what is printed
pub record HasUnreadBody (words : GetWords) (before after : Option (List ℕ)) : Type 0 where
  pub named : begins_with_at (body_word words) ≡ true
  pub unwritten : after ≡ before

-- No request can be made for the location, for another fault than of memory, and nothing was
-- printed.
-- rule: engines (own) The words of get make its request and say what is printed
pub record IsRefusedRequestOf (words : GetWords) (remaining before after : Option (List ℕ)) : Type 0
  where
    pub location : Location
    pub names : NamesAtPort words.url words.port location
    pub body : List ℕ
    pub is : IsBodyAsked words remaining body
    pub fault : RequestFault
    pub refused : IsRefusedRequest words body location fault
    pub other : fault ≢ requests.Memory
    pub unwritten : after ≡ before

-- The program ends so after a line on standard error that refuses its words: the line was printed,
-- or could not be.
abbrev pub EndsByRefusal : Status → Type 0
EndsByRefusal Usage = Unit {0}
EndsByRefusal Device = Unit {0}
EndsByRefusal status = ⊥

-- How the program ends where a URL can't be fetched.
abbrev pub RefusesUrl : TargetFault → Status → Type 0
RefusesUrl faults.Memory status = status ≡ Memory
RefusesUrl fault status = EndsByRefusal status

-- How the program ends where the body can't be read.
-- rule: engines (own) The words of get make its request and say what is printed
abbrev pub RefusesBody : BodyFault → Status → Type 0
RefusesBody bodies.Memory status = status ≡ Memory
RefusesBody fault status = status ≡ Device

-- How the program ends where no request can be made.
-- rule: engines (own) The words of get make its request and say what is printed
abbrev pub RefusesRequest : RequestFault → Status → Type 0
RefusesRequest requests.Memory status = status ≡ Memory
RefusesRequest fault status = EndsByRefusal status

-- The response was printed as the words ask, and they make it a failure, or don't.
-- rule: engines (own) With --fail a status of 400 or above ends get with status 1
abbrev pub PrintsResult : GetWords → (before after : Option (List ℕ)) → Fetched → (fails : Bool)
    → Type 0
PrintsResult words before after fetched fails =
    (fails_as_asked words fetched ≡ fails) × PrintsAsked words before after fetched

-- How the program ends where a fetch has come to this: the response is printed, or can't be; or the
-- fetch has ended early, with its own status, and nothing is printed.
-- rule: engines (own) N1 to N7 end a command with their statuses
-- rule: engines (own) With --fail a status of 400 or above ends get with status 1
abbrev pub EndsWithFetch : GetWords → Result Fetched LinkError → (before after : Option (List ℕ))
    → Status
    → Type 0
EndsWithFetch words (Ok fetched) before after Good = PrintsResult words before after fetched false
EndsWithFetch words (Ok fetched) before after Fault = PrintsResult words before after fetched true
EndsWithFetch words (Ok fetched) before after status = status ≡ Device
EndsWithFetch words (Err error) before after status =
    (status ≡ status_with error) × (after ≡ before)

-- How `get` ends before it asks for anything: the URL can't be fetched, the body can't be read, or
-- no request can be made.
-- rule: engines (own) The words of get make its request and say what is printed
abbrev pub AsksNothing : GetWords → (remaining before after : Option (List ℕ)) → Status → Type 0
AsksNothing words remaining before after Usage =
    IsRefusedUrlOf words before after ⊎ IsRefusedRequestOf words remaining before after
AsksNothing words remaining before after Device = IsRefusedUrlOf words before after
    ⊎ (IsRefusedRequestOf words remaining before after ⊎ HasUnreadBody words before after)
AsksNothing words remaining before after Memory = after ≡ before
AsksNothing words remaining before after status = ⊥

-- How the fetch that words ask for ends, with a reader and a writer whose contents are known.
-- `Fault` comes where the fetch has ended early, or its response is a failure; `Usage` only where
-- nothing was asked for, or the request was refused (N7); `Device` for N1 and N5, and where the
-- body could not be read, or a line about the words or the response not be printed.
-- rule: engines (own) serve, get and loop have their words
-- rule: engines (own) The words of get make its request and say what is printed
abbrev pub GetsSo : GetWords → (remaining before after : Option (List ℕ)) → Status → Type 0
GetsSo words remaining before after Good =
    (fetched : Fetched) × GetsAsked words remaining (Ok fetched)
    × PrintsResult words before after fetched false
GetsSo words remaining before after Fault = FailsToGet words remaining before after Fault
    ⊎ ((fetched : Fetched) × GetsAsked words remaining (Ok fetched)
    × PrintsResult words before after fetched true)
GetsSo words remaining before after Usage = AsksNothing words remaining before after Usage
    ⊎ FailsToGet words remaining before after Usage
GetsSo words remaining before after Device = AsksNothing words remaining before after Device
    ⊎ (FailsToGet words remaining before after Device
    ⊎ ((fetched : Fetched) × GetsAsked words remaining (Ok fetched)))
GetsSo words remaining before after Memory = after ≡ before

-- whether the words ask for the body as it comes
-- rule: engines (own) get -o and --stream write the body as it comes, in order
abbrev pub is_in_parts : GetWords → Bool
is_in_parts words = (words.stream || words.verbose) || is_some words.output

-- The location that the words name was asked for with the request that they ask for, and the
-- response was printed as it came, with this result.
-- rule: engines (own) get -o and --stream write the body as it comes, in order
pub record StreamsAsked (words : GetWords) (remaining before after : Option (List ℕ))
    (result : Result Fetched StreamError) : Type 0 where
  pub location : Location
  pub names : NamesAtPort words.url words.port location
  pub body : List ℕ
  pub is : IsBodyAsked words remaining body
  pub asked : IsAskable words body location
  pub streams : StreamsRequest words (request_asked words body location) before after result

-- The fetch has ended early, with an error of this status; what was printed came before that.
pub record FailsToStream (words : GetWords) (remaining before after : Option (List ℕ))
    (status : Status) : Type 0 where
  pub error : LinkError
  pub got : StreamsAsked words remaining before after (Err (streams.Link error))
  pub status_is : status_with error ≡ status

-- The response was printed as it came, and the words make it a failure, or don't.
-- rule: engines (own) With --fail a status of 400 or above ends get with status 1
abbrev pub StreamsResult : GetWords → (remaining before after : Option (List ℕ)) → (fails : Bool)
    → Type 0
StreamsResult words remaining before after fails =
    (fetched : Fetched) × StreamsAsked words remaining before after (Ok fetched)
    × (fails_as_asked words fetched ≡ fails)

-- How the program ends where a response that is printed as it comes has come to this.
-- rule: engines (own) N1 to N7 end a command with their statuses
-- rule: engines (own) With --fail a status of 400 or above ends get with status 1
abbrev pub EndsWithStream : GetWords → Result Fetched StreamError → Status → Type 0
EndsWithStream words (Ok fetched) Good = fails_as_asked words fetched ≡ false
EndsWithStream words (Ok fetched) Fault = fails_as_asked words fetched ≡ true
EndsWithStream words (Ok fetched) status = ⊥
EndsWithStream words (Err (streams.Link error)) status = status ≡ status_with error
EndsWithStream words (Err error) status = status ≡ Device

-- How the fetch of a response that is printed as it comes ends: as any, but that what came before
-- it has ended early was printed, or stands in the file; and with `Device` also where the file
-- can't be written.
-- rule: engines (own) get -o and --stream write the body as it comes, in order
abbrev pub StreamsSo : GetWords → (remaining before after : Option (List ℕ)) → Status → Type 0
StreamsSo words remaining before after Good = StreamsResult words remaining before after false
StreamsSo words remaining before after Fault = FailsToStream words remaining before after Fault
    ⊎ StreamsResult words remaining before after true
StreamsSo words remaining before after Usage = AsksNothing words remaining before after Usage
    ⊎ FailsToStream words remaining before after Usage
StreamsSo words remaining before after Device = AsksNothing words remaining before after Device
    ⊎ (FailsToStream words remaining before after Device
    ⊎ (StreamsAsked words remaining before after (Err streams.Output)
    ⊎ StreamsAsked words remaining before after (Err streams.File)))
StreamsSo words remaining before after Memory =
    (after ≡ before) ⊎ FailsToStream words remaining before after Memory

-- How a request that was made over a new connection ends, by whether the words ask for the body as
-- it comes.
-- rule: engines (own) The words of get make its request and say what is printed
abbrev pub AsksSo : GetWords → SentMessage → (before after : Option (List ℕ)) → Status → Type 0
AsksSo words message before after status = MatchBool (is_in_parts words)
    ((got : Result Fetched StreamError) × StreamsRequest words message before after got
    × EndsWithStream words got status)
    ((got : Result Fetched LinkError) × GathersRequest words message got
    × EndsWithFetch words got before after status)

-- How words that have no fault and name one URL end, by whether they ask for the body as it comes.
-- rule: engines (own) serve, get and loop have their words
abbrev pub GetsOrStreams : GetWords → (remaining before after : Option (List ℕ)) → Status → Type 0
GetsOrStreams words remaining before after status =
    MatchBool (is_in_parts words) (StreamsSo words remaining before after status)
    (GetsSo words remaining before after status)
