-- How `h2 get` ends with several URLs, which it asks for at once over one connection.
use Rattle.std.specs.Prelude.{◌≡◌, ◌⊎◌, ◌==◌, ◌&&◌, ℕ, Bool, true, false, List, [], ◌∷◌, map}
use Rattle.std.specs.Prelude.{Option, Some, None, Result, Ok, Err, MatchBool, if◌then◌else◌}
use Rattle.std.specs.Prelude.{is_some, length, nat_lt, string_bytes}
use Rattle.std.specs.Char.{to_ascii_lowercase}
use Rattle.std.specs.List.{AllByRecursion, Contains}
use Rattle.std.specs.Str.{bytes_eq}
use Rattle.h2_cli.specs.declared.status.Status.{Status}
use Rattle.h2_cli.specs.declared.status.Status.TheVariants.{Good, Fault, Usage, Device}
use Rattle.h2_args.specs.Words.{GetWords, get_words_of, get_faults}
use Rattle.h2_message.specs.Messages.{SentMessage}
use Rattle.h2_engines.specs.declared.fetcher.Fetched.{Fetched}
use Rattle.h2_net.specs.declared.location.Location.{Location}
use Rattle.h2_net.specs.Endings.{status_with}
use Rattle.h2_get.specs.declared.pass_error.StreamError.{StreamError}
use Rattle.h2_get.specs.declared.pass_error.StreamError.TheVariants as streams
use Rattle.h2_get.specs.declared.request.RequestFault.{RequestFault}
use Rattle.h2_get.specs.Ports.{IsRefusedAtPort, NamesAtPort}
use Rattle.h2_get.specs.Requests.{IsAskable, IsBodyAsked, IsRefusedRequest, request_asked}
use Rattle.h2_get.specs.Responses.{fails_as_asked}
use Rattle.h2_get.specs.Several.{StreamsRequests}
use Rattle.h2_get.specs.Windows.{window_asked}
use Rattle.h2_tool.specs.Commands.{EndsByWords}
use Rattle.h2_tool.specs.declared.get_several.LocationsFault.{LocationsFault}
use Rattle.h2_tool.specs.declared.get_several.LocationsFault.TheVariants as unfits
use Rattle.h2_tool.specs.Gets.{AsksNothing, EndsByRefusal, GetsOrStreams, RefusesUrl}

-- whether there is something in a list
abbrev pub has_some : List (List ℕ) → Bool
has_some [] = false
has_some (one ∷ more) = true

-- whether the words name more URLs than one
-- rule: engines (own) Several responses are printed in the order of their URLs
abbrev pub has_others : GetWords → Bool
has_others words = has_some words.others

-- whether they name more than can be fetched at once: it is recommended that a server lets a client
-- have so many streams at least (RFC 9113, section 6.5.2)
-- rule: engines (own) Several responses are printed in the order of their URLs
abbrev pub has_too_many : GetWords → Bool
has_too_many words = nat_lt 100 (length (words.url ∷ words.others))

-- the URLs that the words name, in order
-- rule: engines (own) Several responses are printed in the order of their URLs
abbrev pub urls_of : GetWords → List (List ℕ)
urls_of words = words.url ∷ words.others

-- the words with another URL
abbrev pub with_url : GetWords → (url : List ℕ) → GetWords
with_url words url = record words { url = url }

-- a host as it is compared: its case doesn't count (RFC 3986, section 3.2.2)
abbrev pub host_compared : Location → List ℕ
host_compared location = map to_ascii_lowercase (string_bytes location.host)

-- whether two locations are of one host and port
-- rule: engines (own) Several responses are printed in the order of their URLs
abbrev pub is_same_host : (one other : Location) → Bool
is_same_host one other =
    bytes_eq (host_compared one) (host_compared other) && one.port == other.port

-- These are the locations that URLs name, in order, where the words give this port.
-- rule: engines (own) Several responses are printed in the order of their URLs
abbrev pub NameInOrder : (urls : List (List ℕ)) → (port : Option ℕ) → List Location → Type 0
NameInOrder [] port [] = Unit {0}
NameInOrder (url ∷ urls) port (location ∷ locations) =
    NamesAtPort url port location × NameInOrder urls port locations
NameInOrder urls port locations = ⊥

-- These locations are of the host and port of the first.
-- rule: engines (own) Several responses are printed in the order of their URLs
abbrev pub AreSameHost : (first : Location) → List Location → Type 0
AreSameHost first others = AllByRecursion (λ other. is_same_host first other ≡ true) others

-- One of the other URLs has not the host and port of the first.
-- rule: engines (own) Several responses are printed in the order of their URLs
pub record HasOtherHost (words : GetWords) : Type 0 where
  pub first : Location
  pub names_first : NamesAtPort words.url words.port first
  pub url : List ℕ
  pub among : Contains words.others url
  pub other : Location
  pub names_other : NamesAtPort url words.port other
  pub differs : is_same_host first other ≡ false

-- Why URLs can't be fetched with the first, which names this location, where the words give this
-- port.
-- rule: engines (own) Several responses are printed in the order of their URLs
abbrev pub IsUnfit : (urls : List (List ℕ)) → (port : Option ℕ) → (first : Location)
    → LocationsFault → Type 0
IsUnfit urls port first (unfits.Url fault) =
    (url : List ℕ) × Contains urls url × IsRefusedAtPort url port fault
IsUnfit urls port first unfits.OtherHost =
    (url : List ℕ) × (other : Location) × Contains urls url × NamesAtPort url port other
    × (is_same_host first other ≡ false)

-- How the program ends where the other URLs can't be fetched with the first.
abbrev pub RefusesLocations : LocationsFault → Status → Type 0
RefusesLocations (unfits.Url fault) status = RefusesUrl fault status
RefusesLocations unfits.OtherHost status = EndsByRefusal status

-- Why no request can be made for one of these locations.
abbrev pub IsRefusedForOne : GetWords → (body : List ℕ) → List Location → RequestFault → Type 0
IsRefusedForOne words body given fault = (location : Location) × Contains given location
    × IsRefusedRequest words body location fault

-- How `get` ends before it asks for any of several URLs: one of them, the body or one of the
-- requests is refused, as that of one URL would be; or the words name a file for the body, too many
-- URLs, or two hosts, which has a line on standard error.
-- rule: engines (own) Several responses are printed in the order of their URLs
abbrev pub AsksNone : GetWords → (remaining before after : Option (List ℕ)) → Status → Type 0
AsksNone words remaining before after status =
    ((url : List ℕ) × Contains (urls_of words) url
    × AsksNothing (with_url words url) remaining before after status)
    ⊎ (((is_some words.output ≡ true) ⊎ ((has_too_many words ≡ true) ⊎ HasOtherHost words))
    × EndsByRefusal status × (after ≡ before))

-- The locations that the URLs name, of one host and port, were asked for at once, each with the
-- request that the words ask for, all with one body; and their responses were printed in the order
-- of the URLs, with these results.
-- rule: engines (own) Several responses are printed in the order of their URLs
pub record SeveralAsked (words : GetWords) (remaining before after : Option (List ℕ))
    (results : Result (List (Result Fetched StreamError)) StreamError) : Type 0 where
  pub first : Location
  pub others : List Location
  pub names : NamesAtPort words.url words.port first
  pub name : NameInOrder words.others words.port others
  pub same : AreSameHost first others
  pub body : List ℕ
  pub is : IsBodyAsked words remaining body
  pub asked : AllByRecursion (IsAskable words body) (first ∷ others)
  pub no_file : words.output ≡ None
  pub few : has_too_many words ≡ false
  pub streams : StreamsRequests words (map (request_asked words body) (first ∷ others)) before
      after results

-- the status that one of several responses has for itself, by what has come of it
-- rule: engines (own) Several responses are printed in the order of their URLs
abbrev pub status_of_one : GetWords → Result Fetched StreamError → Status
status_of_one words (Ok fetched) = if fails_as_asked words fetched then Fault else Good
status_of_one words (Err (streams.Link error)) = status_with error
status_of_one words (Err error) = Device

-- the first status that isn't `Good`, or that
-- rule: engines (own) Several responses are printed in the order of their URLs
abbrev pub first_failed : List Status → Status
first_failed [] = Good
first_failed (Good ∷ statuses) = first_failed statuses
first_failed (status ∷ statuses) = status

-- the status of several responses: that of the first that has failed; or of what has ended all
-- before one came
-- rule: engines (own) Several responses are printed in the order of their URLs
abbrev pub status_of_several : GetWords → Result (List (Result Fetched StreamError)) StreamError
    → Status
status_of_several words (Ok results) = first_failed (map (status_of_one words) results)
status_of_several words (Err error) = status_of_one words (Err error)

-- How several requests that were made at once over a new connection end.
-- rule: engines (own) Several responses are printed in the order of their URLs
abbrev pub StreamsAll : GetWords → List SentMessage → (before after : Option (List ℕ)) → Status
    → Type 0
StreamsAll words messages before after status =
    (results : Result (List (Result Fetched StreamError)) StreamError)
    × StreamsRequests words messages before after results
    × (status ≡ status_of_several words results)

-- How the fetch of several URLs ends.
-- rule: engines (own) Several responses are printed in the order of their URLs
abbrev pub SeveralSo : GetWords → (remaining before after : Option (List ℕ)) → Status → Type 0
SeveralSo words remaining before after status =
    AsksNone words remaining before after status
    ⊎ ((results : Result (List (Result Fetched StreamError)) StreamError)
    × SeveralAsked words remaining before after results
    × (status ≡ status_of_several words results))

-- How words that have no fault end, by whether they name more URLs than one.
-- rule: engines (own) serve, get and loop have their words
abbrev pub GetsOneOrSeveral : GetWords → (remaining before after : Option (List ℕ)) → Status
    → Type 0
GetsOneOrSeveral words remaining before after status =
    MatchBool (has_others words) (SeveralSo words remaining before after status)
    (GetsOrStreams words remaining before after status)

-- How words that have no fault end: by a line on standard error, where the window has no size.
-- rule: engines (own) get has the window of --window, for the connection and for each stream
-- rule: engines (own) The size of --window is a number of octets, with k or m for more
abbrev pub GetsAsAsked : GetWords → (remaining before after : Option (List ℕ)) → Status → Type 0
GetsAsAsked words remaining before after status = MatchBool (is_some (window_asked words))
    (GetsOneOrSeveral words remaining before after status)
    ((status ≡ Usage) × (after ≡ before))

-- How `h2 get` ends.
-- rule: engines (own) serve, get and loop have their words
abbrev pub EndsGet : (words : List (List ℕ)) → (remaining before after : Option (List ℕ)) → Status
    → Type 0
EndsGet words remaining before after status =
    ((asked : GetWords) × (get_words_of words ≡ Some asked)
    × GetsAsAsked asked remaining before after status)
    ⊎ EndsByWords (get_faults words) before after status
