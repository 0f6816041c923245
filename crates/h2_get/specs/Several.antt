-- What is printed of several responses that come over one connection, one after another.
use Rattle.std.specs.Prelude.{◌≡◌, ◌⊎◌, ◌<◌, ◌==◌, ℕ, Bool, true, false, List, [], ◌∷◌, ◌++◌}
use Rattle.std.specs.Prelude.{if◌then◌else◌, length, take, map, codes, Option, Result, Ok}
use Rattle.std.specs.Prelude.{Err, Vec, MatchBool}
use Rattle.std.specs.Global.{Global}
use Rattle.std.specs.List.{AllByRecursion}
use Rattle.std.specs.Io.KnownBytes.{Appends}
use Rattle.hpack.specs.declared.types.field.Field.{Field}
use Rattle.h2_spec_log.specs.Acts.{Values}
use Rattle.h2_message.specs.Messages.{SentMessage}
use Rattle.h2_ends.specs.Ends.{EndLog, Handed}
use Rattle.h2_link.specs.declared.error.LinkError.{LinkError}
use Rattle.h2_link.specs.declared.error.LinkError.TheVariants as errors
use Rattle.h2_engines.specs.Fetches.{WasDropped}
use Rattle.h2_engines.specs.Linked.{Traffic}
use Rattle.h2_engines.specs.declared.fetcher.Fetched.{Fetched}
use Rattle.h2_fetch.specs.declared.part.ResponsePart.{ResponsePart}
use Rattle.h2_fetch.specs.declared.connection.ClientConnection.{ClientConnection}
use Rattle.h2_fetch.specs.Parts.{handed_of}
use Rattle.h2_fetch.specs.Several.{AnsweredOn, AreComing, AskedOn, DropOn, HaveStopped, OnStream}
use Rattle.h2_fetch.specs.Several.{PartOn}
use Rattle.h2_args.specs.Words.{GetWords}
use Rattle.h2_get.specs.Asking.{RefusesOne}
use Rattle.h2_get.specs.declared.pass_error.PassError.{PassError}
use Rattle.h2_get.specs.declared.pass_error.PassError.TheVariants as passes
use Rattle.h2_get.specs.declared.pass_error.ResponseHead.{ResponseHead}
use Rattle.h2_get.specs.declared.pass_error.SeveralStreamed.{SeveralStreamed}
use Rattle.h2_get.specs.declared.pass_error.StreamEnding.{StreamEnding}
use Rattle.h2_get.specs.declared.pass_error.StreamError.{StreamError}
use Rattle.h2_get.specs.declared.pass_error.StreamError.TheVariants as streams
use Rattle.h2_get.specs.Receives.{EndsBody, HasNoHead, HeadCame, body_handed, fields_in_trailers}
use Rattle.h2_get.specs.Responses.{fails_as_asked}
use Rattle.h2_get.specs.Streams.{ShowsFailure, ShowsSoFar, ShowsWhole}
use Rattle.h2_get.specs.Windows.{BeginsSeveralWithWindow, IsNotWidened, several_values, window_of}

-- what was answered of each stream, with what was answered of one since
abbrev pub answered_more : AnsweredOn → (id : ℕ) → (more : List OnStream) → AnsweredOn
answered_more answered id more i = answered i ++ (if id == i then more else [])

-- parts of a response, as they have come on its stream
abbrev pub parts_came : (came : List Handed) → List OnStream
parts_came came = map PartOn came

-- The fetch goes on, and this was answered of each stream.
abbrev pub GoesOnWith : Values → (wide : ℕ) → (start now : Traffic) → List AskedOn →
    ClientConnection
    → AnsweredOn → Type 0
GoesOnWith values wide start now asked fetch answered =
    (after : EndLog) × AreComing values wide start now asked fetch after answered

-- How a response has ended early: with the whole fetch, or with its stream, which was dropped with
-- this code, while the fetch goes on, and that was answered too.
-- rule: engines (own) Several responses are printed in the order of their URLs
pub data StopsOn (values : Values) (wide : ℕ) (start now : Traffic) (asked : List AskedOn)
    (fetch : ClientConnection) (id : ℕ) (answered : AnsweredOn) (error : LinkError) : Type 0 where
  all_stop : (after : EndLog) → HaveStopped values wide start now asked fetch after answered error
      → StopsOn values wide start now asked fetch id answered error
  one_is_dropped : (after : EndLog) (code : ℕ) → error ≡ errors.Reset code
      → AreComing values wide start now asked fetch after
      (answered_more answered id (DropOn code ∷ []))
      → WasDropped after id code → StopsOn values wide start now asked fetch id answered error

-- the next part of the response on a stream, or how it has ended early
unfoldable pub PartOnSo : Values → (wide : ℕ) → (start now : Traffic) → List AskedOn →
    ClientConnection
    → (id : ℕ) → AnsweredOn → Result ResponsePart LinkError → Type 0
PartOnSo values wide start now asked fetch id answered (Ok part) =
    GoesOnWith values wide start now asked fetch
    (answered_more answered id (parts_came (handed_of id part ∷ [])))
PartOnSo values wide start now asked fetch id answered (Err error) =
    StopsOn values wide start now asked fetch id answered error

abbrev pub AnswersPartOn : (before now : Traffic) → (old new : ClientConnection) → (id : ℕ)
    → Result ResponsePart LinkError → Type 0
AnswersPartOn before now old new id result =
    (values : Values) (wide : ℕ) (start : Traffic) (asked : List AskedOn) (end : EndLog)
    (answered : AnsweredOn) → AreComing values wide start before asked old end answered
    → PartOnSo values wide start now asked new id answered result

-- the head of the response on a stream, which comes after these parts
unfoldable pub HeadOnSo : Values → (wide : ℕ) → (start now : Traffic) → List AskedOn →
    ClientConnection
    → (id : ℕ) → AnsweredOn → (came : List Handed) → Result ResponseHead LinkError → Type 0
HeadOnSo values wide start now asked fetch id answered came (Ok head) =
    GoesOnWith values wide start now asked fetch (answered_more answered id (parts_came came))
    × HeadCame id came head
HeadOnSo values wide start now asked fetch id answered came (Err error) =
    StopsOn values wide start now asked fetch id (answered_more answered id (parts_came came)) error
    × HasNoHead came

abbrev pub HeadComesOn : (before now : Traffic) → (old new : ClientConnection) → (id : ℕ)
    → Result ResponseHead LinkError → Type 0
HeadComesOn before now old new id result =
    (values : Values) (wide : ℕ) (start : Traffic) (asked : List AskedOn) (end : EndLog)
    (answered : AnsweredOn) → AreComing values wide start before asked old end answered
    → (came : List Handed) × HeadOnSo values wide start now asked new id answered came result

-- What was written of the body that has come on a stream since: all of it, where the response is
-- whole, and where it has ended early; or only its first octets, where a write has failed.
unfoldable pub PassedOnSo : Values → (wide : ℕ) → (start now : Traffic) → List AskedOn
    → ClientConnection → (id : ℕ) → AnsweredOn → (came : List Handed)
    → (written written_now : Option (List ℕ)) → Result (Option (Vec Field Global)) PassError
    → Type 0
PassedOnSo values wide start now asked fetch id answered came written written_now (Ok trailers) =
    GoesOnWith values wide start now asked fetch (answered_more answered id (parts_came came))
    × EndsBody id came (fields_in_trailers trailers)
    × Appends written written_now (body_handed came)
PassedOnSo values wide start now asked fetch id answered came written written_now
    (Err (passes.Link error)) =
    StopsOn values wide start now asked fetch id (answered_more answered id (parts_came came)) error
    × Appends written written_now (body_handed came)
PassedOnSo values wide start now asked fetch id answered came written written_now
    (Err passes.Output) =
    GoesOnWith values wide start now asked fetch (answered_more answered id (parts_came came))
    × ((count : ℕ) × (count < length (body_handed came))
    × Appends written written_now (take count (body_handed came)))

abbrev pub PassesBodyOn : (before now : Traffic) → (old new : ClientConnection) → (id : ℕ)
    → (written written_now : Option (List ℕ)) → Result (Option (Vec Field Global)) PassError
    → Type 0
PassesBodyOn before now old new id written written_now result =
    (values : Values) (wide : ℕ) (start : Traffic) (asked : List AskedOn) (end : EndLog)
    (answered : AnsweredOn) → AreComing values wide start before asked old end answered
    → (came : List Handed)
    × PassedOnSo values wide start now asked new id answered came written written_now result

-- What was printed of the parts that have come of a response, after an opening, by how that has
-- ended; nothing is said where something could not be written.
-- rule: engines (own) Several responses are printed in the order of their URLs
abbrev pub PrintsParts : GetWords → (opening : List ℕ) → (id : ℕ) → (came : List Handed)
    → (before after : Option (List ℕ)) → Result Fetched StreamError → Type 0
PrintsParts words opening id came before after (Ok fetched) =
    (opened : Option (List ℕ)) × Appends before opened opening
    × MatchBool (fails_as_asked words fetched)
    (ShowsFailure words id opened after came fetched)
    (ShowsWhole words id opened after came fetched)
PrintsParts words opening id came before after (Err (streams.Link error)) =
    (opened : Option (List ℕ)) × Appends before opened opening
    × ShowsSoFar words id opened after came
PrintsParts words opening id came before after (Err error) = Unit {0}

-- how a fetch stands once a response was printed, or has ended early
abbrev pub StandsAfter : Values → (wide : ℕ) → (start now : Traffic) → List AskedOn →
    ClientConnection
    → (id : ℕ) → AnsweredOn → Result Fetched StreamError → Type 0
StandsAfter values wide start now asked fetch id answered (Err (streams.Link error)) =
    StopsOn values wide start now asked fetch id answered error
StandsAfter values wide start now asked fetch id answered result =
    GoesOnWith values wide start now asked fetch answered

-- what a response begins with: a line end, unless it is the first
-- rule: engines (own) Several responses are printed in the order of their URLs
abbrev pub opening_of : (is_first : Bool) → List ℕ
opening_of is_first = if is_first then [] else codes "\n"

-- Whatever has happened at a client that makes several requests, the response on this stream is
-- printed as it comes.
-- rule: engines (own) Several responses are printed in the order of their URLs
abbrev pub StreamsOn : GetWords → (is_first : Bool) → (before now : Traffic)
    → (old new : ClientConnection) → (id : ℕ) → (written written_now : Option (List ℕ))
    → Result Fetched StreamError → Type 0
StreamsOn words is_first before now old new id written written_now result =
    (values : Values) (wide : ℕ) (start : Traffic) (asked : List AskedOn) (end : EndLog)
    (answered : AnsweredOn) → AreComing values wide start before asked old end answered
    → (came : List Handed)
    × PrintsParts words (opening_of is_first) id came written written_now result
    × StandsAfter values wide start now asked new id
    (answered_more answered id (parts_came came)) result

-- whether no more responses are printed after this one: the fetch has ended, or something could not
-- be written
-- rule: engines (own) Several responses are printed in the order of their URLs
abbrev pub ends_all : Result Fetched StreamError → Bool
ends_all (Ok fetched) = false
ends_all (Err (streams.Link (errors.Reset code))) = false
ends_all (Err error) = true

-- None of these ends all.
abbrev pub AllGoOn : List (Result Fetched StreamError) → Type 0
AllGoOn printed = AllByRecursion (λ one. ends_all one ≡ false) printed

-- what was answered of a stream whose response was printed: the parts that came, and where the
-- stream was dropped, that
-- rule: engines (own) Several responses are printed in the order of their URLs
abbrev pub answered_for : (came : List Handed) → Result Fetched StreamError → List OnStream
answered_for came (Err (streams.Link (errors.Reset code))) = parts_came came ++ DropOn code ∷ []
answered_for came result = parts_came came

-- These responses were printed, one after another, the first one first, each after a line end but
-- the first: those on these streams, in order, each of the parts that were answered of its stream.
-- None ends all but the last.
-- rule: engines (own) Several responses are printed in the order of their URLs
pub data PrintsSeveral (words : GetWords) (before : Option (List ℕ))
    : (ids : List ℕ) → (after : Option (List ℕ)) → AnsweredOn → List (Result Fetched StreamError)
    → Type 0 where
  prints_none : PrintsSeveral words before [] before (λ id. []) []
  prints_one : (ids : List ℕ) (id : ℕ) (printed : List (Result Fetched StreamError))
      (result : Result Fetched StreamError) (middle after : Option (List ℕ))
      (answered : AnsweredOn) (came : List Handed)
      → PrintsSeveral words before ids middle answered printed → AllGoOn printed
      → PrintsParts words (opening_of (length printed == 0)) id came middle after result
      → PrintsSeveral words before (ids ++ id ∷ []) after
      (answered_more answered id (answered_for came result)) (printed ++ result ∷ [])

-- how a fetch stands after a response that ends all
-- rule: engines (own) Several responses are printed in the order of their URLs
abbrev pub StandsAtEnd : Values → (wide : ℕ) → (start now : Traffic) → List AskedOn →
    ClientConnection
    → AnsweredOn → Result Fetched StreamError → Type 0
StandsAtEnd values wide start now asked fetch answered (Err (streams.Link error)) =
    (after : EndLog) × HaveStopped values wide start now asked fetch after answered error
StandsAtEnd values wide start now asked fetch answered result =
    GoesOnWith values wide start now asked fetch answered

-- How a fetch stands once responses were printed, of whose streams this was answered: all were, and
-- it goes on; or the last of them has ended all.
-- rule: engines (own) Several responses are printed in the order of their URLs
pub data StandSo (values : Values) (wide : ℕ) (start now : Traffic) (asked : List AskedOn)
    (fetch : ClientConnection) (more : List ℕ) (answered : AnsweredOn)
    : List (Result Fetched StreamError) → Type 0 where
  all_printed : (results : List (Result Fetched StreamError)) → AllGoOn results → more ≡ []
      → GoesOnWith values wide start now asked fetch answered
      → StandSo values wide start now asked fetch more answered results
  last_ends : (printed : List (Result Fetched StreamError)) (result : Result Fetched StreamError)
      → ends_all result ≡ true → StandsAtEnd values wide start now asked fetch answered result
      → StandSo values wide start now asked fetch more answered (printed ++ result ∷ [])

-- The responses of these requests were printed, in their order: all of them, or those up to one
-- that ends all.
-- rule: engines (own) Several responses are printed in the order of their URLs
abbrev pub StreamedSeveral : GetWords → Values → (wide : ℕ) → (start now : Traffic) → List AskedOn
    → ClientConnection → (before after : Option (List ℕ)) → List (Result Fetched StreamError) →
    Type 0
StreamedSeveral words values wide start now asked fetch before after results =
    (ids more : List ℕ) × (answered : AnsweredOn) × (map (λ one. one.0) asked ≡ ids ++ more)
    × PrintsSeveral words before ids after answered results
    × StandSo values wide start now asked fetch more answered results

-- Of a client that has made several requests, on these streams, of whose responses nothing came
-- before, they were printed.
-- rule: engines (own) Several responses are printed in the order of their URLs
abbrev pub StreamsSeveral : GetWords → (ids : List ℕ) → (before now : Traffic)
    → (old new : ClientConnection) → (written written_now : Option (List ℕ))
    → List (Result Fetched StreamError) → Type 0
StreamsSeveral words ids before now old new written written_now results =
    (values : Values) (wide : ℕ) (start : Traffic) (asked : List AskedOn) (end : EndLog)
    → map (λ one. one.0) asked ≡ ids
    → AreComing values wide start before asked old end (λ id. [])
    → StreamedSeveral words values wide start now asked new written written_now results

-- This went over some link.
abbrev pub SeveralOver : GetWords → (ids : List ℕ) → (old new : ClientConnection)
    → (written written_now : Option (List ℕ)) → List (Result Fetched StreamError) → Type 0
SeveralOver words ids old new written written_now results = (before now : Traffic)
    × StreamsSeveral words ids before now old new written written_now results

-- what came of each of several responses, without hints; or why none was asked for
abbrev pub results_of : Result SeveralStreamed StreamEnding
    → Result (List (Result Fetched StreamError)) StreamError
results_of (Ok several) = Ok several.results.items
results_of (Err ending) = Err ending.error

-- The requests were made at once over a new connection with the window that the words ask for, and
-- their responses were printed one after another, however that has ended; or no connection could be
-- made, or one of the requests was not accepted, and nothing was printed. Out of memory for what
-- came of them says nothing.
-- rule: engines (own) Several responses are printed in the order of their URLs
-- rule: engines (own) get has the window of --window, for the connection and for each stream
pub data StreamsRequests (words : GetWords) (messages : List SentMessage)
    (before after : Option (List ℕ)) : Result (List (Result Fetched StreamError)) StreamError
    → Type 0 where
  none_connected : (error : LinkError) → (error ≡ errors.Device) ⊎ (error ≡ errors.Memory)
      → after ≡ before → StreamsRequests words messages before after
      (Err (streams.Link error))
  one_refused : (error : LinkError)
      → RefusesOne (several_values (window_of words) (length messages)) messages error
      ⊎ IsNotWidened error
      → after ≡ before → StreamsRequests words messages before after (Err (streams.Link error))
  are_streamed : (ids : List ℕ) (begun fetch : ClientConnection)
      (results : List (Result Fetched StreamError))
      → BeginsSeveralWithWindow (window_of words) messages ids begun
      → SeveralOver words ids begun fetch before after results
      → StreamsRequests words messages before after (Ok results)
  results_lost : StreamsRequests words messages before after
      (Err (streams.Link errors.Memory))
