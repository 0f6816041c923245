-- What is printed of a response that is printed as it comes, by the words after `get`.
use Rattle.std.specs.Prelude.{◌≡◌, ◌≢◌, ◌⊎◌, ℕ, Bool, true, false, List, [], ◌++◌, codes}
use Rattle.std.specs.Prelude.{if◌then◌else◌, is_some, Option, None, Result, Ok}
use Rattle.std.specs.Prelude.{Err}
use Rattle.std.specs.Prelude.{Vec, MatchBool}
use Rattle.std.specs.Global.{Global}
use Rattle.std.specs.Io.KnownBytes.{Appends}
use Rattle.hpack.specs.declared.types.field.Field.{Field}
use Rattle.h2_spec_log.specs.Acts.{Values}
use Rattle.h2_message.specs.Fields.{status_of}
use Rattle.h2_message.specs.Messages.{SentMessage}
use Rattle.h2_ends.specs.Ends.{EndLog, Handed}
use Rattle.h2_link.specs.declared.error.LinkError.{LinkError}
use Rattle.h2_link.specs.declared.error.LinkError.TheVariants as errors
use Rattle.h2_engines.specs.Fetches.{IsNotAccepted}
use Rattle.h2_engines.specs.Linked.{Traffic}
use Rattle.h2_engines.specs.declared.fetcher.Fetched.{Fetched}
use Rattle.h2_fetch.specs.declared.fetch.PartFetch.{PartFetch}
use Rattle.h2_fetch.specs.Comings.{HandsSince, HasStopped, IsComing}
use Rattle.h2_fetch.specs.Parts.{handed_on}
use Rattle.h2_net.specs.Printing.{IsPhraseOf, status_line}
use Rattle.h2_args.specs.Words.{GetWords}
use Rattle.h2_get.specs.declared.pass_error.ResponseHead.{ResponseHead}
use Rattle.h2_get.specs.declared.pass_error.StreamEnding.{StreamEnding}
use Rattle.h2_get.specs.declared.pass_error.StreamError.{StreamError}
use Rattle.h2_get.specs.declared.pass_error.StreamError.TheVariants as streams
use Rattle.h2_get.specs.Receives.{EndsBody, HasNoHead, HeadCame, body_handed}
use Rattle.h2_get.specs.Receives.{fields_in_trailers}
use Rattle.h2_get.specs.Responses.{fails_as_asked, response_lines, trailers_shown}
use Rattle.h2_get.specs.Windows.{BeginsWithWindow, IsNotWidened, fetch_values, window_of}

-- what is printed of a head: the line of its status, and its fields where they are asked for
-- rule: engines (own) get -o and --stream write the body as it comes, in order
abbrev pub head_printed : GetWords → List Field → (phrase : Option (List ℕ)) → List ℕ
head_printed words list phrase =
    status_line (status_of list) phrase
    ++ (if words.include then response_lines list ++ codes "\n" else [])

-- The head was printed, with the phrase of its status.
abbrev pub PrintsHead : GetWords → (before after : Option (List ℕ)) → List Field → Type 0
PrintsHead words before after list =
    (phrase : Option (List ℕ)) × IsPhraseOf (status_of list) phrase
    × Appends before after (head_printed words list phrase)

-- where the octets of the body go: not to what is printed where the words name a file
-- rule: engines (own) get -o and --stream write the body as it comes, in order
abbrev pub body_shown : GetWords → List ℕ → List ℕ
body_shown words octets = if is_some words.output then [] else octets

-- The rest of a response ends it: it was whole with its head, and nothing came; or its body ends,
-- or its trailers came.
abbrev pub IsWholeWith : (id : ℕ) → (was_whole : Bool) → (came : List Handed)
    → Option (List Field) → Type 0
IsWholeWith id true came trailers = (came ≡ []) × (trailers ≡ None)
IsWholeWith id false came trailers = EndsBody id came trailers

-- Of a response whose parts have come so far this was printed: nothing before its head; then that,
-- and the octets of the body.
-- rule: engines (own) get -o and --stream write the body as it comes, in order
pub data ShowsSoFar (words : GetWords) (id : ℕ) (before after : Option (List ℕ)) : List Handed
    → Type 0 where
  shows_nothing : (came : List Handed) → HasNoHead came → Appends before after []
      → ShowsSoFar words id before after came
  shows_head : (came rest : List Handed) (head : ResponseHead) (printed : Option (List ℕ))
      → HeadCame id came head → PrintsHead words before printed head.list.items
      → Appends printed after (body_shown words (body_handed rest))
      → ShowsSoFar words id before after (came ++ rest)

-- What was passed on of the rest of a response: all of it, where it is whole, and what came, where
-- the fetch has ended early. What goes into a file isn't shown.
-- rule: engines (own) get -o and --stream write the body as it comes, in order
unfoldable pub ShownSo : (names_file was_whole : Bool) → Values → SentMessage → (wide : ℕ)
    → (start now : Traffic) → PartFetch → (before after : EndLog) → (came : List Handed)
    → (written written_now : Option (List ℕ)) → Result (Option (Vec Field Global)) StreamError
    → Type 0
ShownSo names_file was_whole values message wide start now fetch before after came written
    written_now (Ok trailers) =
    IsComing values message wide start now fetch after
    × (handed_on fetch.id after.handed ≡ handed_on fetch.id before.handed ++ came)
    × IsWholeWith fetch.id was_whole came (fields_in_trailers trailers)
    × Appends written written_now (if names_file then [] else body_handed came)
ShownSo names_file was_whole values message wide start now fetch before after came written
    written_now (Err (streams.Link error)) =
    HasStopped values message wide start now fetch after error
    × HandsSince fetch.id before after came error
    × Appends written written_now (if names_file then [] else body_handed came)
ShownSo names_file was_whole values message wide start now fetch before after came written
    written_now (Err error) = IsComing values message wide start now fetch after

abbrev pub ShowsRest : (names_file was_whole : Bool) → (before now : Traffic)
    → (old new : PartFetch) → (written written_now : Option (List ℕ))
    → Result (Option (Vec Field Global)) StreamError → Type 0
ShowsRest names_file was_whole before now old new written written_now result =
    (values : Values) (message : SentMessage) (wide : ℕ) (start : Traffic) (first : EndLog)
    → IsComing values message wide start before old first
    → (after : EndLog) × (came : List Handed)
    × ShownSo names_file was_whole values message wide start now new first after came written
    written_now result

-- A response that is whole was printed: its head, the octets of the body, and its trailers.
-- rule: engines (own) get -o and --stream write the body as it comes, in order
pub record ShowsWhole (words : GetWords) (id : ℕ) (before after : Option (List ℕ))
    (handed : List Handed) (fetched : Fetched) : Type 0 where
  pub came : List Handed
  pub rest : List Handed
  pub end : Bool
  pub trailers : Option (Vec Field Global)
  pub all : handed ≡ came ++ rest
  pub head : HeadCame id came (record { list = fetched.head; end = end })
  pub whole : IsWholeWith id end rest (fields_in_trailers trailers)
  pub printed : Option (List ℕ)
  pub first : PrintsHead words before printed fetched.head.items
  pub last : Appends printed after (body_shown words (body_handed rest)
      ++ trailers_shown words.include (fields_in_trailers trailers))

-- Of a response that the words make a failure its head was printed, and no more was asked for.
-- rule: engines (own) With --fail a status of 400 or above ends get with status 1
pub record ShowsFailure (words : GetWords) (id : ℕ) (before after : Option (List ℕ))
    (handed : List Handed) (fetched : Fetched) : Type 0 where
  pub end : Bool
  pub head : HeadCame id handed (record { list = fetched.head; end = end })
  pub first : PrintsHead words before after fetched.head.items

-- what is said of the response once it was printed as it came; of what was printed nothing, where
-- something could not be written
-- rule: engines (own) get -o and --stream write the body as it comes, in order
unfoldable pub StreamedSo : GetWords → (id : ℕ) → Values → SentMessage → (wide : ℕ)
    → (start now : Traffic) → PartFetch → EndLog → (before after : Option (List ℕ))
    → Result Fetched StreamError → Type 0
StreamedSo words id values message wide start now fetch end before after (Ok fetched) =
    IsComing values message wide start now fetch end
    × MatchBool (fails_as_asked words fetched)
    (ShowsFailure words id before after (handed_on id end.handed) fetched)
    (ShowsWhole words id before after (handed_on id end.handed) fetched)
StreamedSo words id values message wide start now fetch end before after
    (Err (streams.Link error)) =
    HasStopped values message wide start now fetch end error
    × ((shown lost : List Handed) × (handed_on id end.handed ≡ shown ++ lost)
    × (error ≢ errors.Memory → lost ≡ []) × ShowsSoFar words id before after shown)
StreamedSo words id values message wide start now fetch end before after (Err error) =
    IsComing values message wide start now fetch end

-- Whatever has happened at a client that fetches, of whose response nothing has come, that is
-- printed as it comes.
-- rule: engines (own) get -o and --stream write the body as it comes, in order
abbrev pub StreamsResponse : GetWords → (before now : Traffic) → (old new : PartFetch)
    → (written written_now : Option (List ℕ)) → Result Fetched StreamError → Type 0
StreamsResponse words before now old new written written_now result =
    (values : Values) (message : SentMessage) (wide : ℕ) (start : Traffic) (first : EndLog)
    → IsComing values message wide start before old first → handed_on old.id first.handed ≡ []
    → (end : EndLog)
    × StreamedSo words old.id values message wide start now new end written written_now result

-- This went over some link.
abbrev pub StreamsOver : GetWords → (old new : PartFetch) → (written written_now : Option (List ℕ))
    → Result Fetched StreamError → Type 0
StreamsOver words old new written written_now result =
    (before now : Traffic) × StreamsResponse words before now old new written written_now result

-- The request was made over a new connection with the window that the words ask for, and its
-- response was printed as it came, however that has ended; or no connection could be made, or the
-- request was not accepted, and nothing was printed.
-- rule: engines (own) get -o and --stream write the body as it comes, in order
-- rule: engines (own) get has the window of --window, for the connection and for each stream
pub data StreamsRequest (words : GetWords) (message : SentMessage)
    (before after : Option (List ℕ)) : Result Fetched StreamError → Type 0 where
  not_connected : (error : LinkError) → (error ≡ errors.Device) ⊎ (error ≡ errors.Memory)
      → after ≡ before → StreamsRequest words message before after (Err (streams.Link error))
  not_accepted : (error : LinkError)
      → IsNotAccepted (fetch_values (window_of words)) message (Err error) ⊎ IsNotWidened error
      → after ≡ before → StreamsRequest words message before after (Err (streams.Link error))
  is_streamed : (begun fetch : PartFetch) (result : Result Fetched StreamError)
      → BeginsWithWindow (window_of words) message begun
      → StreamsOver words begun fetch before after result
      → StreamsRequest words message before after result

-- the result, without a hint
abbrev pub without_stream_hint : Result Fetched StreamEnding → Result Fetched StreamError
without_stream_hint (Ok fetched) = Ok fetched
without_stream_hint (Err ending) = Err ending.error
