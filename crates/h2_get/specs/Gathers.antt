-- A response that is kept until it is whole.
use Rattle.std.specs.Prelude.{◌≡◌, ◌⊎◌, ℕ, Bool, List, [], ◌++◌, Option, Result, Ok, Err, Vec}
use Rattle.std.specs.Global.{Global}
use Rattle.hpack.specs.declared.types.field.Field.{Field}
use Rattle.h2_spec_log.specs.Acts.{Values}
use Rattle.h2_message.specs.Messages.{SentMessage}
use Rattle.h2_ends.specs.Ends.{EndLog, Handed}
use Rattle.h2_link.specs.declared.error.LinkError.{LinkError}
use Rattle.h2_link.specs.declared.error.LinkError.TheVariants as errors
use Rattle.h2_engines.specs.Fetches.{IsNotAccepted}
use Rattle.h2_engines.specs.Linked.{Traffic}
use Rattle.h2_engines.specs.declared.fetcher.Fetched.{Fetched}
use Rattle.h2_fetch.specs.declared.fetch.PartFetch.{PartFetch}
use Rattle.h2_fetch.specs.Comings.{HasStopped, IsComing}
use Rattle.h2_fetch.specs.Parts.{handed_on}
use Rattle.h2_args.specs.Words.{GetWords}
use Rattle.h2_get.specs.Receives.{HeadCame, body_handed, fields_in_trailers}
use Rattle.h2_get.specs.Streams.{IsWholeWith}
use Rattle.h2_get.specs.Windows.{BeginsWithWindow, IsNotWidened, fetch_values, window_of}

-- The response is all that was handed out: a head, after interim ones that are dropped, then the
-- octets of the body, in order, and the trailers.
-- rule: engines (own) get without -o and --stream prints a response once it is whole
pub record IsWholeResponse (id : ℕ) (handed : List Handed) (fetched : Fetched) : Type 0 where
  pub came : List Handed
  pub rest : List Handed
  pub end : Bool
  pub all : handed ≡ came ++ rest
  pub head : HeadCame id came (record { list = fetched.head; end = end })
  pub whole : IsWholeWith id end rest (fields_in_trailers fetched.trailers)
  pub body : fetched.body.items ≡ body_handed rest
  pub none : fetched.interims.items ≡ []

-- what a fetch has come to: a whole response; or it has ended early, or there is no memory for the
-- body
-- rule: engines (own) get without -o and --stream prints a response once it is whole
unfoldable pub GatheredSo : Values → SentMessage → (wide : ℕ) → (start now : Traffic) → PartFetch
    → EndLog → Result Fetched LinkError → Type 0
GatheredSo values message wide start now fetch end (Ok fetched) =
    IsComing values message wide start now fetch end
    × IsWholeResponse fetch.id (handed_on fetch.id end.handed) fetched
GatheredSo values message wide start now fetch end (Err error) =
    HasStopped values message wide start now fetch end error
    ⊎ ((error ≡ errors.Memory) × IsComing values message wide start now fetch end)

-- What was gathered of the rest of a response after its head: all of it; or the fetch has ended
-- early, or there is no memory for the body.
-- rule: engines (own) get without -o and --stream prints a response once it is whole
unfoldable pub GatheredRest : (was_whole : Bool) → Values → SentMessage → (wide : ℕ)
    → (start now : Traffic) → PartFetch → (before after : EndLog) → (came : List Handed)
    → (body body_now : List ℕ) → Result (Option (Vec Field Global)) LinkError → Type 0
GatheredRest was_whole values message wide start now fetch before after came body body_now
    (Ok trailers) =
    IsComing values message wide start now fetch after
    × (handed_on fetch.id after.handed ≡ handed_on fetch.id before.handed ++ came)
    × IsWholeWith fetch.id was_whole came (fields_in_trailers trailers)
    × (body_now ≡ body ++ body_handed came)
GatheredRest was_whole values message wide start now fetch before after came body body_now
    (Err error) =
    HasStopped values message wide start now fetch after error
    ⊎ ((error ≡ errors.Memory) × IsComing values message wide start now fetch after)

abbrev pub GathersRest : (was_whole : Bool) → (before now : Traffic) → (old new : PartFetch)
    → (body body_now : List ℕ) → Result (Option (Vec Field Global)) LinkError → Type 0
GathersRest was_whole before now old new body body_now result =
    (values : Values) (message : SentMessage) (wide : ℕ) (start : Traffic) (first : EndLog)
    → IsComing values message wide start before old first
    → (after : EndLog) × (came : List Handed)
    × GatheredRest was_whole values message wide start now new first after came body body_now result

-- Whatever has happened at a client that fetches, of whose response nothing has come, that is kept
-- until it is whole.
-- rule: engines (own) get without -o and --stream prints a response once it is whole
abbrev pub Gathers : (before now : Traffic) → (old new : PartFetch) → Result Fetched LinkError
    → Type 0
Gathers before now old new result =
    (values : Values) (message : SentMessage) (wide : ℕ) (start : Traffic) (first : EndLog)
    → IsComing values message wide start before old first → handed_on old.id first.handed ≡ []
    → (end : EndLog) × GatheredSo values message wide start now new end result

-- This went over some link.
abbrev pub GathersOver : (old new : PartFetch) → Result Fetched LinkError → Type 0
GathersOver old new result = (before now : Traffic) × Gathers before now old new result

-- The request was made over a new connection with the window that the words ask for, and its
-- response was kept until it was whole, however that has ended; or no connection could be made, or
-- the request was not accepted.
-- rule: engines (own) get without -o and --stream prints a response once it is whole
-- rule: engines (own) get has the window of --window, for the connection and for each stream
pub data GathersRequest (words : GetWords) (message : SentMessage)
    : Result Fetched LinkError → Type 0
  where
    not_connected : (error : LinkError) → (error ≡ errors.Device) ⊎ (error ≡ errors.Memory)
        → GathersRequest words message (Err error)
    not_accepted : (error : LinkError)
        → IsNotAccepted (fetch_values (window_of words)) message (Err error) ⊎ IsNotWidened error
        → GathersRequest words message (Err error)
    is_gathered : (begun fetch : PartFetch) (result : Result Fetched LinkError)
        → BeginsWithWindow (window_of words) message begun → GathersOver begun fetch result
        → GathersRequest words message result
