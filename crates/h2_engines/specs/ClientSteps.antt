-- What the steps of a client over a link do: the calls of its end, and what goes over the link.
use Rattle.std.specs.Prelude.{◌≡◌, ◌⊎◌, ℕ, Bool, true, false, List, []}
use Rattle.std.specs.Prelude.{◌∷◌, ◌++◌, length}
use Rattle.std.specs.Prelude.{map as each, option_map, Option, Some, None}
use Rattle.std.specs.Prelude.{Result, Ok, Err}
use Rattle.hpack.specs.declared.types.field.Field.{Field}
use Rattle.h2_spec_log.specs.declared.role.Role.TheVariants.{Client}
use Rattle.h2_spec_log.specs.Acts.{Values}
use Rattle.h2_spec_log.specs.Events.{ResetEvent, UnprocessedEvent}
use Rattle.h2_message.specs.Messages.{SentMessage}
use Rattle.h2_ends.specs.declared.end.End.{End}
use Rattle.h2_ends.specs.Ends.{EndLog, Handed, EndAnswer, EndTook, EndFailed, Passed}
use Rattle.h2_ends.specs.Ends.{InterimHanded, HeadHanded, BodyHanded, TrailersHanded, part_on}
use Rattle.h2_ends.specs.Ends.{parts_on}
use Rattle.h2_ends.specs.EndTakes.{EndMayTake}
use Rattle.h2_ends.specs.EndCalls.{MayRequest}
use Rattle.h2_ends.specs.Represents.{EndRepresents, new_end_log}
use Rattle.h2_link.specs.declared.error.LinkError.{LinkError}
use Rattle.h2_link.specs.declared.error.LinkError.TheVariants as errors
use Rattle.h2_engines.specs.declared.fetcher.Coming.{Coming}
use Rattle.h2_engines.specs.declared.fetcher.Fetched.{Fetched}
use Rattle.h2_engines.specs.declared.fetcher.Fetcher.{Fetcher}
use Rattle.h2_engines.specs.declared.machine.Heard.{Heard}
use Rattle.h2_engines.specs.declared.request.Next.{Next}
use Rattle.h2_engines.specs.declared.request.Next.TheVariants as nexts
use Rattle.h2_engines.specs.Fetches.{refused_stream}
use Rattle.h2_engines.specs.PartialMessages.{HasCome, IsWhole}
use Rattle.h2_engines.specs.ServerSteps.{error_with}

-- what is kept of the response after a call of `take`
unfoldable pub KeepsResponse : EndLog → ℕ → Coming → Next → Type 0
KeepsResponse end id coming nexts.Whole = IsWhole coming (parts_on id end.handed)
KeepsResponse end id coming (nexts.Answer stream request) = ⊥
KeepsResponse end id coming (nexts.Reset stream) = ⊥
KeepsResponse end id coming next = HasCome coming (parts_on id end.handed)

-- The stream of the fetch was reset, or its request was not processed.
abbrev pub DropsStream : Handed → ℕ → Type 0
DropsStream handed id =
    ((code : ℕ) × (ours : Bool) × (handed ≡ Passed (ResetEvent id code ours)))
    ⊎ (handed ≡ Passed (UnprocessedEvent id))

-- why a call of `take` ends the fetch: it has failed; there was no memory to keep what was handed
-- out, which doesn't end the stream; or it ends that
unfoldable pub ErrsFetching : EndAnswer → ℕ → LinkError → Type 0
ErrsFetching (EndFailed code) id error = error ≡ error_with code
ErrsFetching (EndTook count None) id error = ⊥
ErrsFetching (EndTook count (Some handed)) id error =
    ((error ≡ errors.Memory) × (DropsStream handed id → ⊥))
    ⊎ (((code : ℕ) × (ours : Bool) × (handed ≡ Passed (ResetEvent id code ours))
    × (error ≡ errors.Reset code))
    ⊎ ((handed ≡ Passed (UnprocessedEvent id)) × (error ≡ errors.Reset refused_stream)))

-- what a call of `take` has made of a piece
unfoldable pub FetchedSo : EndLog → (piece : List ℕ) → EndLog → ℕ → Coming → Result Heard LinkError
    → Type 0
FetchedSo end piece after id coming (Ok heard) =
    (handed : Option Handed) × EndMayTake end piece (EndTook heard.used handed) after
    × KeepsResponse after id coming heard.next
    × (heard.next ≡ nexts.Done → heard.used ≡ length piece)
FetchedSo end piece after id coming (Err error) =
    (answer : EndAnswer) × EndMayTake end piece answer after × ErrsFetching answer id error

abbrev pub ClientHears : (old_end new_end : End) → ℕ → (old new : Coming) → List ℕ
    → Result Heard LinkError → Type 0
ClientHears old_end new_end id old new piece result =
    (values : Values) (end : EndLog) → EndRepresents values old_end end
    → end.log.role ≡ Client → HasCome old (parts_on id end.handed)
    → (after : EndLog) × EndRepresents values new_end after
    × FetchedSo end piece after id new result

-- What was handed out is kept, where it is a part of the response; and whether it ends that.
pub data NotesPart (id : ℕ) (old new : Coming) : Handed → Bool → Type 0 where
  notes_interim : (list : List Field)
      → each (λ one. one.items) new.interims.items
      ≡ each (λ one. one.items) old.interims.items ++ list ∷ []
      → new.head ≡ old.head → new.body ≡ old.body → new.trailers ≡ old.trailers
      → NotesPart id old new (InterimHanded id list) false
  notes_head : (list : List Field) (end : Bool)
      → option_map (λ one. one.items) new.head ≡ Some list → new.interims ≡ old.interims
      → new.body.items ≡ [] → new.trailers ≡ old.trailers
      → NotesPart id old new (HeadHanded id list end) end
  notes_body : (octets : List ℕ) (end : Bool) → new.body.items ≡ old.body.items ++ octets
      → new.interims ≡ old.interims → new.head ≡ old.head → new.trailers ≡ old.trailers
      → NotesPart id old new (BodyHanded id octets end) end
  notes_trailers : (list : List Field)
      → option_map (λ one. one.items) new.trailers ≡ Some list → new.interims ≡ old.interims
      → new.head ≡ old.head → new.body ≡ old.body
      → NotesPart id old new (TrailersHanded id list) true
  notes_nothing : (handed : Handed) → part_on id handed ≡ [] → new ≡ old
      → NotesPart id old new handed false

-- A new client has made its request.
pub record HasRequested (values : Values) (message : SentMessage) (fetcher : Fetcher) : Type 0 where
  pub end : EndLog
  pub requested : MayRequest (new_end_log Client values) message (Ok fetcher.id) end
  pub represents : EndRepresents values fetcher.client.end end
  pub none_come : fetcher.coming.head ≡ None
  pub no_body : fetcher.coming.body.items ≡ []
  pub no_interims : fetcher.coming.interims.items ≡ []
  pub no_trailers : fetcher.coming.trailers ≡ None

-- The response is what has come.
pub record IsFetchedOf (coming : Coming) (fetched : Fetched) : Type 0 where
  pub interims : coming.interims ≡ fetched.interims
  pub head : coming.head ≡ Some fetched.head
  pub body : coming.body ≡ fetched.body
  pub trailers : coming.trailers ≡ fetched.trailers
