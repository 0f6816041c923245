-- The body of a response that is written as it comes.
use Rattle.std.specs.Prelude.{◌≡◌, ◌<◌, ℕ, Bool, true, false, List, [], ◌∷◌, ◌++◌}
use Rattle.std.specs.Prelude.{◌==◌, if◌then◌else◌, length, take, option_map, Option, Some, None}
use Rattle.std.specs.Prelude.{Result, Ok, Err}
use Rattle.std.specs.List.{AllByRecursion}
use Rattle.std.specs.Io.KnownBytes.{Appends}
use Rattle.std.specs.Prelude.{Vec}
use Rattle.std.specs.Global.{Global}
use Rattle.hpack.specs.declared.types.field.Field.{Field}
use Rattle.h2_spec_log.specs.Acts.{Values}
use Rattle.h2_spec_log.specs.Events.{Event, DataEvent}
use Rattle.h2_message.specs.Messages.{SentMessage}
use Rattle.h2_ends.specs.Ends.{EndLog, Handed, HeadHanded, BodyHanded}
use Rattle.h2_ends.specs.Ends.{TrailersHanded}
use Rattle.h2_link.specs.declared.error.LinkError.{LinkError}
use Rattle.h2_engines.specs.Failures.{failures_by}
use Rattle.h2_engines.specs.Linked.{Traffic}
use Rattle.h2_fetch.specs.declared.fetch.PartFetch.{PartFetch}
use Rattle.h2_fetch.specs.Comings.{HandsSince, HasStopped, IsComing}
use Rattle.h2_fetch.specs.Parts.{handed_on}
use Rattle.h2_fetch.specs.declared.part.ResponsePart.{ResponsePart}
use Rattle.h2_fetch.specs.declared.part.ResponsePart.TheVariants as parts
use Rattle.h2_get.specs.declared.pass_error.LastPart.{LastPart}
use Rattle.h2_get.specs.declared.pass_error.PassError.{PassError}
use Rattle.h2_get.specs.declared.pass_error.PassError.TheVariants as passes
use Rattle.h2_get.specs.declared.pass_error.ResponseHead.{ResponseHead}
use Rattle.h2_get.specs.declared.pass_error.Passed.{Passed}
use Rattle.h2_get.specs.declared.pass_error.Passed.TheVariants.{GoesOn, Whole}

-- the octets of a body among what was handed out, in order
-- rule: engines (own) get -o and --stream write the body as it comes, in order
unfoldable pub body_handed : List Handed → List ℕ
body_handed [] = []
body_handed (BodyHanded id octets end ∷ handed) = octets ++ body_handed handed
body_handed (one ∷ handed) = body_handed handed

-- the octets of DATA that a connection has reported of a stream, in order; the newest event stands
-- first
-- rule: engines (own) get -o and --stream write the body as it comes, in order
unfoldable pub octets_reported : ℕ → List Event → List ℕ
octets_reported i [] = []
octets_reported i (DataEvent id octets flow end ∷ events) =
    octets_reported i events ++ (if id == i then octets else [])
octets_reported i (event ∷ events) = octets_reported i events

-- What was handed out of a body on a stream is a prefix of what the connection has reported of it.
-- rule: engines (own) get -o and --stream write the body as it comes, in order
abbrev pub HandsBody : EndLog → ℕ → Type 0
HandsBody end id = (rest : List ℕ)
    × (octets_reported id end.log.reported ≡ body_handed (handed_on id end.handed) ++ rest)

-- whether something that was handed out is a head that isn't interim
abbrev pub is_head : Handed → Bool
is_head (HeadHanded id list end) = true
is_head one = false

-- None of these parts is such a head.
abbrev pub HasNoHead : List Handed → Type 0
HasNoHead came = AllByRecursion (λ one. is_head one ≡ false) came

-- The head of a response was handed out after these parts, none of which is one.
-- rule: engines (own) get -o and --stream write the body as it comes, in order
pub record HeadCame (id : ℕ) (came : List Handed) (head : ResponseHead) : Type 0 where
  pub first : List Handed
  pub none : HasNoHead first
  pub last : came ≡ first ++ HeadHanded id head.list.items head.end ∷ []

-- the head, if a part is one that isn't interim
-- rule: engines (own) get -o and --stream write the body as it comes, in order
abbrev pub head_in : ResponsePart → Option ResponseHead
head_in (parts.Head list end) = Some (record { list = list; end = end })
head_in part = None

-- The head that comes next was answered, or the fetch has ended early.
-- rule: engines (own) get -o and --stream write the body as it comes, in order
unfoldable pub HeadComesSo : Values → SentMessage → (wide : ℕ) → (start now : Traffic) → PartFetch
    → (before after : EndLog) → (came : List Handed) → Result ResponseHead LinkError → Type 0
HeadComesSo values message wide start now fetch before after came (Ok head) =
    IsComing values message wide start now fetch after
    × (handed_on fetch.id after.handed ≡ handed_on fetch.id before.handed ++ came)
    × HeadCame fetch.id came head
HeadComesSo values message wide start now fetch before after came (Err error) =
    HasStopped values message wide start now fetch after error
    × HandsSince fetch.id before after came error × HasNoHead came

abbrev pub HeadComes : (before now : Traffic) → (old new : PartFetch)
    → Result ResponseHead LinkError → Type 0
HeadComes before now old new result =
    (values : Values) (message : SentMessage) (wide : ℕ) (start : Traffic) (end : EndLog)
    → IsComing values message wide start before old end
    → (after : EndLog) × (came : List Handed)
    × HeadComesSo values message wide start now new end after came result

-- the fields of trailers
abbrev pub fields_in_trailers : Option (Vec Field Global) → Option (List Field)
fields_in_trailers = option_map (λ list. list.items)

-- the octets of a part of a response that are its body's
-- rule: engines (own) get -o and --stream write the body as it comes, in order
abbrev pub body_of_part : ResponsePart → List ℕ
body_of_part (parts.Body octets end) = octets.items
body_of_part part = []

-- The part ends its response, with these trailers or none.
abbrev pub EndsResponse : ResponsePart → Option (List Field) → Type 0
EndsResponse (parts.Body octets end) trailers = (end ≡ true) × (trailers ≡ None)
EndsResponse (parts.Trailers list) trailers = trailers ≡ Some list.items
EndsResponse part trailers = ⊥

-- What was written of a part: all octets of the body, or only the first ones.
-- rule: engines (own) get -o and --stream write the body as it comes, in order
abbrev pub PassesPart : ResponsePart → (written written_now : Option (List ℕ))
    → Result Passed PassError → Type 0
PassesPart part written written_now (Ok GoesOn) = Appends written written_now (body_of_part part)
PassesPart part written written_now (Ok (Whole trailers)) =
    Appends written written_now (body_of_part part) × EndsResponse part
    (fields_in_trailers trailers)
PassesPart part written written_now (Err error) =
    (error ≡ passes.Output) × ((count : ℕ) × (count < length (body_of_part part))
    × Appends written written_now (take count (body_of_part part)))

-- how often the link has failed once a body was passed on
abbrev pub failures_after_pass : {A : Type 0} → ℕ → Result A PassError → ℕ
failures_after_pass failures (Err (passes.Link error)) = failures_by failures error
failures_after_pass failures result = failures

-- These parts end a response: octets of its body, the last, or trailers.
-- rule: engines (own) get -o and --stream write the body as it comes, in order
abbrev pub EndsBody : (id : ℕ) → (came : List Handed) → Option (List Field) → Type 0
EndsBody id came None =
    (first : List Handed) × (octets : List ℕ) × (came ≡ first ++ BodyHanded id octets true ∷ [])
EndsBody id came (Some list) =
    (first : List Handed) × (came ≡ first ++ TrailersHanded id list ∷ [])

-- What was written of the body that has come since: all of it, where the response is whole, and
-- where the fetch has ended early; or only its first octets, where a write has failed.
-- rule: engines (own) get -o and --stream write the body as it comes, in order
unfoldable pub PassedSo : Values → SentMessage → (wide : ℕ) → (start now : Traffic) → PartFetch
    → (before after : EndLog) → (came : List Handed) → (written written_now : Option (List ℕ))
    → Result (Option (Vec Field Global)) PassError → Type 0
PassedSo values message wide start now fetch before after came written written_now (Ok trailers) =
    IsComing values message wide start now fetch after
    × (handed_on fetch.id after.handed ≡ handed_on fetch.id before.handed ++ came)
    × EndsBody fetch.id came (fields_in_trailers trailers) × Appends written written_now
    (body_handed came)
PassedSo values message wide start now fetch before after came written written_now
    (Err (passes.Link error)) =
    HasStopped values message wide start now fetch after error
    × HandsSince fetch.id before after came error × Appends written written_now (body_handed came)
PassedSo values message wide start now fetch before after came written written_now
    (Err passes.Output) =
    IsComing values message wide start now fetch after
    × (handed_on fetch.id after.handed ≡ handed_on fetch.id before.handed ++ came)
    × ((count : ℕ) × (count < length (body_handed came))
    × Appends written written_now (take count (body_handed came)))

-- the trailers with which a body has ended, or why it has not
abbrev pub trailers_by : Result LastPart PassError → Result (Option (Vec Field Global)) PassError
trailers_by (Ok last) = Ok last.trailers
trailers_by (Err error) = Err error

-- Whatever has happened at a client that fetches, the body that comes next is written.
-- rule: engines (own) get -o and --stream write the body as it comes, in order
abbrev pub PassesBody : (before now : Traffic) → (old new : PartFetch)
    → (written written_now : Option (List ℕ)) → Result (Option (Vec Field Global)) PassError
    → Type 0
PassesBody before now old new written written_now result =
    (values : Values) (message : SentMessage) (wide : ℕ) (start : Traffic) (end : EndLog)
    → IsComing values message wide start before old end
    → (after : EndLog) × (came : List Handed)
    × PassedSo values message wide start now new end after came written written_now result
