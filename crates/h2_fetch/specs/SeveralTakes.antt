-- What a call of `take` has made of a client that makes several requests.
use Rattle.std.specs.Prelude.{◌≡◌, ◌⊎◌, ◌==◌, ℕ, Bool, true, false, List, length, Option}
use Rattle.std.specs.Prelude.{Some, None, Result, if◌then◌else◌}
use Rattle.std.specs.Prelude.{Ok, Err}
use Rattle.h2_spec_log.specs.Acts.{Values}
use Rattle.h2_spec_log.specs.Events.{ResetEvent, UnprocessedEvent}
use Rattle.h2_ends.specs.declared.end.End.{End}
use Rattle.h2_ends.specs.Ends.{EndLog, Handed, EndAnswer, EndTook, Passed, InterimHanded}
use Rattle.h2_ends.specs.Ends.{HeadHanded, BodyHanded, TrailersHanded}
use Rattle.h2_ends.specs.EndTakes.{EndMayTake}
use Rattle.h2_ends.specs.Represents.{EndRepresents}
use Rattle.h2_link.specs.declared.error.LinkError.{LinkError}
use Rattle.h2_engines.specs.Fetches.{refused_stream}
use Rattle.h2_engines.specs.ServerSteps.{ErrsServing}
use Rattle.h2_fetch.specs.declared.coming.CameNext.{CameNext}
use Rattle.h2_fetch.specs.declared.coming.CameNext.TheVariants as nexts
use Rattle.h2_fetch.specs.declared.coming.CameTaken.{CameTaken}
use Rattle.h2_fetch.specs.declared.part.ResponsePart.TheVariants as parts
use Rattle.h2_fetch.specs.declared.connection.Came.{Came}
use Rattle.h2_fetch.specs.declared.connection.Came.TheVariants.{Part, Dropped}
use Rattle.h2_fetch.specs.Parts.{handed_of}

-- the stream of what was handed out, where that is a part of a final response, or no more comes on
-- it
abbrev pub stream_of_handed : Handed → Option ℕ
stream_of_handed (InterimHanded id list) = None
stream_of_handed (HeadHanded id list end) = Some id
stream_of_handed (BodyHanded id octets end) = Some id
stream_of_handed (TrailersHanded id list) = Some id
stream_of_handed (Passed (ResetEvent id code ours)) = Some id
stream_of_handed (Passed (UnprocessedEvent id)) = Some id
stream_of_handed (Passed event) = None

-- This was handed out: the part of a response, or that its stream was dropped.
abbrev pub IsAsCame : ℕ → Came → Handed → Type 0
IsAsCame id (Part part) handed = handed ≡ handed_of id part
IsAsCame id (Dropped code) handed =
    ((ours : Bool) × (handed ≡ Passed (ResetEvent id code ours)))
    ⊎ ((code ≡ refused_stream) × (handed ≡ Passed (UnprocessedEvent id)))

-- What was handed out has come on a stream, or on none.
abbrev pub HandsCame : Option Handed → CameNext → Type 0
HandsCame None (nexts.On id came) = ⊥
HandsCame None next = Unit {0}
HandsCame (Some handed) (nexts.On id came) = IsAsCame id came handed
HandsCame (Some handed) next = stream_of_handed handed ≡ None

-- whether what has come says nothing: an interim response, or a part of a body without octets that
-- ends nothing; no window bounds how many of them come
abbrev pub says_nothing : CameNext → Bool
says_nothing (nexts.On id (Part (parts.Interim list))) = true
says_nothing (nexts.On id (Part (parts.Body octets false))) = length octets.items == 0
says_nothing next = false

-- what comes of octets, but for what says nothing, which is dropped
abbrev pub without_empty : CameNext → CameNext
without_empty next = if says_nothing next then nexts.Again else next

-- what came of the octets that were handed to it: something on a stream, nothing with some octets
-- left, or nothing and all of them used
unfoldable pub TakesCameSo : EndLog → (piece : List ℕ) → EndLog → Result CameTaken LinkError
    → Type 0
TakesCameSo end piece after (Ok taken) =
    (handed : Option Handed) × EndMayTake end piece (EndTook taken.used handed) after
    × HandsCame handed taken.next × (taken.next ≡ nexts.Done → taken.used ≡ length piece)
TakesCameSo end piece after (Err error) =
    (answer : EndAnswer) × EndMayTake end piece answer after × ErrsServing answer error

-- Whatever has happened at the client, octets were handed to `take` once.
abbrev pub TakesCameOnce : (old new : End) → (piece : List ℕ) → Result CameTaken LinkError → Type 0
TakesCameOnce old new piece result =
    (values : Values) (end : EndLog) → EndRepresents values old end
    → (after : EndLog) × EndRepresents values new after × TakesCameSo end piece after result
