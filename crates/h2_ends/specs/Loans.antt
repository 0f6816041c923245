-- What is handed out, before it is lent, and where the octets of a body lie.
use Rattle.std.specs.Prelude.{◌≡◌, ℕ, Bool, List, Option, Some, Result, Ok, Err, IsSome}
use Rattle.std.specs.Prelude.{option_map}
use Rattle.hpack.specs.declared.types.field.Field.{Field}
use Rattle.h2_wire.specs.Cutter.{body_at}
use Rattle.h2_conn.specs.declared.taken.ConnFault.{ConnFault}
use Rattle.h2_message.specs.declared.reading.Place.{Place}
use Rattle.h2_message.specs.declared.reading.Place.TheVariants as places
use Rattle.h2_ends.specs.declared.end.End.{End}
use Rattle.h2_ends.specs.declared.taking.EndProgress.{EndProgress}
use Rattle.h2_ends.specs.declared.event.EndEvent.TheVariants as events
use Rattle.h2_ends.specs.declared.event.EndTaken.{EndTaken}
use Rattle.h2_ends.specs.Ends.{Handed, EndAnswer, EndTook, EndFailed}
use Rattle.h2_ends.specs.EndEvents.{end_event_value, LentPart, LocatedPart}

-- a part of a message at this place, whose fields are kept
abbrev pub located_at : Place → ℕ → (end : Bool) → LocatedPart
located_at places.Interim id end = events.Interim id tt
located_at places.Head id end = events.Head id tt end
located_at places.Trailers id end = events.Trailers id tt

-- what is handed out, with the fields that are kept and the octets of the body
abbrev pub handed_value : List Field → List ℕ → LocatedPart → Handed
handed_value list octets handed = end_event_value (λ _. list) (λ _. octets) handed

-- what a call answers before anything is lent
abbrev pub answer_handed : List Field → List ℕ → Result EndProgress ConnFault → EndAnswer
answer_handed list octets (Ok progress) =
    EndTook progress.used (option_map (handed_value list octets) progress.handed)
answer_handed list octets (Err fault) = EndFailed fault.code

-- an event, without where its fields and octets lie
abbrev pub event_handed : LentPart → Handed
event_handed event = end_event_value (λ fields. fields.now) (λ octets. octets.now) event

-- what a call answers
abbrev pub answer_of_taken : Result EndTaken ConnFault → EndAnswer
answer_of_taken (Ok taken) = EndTook taken.used (option_map event_handed taken.event)
answer_of_taken (Err fault) = EndFailed fault.code

-- The octets of a body that is handed out lie in the connection or the piece.
unfoldable pub BodyLiesIn : End → List ℕ → Option LocatedPart → Type 0
BodyLiesIn end piece (Some (events.Body id frame ends)) =
    IsSome (body_at end.conn.cutter piece frame)
BodyLiesIn end piece _ = Unit {0}

unfoldable pub BodyLiesThere : End → List ℕ → Result EndProgress ConnFault → Type 0
BodyLiesThere end piece (Ok progress) = BodyLiesIn end piece progress.handed
BodyLiesThere end piece (Err fault) = Unit {0}

-- The octets of a body that is handed out are those that lie there.
unfoldable pub IsBodyIn : End → List ℕ → List ℕ → Option LocatedPart → Type 0
IsBodyIn end piece octets (Some (events.Body id frame ends)) =
    body_at end.conn.cutter piece frame ≡ Some octets
IsBodyIn end piece octets _ = Unit {0}

unfoldable pub IsBodyHanded : End → List ℕ → List ℕ → Result EndProgress ConnFault → Type 0
IsBodyHanded end piece octets (Ok progress) = IsBodyIn end piece octets progress.handed
IsBodyHanded end piece octets (Err fault) = Unit {0}
