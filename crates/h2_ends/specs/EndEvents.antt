-- What an event of a client or a server hands out, whatever holds its fields and its octets.
use Rattle.std.specs.Prelude.{ℕ, List}
use Rattle.std.specs.Borrow.{Bor}
use Rattle.hpack.specs.declared.types.field.Field.{Field}
use Rattle.h2_wire.specs.declared.cut.Complete.{Complete}
use Rattle.h2_spec_log.specs.Events as log
use Rattle.h2_ends.specs.declared.event.EndEvent.{EndEvent}
use Rattle.h2_ends.specs.declared.event.EndEvent.TheVariants as events
use Rattle.h2_ends.specs.Ends.{Handed, InterimHanded, HeadHanded, BodyHanded, TrailersHanded}
use Rattle.h2_ends.specs.Ends.{Passed}

-- an event, with its fields by the first function and the octets of a body by the second
-- rule: 8.1 (own) What is handed out of a stream is what was reported, in order
abbrev pub end_event_value : {F B : Type 0} → (F → List Field) → (B → List ℕ) → EndEvent F B
    → Handed
end_event_value fields body (events.Interim id list) = InterimHanded id (fields list)
end_event_value fields body (events.Head id list end) = HeadHanded id (fields list) end
end_event_value fields body (events.Body id bytes end) = BodyHanded id (body bytes) end
end_event_value fields body (events.Trailers id list) = TrailersHanded id (fields list)
end_event_value fields body (events.Reset id code ours) = Passed (log.ResetEvent id code ours)
end_event_value fields body (events.Unprocessed id) = Passed (log.UnprocessedEvent id)
end_event_value fields body (events.GoAway last code) = Passed (log.GoAwayEvent last code)
end_event_value fields body events.Acked = Passed log.AckedEvent
end_event_value fields body (events.Pong octets) = Passed (log.PongEvent octets)

-- an event with this list in place of its own, and with these octets
abbrev pub end_event_with_parts : {F B G C : Type 0} → G → C → EndEvent F B → EndEvent G C
end_event_with_parts list bytes (events.Interim id other) = events.Interim id list
end_event_with_parts list bytes (events.Head id other end) = events.Head id list end
end_event_with_parts list bytes (events.Body id other end) = events.Body id bytes end
end_event_with_parts list bytes (events.Trailers id other) = events.Trailers id list
end_event_with_parts list bytes (events.Reset id code ours) = events.Reset id code ours
end_event_with_parts list bytes (events.Unprocessed id) = events.Unprocessed id
end_event_with_parts list bytes (events.GoAway last code) = events.GoAway last code
end_event_with_parts list bytes events.Acked = events.Acked
end_event_with_parts list bytes (events.Pong octets) = events.Pong octets

-- what a call of `take` hands out: its fields and octets are lent
abbrev pub LentPart : Type 0
LentPart = EndEvent (Bor (List Field)) (Bor (List ℕ))

-- what is handed out before it is lent: the fields are kept, and the octets of a body lie in that
-- frame
abbrev pub LocatedPart : Type 0
LocatedPart = EndEvent Unit Complete
