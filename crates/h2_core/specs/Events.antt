-- What an event says in a log, whatever holds its fields and its octets.
use Rattle.std.specs.Prelude.{ℕ, List}
use Rattle.std.specs.Borrow.{Bor}
use Rattle.hpack.specs.declared.types.field.Field.{Field}
use Rattle.h2_spec_log.specs.Events as log
use Rattle.h2_core.specs.declared.event.Event.{Event}
use Rattle.h2_core.specs.declared.event.Event.TheVariants as events

-- an event, with its fields by the first function and the octets of a body by the second
-- rule: calls (own) An event has the octets, the fields and the numbers of its frame
abbrev pub event_value : {F B : Type 0} → (F → List Field) → (B → List ℕ) → Event F B → log.Event
event_value fields body (events.Fields id list end) = log.FieldsEvent id (fields list) end
event_value fields body (events.Data id bytes flow end) = log.DataEvent id (body bytes) flow end
event_value fields body (events.Reset id code ours) = log.ResetEvent id code ours
event_value fields body (events.GoAway last code) = log.GoAwayEvent last code
event_value fields body (events.Unprocessed id) = log.UnprocessedEvent id
event_value fields body events.Acked = log.AckedEvent
event_value fields body (events.Pong octets) = log.PongEvent octets

-- an event with this list in place of its own, and with these octets
abbrev pub with_parts : {F B G C : Type 0} → G → C → Event F B → Event G C
with_parts list bytes (events.Fields id other end) = events.Fields id list end
with_parts list bytes (events.Data id other flow end) = events.Data id bytes flow end
with_parts list bytes (events.Reset id code ours) = events.Reset id code ours
with_parts list bytes (events.GoAway last code) = events.GoAway last code
with_parts list bytes (events.Unprocessed id) = events.Unprocessed id
with_parts list bytes events.Acked = events.Acked
with_parts list bytes (events.Pong octets) = events.Pong octets

-- what is reported of a frame: the end keeps the fields, and the octets are lent
abbrev pub FrameEvent : Type 0
FrameEvent = Event Unit (Bor (List ℕ))

-- such an event, with the fields of the list that the end keeps
abbrev pub event_of : List Field → FrameEvent → log.Event
event_of list event = event_value (λ _. list) (λ bytes. bytes.now) event
