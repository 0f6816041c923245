-- What an end reports whoever uses it.
use Rattle.std.specs.Prelude.{ℕ, ◌+◌, ◌==◌, ◌&&◌, max, Bool, false, if◌then◌else◌, List, [], ◌∷◌}
use Rattle.hpack.specs.declared.types.field.Field.{Field}
use Rattle.h2_frame.specs.declared.code.Code.TheVariants.{EnhanceYourCalm}
use Rattle.h2_frame.specs.Codes.{code_number}

pub data Event : Type 0 where
  -- a field block of a stream, and whether it has END_STREAM
  FieldsEvent : (id : ℕ) (list : List Field) (end : Bool) → Event
  -- octets of a body, and whether they have END_STREAM; flow: what they took of the windows,
  -- padding included
  DataEvent : (id : ℕ) (octets : List ℕ) (flow : ℕ) (end : Bool) → Event
  -- a stream was closed with a code, by this end or by the peer
  ResetEvent : (id code : ℕ) (ours : Bool) → Event
  -- the peer takes no streams above this one
  GoAwayEvent : (last code : ℕ) → Event
  -- the peer hasn't processed this stream, and won't
  UnprocessedEvent : (id : ℕ) → Event
  -- own settings were applied by the peer
  AckedEvent : Event
  -- the peer answered a PING with these octets
  PongEvent : (octets : List ℕ) → Event

-- Whether the event names the stream as one that the peer hasn't processed.
unfoldable pub reports_unprocessed : ℕ → Event → Bool
reports_unprocessed i (UnprocessedEvent id) = id == i
reports_unprocessed i _ = false

-- the flow of a stream's octets that the event reports
unfoldable pub flow_on : ℕ → Event → ℕ
flow_on i (DataEvent id octets flow end) = if id == i then flow else 0
flow_on i _ = 0

-- 1 for the event that own settings were applied
unfoldable pub one_acked : Event → ℕ
one_acked AckedEvent = 1
one_acked _ = 0

-- 1 for the event that a PING was answered
unfoldable pub one_pong : Event → ℕ
one_pong (PongEvent octets) = 1
one_pong _ = 0

-- the sum of a number of each event
unfoldable pub reported_total : (Event → ℕ) → List Event → ℕ
reported_total f [] = 0
reported_total f (event ∷ events) = f event + reported_total f events

-- The number of a peer's stream that the event shows to be taken: its fields have come, or were too
-- large, which closed it with ENHANCE_YOUR_CALM. Otherwise 0. A stream that was refused is
-- reported closed with another code.
unfoldable pub processed_by : Event → ℕ
processed_by (FieldsEvent id list end) = id
processed_by (ResetEvent id code ours) =
    if ours && code == code_number EnhanceYourCalm then id else 0
processed_by _ = 0

-- the greatest of these numbers, or 0
unfoldable pub greatest_processed : List Event → ℕ
greatest_processed [] = 0
greatest_processed (event ∷ events) = max (processed_by event) (greatest_processed events)
