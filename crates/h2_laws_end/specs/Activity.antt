-- Calls and answers that may open or close a stream (RFC 9113, section 5.1).
use Rattle.std.specs.Prelude.{ℕ, ◌==◌, ◌&&◌, Bool, false, length, Some}
use Rattle.h2_spec_log.specs.Acts.{Act, Answer, SendFields, SendData, ResetStream, Refuse, Count}
use Rattle.h2_spec_log.specs.Acts.{Done}
use Rattle.h2_spec_log.specs.Events.{Event, FieldsEvent, DataEvent, ResetEvent, UnprocessedEvent}
use Rattle.h2_laws_end.specs.Takes.{TakeAnswer, Took}

-- Whether a call, with its answer, may close a stream: it ends this side of it, or resets it.
-- rule (law): 5.1 A stream becomes active, and ceases to be, by calls and events alone
unfoldable pub call_may_close : ℕ → Act → Answer → Bool
call_may_close i (SendFields id fields end) Done = id == i && end
call_may_close i (SendData id octets end) (Count count) =
    id == i && (end && count == length octets)
call_may_close i (ResetStream id code) Done = id == i
call_may_close i (Refuse id code) Done = id == i
call_may_close i act answer = false

-- Whether what a call of `take` answers may say that a stream is closed: the peer has ended its
-- side, or one end has reset it, or the peer won't process it.
unfoldable pub event_may_close : ℕ → Event → Bool
event_may_close i (FieldsEvent id list end) = id == i && end
event_may_close i (DataEvent id octets flow end) = id == i && end
event_may_close i (ResetEvent id code ours) = id == i
event_may_close i (UnprocessedEvent id) = id == i
event_may_close i event = false

-- rule (law): 5.1 A stream becomes active, and ceases to be, by calls and events alone
unfoldable pub take_may_close : ℕ → TakeAnswer → Bool
take_may_close i (Took count (Some event)) = event_may_close i event
take_may_close i answer = false

-- Whether it reports a field block of the stream.
-- rule (law): 5.1 A stream becomes active, and ceases to be, by calls and events alone
unfoldable pub take_has_fields : ℕ → TakeAnswer → Bool
take_has_fields i (Took count (Some (FieldsEvent id list end))) = id == i
take_has_fields i answer = false

-- Whether it reports octets of the stream.
-- rule (law): 6.9 Where nothing is owed nothing is, until octets are reported
unfoldable pub take_has_data : ℕ → TakeAnswer → Bool
take_has_data i (Took count (Some (DataEvent id octets flow end))) = id == i
take_has_data i answer = false
