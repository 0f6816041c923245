-- What follows from an item and its verdict: events, tables, and credit that nobody will release.
use Rattle.std.specs.Prelude.{ℕ, ◌==◌, min, Bool, true, false, if◌then◌else◌, List, [], ◌∷◌, length}
use Rattle.std.specs.Prelude.{Option, Some, None}
use Rattle.hpack.specs.declared.types.field.Field.{Field}
use Rattle.hpack.specs.Tables.{Entries}
use Rattle.hpack.specs.Lists.{EncoderState}
use Rattle.hpack.specs.Limits.{after_limit}
use Rattle.h2_frame.specs.Frames.{Data, Reset, Settings, Ping, GoAway}
use Rattle.h2_frame.specs.Encoding.{payload_of}
use Rattle.h2_block.specs.Grouping.{Item, alone, block}
use Rattle.h2_spec_log.specs.Items.{stream_of_item, data_of}
use Rattle.h2_spec_log.specs.Events.{Event, FieldsEvent, DataEvent, ResetEvent, GoAwayEvent}
use Rattle.h2_spec_log.specs.Events.{AckedEvent, PongEvent}
use Rattle.h2_spec_log.specs.View.{View}
use Rattle.h2_frame.specs.Codes.{code_number}
use Rattle.h2_spec_log.specs.Verdicts.{Verdict, ConnectionFault, StreamFault, NoEvent, Reported}
use Rattle.h2_spec_log.specs.ItemRules.{Decoded}

-- the fields of a block that decodes
abbrev pub decoded_fields : Option Decoded → List Field
decoded_fields None = []
decoded_fields (Some decoded) = decoded.fields

-- the least of a last stream and the one that was received before (RFC 9113, section 6.8: it
-- doesn't grow)
-- rule: 6.8 The last stream of GOAWAY never grows: the least so far is reported
abbrev pub least_last : ℕ → Option ℕ → ℕ
least_last last None = last
least_last last (Some before) = min last before

-- what is reported of an item with this verdict: at most one event
-- rule: 5.4.2 A stream error is answered by RST_STREAM with its code, and reported
-- rule: 6.2 A field block on an idle odd number opens the stream at a server
-- rule: 6.8 The last stream of GOAWAY never grows: the least so far is reported
unfoldable pub events_of : View → Option Decoded → Verdict → Item → List Event
events_of view decoded (ConnectionFault code) item = []
events_of view decoded (StreamFault code) item = ResetEvent (stream_of_item item)
    (code_number code) true ∷ []
events_of view decoded NoEvent item = []
events_of view decoded Reported (block stream end octets) = FieldsEvent stream
    (decoded_fields decoded) end ∷ []
events_of view decoded Reported (alone (Data stream end octets pad)) =
    DataEvent stream octets (length (payload_of (Data stream end octets pad))) end ∷ []
events_of view decoded Reported (alone (Reset stream code)) = ResetEvent stream code false ∷ []
events_of view decoded Reported (alone (Settings ack pairs)) = AckedEvent ∷ []
events_of view decoded Reported (alone (Ping ack octets)) = PongEvent octets ∷ []
events_of view decoded Reported (alone (GoAway last code debug)) = GoAwayEvent
    (least_last last view.goaway_received) code ∷ []
events_of view decoded Reported (alone frame) = []

-- octets of DATA that nobody will release: those on a stream that this end has closed, and those
-- after the peer's end
-- rule: 5.1 DATA on a stream that this end has reset counts for the connection
-- rule: 6.9 What a stream owes is returned when it is released or over
unfoldable pub discarded_flow : Verdict → Item → ℕ
discarded_flow (ConnectionFault code) item = 0
discarded_flow (StreamFault code) item = data_of item
discarded_flow NoEvent item = data_of item
discarded_flow Reported item = 0

-- the peer's table after an item
-- rule: 4.3 Each received block is decoded, also one that is ignored
abbrev pub table_after : Entries → Option Decoded → Item → Entries
table_after table decoded (alone frame) = table
table_after table None (block stream end octets) = table
table_after table (Some decoded) (block stream end octets) = decoded.after

-- the own encoder after SETTINGS: each value 1, in order, sets its limit, to 4,096 at most (own;
-- section 4.3.1)
-- rule: 4.3.1 The encoder follows each HEADER_TABLE_SIZE, up to 4,096 (own)
unfoldable pub encoder_after_settings : EncoderState → List (ℕ × ℕ) → EncoderState
encoder_after_settings encoder [] = encoder
encoder_after_settings encoder (pair ∷ pairs) =
    encoder_after_settings (if pair.0 == 1 then after_limit encoder (min pair.1 4096)
    else encoder) pairs

abbrev pub encoder_after_item : EncoderState → Item → EncoderState
encoder_after_item encoder (alone (Settings false pairs)) = encoder_after_settings encoder pairs
encoder_after_item encoder _ = encoder
