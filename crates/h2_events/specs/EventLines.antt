-- The lines of events that `h2 replay` prints, as octets.
use Rattle.std.specs.Prelude.{ℕ, Bool, true, false, List, ◌++◌, length, codes, decimal, flat_map}
use Rattle.hex.specs.Hex.{encode_lower}
use Rattle.h2_spec_log.specs.Events.{Event, FieldsEvent, DataEvent, ResetEvent, GoAwayEvent}
use Rattle.h2_spec_log.specs.Events.{UnprocessedEvent, AckedEvent, PongEvent}
use Rattle.h2_show.specs.Lines.{field_line, flag_word}

-- a space and the word of END_STREAM, where it is set (RFC 9113, section 6.1)
-- rule: replay (own) The line of an event has its type, stream and more
abbrev pub end_word : Bool → List ℕ
end_word end = flag_word end (codes "end")

-- which end has reset a stream: the one that prints, or its peer
-- rule: replay (own) The line of an event has its type, stream and more
abbrev pub whose_word : (ours : Bool) → List ℕ
whose_word true = codes "ours"
whose_word false = codes "theirs"

-- the line of an event, and those of its fields; the words are divided by one space, and numbers
-- are decimal, but the octets of a PING
-- rule: replay (own) The line of an event has its type, stream and more
unfoldable pub event_lines : Event → List ℕ
event_lines (FieldsEvent id list end) =
    codes "fields " ++ decimal id ++ end_word end ++ codes "\n" ++ flat_map field_line list
event_lines (DataEvent id octets flow end) =
    codes "data " ++ decimal id ++ codes " octets=" ++ decimal (length octets) ++ codes " flow="
    ++ decimal flow ++ end_word end ++ codes "\n"
event_lines (ResetEvent id code ours) =
    codes "reset " ++ decimal id ++ codes " code=" ++ decimal code ++ codes " " ++ whose_word ours
    ++ codes "\n"
event_lines (GoAwayEvent last code) =
    codes "goaway last=" ++ decimal last ++ codes " code=" ++ decimal code ++ codes "\n"
event_lines (UnprocessedEvent id) = codes "unprocessed " ++ decimal id ++ codes "\n"
event_lines AckedEvent = codes "acked\n"
event_lines (PongEvent octets) = codes "pong " ++ encode_lower octets ++ codes "\n"
