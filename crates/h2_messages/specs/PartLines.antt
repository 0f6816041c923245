-- The lines that `h2 replay --messages` prints of what a client or a server hands out.
use Rattle.std.specs.Prelude.{ℕ, true, false, List, [], ◌++◌, length, codes, decimal, Option, Some}
use Rattle.std.specs.Prelude.{None}
use Rattle.h2_spec_log.specs.Events.{Event, FieldsEvent, DataEvent, ResetEvent}
use Rattle.h2_conn.specs.Counts.{last_flow}
use Rattle.h2_ends.specs.Ends.{EndLog, Handed, InterimHanded, HeadHanded, BodyHanded}
use Rattle.h2_ends.specs.Ends.{TrailersHanded, Passed}
use Rattle.h2_events.specs.EventLines.{event_lines, end_word}
use Rattle.h2_messages.specs.declared.parts.Unwritten.{Unwritten}
use Rattle.h2_messages.specs.declared.parts.Unwritten.TheVariants as unwritten
use Rattle.h2_messages.specs.Rules.{refused_in, refusal_lines}

-- What is handed out, as the event that the connection reports of it. A head, that of an interim
-- response and trailers are field blocks; trailers end their message. `flow` is how many octets of
-- the windows a body took.
-- rule: messages (own) What is handed out has the line that replay prints of it
abbrev pub event_of_part : (flow : ℕ) → Handed → Event
event_of_part flow (InterimHanded id list) = FieldsEvent id list false
event_of_part flow (HeadHanded id list end) = FieldsEvent id list end
event_of_part flow (BodyHanded id octets end) = DataEvent id octets flow end
event_of_part flow (TrailersHanded id list) = FieldsEvent id list true
event_of_part flow (Passed event) = event

-- the lines of what a call hands out, if it does
-- rule: messages (own) What is handed out has the line that replay prints of it
abbrev pub handed_lines : (flow : ℕ) → Option Handed → List ℕ
handed_lines flow None = []
handed_lines flow (Some handed) = event_lines (event_of_part flow handed)

-- The lines of a call of `take`, by what has happened before it and after it: that of a part that
-- it has refused, if it has, and those of what it hands out.
-- rule: messages (own) What is handed out has the line that replay prints of it
-- rule: messages (own) A part that is refused has a line with its stream and its rule
abbrev pub call_lines : (before after : EndLog) → Option Handed → List ℕ
call_lines before after handed =
    refusal_lines (refused_in before.malformed after.malformed)
    ++ handed_lines (last_flow after.log.frames) handed

-- The same lines in two parts: what is written while the fields are lent; and what is not, since a
-- body's octets of the windows are asked for afterwards, and a reset stands after its cause.
abbrev pub lent_lines : Option Handed → List ℕ
lent_lines None = []
lent_lines (Some (BodyHanded id octets end)) = []
lent_lines (Some (Passed (ResetEvent id code ours))) = []
lent_lines (Some handed) = event_lines (event_of_part 0 handed)

-- what is unwritten of what is handed out
abbrev pub unwritten_of : Option Handed → Unwritten
unwritten_of None = unwritten.Nothing
unwritten_of (Some (BodyHanded id octets end)) = unwritten.Body id (length octets) end
unwritten_of (Some (Passed (ResetEvent id code ours))) = unwritten.Reset id code ours
unwritten_of (Some handed) = unwritten.Written

-- its line
abbrev pub unwritten_lines : (flow : ℕ) → Unwritten → List ℕ
unwritten_lines flow unwritten.Nothing = []
unwritten_lines flow unwritten.Written = []
unwritten_lines flow (unwritten.Body id count end) =
    codes "data " ++ decimal id ++ codes " octets=" ++ decimal count ++ codes " flow="
    ++ decimal flow ++ end_word end ++ codes "\n"
unwritten_lines flow (unwritten.Reset id code ours) = event_lines (ResetEvent id code ours)
