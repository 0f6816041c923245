-- How much a call of `take` hands out: a list whose size is above 65,536 is reset, and a body has
-- no more octets than its frame, of which some were kept and others are of the piece. This is a law
-- of logs; it stands here until a crate below has it.
use Rattle.h2_joined.proofs.Names
use Names.{suc, ◌+◌, ◌≤◌, ◌∷◌, sym, ap, ◌∙◌, Log, End, ◌≡◌, None, true, Option, Values, log_view}
use Names.{MayTake, EndTook, reads_on, parts_on, handed_as, refuses, [], ◌++◌, refl, Code, Item}
use Names.{Role, View, Part, Took, Fits, Bool, false, List, Some, fails, length, FieldsEvent}
use Names.{ResetEvent, FieldsPart, refusal_fails, EndRepresents, part_of_event, subst, arith, Field}
use Names.{alone, block, Event, IsLog, Place, Reads, EndLog, Handed, Passed, AllByRecursion}
use Names.{UnprocessedEvent, next_unprocessed, hands_nothing, runs_out_of_memory, ℕ, list_size}
use Names.{DataEvent, with_sent, OctetsPart, EndAnswer, EndMayTake, hands_out, handed_at}
use Rattle.std.proofs.lemmas.Bool.{ltb-false}
use Rattle.std.proofs.lemmas.List.{length-append}
use Rattle.std.proofs.Common.{if◌then◌else◌}
use Rattle.h2_frame.specs.Frames.{Frame, Data, Headers, Priority, Reset, Settings, Ping, GoAway}
use Rattle.h2_frame.specs.Frames.{WindowUpdate, Continuation, Unknown}
use Rattle.h2_spec_log.specs.Limits.{max_list}
use Rattle.h2_spec_log.specs.Log.{state}
use Rattle.h2_spec_log.specs.States.{State, Idle, Active, ClosedByUs, Closed}
use Rattle.h2_spec_log.specs.Histories.{TakesFrame}
use Rattle.h2_block.specs.Grouping.{Begun}
use Rattle.h2_block.specs.declared.fault.BlockFault.{BlockFault}
use Rattle.h2_spec_log.proofs.StreamLemmas.{stream_of_log}
use Rattle.h2_frame.specs.declared.code.Code.TheVariants.{ProtocolError}
use Rattle.h2_wire.specs.Streams.{IsFrame}
use Rattle.h2_spec_log.specs.Settings.{is_server}
use Rattle.h2_joined.specs.Delivering.{most_body}
use Rattle.h2_joined.proofs.FrameOctets.{frame_octets, data_octets}
use Rattle.h2_laws_pair.proofs.WiderLimits.{wider_limits}
use Rattle.h2_laws_pair.proofs.ItemsRead.{frames_received}
use Rattle.h2_spec_log.specs.Verdicts.{Verdict, ConnectionFault, StreamFault, NoEvent, Reported}
use Rattle.h2_spec_log.specs.Verdicts.{block_verdict, data_verdict, opening_verdict}
use Rattle.h2_spec_log.specs.ItemRules.{Decoded, FrameStep, fails_with, begins_block, completes}
unfoldable use Rattle.h2_spec_log.specs.ItemRules.{frame_step, grouped, grouping_step}
use Rattle.h2_spec_log.specs.ItemRules.{verdict_by_rules}
use Rattle.h2_spec_log.specs.ItemEffects.{events_of, decoded_fields}
use Rattle.h2_spec_log.specs.LogSteps.{limits_from, used, read, with_reported, with_unreturned, with_failure}
use Rattle.h2_spec_log.specs.LogSteps.{with_verdict, with_step, with_frame, took_frame}
use Rattle.h2_laws_log.proofs.LogViewLemmas.{data_by_sums}
use Rattle.h2_laws_end.specs.Takes.{TakeAnswer, AnswersFrame, has_failed, reports_unprocessed}
use Rattle.h2_laws_end.specs.Takes.{ends_no_frame, ends_frame, meets_fault}
use Rattle.h2_laws_end.proofs.ReadVerdicts.{Says, says_of}
use Rattle.h2_laws_end.proofs.TakeAnswers.{reported_is, sent_reported, unreturned_reported}
use Rattle.h2_ends.specs.EndTakes.{passes as hands_on}
use Rattle.h2_message.specs.declared.reading.Place.TheVariants as places
use Rattle.h2_laws_end.specs.Takes as takes

-- The size of a list is 65,536 at most, and a body has at most so many octets, in an event
abbrev FitsEvent : ℕ → Event → Type 0
FitsEvent most (FieldsEvent id list end) = list_size list ≤ 65536
FitsEvent most (DataEvent id octets flow end) = length octets ≤ most
FitsEvent most event = Unit {0}

-- and in an item.
abbrev FitsItem : ℕ → Option Decoded → Item → Type 0
FitsItem most decoded (block stream end octets) = list_size (decoded_fields decoded) ≤ 65536
FitsItem most decoded (alone (Data stream end octets pad)) = length octets ≤ most
FitsItem most decoded (alone frame) = Unit {0}

-- A body has so many octets at most, in a frame,
abbrev IsShort : ℕ → Frame → Type 0
IsShort most (Data stream end octets pad) = length octets ≤ most
IsShort most frame = Unit {0}

short_frame : (most limit : ℕ) (frame : Frame) (all : List ℕ) → IsFrame limit frame all
    → length all ≤ most → IsShort most frame
short_frame most limit (Data stream end octets pad) all is few =
    let less = data_octets limit stream end octets pad all is in omega (arith, less, few)
short_frame most limit frame all is few = tt

-- in an item,
abbrev IsShortItem : ℕ → Item → Type 0
IsShortItem most (alone frame) = IsShort most frame
IsShortItem most (block stream end octets) = Unit {0}

-- and in what a frame makes of the block that has begun.
abbrev IsShortStep : ℕ → FrameStep → Type 0
IsShortStep most (completes item) = IsShortItem most item
IsShortStep most step = Unit {0}

grouped_short : (most : ℕ) (begun : Option Begun) (frame : Frame) → IsShort most frame
    → IsShortStep most (grouped begun frame)
unfolding grouped
grouped_short most None (Headers stream end true fragment pad priority) short = tt
grouped_short most None (Headers stream end false fragment pad priority) short = tt
grouped_short most (Some begun) (Continuation stream true fragment) short = tt
grouped_short most (Some begun) (Continuation stream false fragment) short = tt
grouped_short most begun frame short = short

step_by : (most : ℕ) (first : Bool) (begun : Option Begun) (frame : Frame)
    (fault : Option BlockFault) → IsShort most frame
    → IsShortStep most (if first then fails_with ProtocolError else grouping_step begun frame fault)
unfolding grouping_step
step_by most true begun frame fault short = tt
step_by most false begun frame (Some fault) short = tt
step_by most false begun frame None short = grouped_short most begun frame short

short_step : (most : ℕ) (view : View) (frame : Frame) → IsShort most frame
    → IsShortStep most (frame_step view frame)
unfolding frame_step
short_step most view frame short = step_by most _ view.begun frame _ short

-- What is reported of a block has no list that is too large.
abbrev SaysFits : Type 0 → Verdict → Type 0
SaysFits T verdict = Says (Unit {0}) (Unit {0}) T verdict

opening_says : (T : Type 0) (left full large : Bool) → (large ≡ false → T)
    → SaysFits T (opening_verdict left full large)
unfolding opening_verdict
opening_says T true full large small = tt
opening_says T false true large small = tt
opening_says T false false true small = tt
opening_says T false false false small = small refl

block_says : (T : Type 0) (state : State) (opens left full ended large : Bool)
    → (large ≡ false → T) → SaysFits T (block_verdict state opens left full ended large)
unfolding block_verdict
block_says T Idle true left full ended large small = opening_says T left full large small
block_says T Idle false left full ended large small = tt
block_says T Closed opens left full ended large small = tt
block_says T ClosedByUs opens left full ended large small = tt
block_says T Active opens left full true large small = tt
block_says T Active opens left full false true small = tt
block_says T Active opens left full false false small = small refl

-- What is reported of DATA is of an active stream.
data_says : (T : Type 0) (state : State) (beyond ended above : Bool) → (beyond ≡ false → T)
    → SaysFits T (data_verdict state beyond ended above)
unfolding data_verdict
data_says T Idle beyond ended above inside = tt
data_says T Closed beyond ended above inside = tt
data_says T ClosedByUs true ended above inside = tt
data_says T ClosedByUs false ended above inside = tt
data_says T Active true ended above inside = tt
data_says T Active false true above inside = tt
data_says T Active false false true inside = tt
data_says T Active false false false inside = inside refl

any_says : (verdict : Verdict) → SaysFits (Unit {0}) verdict
any_says (ConnectionFault code) = tt
any_says (StreamFault code) = tt
any_says NoEvent = tt
any_says Reported = tt

rules_say : (most : ℕ) (log : Log) (decoded : Option Decoded) (item : Item) → IsShortItem most item
    → SaysFits (FitsItem most decoded item) (verdict_by_rules (log_view log) decoded item)
unfolding verdict_by_rules
rules_say most log None (block stream end octets) short = tt
rules_say most log (Some decoded) (block stream end octets) short =
    block_says _ _ _ _ _ _ _ (λ small. ltb-false max_list (list_size decoded.fields) small)
rules_say most log decoded (alone (Data stream end octets pad)) short =
    rw (data_by_sums log decoded stream end octets pad) (data_says _ (state log stream) _ _ _
    (λ inside. short))
rules_say most log decoded (alone frame) short =
    any_says (verdict_by_rules (log_view log) decoded (alone frame))

-- So what is reported of an item fits.
abbrev AllFit : ℕ → List Event → Type 0
AllFit most events = AllByRecursion (FitsEvent most) events

events_fit : (most : ℕ) (view : View) (decoded : Option Decoded) (verdict : Verdict) (item : Item)
    → SaysFits (FitsItem most decoded item) verdict
    → AllFit most (events_of view decoded verdict item)
unfolding events_of
events_fit most view decoded (ConnectionFault code) item says = tt
events_fit most view decoded (StreamFault code) item says = (tt, tt)
events_fit most view decoded NoEvent item says = tt
events_fit most view decoded Reported (block stream end octets) says = (says, tt)
events_fit most view decoded Reported (alone (Data stream end octets pad)) says = (says, tt)
events_fit most view decoded Reported (alone (Reset stream code)) says = (tt, tt)
events_fit most view decoded Reported (alone (Settings ack pairs)) says = (tt, tt)
events_fit most view decoded Reported (alone (Ping ack octets)) says = (tt, tt)
events_fit most view decoded Reported (alone (GoAway last code debug)) says = (tt, tt)
events_fit most view decoded Reported (alone (Headers stream end whole fragment pad priority)) says = tt
events_fit most view decoded Reported (alone (Priority stream octets)) says = tt
events_fit most view decoded Reported (alone (WindowUpdate stream increment)) says = tt
events_fit most view decoded Reported (alone (Continuation stream whole fragment)) says = tt
events_fit most view decoded Reported (alone (Unknown kind flags stream payload)) says = tt

-- More was reported, and it fits.
abbrev Reports : ℕ → (before after : Log) → Type 0
Reports most before after =
    (events : List Event) × (after.reported ≡ events ++ before.reported) × AllFit most events

failing_reports : (most : ℕ) (before log : Log) (code : Code) (last : ℕ) → log.reported ≡ before.reported
    → Reports most before (with_failure code last log)
failing_reports most before log code last same = ([], sent_reported log _ ∙ same, tt)

replied_reports : (most : ℕ) (before log : Log) (more : ℕ) (replies : List Item) (events : List Event)
    → log.reported ≡ before.reported → AllFit most events
    → Reports most before (with_reported (with_unreturned more (with_sent log replies)) events)
replied_reports most before log more replies events same fit = (
  events,
  reported_is _ events ∙ ap (λ (reported : List Event). events ++ reported)
      (unreturned_reported more (with_sent log replies) ∙ sent_reported log replies ∙ same),
  fit,
)

verdict_reports : (most : ℕ) (before log : Log) (decoded : Option Decoded) (item : Item)
    (verdict : Verdict) → log.reported ≡ before.reported
    → AllFit most (events_of (log_view log) decoded verdict item)
    → Reports most before (with_verdict log decoded item verdict)
unfolding with_verdict
verdict_reports most before log decoded item (ConnectionFault code) same fit =
    failing_reports most before log code _ same
verdict_reports most before log decoded item (StreamFault code) same fit =
    replied_reports most before (read log decoded item) _ _ _ same fit
verdict_reports most before log decoded item NoEvent same fit =
    replied_reports most before (read log decoded item) _ _ _ same fit
verdict_reports most before log decoded item Reported same fit =
    replied_reports most before (read log decoded item) _ _ _ same fit

step_reports : (most : ℕ) (before log : Log) (decoded : Option Decoded) (step : FrameStep)
    → log.reported ≡ before.reported → IsShortStep most step
    → Reports most before (with_step log decoded step)
unfolding with_step
step_reports most before log decoded (fails_with code) same short =
    failing_reports most before log code _ same
step_reports most before log decoded (begins_block begun) same short = ([], same, tt)
step_reports most before log decoded (completes item) same short =
    let now = record log { begun = None } in
    verdict_reports most before now decoded item _ same (events_fit most (log_view now) _ _ item
    (says_of (Unit {0}) (Unit {0}) (FitsItem most decoded item) now decoded item
    (rules_say most now decoded item short)))

frame_reports : (most : ℕ) (log : Log) (octets : List ℕ) (decoded : Option Decoded)
    (frame : Frame) → IsShort most frame → Reports most log (took_frame log octets decoded frame)
unfolding with_frame used
frame_reports most log octets decoded frame short =
    step_reports most log _ decoded (frame_step (log_view (used log octets [])) frame) refl
    (short_step most _ frame short)

-- One of the events that were reported fits.
one_fits : (most : ℕ) (event : Event) (events before : List Event)
    → event ∷ before ≡ events ++ before → AllFit most events → FitsEvent most event
one_fits most event [] before is fit =
    let counted : suc (length before) ≡ length before = ap length is in
    absurd (omega (arith, counted))
one_fits most event (first ∷ events) before is fit =
    let same : event ≡ first = cc in subst (FitsEvent most) (sym same) fit.0

-- The frame that ends with octets of a piece is short.
taken_short : (role : Role) (values : Values) (log : Log) (octets unused piece : List ℕ)
    (frame : Frame) → IsLog role values log → log.failed ≡ None → piece ≡ octets ++ unused
    → TakesFrame log.role log octets frame → IsShort (length log.unparsed + length piece) frame
taken_short role values log octets unused piece frame came up joined framed =
    let own = ap is_server (sym (stream_of_log role values log came).role) in
    let has = frame_octets (is_server log.role) (wider_limits log) (limits_from log) log.input octets
    log.unparsed log.frames frame
    (frames_received role values log (is_server log.role) own came up) framed in
    short_frame _ has.limit frame has.all has.is (omega (
      arith,
      has.few,
      ap length joined,
      length-append octets unused,
    ))

-- An event that a call of `take` reports fits.
event_fits : (role : Role) (values : Values) (log after : Log) (piece : List ℕ)
    (answer : TakeAnswer) (count : ℕ) (event : Event) → IsLog role values log
    → MayTake log piece answer after → answer ≡ Took count (Some event)
    → FitsEvent (length log.unparsed + length piece) event
event_fits role values log after piece answer count event came
    (has_failed code failed answers same) is = absurd (cc)
event_fits role values log after piece answer count event came
    (reports_unprocessed up some answers same) is =
    let one : event ≡ UnprocessedEvent (next_unprocessed log) = cc in
    subst (FitsEvent (length log.unparsed + length piece)) (sym one) tt
event_fits role values log after piece answer count event came
    (ends_no_frame takes unparsed part answers same) is = absurd (cc)
event_fits role values log after piece answer count event came
    (ends_frame takes octets unused joined frame decoded framed sees same answers) is =
    let says = subst (λ (a : TakeAnswer). AnswersFrame log after (length octets) a) is answers in
    let most = length log.unparsed + length piece in
    let (events, reported, all) = frame_reports most log octets decoded frame
    (taken_short role values log octets unused piece frame came takes.up joined framed) in
    one_fits most _ events _ (sym says.2 ∙ (ap (λ (l : Log). l.reported) same ∙ reported)) all
event_fits role values log after piece answer count event came
    (meets_fault takes octets unused joined fault at answers same) is = absurd (cc)
event_fits role values log after piece answer count event came
    (takes.runs_out_of_memory up octets unused joined may answers same) is = absurd (cc)

-- So does the part of a message that it is.
abbrev FitsPart : ℕ → (Part × Bool) → Type 0
FitsPart most (FieldsPart list, end) = list_size list ≤ 65536
FitsPart most (OctetsPart octets, end) = length octets ≤ most

part_fits : (most : ℕ) (event : Event) (id : ℕ) (part : Part × Bool)
    → part_of_event event ≡ Some (id, part) → FitsEvent most event → FitsPart most part
unfolding part_of_event
part_fits most (FieldsEvent on list end) id part is fit =
    let both : (on, (FieldsPart list, end)) ≡ (id, part) = cc in
    subst (FitsPart most) (ap (λ (p : ℕ × (Part × Bool)). p.1) both) fit
part_fits most (DataEvent on octets flow end) id part is fit =
    let both : (on, (OctetsPart octets, end)) ≡ (id, part) = cc in
    subst (FitsPart most) (ap (λ (p : ℕ × (Part × Bool)). p.1) both) fit
part_fits most event id part is fit = absurd (cc)

placed_fits : (most : ℕ) (place : Place) (id : ℕ) (list : List Field) (end : Bool)
    → list_size list ≤ 65536 → Fits most (handed_at place id list end)
unfolding handed_at Fits
placed_fits most places.Interim id list end fit = fit
placed_fits most places.Head id list end fit = fit
placed_fits most places.Trailers id list end fit = fit

handed_fits : (most : ℕ) (reads : Reads) (parts : List (Part × Bool)) (id : ℕ)
    (part : Part × Bool) → FitsPart most part → Fits most (handed_as reads parts id part)
unfolding handed_as Fits
handed_fits most reads parts id (FieldsPart list, end) fit = placed_fits most _ _ _ end fit
handed_fits most reads parts id (OctetsPart octets, end) fit = omega (arith, fit)

-- What is no part of a message has no octets.
passed_fits : (most : ℕ) (event : Event) → Fits most (Passed event)
unfolding Fits
passed_fits most event = tt

answer_fits : (role : Role) (values : Values) (end after : EndLog) (piece : List ℕ)
    (answer : EndAnswer) (used : ℕ) (handed : Handed) → IsLog role values end.log
    → EndMayTake end piece answer after → answer ≡ EndTook used (Some handed)
    → Fits (most_body end piece) handed
answer_fits role values end after piece answer used handed came
    (fails code log may answers same) is = absurd (cc)
answer_fits role values end after piece answer used handed came
    (hands_nothing count log may answers same) is = absurd (cc)
answer_fits role values end after piece answer used handed came
    (hands_on count event log may unread answers same) is =
    let one : handed ≡ Passed event = cc in
    subst (Fits (most_body end piece)) (sym one) (passed_fits _ event)
answer_fits role values end after piece answer used handed came
    (hands_out count event log may id part of readable answers same) is =
    let one : handed ≡ handed_as (reads_on end id) (parts_on id end.handed) id part = cc in
    subst (Fits (most_body end piece)) (sym one) (handed_fits _ _ _ id part
    (part_fits _ event id part of
    (event_fits role values end.log log piece (Took count (Some event)) count event came may refl)))
answer_fits role values end after piece answer used handed came
    (refuses count event log may id part of broken refused answers_it up answers same) is =
    let one : handed ≡ Passed (ResetEvent id 1 true) = cc in
    subst (Fits (most_body end piece)) (sym one) (passed_fits _ (ResetEvent id 1 true))
answer_fits role values end after piece answer used handed came
    (refusal_fails count event log may id part of broken refused answers_it code down answers
    same) is = absurd (cc)
answer_fits role values end after piece answer used handed came
    (runs_out_of_memory count id list ends log may role_is first readable refused answers_it answers
    same) is = absurd (cc)

-- What a call of `take` hands out fits.
pub taken_fits : (values : Values) (old : End) (end : EndLog) (piece : List ℕ) (used : ℕ)
    (handed : Handed) (after : EndLog) → EndRepresents values old end
    → EndMayTake end piece (EndTook used (Some handed)) after → Fits (most_body end piece) handed
taken_fits values old end piece used handed after represents may =
    answer_fits _ _ _ _ _ _ _ handed (represents.streams.conn.machine.came) may refl

-- An end that takes octets is up.
takes_up : (log after : Log) (piece : List ℕ) (answer : TakeAnswer) (count : ℕ)
    (event : Option Event) → MayTake log piece answer after → answer ≡ Took count event
    → log.failed ≡ None
takes_up log after piece answer count event (has_failed code failed answers same) is = absurd (cc)
takes_up log after piece answer count event (reports_unprocessed up some answers same) is = up
takes_up log after piece answer count event (ends_no_frame takes unparsed part answers same) is =
    takes.up
takes_up log after piece answer count event
    (ends_frame takes octets unused joined frame decoded framed sees same answers) is = takes.up
takes_up log after piece answer count event
    (meets_fault takes octets unused joined fault at answers same) is = takes.up
takes_up log after piece answer count event
    (takes.runs_out_of_memory up octets unused joined may answers same) is = up

-- So is one that hands something out.
pub hands_up : (end after : EndLog) (piece : List ℕ) (answer : EndAnswer) (used : ℕ)
    (handed : Handed) → EndMayTake end piece answer after → answer ≡ EndTook used (Some handed)
    → end.log.failed ≡ None
hands_up end after piece answer used handed (fails code log may answers same) is = absurd (cc)
hands_up end after piece answer used handed (hands_nothing count log may answers same) is =
    absurd (cc)
hands_up end after piece answer used handed (hands_on count event log may unread answers same) is =
    takes_up end.log log piece (Took count (Some event)) count (Some event) may refl
hands_up end after piece answer used handed
    (hands_out count event log may id part of readable answers same) is =
    takes_up end.log log piece (Took count (Some event)) count (Some event) may refl
hands_up end after piece answer used handed
    (refuses count event log may id part of broken refused answers_it up answers same) is =
    takes_up end.log log piece (Took count (Some event)) count (Some event) may refl
hands_up end after piece answer used handed
    (refusal_fails count event log may id part of broken refused answers_it code down answers
    same) is = absurd (cc)
hands_up end after piece answer used handed
    (runs_out_of_memory count id list ends log may role_is first readable refused answers_it answers
    same) is = absurd (cc)
