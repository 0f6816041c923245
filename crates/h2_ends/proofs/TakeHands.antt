-- What an end hands out of what its connection has reported.
use Rattle.h2_ends.proofs.Names
use Names.{◌≡◌, ℕ, Bool, true, false, List, [], Option, Some, None, refl, sym, ap, ◌∙◌, both_ways}
use Names.{eq-eqb, Field, InternalError, Server, Values, Answer, Refuse, Event, FieldsEvent}
use Names.{DataEvent, ResetEvent, Log, MayAnswer, with_call, MayTake, Took, fields_in_use}
use Names.{data_in_use, log_after_take, Place, Part, FieldsPart, OctetsPart, End, EndLog, Handed}
use Names.{BodyHanded, Passed, EndAnswer, EndTook, EndFailed, parts_on, IsReadableWith}
use Names.{end_with_log, end_with_handed, passes, hands_out, refusal_fails, Span, EndRepresents}
use Names.{InSpan, IsReadOn, MustRefuse, HasReported, code_unread, tokens_of_event, reads_on}
use Names.{handed_as, handed_at, part_of_event, tokens_of_part, ReadsFields, ReadsData}
use Names.{AnswersRefusal, take_has_fields, take_has_data, take_may_close, event_may_close, Ok}
use Names.{Err, Result, IfOk, LocatedPart}
use Rattle.h2_ends.specs.EndTakes.{EndMayTake, refuses, runs_out_of_memory, with_malformed}
use Rattle.h2_ends.specs.EndTakes.{rule_broken}
use Rattle.h2_ends.specs.Taking.{refused_last, with_unread}
use Rattle.h2_message.specs.declared.malformed.Malformed.{Malformed}
use Rattle.h2_ends.specs.Loans.{handed_value, BodyLiesIn, located_at}
use Rattle.h2_ends.specs.Taking.{IsRead, IsResetBy, answer_of_report}
use Rattle.h2_conn.specs.declared.taken.ConnFault.{ConnFault}
use Rattle.h2_ends.specs.declared.taking.Unread.{Unread}
use Rattle.h2_laws_pair.proofs.StepUnprocessed.{role_by_take as take_role}
use Rattle.h2_ends.proofs.TakeActive.{data_is_active}
use Rattle.h2_ends.proofs.InSteps.{owes_taken}
use Rattle.h2_ends.proofs.TakeInStep.{differs, passed_over, read_on, reported_as, reported_wider}
use Rattle.h2_ends.proofs.TakeRefusing.{memory_fails}
use Rattle.h2_laws_end.proofs.ActivityOpened.{active_by_fields}
use Rattle.h2_ends.specs.declared.taking.Unread.TheVariants as unreads
use Rattle.h2_message.specs.declared.reading.Place.TheVariants as places

-- The end may answer so, and represents what has happened then.
abbrev pub Hands : Values → EndLog → List ℕ → EndAnswer → End → Type 0
Hands values end piece answer new =
    (after : EndLog) × EndMayTake end piece answer after × EndRepresents values new after

-- A field block has come on its stream.
pub fields_on : (values : Values) (now : End) (end : EndLog) (piece : List ℕ) (count id : ℕ)
    (list : List Field) (last : Bool) (log : Log)
    → HasReported values now end piece count (FieldsEvent id list last) log
    → IsReadOn values now (end_with_log end log) id (FieldsPart list, last)
unfolding tokens_of_event tokens_of_part take_has_fields take_has_data take_may_close
    event_may_close
fields_on values now end piece count id list last log reported =
    let event = FieldsEvent id list last in
    let same = eq-eqb id id refl in
    read_on values now end piece count event log id (FieldsPart list, last) reported
    (fields_in_use end.log log piece count id list last reported.took) (rw same refl)
    (λ i other. rw (differs i id other) refl) (λ i other. differs i id other) (λ i other. refl)
    (owes_taken reported.logged.0 values now.spans.owing end.log log piece
    (Took count (Some event)) id reported.logged.1 reported.took refl (reported.in_step id).owes)
    (λ i other. rw (differs i id other) refl) (λ goes_on. rw (same, goes_on) refl)
    (λ idle. let opened = active_by_fields reported.logged.0 values end.log log piece count id
    list last reported.logged.1 reported.took idle in
    (take_role end.log log piece (Took count (Some event)) reported.took ∙ opened.0, opened.1))

-- Octets of a body have come on theirs, which was active.
pub data_on : (values : Values) (now : End) (end : EndLog) (piece : List ℕ) (count id : ℕ)
    (octets : List ℕ) (flow : ℕ) (last : Bool) (log : Log) (owing : Span) → InSpan owing id
    → ((i : ℕ) → InSpan now.spans.owing i → InSpan owing i)
    → HasReported values now end piece count (DataEvent id octets flow last) log
    → IsReadOn values (record now { spans = record now.spans { owing = owing } })
    (end_with_log end log) id (OctetsPart octets, last)
unfolding tokens_of_event tokens_of_part take_has_fields take_has_data take_may_close
    event_may_close
data_on values now end piece count id octets flow last log owing here more reported =
    let event = DataEvent id octets flow last in
    let same = eq-eqb id id refl in
    read_on values (record now { spans = record now.spans { owing = owing } }) end piece count
    event log id (OctetsPart octets, last)
    (reported_wider values now end piece count event log owing more reported)
    (data_in_use end.log log piece count id octets flow last reported.took) (rw same refl)
    (λ i other. rw (differs i id other) refl) (λ i other. refl)
    (λ i other. differs i id other) (λ some. here)
    (λ i other. rw (differs i id other) refl) (λ goes_on. rw (same, goes_on) refl)
    (λ idle. absurd (both_ways _ idle
    (data_is_active end.log log piece count id octets flow last reported.took)))

-- The same is read on a stream after octets were taken.
reads_still : (end : EndLog) (log : Log) (id : ℕ) → log.role ≡ end.log.role
    → reads_on (end_with_log end log) id ≡ reads_on end id
unfolding reads_on
reads_still end log id same = rw same refl

reads_after : (values : Values) (now : End) (end : EndLog) (piece : List ℕ) (count : ℕ)
    (event : Event) (log : Log) (id : ℕ) → HasReported values now end piece count event log
    → reads_on (end_with_log end log) id ≡ reads_on end id
reads_after values now end piece count event log id reported =
    reads_still end log id (take_role end.log log piece (Took count (Some event)) reported.took)

-- So the same goes on, and is handed out.
goes_before : (end : EndLog) (log : Log) (id : ℕ) (part : Part × Bool)
    → reads_on (end_with_log end log) id ≡ reads_on end id
    → IsReadableWith (end_with_log end log) id part → IsReadableWith end id part
goes_before end log id part same goes = rw same at goes

broken_before : (end : EndLog) (log : Log) (id : ℕ) (part : Part × Bool) (rule : Option Malformed)
    → reads_on (end_with_log end log) id ≡ reads_on end id
    → rule ≡ rule_broken (end_with_log end log) id part → rule ≡ rule_broken end id part
broken_before end log id part rule same broken = rw same at broken

goes_after : (end : EndLog) (log : Log) (id : ℕ) (part : Part × Bool)
    → reads_on (end_with_log end log) id ≡ reads_on end id
    → IsReadableWith end id part → IsReadableWith (end_with_log end log) id part
goes_after end log id part same goes = rw same goes

-- A part that was read is handed out.
pub part_handed : (values : Values) (now new : End) (end : EndLog) (piece : List ℕ) (count : ℕ)
    (event : Event) (log : Log) (id : ℕ) (part : Part × Bool) (handed : Handed)
    → HasReported values now end piece count event log → part_of_event event ≡ Some (id, part)
    → IsRead values (end_with_log end log) id part new
    → handed
    ≡ handed_as (reads_on (end_with_log end log) id) (parts_on id end.handed) id part
    → Hands values end piece (EndTook count (Some handed)) new
part_handed values now new end piece count event log id part handed reported of read is =
    let same = reads_after values now end piece count event log id reported in
    let given = handed_as (reads_on end id) (parts_on id end.handed) id part in (
      end_with_handed end log given,
      hands_out count event log reported.took id part of
          (goes_before end log id part same read.0)
          (ap (λ (one : Handed). EndTook count (Some one)) (rw same at is)) refl,
      rw same at read.1,
    )

-- After octets were taken the connection hasn't failed.
up_after : (log after : Log) (piece : List ℕ) (count : ℕ) (event : Event)
    → MayTake log piece (Took count (Some event)) after → after.failed ≡ None
up_after log after piece count event may =
    (log_after_take log after piece (Took count (Some event)) may).6

module _ (values : Values) (now new : End) (end : EndLog) (piece : List ℕ) (count : ℕ) where
  -- One of a part that can't be read is refused.
  pub part_refused : (event : Event) (log : Log) (id : ℕ) (part : Part × Bool) (list : List Field)
      (octets : List ℕ) (rule : Option Malformed) (one : Answer)
      (result : Result LocatedPart ConnFault)
      → HasReported values now end piece count event log → part_of_event event ≡ Some (id, part)
      → (IsReadableWith (end_with_log end log) id part → ⊥)
      → rule ≡ rule_broken (end_with_log end log) id part → MayAnswer log (Refuse id 1) one
      → AnswersRefusal values (with_malformed (end_with_log end (with_call log (Refuse id 1) one))
      id rule) result new
      → IsResetBy id 1 result
      → Hands values end piece (answer_of_report list octets count result) new
  unfolding AnswersRefusal
  part_refused event log id part list octets rule one (Ok handed) reported of stops broken may
      answers is =
      let same = reads_after values now end piece count event log id reported in
      let breaks = broken_before end log id part rule same broken in
      let after = with_call log (Refuse id 1) one in
      let all = end_with_handed end after (Passed (ResetEvent id 1 true)) in (
        with_malformed all id rule,
        refuses count event log reported.took id part of
            (λ goes. stops (goes_after end log id part same goes)) one may answers.0 (rw is refl)
            (ap (with_malformed all id) breaks),
        passed_over values new (with_malformed (end_with_log end after) id rule)
            (ResetEvent id 1 true) answers.1,
      )
  part_refused event log id part list octets rule one (Err fault) reported of stops broken may
      answers is =
      let same = reads_after values now end piece count event log id reported in
      let breaks = broken_before end log id part rule same broken in
      let after = with_call log (Refuse id 1) one in (
        with_malformed (end_with_log end after) id rule,
        refusal_fails count event log reported.took id part of
            (λ goes. stops (goes_after end log id part same goes)) one may fault.code answers.0
            refl (ap (with_malformed (end_with_log end after) id) breaks),
        answers.1,
      )

  -- Where memory was refused to the first field block at a server, the connection has failed.
  pub part_lacks : (id : ℕ) (list : List Field) (last : Bool) (log : Log) (fields : List Field)
      (octets : List ℕ) (one : Answer) (result : Result LocatedPart ConnFault)
      → HasReported values now end piece count (FieldsEvent id list last) log
      → IsReadableWith (end_with_log end log) id (FieldsPart list, last) → log.role ≡ Server
      → parts_on id end.handed ≡ [] → MayAnswer log (Refuse id 2) one
      → AnswersRefusal values (end_with_log end (with_call log (Refuse id 2) one)) result new
      → Hands values end piece (answer_of_report fields octets count result) new
  unfolding AnswersRefusal
  part_lacks id list last log fields octets one (Ok handed) reported goes server none may answers =
      let down = memory_fails log id one
      (up_after end.log log piece count (FieldsEvent id list last) reported.took) may in
      absurd (cc)
  part_lacks id list last log fields octets one (Err fault) reported goes server none may answers =
      let event = FieldsEvent id list last in
      let same = reads_after values now end piece count event log id reported in
      let down = memory_fails log id one
      (up_after end.log log piece count event reported.took) may in
      let code : fault.code ≡ InternalError = cc in (
        end_with_log end (with_call log (Refuse id 2) one),
        runs_out_of_memory count id list last log reported.took
            (sym (take_role end.log log piece (Took count (Some event)) reported.took) ∙ server)
            none (goes_before end log id (FieldsPart list, last) same goes) one may
            (ap EndFailed code) refl,
        answers.1,
      )

  -- What is no part of a message is passed on.
  pub event_passed : (event : Event) (log : Log) → HasReported values now end piece count event log
      → part_of_event event ≡ None → EndRepresents values new (end_with_log end log)
      → Hands values end piece (EndTook count (Some (Passed event))) new
  event_passed event log reported none is = (
    end_with_handed end log (Passed event),
    passes count event log reported.took none refl refl,
    passed_over values new (end_with_log end log) event is,
  )

-- So is one that says nothing of a stream.
pub plain_passed : (values : Values) (now : End) (end : EndLog) (piece : List ℕ) (count : ℕ)
    (event : Event) (log : Log) → HasReported values now end piece count event log
    → part_of_event event ≡ None → ((i : ℕ) → tokens_of_event i event ≡ [])
    → ((i : ℕ) → take_has_fields i (Took count (Some event)) ≡ false)
    → ((i : ℕ) → take_has_data i (Took count (Some event)) ≡ false)
    → ((i : ℕ) → take_may_close i (Took count (Some event)) ≡ false)
    → Hands values end piece (EndTook count (Some (Passed event))) now
plain_passed values now end piece count event log reported no_part none no_fields no_data lasts =
    event_passed values now now end piece count event log reported no_part
    (reported_as values now end piece count event log reported none no_fields no_data lasts)

-- A part at its place is handed out with the fields that are kept, and no octets lie there.
handed_located : (place : Place) (id : ℕ) (list : List Field) (last : Bool) (octets : List ℕ)
    → handed_value list octets (located_at place id last) ≡ handed_at place id list last
unfolding handed_at
handed_located places.Interim id list last octets = refl
handed_located places.Head id list last octets = refl
handed_located places.Trailers id list last octets = refl

pub part_lies : (end : End) (piece : List ℕ) (place : Place) (id : ℕ) (last : Bool)
    → BodyLiesIn end piece (Some (located_at place id last))
unfolding BodyLiesIn
part_lies end piece places.Interim id last = tt
part_lies end piece places.Head id last = tt
part_lies end piece places.Trailers id last = tt

-- A field block that was read.
pub fields_handed : (values : Values) (now new : End) (end : EndLog) (piece : List ℕ)
    (count id : ℕ) (list : List Field) (last : Bool) (place : Place) (log : Log)
    → HasReported values now end piece count (FieldsEvent id list last) log
    → ReadsFields values (end_with_log end log) id list last (Ok place) new
    → (fields : List Field) (octets : List ℕ) → fields ≡ list
    → Hands values end piece
    (EndTook count (Some (handed_value fields octets (located_at place id last)))) new
unfolding ReadsFields handed_as part_of_event
fields_handed values now new end piece count id list last place log reported read fields octets
    same =
    part_handed values now new end piece count (FieldsEvent id list last) log id
    (FieldsPart list, last) (handed_value fields octets (located_at place id last)) reported refl
    read.0 (rw same (handed_located place id list last octets
    ∙ ap (λ (at : Place). handed_at at id list last) read.1))

-- One that wasn't is refused.
pub fields_not_handed : (values : Values) (now mid new : End) (end : EndLog) (piece : List ℕ)
    (count id : ℕ) (list : List Field) (last : Bool) (unread : Unread) (log : Log)
    (fields : List Field) (octets : List ℕ) (result : Result LocatedPart ConnFault)
    → HasReported values now end piece count (FieldsEvent id list last) log
    → ReadsFields values (end_with_log end log) id list last (Err unread) mid
    → (MustRefuse values mid (end_with_log end log) id
    → (one : Answer) × MayAnswer log (Refuse id (code_unread unread)) one
    × AnswersRefusal values
    (end_with_log (with_unread (end_with_log end log) id unread)
    (with_call log (Refuse id (code_unread unread)) one)) result new)
    → IsResetBy id (code_unread unread) result
    → Hands values end piece (answer_of_report fields octets count result) new
unfolding ReadsFields part_of_event refused_last
fields_not_handed values now mid new end piece count id list last (unreads.Malformed rule) log
    fields octets result reported read refuses_it is =
    let made = refuses_it read.0.1 in
    part_refused values now new end piece count (FieldsEvent id list last) log id
    (FieldsPart list, last) fields octets rule made.0 result reported refl read.0.0 read.1 made.1
    made.2 is
fields_not_handed values now mid new end piece count id list last unreads.OutOfMemory log fields
    octets result reported read refuses_it is =
    let made = refuses_it read.1 in
    part_lacks values now new end piece count id list last log fields octets made.0 result reported
    read.0 read.2 read.3 made.1 made.2

-- Octets of a body that were read.
pub data_handed : (values : Values) (now new : End) (end : EndLog) (piece : List ℕ)
    (count id : ℕ) (octets : List ℕ) (flow : ℕ) (last : Bool) (log : Log)
    → HasReported values now end piece count (DataEvent id octets flow last) log
    → ReadsData values (end_with_log end log) id octets last (Ok tt) new
    → Hands values end piece (EndTook count (Some (BodyHanded id octets last))) new
unfolding ReadsData handed_as part_of_event
data_handed values now new end piece count id octets flow last log reported read =
    part_handed values now new end piece count (DataEvent id octets flow last) log id
    (OctetsPart octets, last) (BodyHanded id octets last) reported refl read refl

-- Those that weren't are refused.
pub data_not_handed : (values : Values) (now mid new : End) (end : EndLog) (piece : List ℕ)
    (count id : ℕ) (body : List ℕ) (flow : ℕ) (last : Bool) (unread : Unread) (log : Log)
    (fields : List Field) (octets : List ℕ) (result : Result LocatedPart ConnFault)
    → HasReported values now end piece count (DataEvent id body flow last) log
    → ReadsData values (end_with_log end log) id body last (Err unread) mid
    → (MustRefuse values mid (end_with_log end log) id
    → (one : Answer) × MayAnswer log (Refuse id (code_unread unread)) one
    × AnswersRefusal values
    (end_with_log (with_unread (end_with_log end log) id unread)
    (with_call log (Refuse id (code_unread unread)) one)) result new)
    → IsResetBy id (code_unread unread) result
    → Hands values end piece (answer_of_report fields octets count result) new
unfolding ReadsData part_of_event refused_last
data_not_handed values now mid new end piece count id body flow last (unreads.Malformed rule) log
    fields octets result reported read refuses_it is =
    let made = refuses_it read.0.1 in
    part_refused values now new end piece count (DataEvent id body flow last) log id
    (OctetsPart body, last) fields octets rule made.0 result reported refl read.0.0 read.1 made.1
    made.2 is
data_not_handed values now mid new end piece count id body flow last unreads.OutOfMemory log
    fields octets result reported read refuses_it is = absurd read

-- Where a stream was reset nothing is lent.
pub reset_lies : (end : End) (piece : List ℕ) (id code : ℕ) (result : Result LocatedPart ConnFault)
    → IsResetBy id code result → IfOk result (λ handed. BodyLiesIn end piece (Some handed))
unfolding BodyLiesIn
reset_lies end piece id code (Ok handed) is = rw is tt
reset_lies end piece id code (Err fault) is = tt
