-- What a call of `take` answers, and the log after it.
use Rattle.h2_laws_end.proofs.Names
use Names.{◌≡◌, ◌⊎◌, ℕ, List, [], ◌∷◌, ◌++◌, length, Option, Some, None, refl, sym, ap, ◌∙◌, subst}
use Names.{inl, inr, append-nil, Code, Frame, Data, Reset, Settings, Ping, GoAway, none_some}
use Names.{one_some, Item, alone, block, Role, Event, UnprocessedEvent, Values, Log}
use Names.{next_unprocessed, View, log_view, Verdict, StreamFault, Reported, Decoded}
use Names.{with_unreturned, took_frame, took_none, IsLog, took_some, took_one, met_fault}
use Names.{ran_out_of_memory, reported_one, IsDecodedFor, stream_of_log, holds_unreturned}
use Names.{TakeAnswer, Took, Failed, events_answered, MayTake, has_failed, reports_unprocessed}
use Names.{ends_no_frame, ends_frame, meets_fault, runs_out_of_memory, events_of, used, with_sent}
use Names.{with_reported, TakesOctets, TakesPart, TakesFrame, TakesFault, MayRunOutOfMemory}
use Names.{Keeps-frame, Keeps-none, SamePart, stays_written, HoldsOfWrites, holds_sent}
use Rattle.h2_laws_end.specs.Takes.{AfterTake}
use Rattle.h2_laws_end.proofs.Failures.{reported_failed, unreturned_failed}
use Rattle.h2_laws_end.proofs.ActivitySteps.{AfterFrame, stays_same, has_broken, has_read}
use Rattle.h2_laws_end.proofs.ActivitySteps.{frame_used, frame_after}

-- After each call there is a log that comes about.
pub take_closed : (role : Role) (values : Values) (log after : Log) (piece : List ℕ)
    (answer : TakeAnswer) → IsLog role values log → MayTake log piece answer after
    → IsLog role values after
take_closed role values log after piece answer is (has_failed code failed answers same) = rw same is
take_closed role values log after piece answer is (reports_unprocessed up some answers same) =
    rw same (reported_one is up some)
take_closed role values log after piece answer is (ends_no_frame takes unparsed part answers same) =
    let own = (stream_of_log role values log is).role in
    rw same (took_some is takes piece unparsed
    (subst (λ (r : Role). TakesPart r log piece unparsed) own part))
take_closed role values log after piece answer is
    (ends_frame takes octets unused joined frame decoded framed sees same answers) =
    let own = (stream_of_log role values log is).role in
    rw same (took_one is takes octets frame decoded
    (subst (λ (r : Role). TakesFrame r log octets frame) own framed) sees)
take_closed role values log after piece answer is
    (meets_fault takes octets unused joined fault at answers same) =
    let own = (stream_of_log role values log is).role in
    rw same (met_fault is takes octets fault
    (subst (λ (r : Role). TakesFault r log octets fault) own at))
take_closed role values log after piece answer is
    (runs_out_of_memory up octets unused joined may answers same) =
    let own = (stream_of_log role values log is).role in
    rw same (ran_out_of_memory is up octets
    (subst (λ (r : Role). MayRunOutOfMemory r log octets) own (unused, may)))

-- Events that are reported stand before those before.
pub reported_is : (log : Log) (events : List Event)
    → (with_reported log events).reported ≡ events ++ log.reported
unfolding with_reported
reported_is log [] = refl
reported_is log (event ∷ events) = refl

-- The second log has reported what the first has.
abbrev ReportedAs : Log → Log → Type 0
ReportedAs = SamePart (λ log. log.reported)

-- What is written and what is unreturned report nothing.
reported_as : HoldsOfWrites ReportedAs
reported_as =
    stays_written (λ log. log.reported) (λ log sent written payloads turns. refl)
    (λ log count. refl)

pub sent_reported : (log : Log) (items : List Item) → (with_sent log items).reported ≡ log.reported
sent_reported log items = holds_sent ReportedAs reported_as log items

pub unreturned_reported : (more : ℕ) (log : Log)
    → (with_unreturned more log).reported ≡ log.reported
unreturned_reported more log = holds_unreturned ReportedAs reported_as more log

-- Of an item at most one event is reported.
one_event_of : (view : View) (decoded : Option Decoded) (verdict : Verdict) (item : Item)
    → (event : Option Event) × (events_of view decoded verdict item ≡ events_answered event)
unfolding events_of
one_event_of view decoded (StreamFault code) item = (Some _, refl)
one_event_of view decoded Reported (block stream end octets) = (Some _, refl)
one_event_of view decoded Reported (alone (Data stream end octets pad)) = (Some _, refl)
one_event_of view decoded Reported (alone (Reset stream code)) = (Some _, refl)
one_event_of view decoded Reported (alone (Settings ack pairs)) = (Some _, refl)
one_event_of view decoded Reported (alone (Ping ack octets)) = (Some _, refl)
one_event_of view decoded Reported (alone (GoAway last code debug)) = (Some _, refl)
one_event_of view decoded verdict item = (None, refl)

-- After a frame the connection has failed, and nothing more was reported; or it hasn't, and at most
-- one event was.
abbrev Answers : (before after : Log) → Type 0
Answers before after =
    ((code : Code) × (after.failed ≡ Some code) × (after.reported ≡ before.reported))
    ⊎ ((event : Option Event) × (after.failed ≡ None)
    × (after.reported ≡ events_answered event ++ before.reported))

-- What a frame may do is one of these.
after_answers : (before after : Log) (decoded : Option Decoded) → before.failed ≡ None
    → AfterFrame before decoded after → Answers before after
after_answers before after decoded up (stays_same adds failed) =
    inr (None, failed ∙ up, adds.reported)
after_answers before after decoded up (has_broken code last most adds failed) =
    inl (code, failed, adds.reported)
after_answers before after decoded up (has_read item verdict credit is on is_credit adds failed) =
    let one = one_event_of (log_view before) decoded verdict item in
    let reported = ap (λ (events : List Event). events ++ before.reported) one.1 in
    inr (one.0, failed ∙ up, adds.reported ∙ reported)

-- A frame.
frame_answers : (log : Log) (octets : List ℕ) (decoded : Option Decoded) (frame : Frame)
    → log.failed ≡ None → Answers log (took_frame log octets decoded frame)
frame_answers log octets decoded frame up =
    after_answers (frame_used log octets frame) _ decoded up (frame_after log octets decoded frame)

-- The octets that a frame ended are used.
frame_input : (log : Log) (octets : List ℕ) (decoded : Option Decoded) (frame : Frame)
    → (took_frame log octets decoded frame).input ≡ log.input ++ octets
unfolding used
frame_input log octets decoded frame = (Keeps-frame (used log octets []) decoded frame).input

-- What was reported once a stream was that the peer doesn't process.
unprocessed_reported : (log : Log) → (took_none log).reported
    ≡ UnprocessedEvent (next_unprocessed log) ∷ log.reported
unprocessed_reported log = reported_is _ _
    ∙ ap (λ (reported : List Event). UnprocessedEvent (next_unprocessed log) ∷ reported)
    (unreturned_reported _ log)

-- What is reported of a frame with which the connection failed.
failed_reported : (log after : Log) (code : Code) → Answers log after → after.failed ≡ Some code
    → after.reported ≡ log.reported
failed_reported log after code (inl (other, failed, same)) is = same
failed_reported log after code (inr (event, up, reported)) is = none_some code (sym up ∙ is)

-- What each answer says.
pub log_after_take : (log after : Log) (piece : List ℕ) (answer : TakeAnswer)
    → MayTake log piece answer after → AfterTake log after piece answer
unfolding used with_sent
log_after_take log after piece answer (has_failed code failed answers same) =
    rw (answers, same) ([], piece, refl, sym (append-nil log.input), refl, failed)
log_after_take log after piece answer (reports_unprocessed up some answers same) =
    rw (answers, same) (
      [],
      piece,
      refl,
      refl,
      (Keeps-none log).input ∙ sym (append-nil log.input),
      unprocessed_reported log,
      reported_failed _ _ ∙ unreturned_failed _ log ∙ up,
    )
log_after_take log after piece answer (ends_no_frame takes unparsed part answers same) =
    rw (answers, same) (piece, [], sym (append-nil piece), refl, refl, refl, takes.up)
log_after_take log after piece (Took count event)
    (ends_frame takes octets unused joined frame decoded framed sees same answers) = (
      octets,
      unused,
      joined,
      sym answers.0,
      ap (λ (log : Log). log.input) same ∙ frame_input log octets decoded frame,
      answers.2,
      answers.1,
    )
log_after_take log after piece (Failed code)
    (ends_frame takes octets unused joined frame decoded framed sees same answers) = (
      octets,
      unused,
      joined,
      ap (λ (log : Log). log.input) same ∙ frame_input log octets decoded frame,
      failed_reported log after code (subst (λ (now : Log). Answers log now) (sym same)
          (frame_answers log octets decoded frame takes.up)) answers,
      answers,
    )
log_after_take log after piece answer
    (meets_fault takes octets unused joined fault at answers same) =
    rw (answers, same) (octets, unused, joined, refl, refl, refl)
log_after_take log after piece answer
    (runs_out_of_memory up octets unused joined may answers same) =
    rw (answers, same) (octets, unused, joined, refl, refl, refl)

-- Of each frame there is an answer.
some_by : (log : Log) (octets : List ℕ) (frame : Frame) (decoded : Option Decoded)
    → TakesOctets log → TakesFrame log.role log octets frame → IsDecodedFor log decoded frame
    → Answers log (took_frame log octets decoded frame)
    → (answer : TakeAnswer) × MayTake log octets answer (took_frame log octets decoded frame)
some_by log octets frame decoded takes framed sees (inl (code, failed, reported)) = (
  Failed code,
  ends_frame takes octets [] (sym (append-nil octets)) frame decoded framed sees refl failed,
)
some_by log octets frame decoded takes framed sees (inr (event, up, reported)) = (
  Took (length octets) event,
  ends_frame takes octets [] (sym (append-nil octets)) frame decoded framed sees refl
      (refl, up, reported),
)

pub some_answer : (log : Log) (octets : List ℕ) (frame : Frame) (decoded : Option Decoded)
    → TakesOctets log → TakesFrame log.role log octets frame → IsDecodedFor log decoded frame
    → (answer : TakeAnswer) × MayTake log octets answer (took_frame log octets decoded frame)
some_answer log octets frame decoded takes framed sees =
    some_by log octets frame decoded takes framed sees
    (frame_answers log octets decoded frame takes.up)

-- Nothing is used once the connection has failed.
pub failed_take : (log after : Log) (piece : List ℕ) (answer : TakeAnswer) (code : Code)
    → log.failed ≡ Some code → MayTake log piece answer after
    → (after ≡ log) × (answer ≡ Failed code)
failed_take log after piece answer code down (has_failed other failed answers same) =
    (same, answers ∙ ap Failed (one_some other code (sym failed ∙ down)))
failed_take log after piece answer code down (reports_unprocessed up some answers same) =
    none_some code (sym up ∙ down)
failed_take log after piece answer code down
    (ends_no_frame may_take unparsed part answers same) = none_some code (sym may_take.up ∙ down)
failed_take log after piece answer code down
    (ends_frame may_take octets unused joined frame decoded framed sees same answers) =
    none_some code (sym may_take.up ∙ down)
failed_take log after piece answer code down
    (meets_fault may_take octets unused joined fault at answers same) =
    none_some code (sym may_take.up ∙ down)
failed_take log after piece answer code down
    (runs_out_of_memory up octets unused joined may answers same) = none_some code (sym up ∙ down)
