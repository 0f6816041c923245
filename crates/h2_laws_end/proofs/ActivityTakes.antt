-- A call of `take` leaves a stream active, unless what it answers says that it may be closed; and
-- it makes one active only where it reports fields of it.
use Rattle.h2_laws_end.proofs.Names
use Names.{◌≡◌, ◌⊎◌, ℕ, ◌≤◌, Bool, true, false, List, [], ◌∷◌, ◌++◌, Option, Some, None, refl, sym}
use Names.{◌∙◌, inl, inr, subst, list_any, both_ways, or_from, eq-eqb, false_from_ne_true}
use Names.{append_cancel_right, Field, Code, InternalError, wire_fault_code, none_some, Role}
use Names.{Server, Values, Event, FieldsEvent, UnprocessedEvent, Log, active, next_unprocessed}
use Names.{with_failure, took_none, IsLog, TakeAnswer, MayTake, Took, Failed, events_answered}
use Names.{AnswersFrame, has_failed, ends_no_frame, ends_frame, meets_fault, runs_out_of_memory}
use Names.{last_processed, used, with_sent, event_may_close}
use Rattle.h2_spec_log.specs.Events.{reports_unprocessed}
use Rattle.h2_laws_end.specs.Takes.{reports_unprocessed as named_one}
use Rattle.h2_laws_end.specs.Activity.{take_may_close, take_has_fields}
use Rattle.h2_laws_end.proofs.ReadingCalls.{log_read}
use Rattle.h2_laws_end.proofs.ReadingRules.{LogIsLow}
use Rattle.h2_laws_end.proofs.ActivityCalls.{active_low}
use Rattle.h2_laws_end.proofs.ActivityFrames.{active_added, frame_keeps_active, frame_opens}
use Rattle.h2_laws_end.proofs.ActivityFrames.{HasFields, was_active}
use Rattle.h2_laws_end.proofs.OverSteps.{credit_without_block}
use Rattle.h2_laws_end.proofs.ActivityStays.{harmless_credit, stays_active}
use Rattle.h2_laws_end.proofs.ActivitySteps.{frame_used, frame_after, part_after, fault_after}
use Rattle.h2_laws_end.proofs.ActivitySteps.{none_adds, AfterFrame}
use Rattle.h2_laws_end.proofs.OverEvents.{no_event}

-- Nothing that is answered may close the stream.
answered_keeps : (i count : ℕ) (event : Option Event) → take_may_close i (Took count event) ≡ false
    → list_any (event_may_close i) (events_answered event) ≡ false
unfolding take_may_close
answered_keeps i count None none = refl
answered_keeps i count (Some event) none = or_from _ _ none refl

-- So it is of what is reported of a frame.
frame_says : (before after : Log) (count i : ℕ) (answer : TakeAnswer) → before.failed ≡ None
    → AnswersFrame before after count answer → take_may_close i answer ≡ false
    → after.failed ≡ before.failed → (events : List Event)
    → after.reported ≡ events ++ before.reported → list_any (event_may_close i) events ≡ false
frame_says before after count i (Took n event) up answers none same events is =
    let one : events_answered event ≡ events =
    append_cancel_right _ _ before.reported (sym answers.2 ∙ is) in
    subst (λ (line : List Event). list_any (event_may_close i) line ≡ false) one
    (answered_keeps i n event none)
frame_says before after count i (Failed code) up answers none same events is =
    none_some code (sym up ∙ sym same ∙ answers)

-- A stream that is reported as unprocessed isn't another one.
none_keeps : (log : Log) (i : ℕ) → active log i ≡ true
    → event_may_close i (UnprocessedEvent (next_unprocessed log)) ≡ false
    → active (took_none log) i ≡ true
unfolding event_may_close reports_unprocessed
none_keeps log i alive other =
    let adds = none_adds log in
    active_added log (took_none log) [] adds.0 _ i adds.2 ∙ stays_active log.role i [] adds.0
    log.received log.sent (UnprocessedEvent (next_unprocessed log) ∷ []) log.reported alive refl
    refl (harmless_credit _ _ adds.0 adds.1) (or_from _ _ other refl)

-- Where nothing is reported, it stays active.
quiet_keeps : (log after : Log) (i : ℕ) → AfterFrame log None after
    → after.reported ≡ log.reported → active log i ≡ true
    → (log.role ≡ Server → i ≤ last_processed log) → active after i ≡ true
quiet_keeps log after i steps quiet alive low =
    frame_keeps_active log after None i steps alive low (λ failed events is.
    let one : [] ≡ events = append_cancel_right [] events log.reported (sym quiet ∙ is) in
    subst (λ (line : List Event). list_any (event_may_close i) line ≡ false) one refl)

-- Nothing is reported of octets that are used, nor of a fault.
pub part_reported : (log : Log) (octets unparsed : List ℕ)
    → (used log octets unparsed).reported ≡ log.reported
unfolding used
part_reported log octets unparsed = refl

pub fault_reported : (log : Log) (octets : List ℕ) (code : Code) (last : ℕ)
    → (with_failure code last (used log octets [])).reported ≡ log.reported
unfolding used with_sent
fault_reported log octets code last = refl

-- A stream stays active after a call of `take`, unless its answer says that it may be closed.
pub active_by_take : (role : Role) (values : Values) (log after : Log) (piece : List ℕ)
    (answer : TakeAnswer) (i : ℕ) → IsLog role values log → MayTake log piece answer after
    → active log i ≡ true → take_may_close i answer ≡ false → active after i ≡ true
unfolding take_may_close last_processed
active_by_take role values log after piece answer i is (has_failed code failed answers same) alive
    none = rw same alive
active_by_take role values log after piece answer i is (named_one up some answers same) alive none =
    let other : take_may_close i (Took 0 (Some (UnprocessedEvent (next_unprocessed log)))) ≡ false =
    subst (λ (one : TakeAnswer). take_may_close i one ≡ false) answers none in
    rw same (none_keeps log i alive other)
active_by_take role values log after piece answer i is
    (ends_no_frame takes unparsed part answers same) alive none =
    rw same (quiet_keeps log _ i (part_after log piece unparsed)
    (part_reported log piece unparsed) alive (active_low role values log i is alive))
active_by_take role values log after piece answer i is
    (ends_frame takes octets unused joined frame decoded framed sees same answers) alive none =
    frame_keeps_active (frame_used log octets frame) after decoded i
    (rw same (frame_after log octets decoded frame)) alive (active_low role values log i is alive)
    (frame_says (frame_used log octets frame) after _ i answer takes.up answers none)
active_by_take role values log after piece answer i is
    (meets_fault takes octets unused joined fault at answers same) alive none =
    rw same (quiet_keeps log _ i (fault_after log octets (wire_fault_code fault)) (fault_reported
    log octets (wire_fault_code fault) _) alive (active_low role values log i is alive))
active_by_take role values log after piece answer i is
    (runs_out_of_memory up octets unused joined may answers same) alive none =
    rw same (quiet_keeps log _ i (fault_after log octets InternalError) (fault_reported
    log octets InternalError _) alive (active_low role values log i is alive))

-- What is reported of the frame is what is answered.
answered_by : (i count : ℕ) (event : Option Event) (list : List Field) (end : Bool)
    → events_answered event ≡ FieldsEvent i list end ∷ []
    → take_has_fields i (Took count event) ≡ true
unfolding take_has_fields
answered_by i count None list end is = cc
answered_by i count (Some event) list end is =
    let same : event ≡ FieldsEvent i list end = cc in
    rw same (eq-eqb i i refl)

answered_fields : (before after : Log) (count i : ℕ) (answer : TakeAnswer) → before.failed ≡ None
    → AnswersFrame before after count answer → HasFields before after i
    → take_has_fields i answer ≡ true
answered_fields before after count i (Took n event) up answers fields =
    answered_by i n event fields.fields fields.end (append_cancel_right _ _ _
    (sym answers.2 ∙ fields.one))
answered_fields before after count i (Failed code) up answers fields =
    none_some code (sym up ∙ sym fields.same ∙ answers)

-- Where nothing is reported, no stream becomes active.
quiet_opens : (log after : Log) (i : ℕ) (answer : TakeAnswer) → AfterFrame log None after
    → after.reported ≡ log.reported → (log.failed ≡ after.failed → LogIsLow log)
    → active after i ≡ true → (active log i ≡ true) ⊎ (take_has_fields i answer ≡ true)
quiet_opens log after i answer steps quiet low alive =
    elim (frame_opens log after None i steps low alive) [
      | inl was ↦ inl was
      | inr fields ↦ no_event _ log.reported (sym quiet ∙ fields.one)
    ]

module _ (role : Role) (values : Values) (log after : Log) (piece : List ℕ) (answer : TakeAnswer)
    (i : ℕ) where
  -- Whatever stream is active after a call of `take` was so before it, or fields of it are
  -- reported.
  took_opens : IsLog role values log → MayTake log piece answer after → active after i ≡ true
      → (active log i ≡ true) ⊎ (take_has_fields i answer ≡ true)
  took_opens is (has_failed code failed answers same) alive = inl (rw same at alive)
  took_opens is (named_one up some answers same) alive =
      let adds = none_adds log in
      inl (was_active log (took_none log) [] adds.0 _ i adds.2 (λ server. refl)
      (λ client. credit_without_block i adds.0 adds.1) (rw same at alive))
  took_opens is (ends_no_frame takes unparsed part answers same) alive =
      quiet_opens log _ i answer (part_after log piece unparsed) (part_reported log piece unparsed)
      (λ failed. (log_read role values log is).low takes.up) (rw same at alive)
  took_opens is (ends_frame takes octets unused joined frame decoded framed sees same answers) alive
      = elim (frame_opens (frame_used log octets frame) after decoded i
      (rw same (frame_after log octets decoded frame))
      (λ failed. (log_read role values log is).low takes.up) alive) [
        | inl was ↦ inl was
        | inr fields ↦ inr (answered_fields (frame_used log octets frame) after _ i answer takes.up
            answers fields)
      ]
  took_opens is (meets_fault takes octets unused joined fault at answers same) alive =
      quiet_opens log _ i answer (fault_after log octets (wire_fault_code fault))
      (fault_reported log octets (wire_fault_code fault) _)
      (λ failed. (log_read role values log is).low takes.up) (rw same at alive)
  took_opens is (runs_out_of_memory up octets unused joined may answers same) alive =
      quiet_opens log _ i answer (fault_after log octets InternalError)
      (fault_reported log octets InternalError _)
      (λ failed. (log_read role values log is).low up) (rw same at alive)

  -- A stream that isn't active is so after a call of `take` only if fields of it are reported.
  pub inactive_by_take : IsLog role values log → MayTake log piece answer after
      → active log i ≡ false → take_has_fields i answer ≡ false → active after i ≡ false
  inactive_by_take is may inactive none = false_from_ne_true _ (λ alive.
      elim (took_opens is may alive) [
        | inl was ↦ both_ways _ inactive was
        | inr fields ↦ both_ways _ none fields
      ])
