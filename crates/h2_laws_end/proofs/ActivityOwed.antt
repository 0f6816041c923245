-- Where nothing is owed on a stream, nothing is after a call, nor after a call of `take` that
-- reports no octets of it.
use Rattle.h2_laws_end.proofs.Names
use Names.{◌≡◌, ℕ, ◌+◌, ◌-◌, ◌≤◌, true, false, List, [], ◌∷◌, ◌++◌, Option, Some, None, refl, sym}
use Names.{ap, ◌∙◌, inl, inr, arith, subst, both_ways, cases_Bool, false_from_ne_true}
use Names.{append_cancel_right, Code, InternalError, Frame, wire_fault_code, none_some, Item, Role}
use Names.{Values, Act, Answer, Open, Number, Event, DataEvent, UnprocessedEvent, Log, active}
use Names.{next_unprocessed, Decoded, with_failure, took_frame, took_none, MayAnswer, accepts}
use Names.{refuses, lacks, fails, with_call, IsLog, none_holds, history_of, active_before}
use Names.{holds_failure, unreleased_is, TakeAnswer, MayTake, Took, Failed, events_answered}
use Names.{AnswersFrame, has_failed, ends_no_frame, ends_frame, meets_fault, runs_out_of_memory}
use Names.{flow_on, reported_total, owed, released, unreleased, conditions, used, call_calls}
use Names.{none_since, log_represents, reported_append, Good, holds_frame, holds_none, holds_used}
use Rattle.h2_laws_log.proofs.PartsStay.{SameCalls, calls_written, calls_read}
use Rattle.h2_laws_end.specs.Takes.{reports_unprocessed as named_one}
use Rattle.h2_laws_end.specs.Activity.{take_has_data}
use Rattle.h2_laws_end.proofs.OverRoom.{released_more, owed_inactive, owed_active, owed_none}
use Rattle.h2_laws_end.proofs.ActivityCalls.{inactive_by_call}
use Rattle.h2_laws_end.proofs.ActivityFrames.{active_added}
use Rattle.h2_laws_end.proofs.ActivitySteps.{Adds, AfterFrame, stays_same, has_broken, has_read}
use Rattle.h2_laws_end.proofs.ActivitySteps.{AfterCall, was_refused, was_broken, was_accepted}
use Rattle.h2_laws_end.proofs.ActivitySteps.{frame_used, frame_after, part_after, fault_after}
use Rattle.h2_laws_end.proofs.ActivitySteps.{none_adds, call_after}
use Rattle.h2_laws_end.proofs.ActivityTakes.{part_reported, fault_reported}
use Rattle.h2_laws_end.proofs.ReceiveWindows.{flow_none}

module _ (before after : Log) (reads items : List Item) (events : List Event) (i : ℕ) where
  -- Of a stream that a step makes active no octets were reported before it: it wasn't opened.
  new_unreported : Adds before after reads items events → Good (history_of before)
      → active before i ≡ false → active after i ≡ true
      → reported_total (flow_on i) before.reported ≡ 0
  new_unreported adds good inactive alive =
      good.opened i (false_from_ne_true _ (λ opened. both_ways _ inactive
      (active_before before.role i reads items before.received before.sent events before.reported
      (sym (active_added before after reads items events i adds) ∙ alive) opened)))

  -- What is left of a stream's octets after a step, by the lists.
  left_after : Adds before after reads items events
      → unreleased after i ≡ (reported_total (flow_on i) events + reported_total (flow_on i)
      before.reported) - released i after.calls
  left_after adds = unreleased_is after i
      ∙ ap (λ (line : List Event). reported_total (flow_on i) line - released i after.calls)
      adds.reported ∙ ap (λ (n : ℕ). n - released i after.calls)
      (reported_append (flow_on i) events before.reported)

  -- A step that reports no octets of a stream makes nothing owed on it.
  none_owed_after : Adds before after reads items events
      → released i before.calls ≤ released i after.calls → reported_total (flow_on i) events ≡ 0
      → (active before i ≡ false → active after i ≡ true → Good (history_of before))
      → owed before i ≡ 0 → owed after i ≡ 0
  none_owed_after adds more quiet good none = elim (cases_Bool (active after i)) [
    | inl alive ↦ elim (cases_Bool (active before i)) [
      | inl was ↦ owed_none after i (omega (
        arith,
        none,
        more,
        quiet,
        left_after adds,
        owed_active before i was,
        unreleased_is before i,
      ))
      | inr inactive ↦ owed_none after i (omega (
        arith,
        quiet,
        left_after adds,
        new_unreported adds (good inactive alive) inactive alive,
      ))
    ]
    | inr over ↦ owed_inactive after i over
  ]

-- A call releases what it releases, and takes nothing back.
call_releases : (log : Log) (act : Act) (answer : Answer) (i : ℕ)
    → released i log.calls ≤ released i (with_call log act answer).calls
call_releases log act answer i = rw (call_calls log act answer)
    (released_more i act answer log.calls)

-- Only a call that opens a stream answers a number, as long as the connection is up.
number_up : (log : Log) (act : Act) (i : ℕ) → MayAnswer log act (Number i) → log.failed ≡ None
unfolding conditions
number_up log (Open fields end) i (accepts none is) = none_since log.failed (none_holds _ none).0
number_up log act i (accepts none is) = cc
number_up log act i (refuses refusal holds is) = cc
number_up log act i (lacks none may is) = cc
number_up log act i (fails none may is) = cc

-- So the connection is up where a call makes a stream active.
up_unless : (failed : Option Code) → ((failed ≡ None → ⊥) → ⊥) → failed ≡ None
up_unless None down = refl
up_unless (Some code) down = absurd (down (λ up. none_some code (sym up)))

opens_up : (log : Log) (act : Act) (answer : Answer) (i : ℕ) → MayAnswer log act answer
    → active log i ≡ false → active (with_call log act answer) i ≡ true → log.failed ≡ None
opens_up log act answer i may inactive alive =
    up_unless log.failed (λ down. both_ways _
    (inactive_by_call log act answer i may inactive (λ is. down (number_up log act i
    (subst (λ (one : Answer). MayAnswer log act one) is may)))) alive)

-- What is known of a log whose connection is up.
log_good : (role : Role) (values : Values) (log : Log) → IsLog role values log
    → log.failed ≡ None → Good (history_of log)
log_good role values log is = (log_represents role values log is).good

-- A call.
owed_by : (log after : Log) (act : Act) (answer : Answer) (i : ℕ) → AfterCall log act answer after
    → released i log.calls ≤ released i after.calls
    → (active log i ≡ false → active after i ≡ true → Good (history_of log))
    → owed log i ≡ 0 → owed after i ≡ 0
owed_by log after act answer i (was_refused refusal is adds) more good none =
    none_owed_after log after [] [] [] i adds more (flow_none i) good none
owed_by log after act answer i (was_broken code adds failed) more good none =
    none_owed_after log after [] _ [] i adds more (flow_none i) good none
owed_by log after act answer i (was_accepted credit is_credit free is adds) more good none =
    none_owed_after log after [] _ [] i adds more (flow_none i) good none

-- Where nothing is owed on a stream, nothing is after a call.
pub none_owed_by_call : (role : Role) (values : Values) (log : Log) (act : Act) (answer : Answer)
    (i : ℕ) → IsLog role values log → MayAnswer log act answer → owed log i ≡ 0
    → owed (with_call log act answer) i ≡ 0
none_owed_by_call role values log act answer i is may none =
    owed_by log (with_call log act answer) act answer i (call_after log act answer may)
    (call_releases log act answer i)
    (λ inactive alive. log_good role values log is (opens_up log act answer i may inactive alive))
    none

-- A frame, and octets that make a fault, are none.
frame_calls : (log : Log) (octets : List ℕ) (decoded : Option Decoded) (frame : Frame)
    → (took_frame log octets decoded frame).calls ≡ log.calls
unfolding used
frame_calls log octets decoded frame =
    holds_frame SameCalls calls_read (used log octets []) decoded frame

fault_calls : (log : Log) (octets : List ℕ) (code : Code) (last : ℕ)
    → (with_failure code last (used log octets [])).calls ≡ log.calls
unfolding used
fault_calls log octets code last =
    holds_failure SameCalls calls_written code last (used log octets [])

-- Where the calls are the same, so is what was released.
same_released : (i : ℕ) (before after : Log) → after.calls ≡ before.calls
    → released i before.calls ≤ released i after.calls
same_released i before after same = rw same (omega arith)

-- A frame that reports no octets of the stream.
owed_by_frame : (before after : Log) (decoded : Option Decoded) (i : ℕ)
    → AfterFrame before decoded after → after.calls ≡ before.calls → Good (history_of before)
    → (after.failed ≡ before.failed → (events : List Event)
    → after.reported ≡ events ++ before.reported → reported_total (flow_on i) events ≡ 0)
    → owed before i ≡ 0 → owed after i ≡ 0
owed_by_frame before after decoded i (stays_same adds failed) same good quiet none =
    none_owed_after before after [] [] [] i adds (same_released i before after same)
    (flow_none i) (λ inactive alive. good) none
owed_by_frame before after decoded i (has_broken code last up adds failed) same good quiet none =
    none_owed_after before after [] _ [] i adds (same_released i before after same)
    (flow_none i) (λ inactive alive. good) none
owed_by_frame before after decoded i (has_read item verdict credit is on is_credit adds failed)
    same good quiet none =
    none_owed_after before after (item ∷ []) _ _ i adds (same_released i before after same)
    (quiet failed _ adds.reported) (λ inactive alive. good) none

-- Nothing is reported of octets that are used, nor of a fault.
owed_by_none : (log after : Log) (i : ℕ) → AfterFrame log None after
    → after.calls ≡ log.calls → after.reported ≡ log.reported → Good (history_of log)
    → owed log i ≡ 0 → owed after i ≡ 0
owed_by_none log after i steps same reported good none =
    owed_by_frame log after None i steps same good (λ failed events is.
    subst (λ (line : List Event). reported_total (flow_on i) line ≡ 0)
    (append_cancel_right [] events log.reported (sym reported ∙ is)) (flow_none i)) none

-- What is answered has no octets of the stream.
answered_quiet : (i count : ℕ) (event : Option Event) → take_has_data i (Took count event) ≡ false
    → reported_total (flow_on i) (events_answered event) ≡ 0
unfolding take_has_data reported_total flow_on
answered_quiet i count None none = refl
answered_quiet i count (Some (DataEvent id octets flow end)) none = rw none refl
answered_quiet i count (Some event) none = refl

-- So it is of what is reported of a frame.
frame_quiet : (before after : Log) (count i : ℕ) (answer : TakeAnswer) → before.failed ≡ None
    → AnswersFrame before after count answer → take_has_data i answer ≡ false
    → after.failed ≡ before.failed → (events : List Event)
    → after.reported ≡ events ++ before.reported → reported_total (flow_on i) events ≡ 0
frame_quiet before after count i (Took n event) up answers none same events is =
    subst (λ (line : List Event). reported_total (flow_on i) line ≡ 0)
    (append_cancel_right _ _ before.reported (sym answers.2 ∙ is)) (answered_quiet i n event none)
frame_quiet before after count i (Failed code) up answers none same events is =
    none_some code (sym up ∙ sym same ∙ answers)

-- A stream that is reported as unprocessed has no octets.
named_quiet : (i id : ℕ) → reported_total (flow_on i) (UnprocessedEvent id ∷ []) ≡ 0
unfolding reported_total flow_on
named_quiet i id = refl

-- Octets that are used leave as much owed.
used_owed : (log : Log) (octets : List ℕ) (frame : Frame) (i : ℕ) → owed log i ≡ 0
    → owed (frame_used log octets frame) i ≡ 0
unfolding owed unreleased
used_owed log octets frame i none = none

-- Where nothing is owed on a stream, nothing is after a call of `take`, unless it reports octets
-- of the stream.
pub none_owed_by_take : (role : Role) (values : Values) (log after : Log) (piece : List ℕ)
    (answer : TakeAnswer) (i : ℕ) → IsLog role values log → MayTake log piece answer after
    → owed log i ≡ 0 → take_has_data i answer ≡ false → owed after i ≡ 0
none_owed_by_take role values log after piece answer i is (has_failed code failed answers same)
    none quiet = rw same none
none_owed_by_take role values log after piece answer i is (named_one up some answers same) none
    quiet =
    let adds = none_adds log in
    rw same (none_owed_after log (took_none log) [] adds.0 _ i adds.2
    (same_released i log (took_none log) (holds_none SameCalls calls_read log))
    (named_quiet i (next_unprocessed log)) (λ inactive alive. log_good role values log is up) none)
none_owed_by_take role values log after piece answer i is
    (ends_no_frame takes unparsed part answers same) none quiet =
    rw same (owed_by_none log _ i (part_after log piece unparsed)
    (holds_used SameCalls calls_read log piece unparsed) (part_reported log piece unparsed)
    (log_good role values log is takes.up) none)
none_owed_by_take role values log after piece answer i is
    (ends_frame takes octets unused joined frame decoded framed sees same answers) none quiet =
    owed_by_frame (frame_used log octets frame) after decoded i
    (rw same (frame_after log octets decoded frame))
    (rw same (frame_calls log octets decoded frame)) (log_good role values log is takes.up)
    (frame_quiet (frame_used log octets frame) after _ i answer takes.up answers quiet)
    (used_owed log octets frame i none)
none_owed_by_take role values log after piece answer i is
    (meets_fault takes octets unused joined fault at answers same) none quiet =
    rw same (owed_by_none log _ i (fault_after log octets (wire_fault_code fault))
    (fault_calls log octets (wire_fault_code fault) _)
    (fault_reported log octets (wire_fault_code fault) _)
    (log_good role values log is takes.up) none)
none_owed_by_take role values log after piece answer i is
    (runs_out_of_memory up octets unused joined may answers same) none quiet =
    rw same (owed_by_none log _ i (fault_after log octets InternalError)
    (fault_calls log octets InternalError _) (fault_reported log octets InternalError _)
    (log_good role values log is up) none)
