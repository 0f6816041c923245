-- Octets of a body are reported of active streams alone.
use Rattle.h2_ends.proofs.Names
use Names.{◌≡◌, ℕ, Bool, true, List, [], ◌∷◌, ◌++◌, Option, Some, None, sym, ap, ◌∙◌, subst, Data}
use Names.{Item, alone, Event, DataEvent, Log, active, View, log_view, MayTake, Took}
use Names.{reports_unprocessed, ends_no_frame, ends_frame, meets_fault, Frame, Reset, Settings}
use Names.{Ping, GoAway, block, has_failed, runs_out_of_memory, UnprocessedEvent, state_is_active}
use Rattle.h2_laws_end.proofs.TakeAnswers.{sent_reported}
use Rattle.h2_spec_log.specs.Verdicts.{Verdict, ConnectionFault, StreamFault, NoEvent, Reported}
use Rattle.h2_spec_log.specs.Log.{state, next_unprocessed}
use Rattle.h2_spec_log.specs.LogSteps.{read, used, with_verdict, with_step, with_frame, took_frame}
use Rattle.h2_spec_log.specs.ItemEffects.{events_of}
use Rattle.h2_spec_log.specs.ItemRules.{Decoded, FrameStep, fails_with, begins_block, completes}
use Rattle.h2_spec_log.specs.ItemRules.{frame_step, verdict_by_rules, verdict_of}
use Rattle.h2_laws_end.proofs.ReadVerdicts.{Says, says_of, says_data, says_nothing}
use Rattle.h2_laws_end.proofs.OverEvents.{replied_reported, same_event, no_event}

-- The item is no DATA, or this holds of its stream.
abbrev OfData : (ℕ → Type 0) → Item → Type 0
OfData P (alone (Data stream end octets pad)) = P stream
OfData P _ = Unit {0}

-- The same of an event.
abbrev OfDataEvent : (ℕ → Type 0) → Event → Type 0
OfDataEvent P (DataEvent id octets flow end) = P id
OfDataEvent P _ = Unit {0}

-- The stream is active.
abbrev IsActiveIn : Log → ℕ → Type 0
IsActiveIn log i = active log i ≡ true

-- By the rules DATA that is reported is of an active stream.
data_by_rules : (log : Log) (decoded : Option Decoded) (item : Item)
    → Says (Unit {0}) (Unit {0}) (OfData (IsActiveIn log) item)
    (verdict_by_rules (log_view log) decoded item)
unfolding verdict_by_rules
data_by_rules log decoded (alone (Data stream end octets pad)) =
    says_data (Unit {0}) (Unit {0}) (IsActiveIn log stream) (state log stream) _ _ _
    (λ active. tt) (λ closed. tt) (λ active. state_is_active _ _ _ active)
data_by_rules log decoded (block stream end octets) =
    says_nothing (verdict_by_rules (log_view log) decoded (block stream end octets))
data_by_rules log decoded (alone frame) =
    says_nothing (verdict_by_rules (log_view log) decoded (alone frame))

-- The event of an item that is reported.
reported_data : (P : ℕ → Type 0) (view : View) (decoded : Option Decoded) (item : Item)
    (event : Event) (events : List Event) → OfData P item
    → events_of view decoded Reported item ++ events ≡ event ∷ events → OfDataEvent P event
unfolding events_of
reported_data P view decoded (block stream end octets) event events of is =
    subst (OfDataEvent P) (same_event _ event events is) tt
reported_data P view decoded (alone (Data stream end octets pad)) event events of is =
    subst (OfDataEvent P) (same_event _ event events is) of
reported_data P view decoded (alone (Reset stream code)) event events of is =
    subst (OfDataEvent P) (same_event _ event events is) tt
reported_data P view decoded (alone (Settings ack pairs)) event events of is =
    subst (OfDataEvent P) (same_event _ event events is) tt
reported_data P view decoded (alone (Ping ack octets)) event events of is =
    subst (OfDataEvent P) (same_event _ event events is) tt
reported_data P view decoded (alone (GoAway last code debug)) event events of is =
    subst (OfDataEvent P) (same_event _ event events is) tt
reported_data P view decoded (alone frame) event events of is = no_event event events is

-- By the verdict.
verdict_data : (P : ℕ → Type 0) (log : Log) (decoded : Option Decoded) (item : Item)
    (verdict : Verdict) (event : Event) → Says (Unit {0}) (Unit {0}) (OfData P item) verdict
    → (with_verdict log decoded item verdict).reported ≡ event ∷ log.reported
    → OfDataEvent P event
unfolding with_verdict events_of
verdict_data P log decoded item (ConnectionFault code) event says is =
    no_event event log.reported (sym (sent_reported log _) ∙ is)
verdict_data P log decoded item (StreamFault code) event says is =
    subst (OfDataEvent P) (same_event _ event log.reported
    (sym (replied_reported (read log decoded item) _ _ _) ∙ is)) tt
verdict_data P log decoded item NoEvent event says is =
    no_event event log.reported (sym (replied_reported (read log decoded item) _ _ _) ∙ is)
verdict_data P log decoded item Reported event says is =
    reported_data P (log_view log) decoded item event log.reported says
    (sym (replied_reported (read log decoded item) _ _ _) ∙ is)

-- What a frame makes of the block that has begun.
step_data : (log : Log) (decoded : Option Decoded) (step : FrameStep) (event : Event)
    → (with_step log decoded step).reported ≡ event ∷ log.reported
    → OfDataEvent (IsActiveIn log) event
unfolding with_step
step_data log decoded (fails_with code) event is =
    no_event event log.reported (sym (sent_reported log _) ∙ is)
step_data log decoded (begins_block begun) event is = no_event event log.reported is
step_data log decoded (completes item) event is =
    let ready = record log { begun = None } in
    verdict_data (IsActiveIn log) ready decoded item (verdict_of (log_view ready) decoded item)
    event (says_of _ _ _ ready decoded item (data_by_rules ready decoded item)) is

-- A frame.
frame_data : (log : Log) (octets : List ℕ) (decoded : Option Decoded) (frame : Frame)
    (event : Event) → (took_frame log octets decoded frame).reported ≡ event ∷ log.reported
    → OfDataEvent (IsActiveIn log) event
unfolding with_frame used
frame_data log octets decoded frame event is =
    step_data (record (used log octets []) { frames = log.frames ++ frame ∷ [] }) decoded
    (frame_step (log_view (used log octets [])) frame) event is

-- A call of `take`.
take_data : (log after : Log) (piece : List ℕ) (count : ℕ) (event : Event)
    → MayTake log piece (Took count (Some event)) after → OfDataEvent (IsActiveIn log) event
take_data log after piece count event (has_failed code failed answers same) = cc
take_data log after piece count event (reports_unprocessed up some answers same) =
    let one : UnprocessedEvent (next_unprocessed log) ≡ event = cc in
    subst (OfDataEvent (IsActiveIn log)) one tt
take_data log after piece count event (ends_no_frame takes unparsed part answers same) = cc
take_data log after piece count event
    (ends_frame takes octets unused joined frame decoded framed sees same answers) =
    frame_data log octets decoded frame event
    (sym (ap (λ (one : Log). one.reported) same) ∙ answers.2)
take_data log after piece count event (meets_fault takes octets unused joined fault at answers
    same) = cc
take_data log after piece count event (runs_out_of_memory up octets unused joined may answers
    same) = cc

pub data_is_active : (log after : Log) (piece : List ℕ) (count id : ℕ) (octets : List ℕ)
    (flow : ℕ) (end : Bool)
    → MayTake log piece (Took count (Some (DataEvent id octets flow end))) after
    → active log id ≡ true
data_is_active log after piece count id octets flow end may =
    take_data log after piece count (DataEvent id octets flow end) may
