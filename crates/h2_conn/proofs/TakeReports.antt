-- What a log reports of a frame is what the machine that represents it does.
use Rattle.h2_conn.proofs.Names.{◌≡◌, ℕ, List, [], ◌∷◌, ◌++◌, Option, Some, None, refl, ap, sym}
use Rattle.h2_conn.proofs.Names.{subst, ◌∙◌, Frame, none_some, Item, alone, block, Values, Event}
use Rattle.h2_conn.proofs.Names.{Verdict, ConnectionFault, Decoded, FrameStep, fails_with}
use Rattle.h2_conn.proofs.Names.{begins_block, completes, frame_step, verdict_of, events_of, Log}
use Rattle.h2_conn.proofs.Names.{log_view, took_frame, IsDecodedFor, End, end_view, Represents}
use Rattle.h2_conn.proofs.Names.{step_alike, IsDecodedBy, step_events, frame_events, used, rules}
use Rattle.h2_spec_log.specs.LogSteps.{with_verdict, with_step, with_frame}
use Rattle.h2_spec_log.specs.Histories.{IsDecodedIn}
use Rattle.h2_laws_machine.proofs.AlikeFrames.{events_used}
use Rattle.h2_laws_machine.proofs.RecvFrames.{step_same}
use Rattle.h2_laws_end.proofs.TakeAnswers.{reported_is, sent_reported, unreturned_reported}

-- Of an item the events are reported that its verdict has.
verdict_reports : (log : Log) (decoded : Option Decoded) (item : Item) (verdict : Verdict)
    → (with_verdict log decoded item verdict).failed ≡ None
    → (with_verdict log decoded item verdict).reported
    ≡ events_of (log_view log) decoded verdict item ++ log.reported
unfolding with_verdict
verdict_reports log decoded item (ConnectionFault code) up = none_some code (sym up)
verdict_reports log decoded item verdict up =
    reported_is _ _ ∙ ap (λ (r : List Event). events_of (log_view log) decoded verdict item ++ r)
    (unreturned_reported _ _ ∙ sent_reported _ _)

-- the events of the item that a frame completes
abbrev log_events : Log → Option Decoded → FrameStep → List Event
log_events log decoded (fails_with code) = []
log_events log decoded (begins_block begun) = []
log_events log decoded (completes item) =
    events_of (log_view (record log { begun = None })) decoded
    (verdict_of (log_view (record log { begun = None })) decoded item) item

step_reports : (log : Log) (decoded : Option Decoded) (step : FrameStep)
    → (with_step log decoded step).failed ≡ None
    → (with_step log decoded step).reported ≡ log_events log decoded step ++ log.reported
unfolding with_step
step_reports log decoded (fails_with code) up = none_some code (sym up)
step_reports log decoded (begins_block begun) up = refl
step_reports log decoded (completes item) up =
    verdict_reports (record log { begun = None }) decoded item _ up

-- They are those of the machine.
same_events : (values : Values) (e : End) (log : Log) (octets : List ℕ) (frame : Frame)
    (decoded : Option Decoded) (step : FrameStep) → Represents values e log → e.failed ≡ None
    → log_events (record (used log octets []) { frames = log.frames ++ frame ∷ [] }) decoded step
    ≡ step_events e decoded step
same_events values e log octets frame decoded (fails_with code) represents up = refl
same_events values e log octets frame decoded (begins_block begun) represents up = refl
same_events values e log octets frame decoded (completes item) represents up =
    sym (events_used values e log octets frame decoded item represents up)

-- What is reported of a frame, as long as the connection goes on.
pub frame_reported : (values : Values) (e : End) (log : Log) (octets : List ℕ)
    (decoded : Option Decoded) (frame : Frame) → Represents values e log → e.failed ≡ None
    → (took_frame log octets decoded frame).failed ≡ None
    → (took_frame log octets decoded frame).reported
    ≡ frame_events e decoded frame ++ log.reported
unfolding with_frame used
frame_reported values e log octets decoded frame represents up after =
    let run = represents.running up in
    let step = frame_step (log_view (used log octets [])) frame in
    let before : Log = record (used log octets []) { frames = log.frames ++ frame ∷ [] } in
    step_reports before decoded step after
    ∙ ap (λ (events : List Event). events ++ log.reported)
    (same_events values e log octets frame decoded step represents up
    ∙ ap (step_events e decoded) (sym (step_same e log octets frame run.started run.reading.begun)))

-- What is decoded at the machine is decoded at the log.
decoded_in : (values : Values) (e : End) (log : Log) (decoded : Option Decoded) (step : FrameStep)
    → Represents values e log → e.failed ≡ None → IsDecodedBy e decoded step
    → IsDecodedIn log decoded step
decoded_in values e log None (completes (block stream end octets)) represents up says =
    let run = represents.running up in
    rw (sym run.reading.table, sym run.own.in_force.table_limit) says
decoded_in values e log (Some decoded) (completes (block stream end octets)) represents up says =
    search rules
decoded_in values e log decoded (completes (alone frame)) represents up says = says
decoded_in values e log decoded step represents up says = says

pub decoded_for : (values : Values) (e : End) (log : Log) (decoded : Option Decoded)
    (frame : Frame) → Represents values e log → e.failed ≡ None
    → IsDecodedBy e decoded (frame_step (end_view e) frame) → IsDecodedFor log decoded frame
decoded_for values e log decoded frame represents up says =
    subst (λ (s : FrameStep). IsDecodedIn log decoded s)
    (step_alike values e log frame represents up)
    (decoded_in values e log decoded (frame_step (end_view e) frame) represents up says)
