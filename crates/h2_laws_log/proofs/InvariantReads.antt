-- The invariant of a log holds after what an end takes.
use Rattle.h2_spec_log.specs.Events.{FieldsEvent, AckedEvent, PongEvent}
use Rattle.h2_spec_log.specs.ItemEffects.{decoded_fields, discarded_flow}
use Rattle.h2_laws_log.proofs.Names
use Names.{both_ways, and_parts, not-true, Code, EnhanceYourCalm, Frame, Data, Reset, Settings}
use Names.{Ping, GoAway, WindowUpdate, stream_of, Item, alone, block, Role, stream_of_item, data_of}
use Names.{one_ping, one_answer, one_settings, one_ack, ResetEvent, flow_on, one_acked, one_pong}
use Names.{reports_unprocessed, State, Idle, Active, ClosedByUs, greatest_number, Log, active}
use Names.{state, settings_wait, goaway_written, last_processed, least_goaway, Verdict}
use Names.{ConnectionFault, StreamFault, NoEvent, Reported, data_verdict, reset_verdict}
use Names.{connection_update_verdict, update_verdict, block_verdict, opening_verdict, Decoded}
use Names.{replies_to, opened_by, settings_fault, verdict_of_fault, verdict_by_rules, verdict_of}
use Names.{FrameStep, fails_with, begins_block, completes, frame_step, events_of, log_view}
use Names.{with_verdict, with_step, with_frame, AllowedHistory, MayReset, ◌≡◌, ◌⊎◌, ℕ, ◌≤◌, ◌==◌}
use Names.{Bool, true, false, if◌then◌else◌, List, [], ◌∷◌, ◌++◌, Option, None, Some, refl, inl}
use Names.{inr, arith, ProtocolError, FlowControlError, peer_opens, over_limits, rules}
use Rattle.h2_laws_log.proofs.ReaderStates.{state_is_active}
use Rattle.h2_laws_log.proofs.LogHistory.{history_of}
use Rattle.h2_laws_log.proofs.LogInvariant.{Good, Represents, NumbersFit, Moves}
use Rattle.h2_laws_log.proofs.InvariantSteps.{fails_represents, last_low, step_log}
use Rattle.h2_laws_log.proofs.OpenedStreams.{idle_resets}
use Rattle.h2_laws_log.proofs.ReplyInvariant.{read_resets, one_reported, none_reported}
use Rattle.h2_laws_log.proofs.ReplyInvariant.{reset_reported, settings_answered, ping_answered}
use Rattle.h2_laws_log.proofs.ReplyInvariant.{data_reported}
use Rattle.h2_laws_log.proofs.StreamNumbers.{last_none}

-- what a verdict asks for: that the stream may be reset, or that the item may be reported
abbrev pub Fits : (reset report : Type 0) → Verdict → Type 0
Fits reset report (ConnectionFault code) = Unit {0}
Fits reset report (StreamFault code) = reset
Fits reset report NoEvent = Unit {0}
Fits reset report Reported = report

-- The item opens its stream: it is a block on an idle number that the peer may open, and no GOAWAY
-- was sent.
abbrev pub OpensIt : Log → Item → Type 0
OpensIt log (block stream end octets) = (state log stream ≡ Idle)
    × (peer_opens (log_view log) stream ≡ true) × (goaway_written log ≡ false)
OpensIt log (alone frame) = ⊥

-- The item's stream is active, or the item opens it.
abbrev pub IsOpenFor : Log → Item → Type 0
IsOpenFor log item = (state log (stream_of_item item) ≡ Active) ⊎ OpensIt log item

-- The item's stream is open for it, so it may be reset; and the item needs no answer.
pub record Resets (log : Log) (item : Item) : Type 0 where
  pub alive : IsOpenFor log item
  pub acks : one_settings item ≡ 0
  pub answers : one_ping item ≡ 0

-- The item may be reported: DATA on an active stream, a block on one or that opens one, and no
-- SETTINGS and no PING but those that answer.
abbrev pub Reports : Log → Item → Type 0
Reports log (block stream end octets) = IsOpenFor log (block stream end octets)
Reports log (alone (Data stream end octets pad)) = active log stream ≡ true
Reports log (alone (Settings ack pairs)) = ack ≡ true
Reports log (alone (Ping ack octets)) = ack ≡ true
Reports log item = Unit {0}

-- DATA is checked so.
data_fits : (R T : Type 0) (state : State) (passes ended above : Bool) → (state ≡ Active → R)
    → (state ≡ Active → T)
    → Fits R T (data_verdict state passes ended above)
unfolding data_verdict
data_fits R T ClosedByUs true ended above r t = tt
data_fits R T Active false true above r t = r refl
data_fits R T Active false false false r t = t refl
data_fits R T other passes ended above r t = tt

-- RST_STREAM is checked so.
reset_fits : (R T : Type 0) (state : State) → T → Fits R T (reset_verdict state)
unfolding reset_verdict
reset_fits R T Active t = t
reset_fits R T other t = tt

-- A fault of SETTINGS is checked so.
fault_fits : (R T : Type 0) (fault : Option Code) → Fits R T (verdict_of_fault fault)
fault_fits R T None = tt
fault_fits R T (Some code) = tt

-- An answer is checked so.
reported_fits : (R T : Type 0) (b : Bool) → T → Fits R T (if b then Reported else NoEvent)
reported_fits R T true t = t
reported_fits R T false t = tt

-- WINDOW_UPDATE of the connection is checked so, by its tests.
connection_by : (R T : Type 0) (none above : Bool)
    → Fits R T (if none then ConnectionFault ProtocolError
    else if above then ConnectionFault FlowControlError else NoEvent)
connection_by R T false true = tt
connection_by R T none above = tt

-- WINDOW_UPDATE of a stream is checked so, by its tests.
update_by : (R T : Type 0) (none above : Bool) → R
    → Fits R T (if none then StreamFault ProtocolError
    else if above then StreamFault FlowControlError else NoEvent)
update_by R T true above r = r
update_by R T false true r = r
update_by R T false false r = tt

-- WINDOW_UPDATE of a stream is checked so.
update_fits : (R T : Type 0) (state : State) (increment : ℕ) (above : Bool) → (state ≡ Active
    → R) → Fits R T (update_verdict state increment above)
unfolding update_verdict
update_fits R T Active increment above r = update_by R T (increment == 0) above (r refl)
update_fits R T other increment above r = tt

-- WINDOW_UPDATE is checked so.
updates_fit : (R T : Type 0) (b : Bool) (state : State) (increment : ℕ) (one other : Bool)
    → (state ≡ Active → R)
    → Fits R T (if b then connection_update_verdict increment one
    else update_verdict state increment other)
unfolding connection_update_verdict
updates_fit R T true state increment one other r = connection_by R T (increment == 0) one
updates_fit R T false state increment one other r = update_fits R T state increment other r

-- A block that opens is checked so.
opening_fits : (R T : Type 0) (left full large : Bool) → (left ≡ false → R) → (left ≡ false → T)
    → Fits R T (opening_verdict left full large)
unfolding opening_verdict
opening_fits R T true full large r t = tt
opening_fits R T false true large r t = r refl
opening_fits R T false false true r t = r refl
opening_fits R T false false false r t = t refl

-- A block is checked so.
block_fits : (R T : Type 0) (state : State) (opens left full ended large : Bool)
    → ((state ≡ Active) ⊎ ((state ≡ Idle) × (opens ≡ true) × (left ≡ false)) → R × T)
    → Fits R T (block_verdict state opens left full ended large)
unfolding block_verdict
block_fits R T Idle true left full ended large both = opening_fits R T left full large
    (λ stays. (both (inr (refl, refl, stays))).0) (λ stays. (both (inr (refl, refl, stays))).1)
block_fits R T Active opens left full false false both = (both (inl refl)).1
block_fits R T Active opens left full ended large both = (both (inl refl)).0
block_fits R T other opens left full ended large both = tt

-- The limits make nothing more of a verdict than a fault of the connection.
over_limits_by : (R T : Type 0) (b : Bool) (verdict : Verdict) → Fits R T verdict
    → Fits R T (if b then ConnectionFault EnhanceYourCalm else verdict)
over_limits_by R T true verdict fits = tt
over_limits_by R T false verdict fits = fits

-- a stream whose state is active may be reset
active_faults : (log : Log) (item : Item) → one_settings item ≡ 0 → one_ping item ≡ 0
    → state log (stream_of_item item) ≡ Active → Resets log item
active_faults log item acks answers is = record { alive = inl is; acks = acks; answers = answers }

-- Each item is checked so, before the limits.
rules_fit : (log : Log) (decoded : Option Decoded) (item : Item)
    → Fits (Resets log item) (Reports log item) (verdict_by_rules (log_view log) decoded item)
unfolding verdict_by_rules one_settings one_ping stream_of_item stream_of
rules_fit log None (block stream end octets) = tt
rules_fit log (Some decoded) (block stream end octets) =
    block_fits (Resets log (block stream end octets)) (Reports log (block stream end octets))
    (state log stream) (peer_opens (log_view log) stream) (goaway_written log) _ _ _
    (λ alive. (record { alive = alive; acks = refl; answers = refl }, alive))
rules_fit log decoded (alone (Data stream end octets pad)) =
    data_fits (Resets log (alone (Data stream end octets pad))) (active log stream
    ≡ true) (state log stream) _ _ _
    (active_faults log (alone (Data stream end octets pad)) refl refl) (λ is. state_is_active _ _ _
    is)
rules_fit log decoded (alone (Reset stream code)) = reset_fits (Resets log (alone
    (Reset stream code))) (Unit {0}) (state log stream) tt
rules_fit log decoded (alone (Settings false pairs)) =
    fault_fits (Resets log (alone (Settings false pairs))) (false
    ≡ true) (settings_fault (log_view log) pairs)
rules_fit log decoded (alone (Settings true pairs)) = reported_fits (Resets log (alone
    (Settings true pairs))) (true ≡ true) (settings_wait log) refl
rules_fit log decoded (alone (Ping true octets)) = reported_fits (Resets log (alone
    (Ping true octets))) (true ≡ true) _ refl
rules_fit log decoded (alone (WindowUpdate stream increment)) =
    search (rules, updates_fit, active_faults)
rules_fit log decoded (alone frame) = tt

-- Each item is checked so.
pub verdict_fits : (log : Log) (decoded : Option Decoded) (item : Item)
    → Fits (Resets log item) (Reports log item) (verdict_of (log_view log) decoded item)
unfolding verdict_of over_limits
verdict_fits log decoded item = over_limits_by (Resets log item) (Reports log item) _
    (verdict_by_rules (log_view log) decoded item) (rules_fit log decoded item)

-- A stream that is active, or that the item opens, may be reset once the item is read.
may_reset : (log : Log) (item : Item) → AllowedHistory log.role log.received log.sent
    → NumbersFit (history_of log) → IsOpenFor log item
    → MayReset log.role (stream_of_item item) (item ∷ log.received) log.sent
unfolding stream_of_item
may_reset log item with_sent fit (inl is) =
    read_resets log.role item log.received log.sent log.reported (state_is_active _ _ _ is)
may_reset log (block stream end octets) with_sent fit (inr (idle, opens, stays)) =
    idle_resets log stream end octets with_sent fit idle opens stays
may_reset log (alone frame) with_sent fit (inr wrong) = absurd wrong

-- What is reported of an item is sound.
reported_moves : (log : Log) (decoded : Option Decoded) (item : Item)
    → AllowedHistory log.role log.received log.sent → Reports log item
    → Moves (history_of log) (stream_of_item item) (item ∷ []) (replies_to Reported item)
    (events_of (log_view log) decoded Reported item) log.calls (discarded_flow Reported item)
unfolding replies_to discarded_flow events_of stream_of_item stream_of one_settings one_ping
    one_acked one_ack one_pong one_answer reports_unprocessed flow_on
reported_moves log decoded (block stream end octets) with_sent with_reported =
    one_reported (history_of log) stream (block stream end octets) (FieldsEvent stream
    (decoded_fields decoded) end) with_sent refl refl (omega arith) (omega arith)
    (λ j. refl) (λ j. refl)
reported_moves log decoded (alone
    (Data stream end octets pad)) with_sent with_reported = data_reported
    (history_of log) stream end octets pad with_sent with_reported
reported_moves log decoded (alone (Reset stream code)) with_sent with_reported =
    one_reported (history_of log) stream (alone (Reset stream code))
    (ResetEvent stream code false) with_sent refl refl (omega arith) (omega arith) (λ j. refl)
    (λ j. refl)
reported_moves log decoded (alone (Settings true pairs)) with_sent with_reported =
    one_reported (history_of log) _ (alone (Settings true pairs)) AckedEvent with_sent refl refl
    (omega arith) (omega arith) (λ j. refl) (λ j. refl)
reported_moves log decoded (alone (Settings false pairs)) with_sent with_reported = absurd
    (both_ways false refl with_reported)
reported_moves log decoded (alone (Ping true octets)) with_sent with_reported =
    one_reported (history_of log) _ (alone (Ping true octets))
    (PongEvent octets) with_sent refl refl (omega arith) (omega arith) (λ j. refl) (λ j. refl)
reported_moves log decoded (alone (Ping false octets)) with_sent with_reported = absurd
    (both_ways false refl with_reported)
reported_moves log decoded (alone (GoAway last code debug)) with_sent with_reported =
    search (rules, one_reported, history_of)
reported_moves log decoded (alone frame) with_sent with_reported =
    none_reported (history_of log) _ _ 0 with_sent refl refl (omega arith)

-- SETTINGS take nothing of a window.
none_of_settings : (pairs : List (ℕ × ℕ)) → data_of (alone (Settings false pairs)) ≤ 0
unfolding data_of
none_of_settings pairs = omega arith

-- PING takes nothing of a window.
none_of_ping : (octets : List ℕ) → data_of (alone (Ping false octets)) ≤ 0
unfolding data_of
none_of_ping octets = omega arith

-- What is replied to a fault of a stream is sound.
fault_moves : (log : Log) (decoded : Option Decoded) (item : Item) (code : Code)
    → Good (history_of log) → AllowedHistory log.role log.received log.sent
    → NumbersFit (history_of log) → Resets log item
    → Moves (history_of log) (stream_of_item item) (item ∷ []) (replies_to
    (StreamFault code) item) (events_of (log_view log) decoded (StreamFault code) item) log.calls
    (discarded_flow (StreamFault code) item)
unfolding replies_to events_of discarded_flow
fault_moves log decoded item code good with_sent fit resets =
    search (rules, reset_reported, history_of, may_reset)

-- What is replied to an item of which nothing is reported is sound.
ignored_moves : (log : Log) (decoded : Option Decoded) (item : Item) → Good (history_of log)
    → AllowedHistory log.role log.received log.sent
    → Moves (history_of log) (stream_of_item item) (item ∷ []) (replies_to NoEvent item)
    (events_of (log_view log) decoded NoEvent item) log.calls (discarded_flow NoEvent item)
unfolding replies_to events_of discarded_flow one_settings one_ping
ignored_moves log decoded (block stream end octets) good with_sent = none_reported
    (history_of log) _ _ _ with_sent refl refl (omega arith)
ignored_moves log decoded (alone (Settings false pairs)) good with_sent = settings_answered
    (history_of log) _ pairs _ good with_sent (none_of_settings pairs)
ignored_moves log decoded (alone (Ping false octets)) good with_sent = ping_answered
    (history_of log) _ octets _ good with_sent (none_of_ping octets)
ignored_moves log decoded (alone frame) good with_sent =
    none_reported (history_of log) _ _ _ with_sent refl refl (omega arith)

-- A number that a test takes, or 0, is no greater than what it is where the test holds.
chosen_below : (b : Bool) (n most : ℕ) → (b ≡ true → n ≤ most) → (if b then n else 0) ≤ most
chosen_below true n most low = low refl
chosen_below false n most low = omega arith

-- A stream that an item opens is not above the last one of a GOAWAY: none was sent.
opened_low : (log : Log) (decoded : Option Decoded) (item : Item)
    → stream_of_item item ≤ greatest_number
    → opened_by (log_view log) decoded item ≤ least_goaway log.sent
unfolding opened_by stream_of_item
opened_low log None item small = omega arith
opened_low log (Some decoded) (alone frame) small = omega arith
opened_low log (Some decoded) (block stream end octets) small =
    chosen_below _ stream (least_goaway log.sent) (λ all.
    let stays : goaway_written log ≡ false = not-true _ (and_parts _ _ (and_parts _ _ all).0).1 in
    omega (arith, small, last_none log.sent stays))

-- The invariant holds after an item, by its verdict.
verdict_represents : (role : Role) (log : Log) (decoded : Option Decoded) (item : Item)
    (verdict : Verdict) → Represents role (history_of log) → log.failed ≡ None
    → NumbersFit (history_of log) → stream_of_item item ≤ greatest_number
    → Fits (Resets log item) (Reports log item) verdict
    → Represents role (history_of (with_verdict log decoded item verdict))
unfolding with_verdict
verdict_represents role log decoded item (ConnectionFault code) represents up fit small says =
    fails_represents role code _ log represents up
    (omega (arith, last_low log fit, opened_low log decoded item small))
verdict_represents role log decoded item (StreamFault code) represents up fit small says =
    step_log _ _ _ _ _ _ _ _ (discarded_flow (StreamFault code) item) _ represents up refl
    (fault_moves log decoded item code (represents.good up) represents.with_sent fit says) refl
verdict_represents role log decoded item NoEvent represents up fit small says =
    step_log _ _ _ _ _ _ _ _ _ _ represents up refl (ignored_moves log decoded item
    (represents.good up) represents.with_sent) refl
verdict_represents role log decoded item Reported represents up fit small says =
    step_log _ _ _ _ _ _ _ _ (discarded_flow Reported item) _ represents up refl
    (reported_moves log decoded item represents.with_sent says) refl

-- What is represented is so after what a frame makes of a block that has begun.
step_of_frame_represents : (role : Role) (log : Log) (decoded : Option Decoded)
    (step : FrameStep) → Represents role (history_of log)
    → log.failed ≡ None → NumbersFit (history_of log)
    → ((item : Item) → step ≡ completes item → stream_of_item item ≤ greatest_number)
    → Represents role (history_of (with_step log decoded step))
unfolding with_step
step_of_frame_represents role log decoded
    (fails_with code) represents up fit small = fails_represents role code
    (last_processed log) log represents up (last_low log fit)
step_of_frame_represents role log decoded (begins_block begun) represents up fit small = represents
step_of_frame_represents role log decoded (completes item) represents up fit small =
    verdict_represents role (record log { begun = None }) decoded item _ represents up fit
    (small item refl) (verdict_fits (record log { begun = None }) decoded item)

-- The invariant holds after a frame, where the stream of an item that it completes has 31 bits.
pub frame_represents : (role : Role) (log : Log) (decoded : Option Decoded) (frame : Frame)
    → Represents role (history_of log) → log.failed ≡ None → NumbersFit (history_of log)
    → ((item : Item) → frame_step (log_view log) frame ≡ completes item
    → stream_of_item item ≤ greatest_number)
    → Represents role (history_of (with_frame log decoded frame))
unfolding with_frame
frame_represents role log decoded frame represents up fit small =
    step_of_frame_represents role (record log { frames = log.frames ++ frame ∷ [] }) decoded
    (frame_step (log_view log) frame) represents up fit small
