-- A log has frames just where it has SETTINGS, which come first.
use Rattle.h2_laws_machine.proofs.Names
use Names.{◌≡◌, ◌≢◌, ℕ, ◌+◌, ◌≤◌, ◌==◌, not, Bool, true, false, if◌then◌else◌, List, [], ◌∷◌, ◌++◌}
use Names.{length, Option, Some, None, refl, sym, ap, ◌∙◌, arith, length-append, ne_eqb, eqb-false}
use Names.{ProtocolError, InternalError, Frame, Settings, wire_fault_code, Item, Begun, Role}
use Names.{Values, Event, UnprocessedEvent, one_settings, settings_count, Log, next_unprocessed}
use Names.{log_view, Verdict, ConnectionFault, Decoded, FrameStep, fails_with, begins_block}
use Names.{completes, may_be_first, frame_step, grouping_step, grouped, read, with_sent}
use Names.{with_reported, with_unreturned, owed_at_close, with_verdict, with_step, with_frame, used}
use Names.{took_none, opened, with_call, IsLog, begins, took_some, took_one, met_fault}
use Names.{ran_out_of_memory, reported_one, called_one, settings_one, End, Represents, Interrupted}
use Names.{block_fault_code, next_fault, fault_outside, fault_inside, Keeps-frame, grows_wrote}
use Rattle.h2_spec_log.proofs.StreamLemmas.{Keeps-call}
use Rattle.h2_laws_log.proofs.LogGrowth.{grows_with_unreturned, grows_call}
use Rattle.h2_laws_log.proofs.SettingsLists.{count_next}
use Rattle.h2_laws_machine.proofs.RecvUnprocessed.{returned_frames, reported_frames}

-- A log has no frames just where it has no SETTINGS.
abbrev pub StartsWithSettings : Log → Type 0
StartsWithSettings log = (length log.frames == 0) ≡ (settings_count log.received == 0)

-- It is so of a log with the same frames and items.
same_start : (old new : Log) → new.frames ≡ old.frames → new.received ≡ old.received
    → StartsWithSettings old → StartsWithSettings new
same_start old new frames received s = rw (frames, received) s

-- Events are no items that were read.
pub reported_received : (log : Log) (events : List Event)
    → (with_reported log events).received ≡ log.received
unfolding with_reported
reported_received log [] = refl
reported_received log (event ∷ events) = refl

-- An item is read, whatever is replied, returned and reported.
read_received : (log : Log) (decoded : Option Decoded) (item : Item) (replies : List Item)
    (more : ℕ) (events : List Event)
    → (with_reported (with_unreturned more (with_sent (read log decoded item) replies))
    events).received ≡ item ∷ log.received
read_received log decoded item replies more events =
    let first = with_sent (read log decoded item) replies in
    reported_received _ _ ∙ (grows_with_unreturned _ _).received ∙ (grows_wrote _ _).received

-- So it is where the connection doesn't fail.
verdict_received : (log : Log) (decoded : Option Decoded) (item : Item) (v : Verdict)
    → (with_verdict log decoded item v).failed ≡ None
    → (with_verdict log decoded item v).received ≡ item ∷ log.received
unfolding with_verdict
verdict_received log decoded item (ConnectionFault code) up = let wrong : Some code ≡ None = up in
    cc
verdict_received log decoded item other up = read_received log decoded item _ _ _

-- After an item that completes there are as many SETTINGS more as it counts.
item_counts : (log : Log) (decoded : Option Decoded) (item : Item)
    → (with_step log decoded (completes item)).failed ≡ None
    → settings_count (with_step log decoded (completes item)).received
    ≡ one_settings item + settings_count log.received
unfolding with_step
item_counts log decoded item up =
    let before = record log { begun = None } in
    ap settings_count (verdict_received before _ _ _ up) ∙ count_next item log.received

-- After a frame there are no fewer SETTINGS.
step_counts : (log : Log) (decoded : Option Decoded) (step : FrameStep)
    → (with_step log decoded step).failed ≡ None
    → settings_count log.received ≤ settings_count (with_step log decoded step).received
unfolding with_step
step_counts log decoded (fails_with code) up = let wrong : Some code ≡ None = up in cc
step_counts log decoded (begins_block begun) up = omega arith
step_counts log decoded (completes item) up = omega (arith, item_counts log decoded item up)

-- what the first frame makes of the block that has begun
abbrev first_step : Option Begun → Frame → FrameStep
first_step begun frame =
    if not (may_be_first frame) then fails_with ProtocolError
    else grouping_step begun frame (next_fault begun frame)

-- After the first frame there are SETTINGS.
first_counts : (log : Log) (decoded : Option Decoded) (begun : Option Begun) (frame : Frame)
    → (with_step log decoded (first_step begun frame)).failed ≡ None
    → 1 ≤ settings_count (with_step log decoded (first_step begun frame)).received
unfolding with_step may_be_first grouping_step grouped fault_outside fault_inside
first_counts log decoded None (Settings false pairs) up = omega (arith, settings_one, item_counts)
first_counts log decoded (Some begun) (Settings false pairs) up =
    let wrong : Some (block_fault_code Interrupted) ≡ None = up in cc
first_counts log decoded begun frame up = let wrong : Some ProtocolError ≡ None = up in cc

-- The first frame is one.
is_first : (log : Log) (frame : Frame) → (length log.frames == 0) ≡ true
    → frame_step (log_view log) frame ≡ first_step log.begun frame
unfolding frame_step
is_first log frame none = rw none refl

-- After a frame there are SETTINGS, by whether it is the first.
frame_counts : (log : Log) (decoded : Option Decoded) (frame : Frame) (b : Bool)
    → (length log.frames == 0) ≡ b → StartsWithSettings log
    → (with_frame log decoded frame).failed ≡ None
    → 1 ≤ settings_count (with_frame log decoded frame).received
unfolding with_frame
frame_counts log decoded frame true none s up =
    let first = is_first log frame none in
    let after = record log { frames = log.frames ++ frame ∷ [] } in
    rw first (first_counts after decoded log.begun frame (rw first at up))
frame_counts log decoded frame false some s up =
    let after = record log { frames = log.frames ++ frame ∷ [] } in
    let more = step_counts after decoded (frame_step (log_view log) frame) up in
    let before : settings_count log.received ≢ 0 = eqb-false _ 0 (sym s ∙ some) in
    omega (arith, more, before)

-- A frame keeps this.
frame_start : (log : Log) (decoded : Option Decoded) (frame : Frame) → StartsWithSettings log
    → (with_frame log decoded frame).failed ≡ None
    → StartsWithSettings (with_frame log decoded frame)
frame_start log decoded frame s up =
    let after = with_frame log decoded frame in
    let counts = frame_counts log decoded frame (length log.frames == 0) refl s up in
    let frames = ap length (Keeps-frame log decoded frame).frames in
    ne_eqb (length after.frames) 0 (λ none. omega (arith, length-append {A = Frame}))
    ∙ sym (ne_eqb (settings_count after.received) 0 (λ none. omega (arith, none, counts)))

-- A new end's log has neither.
begins_start : (role : Role) (values : Values) → StartsWithSettings (opened role values)
unfolding opened with_sent settings_count
begins_start role values = refl

-- Octets that were used change nothing of this.
used_start : (log : Log) (octets unparsed : List ℕ) → StartsWithSettings log
    → StartsWithSettings (used log octets unparsed)
unfolding used
used_start log octets unparsed s = s

-- A stream that is reported as unprocessed changes nothing of this.
none_start : (log : Log) → StartsWithSettings log → StartsWithSettings (took_none log)
none_start log s =
    let event = UnprocessedEvent (next_unprocessed log) in
    let more = owed_at_close log (with_reported log (event ∷ [])) (next_unprocessed log) in
    same_start log (took_none log) (reported_frames _ _ ∙ returned_frames log more)
    (reported_received (with_unreturned more log) (event ∷ [])
    ∙ (grows_with_unreturned more log).received) s

-- A log that hasn't failed has frames just where it has SETTINGS.
starts_with_settings : (role : Role) (values : Values) (log : Log) → IsLog role values log
    → log.failed ≡ None → StartsWithSettings log
starts_with_settings role values _ (begins in_range) up = begins_start role values
starts_with_settings role values _ (took_some {log = log} is takes octets unparsed read) up =
    used_start log octets unparsed (starts_with_settings role values log is takes.up)
starts_with_settings role values _ (took_one {log = log} is takes octets frame decoded read sees)
    up = frame_start (used log octets []) decoded frame
    (used_start log octets [] (starts_with_settings role values log is takes.up)) up
starts_with_settings role values _ (met_fault {log = log} is takes octets fault at) up =
    let wrong : Some (wire_fault_code fault) ≡ None = up in cc
starts_with_settings role values _ (ran_out_of_memory {log = log} is was octets may) up =
    let wrong : Some InternalError ≡ None = up in cc
starts_with_settings role values _ (reported_one {log = log} is was some) up =
    none_start log (starts_with_settings role values log is was)
starts_with_settings role values _ (called_one {log = log} is act answer typed may) up =
    let g = grows_call log act answer in
    same_start log (with_call log act answer) (Keeps-call log act answer).frames g.received
    (starts_with_settings role values log is (g.up up))

-- An end that represents a log has begun just where the log has SETTINGS.
pub started_with_settings : (values : Values) (e : End) (log : Log) → Represents values e log
    → e.failed ≡ None → e.reading.started ≡ not (settings_count log.received == 0)
started_with_settings values e log s up =
    (s.running up).started ∙ ap not (starts_with_settings _ _ log s.came (sym s.failed ∙ up))
