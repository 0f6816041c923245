-- After a frame a machine represents the log with it.
use Rattle.h2_laws_machine.proofs.Names
use Names.{◌≡◌, with_frame, took_frame, with_begun, after_step, Represents, TakesFrame, Keeps-frame}
use Names.{◌≢◌, ℕ, ◌+◌, ◌≤◌, not, ◌∷◌, ap, sym, ◌∙◌, inl, inr, Log, used, End}
use Names.{◌==◌, Bool, true, List, [], ◌++◌, Some, None, refl, Code, Item, Begun, Role, View, IsLog}
use Names.{false, begins_block, grouping_step, after_frame, Continuation, TakesOctets, IsDecodedFor}
use Names.{if◌then◌else◌, length-append, settings_count, last_processed, frame_step, log_represents}
use Names.{length, Option, arith, ne_eqb, Frame, GoAway, alone, Values, Decoded, grouped, Headers}
use Names.{subst, log_view, is_server, is_used, FrameStep, completes, with_step, took_one, end_view}
use Names.{greatest_processed, greatest_number, fails_with, KeepsConnectionWindow, expected_preface}
use Rattle.h2_block.specs.declared.fault.BlockFault.{BlockFault}
use Rattle.h2_wire.specs.Streams.{Limits, AreFrames, IsFrame}
use Rattle.h2_spec_log.specs.LogSteps.{limits_from}
use Rattle.h2_laws_machine.proofs.ConservedBySteps.{frame_holds, holds, is_whole}
use Rattle.h2_laws_machine.proofs.FirstSettings.{started_with_settings}
use Rattle.h2_laws_machine.proofs.LogCore.{core, Going, going, runs}
use Rattle.h2_laws_machine.proofs.RecvItems.{IsTypedItem, item_after}
use Rattle.h2_laws_machine.proofs.RecvReturnedCredit.{After, after_going}
use Rattle.h2_laws_machine.proofs.RecvStarted.{started_frame}
use Rattle.h2_laws_machine.proofs.RecvVerdict.{Sound, IsUnread}
use Rattle.h2_laws_machine.proofs.RecvVerdictLimits.{over_limits_same}
use Rattle.h2_laws_machine.proofs.RecvWithoutFrame.{represents_by}
use Rattle.h2_laws_machine.proofs.SentConnectionItems.{failing_streams}
use Rattle.h2_laws_machine.proofs.WaitingOutput.{Waits, waits_of, fails_connection}

-- The last of frames is one without fault.
last_is_frame : (limits : Limits) (preceding : ℕ) (frames : List Frame) (frame : Frame)
    (octets : List ℕ) → AreFrames limits preceding (frames ++ frame ∷ []) octets
    → (limit : ℕ) × (first : List ℕ) × IsFrame limit frame first
last_is_frame limits preceding [] frame octets (first, others, joined, is, none) =
    (limits (preceding + 9), first, is)
last_is_frame limits preceding (one ∷ frames) frame octets (first, others, joined, is, after) =
    last_is_frame limits (preceding + length first) frames frame others after

-- nothing is followed by nothing
none_after : (frames : List Frame) (frame : Frame) → frames ++ frame ∷ [] ≢ []
none_after [] frame is = cc
none_after (one ∷ frames) frame is = cc

-- A GOAWAY that was read has a last stream of 31 bits.
goaway_typed : (role : Role) (log : Log) (octets : List ℕ) (last code : ℕ) (debug : List ℕ)
    → TakesFrame role log octets (GoAway last code debug) → last ≤ greatest_number
goaway_typed role log octets last code debug (inl inside) = absurd (none_after _ _ inside.none)
goaway_typed role log octets last code debug (inr after) =
    let whole = last_is_frame (limits_from log) (length (expected_preface (is_server role)))
    log.frames (GoAway last code debug) after.sound.body after.sound.framed in
    let carried = whole.2.encodes.carried in
    let number = carried.3 in
    omega (arith, number)

-- A frame that completes a lone frame is that frame, by whether it groups.
completes_by : (begun : Option Begun) (frame lone : Frame) (fault : Option BlockFault)
    → grouping_step begun frame fault ≡ completes (alone lone) → frame ≡ lone
unfolding grouping_step grouped
completes_by begun frame lone (Some fault) is = cc
completes_by None (Headers i end true fragment pad priority) lone None is = cc
completes_by (Some begun) (Continuation i true fragment) lone None is = cc
completes_by begun frame lone None is = cc

-- the same, by the test whether it may be the first frame
completes_test : (b : Bool) (code : Code) (begun : Option Begun) (frame lone : Frame)
    (fault : Option BlockFault)
    → (if b then fails_with code else grouping_step begun frame fault) ≡ completes (alone lone)
    → frame ≡ lone
completes_test true code begun frame lone fault is = cc
completes_test false code begun frame lone fault is = completes_by begun frame lone fault is

-- A frame that completes a lone frame is that frame.
pub completes_frame : (view : View) (frame lone : Frame)
    → frame_step view frame ≡ completes (alone lone) → frame ≡ lone
unfolding frame_step
completes_frame view frame lone is = completes_test _ _ view.begun frame lone _ is

-- The item that a frame completes is typed.
step_typed : (role : Role) (log : Log) (octets : List ℕ) (view : View) (frame : Frame)
    (item : Item) → TakesFrame role log octets frame → frame_step view frame ≡ completes item
    → IsTypedItem item
step_typed role log octets view frame item read is last code debug same =
    let one : frame ≡ GoAway last code debug = completes_frame view frame (GoAway last code debug)
    (is ∙ ap completes same) in
    goaway_typed role log octets last code debug
    (subst (λ (f : Frame). TakesFrame role log octets f) one read)

-- An end with another block that has begun keeps what its log with that block says.
pub going_begun : (e : End) (log : Log) (begun : Option Begun) → Going e (core log)
    → Going (with_begun e begun) (core (record log { begun = begun }))
going_begun e log begun g = assumption g

-- Nor does such a block change whether the log is sound.
pub sound_begun : (log : Log) (begun : Option Begun) → Sound (core log)
    → Sound (core (record log { begun = begun }))
sound_begun log begun sound =
    let unread : (i : ℕ) → i ≢ 0 → is_used log.role i log.received log.sent ≡ false
    → IsUnread i (core (record log { begun = begun })) =
    λ i some unused. assumption (sound.unread i some unused) in
    assumption (unread, sound)

-- After what a frame makes of the block that has begun an end keeps what its log says.
step_after : (e : End) (log : Log) (decoded : Option Decoded) (step : FrameStep)
    → ((item : Item) → step ≡ completes item → IsTypedItem item)
    → e.reading.started ≡ not (settings_count log.received == 0) → Sound (core log)
    → Waits e log → Going e (core log)
    → After (after_step e decoded step) (with_step log decoded step)
unfolding after_step with_step last_processed
step_after e log decoded (fails_with code) typed started sound w g = record {
  waits = fails_connection e.role e.failed e.output.waiting log (end_view e).max_payload code
      e.streams.last_processed (last_processed log) g.streams.last_processed w;
  streams = failing_streams e.streams log code (last_processed log) (λ server i active_is.
      let taken = sound.active_taken server i active_is in
      let same : last_processed log
      ≡ greatest_processed log.reported = rw server refl in
      omega (arith, taken, same)) g.streams;
  going = λ up. absurd (cc);
}
step_after e log decoded (begins_block begun) typed started sound w g =
    after_going _ (record log { begun = Some begun }) w (going_begun e log (Some begun) g)
step_after e log decoded (completes item) typed started sound w g =
    let f : End = with_begun e None in
    let before : Log = record log { begun = None } in
    let h : Going f (core before) = going_begun e log None g in
    let still : Sound (core before) = sound_begun log None sound in
    rw (over_limits_same f before decoded item w still h) (item_after _ before _ _ _ refl
    (typed item refl) started still w h)

-- The step that a frame makes is the same at an end as at its log.
pub step_same : (e : End) (log : Log) (octets : List ℕ) (frame : Frame)
    → e.reading.started ≡ not (length log.frames == 0) → e.reading.begun ≡ log.begun
    → frame_step (end_view e) frame ≡ frame_step (log_view (used log octets [])) frame
unfolding frame_step used
step_same e log octets frame started begun = rw (started, begun) refl

-- After a frame an end keeps what its log says.
frame_after : (values : Values) (e : End) (log : Log) (octets : List ℕ) (frame : Frame)
    (decoded : Option Decoded) → Sound (core log) → Represents values e log → log.failed ≡ None
    → TakesFrame log.role log octets frame
    → After (after_frame e decoded frame) (took_frame log octets decoded frame)
unfolding after_frame with_frame used
frame_after values e log octets frame decoded sound s none read =
    let up : e.failed ≡ None = s.failed ∙ none in
    let r = s.running up in
    let before : Log = record (used log octets []) { frames = log.frames ++ frame ∷ [] } in
    rw (step_same e log octets frame r.started r.reading.begun)
    (step_after e before decoded (frame_step (log_view (used log octets [])) frame)
    (λ item is. step_typed log.role log octets (log_view (used log octets [])) frame item read is)
    (started_with_settings _ _ log s up) sound (waits_of values e log s) (going e log s.streams r))

-- there is a frame then
some_frames : (frames : List Frame) (frame : Frame)
    → not (length (frames ++ frame ∷ []) == 0) ≡ true
some_frames frames frame =
    ap not (ne_eqb _ 0 (λ none. omega (arith, none, length-append frames (frame ∷ []))))

-- the frames of the log then
took_frames : (log : Log) (octets : List ℕ) (frame : Frame) (decoded : Option Decoded)
    → (took_frame log octets decoded frame).frames ≡ log.frames ++ frame ∷ []
unfolding used
took_frames log octets frame decoded = (Keeps-frame (used log octets []) decoded frame).frames

-- After a frame a machine represents the log with it, where the log is sound.
pub frame_represents : (values : Values) (e : End) (log : Log) (octets : List ℕ) (frame : Frame)
    (decoded : Option Decoded) → Sound (core log) → Represents values e log → TakesOctets log
    → TakesFrame log.role log octets frame → IsDecodedFor log decoded frame
    → Represents values (after_frame e decoded frame) (took_frame log octets decoded frame)
frame_represents values e log octets frame decoded sound s takes read sees =
    let after : End = after_frame e decoded frame in
    let grown : Log = took_frame log octets decoded frame in
    let a : After after grown = frame_after _ _ _ _ _ _ sound s takes.up read in
    let came : IsLog e.role values grown = took_one s.came takes octets frame decoded
    (subst (λ (role : Role). TakesFrame role log octets frame) (sym s.role) read) sees in
    let role : after.role ≡ e.role = a.waits.same_role ∙ (log_represents _ _ _ came).own in
    let whole : KeepsConnectionWindow e = record { whole = s.whole; used = s.used } in
    represents_by _ _ _ (subst (λ (r : Role). IsLog r values grown) (sym role) came) a.waits
    a.streams (λ up. runs after grown (started_frame _ _ _ up
    ∙ sym (ap (λ (frames : List Frame). not (length frames == 0))
    (took_frames _ _ _ _) ∙ some_frames _ _)) (a.going up))
    (is_whole after (frame_holds _ _ _ (holds e whole)))
