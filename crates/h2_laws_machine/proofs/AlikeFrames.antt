-- A machine that represents a log makes of frames and items what the log does.
use Rattle.h2_laws_machine.proofs.Names.{◌≡◌, ℕ, ◌∷◌, ap, sym, ◌∙◌, Log, used, View, End}
use Rattle.h2_laws_machine.proofs.Names.{List, ◌++◌, None, refl, Frame, GoAway, Item, alone, Values}
use Rattle.h2_laws_machine.proofs.Names.{[], Option, Decoded, log_view, Verdict, Reported, end_view}
use Rattle.h2_laws_machine.proofs.Names.{events_of, frame_step, verdict_of, with_begun, Represents}
use Rattle.h2_laws_machine.proofs.Names.{state, state_at}
use Rattle.h2_laws_machine.proofs.LogCore.{core, going}
use Rattle.h2_laws_machine.proofs.RecvFrames.{going_begun, sound_begun}
use Rattle.h2_laws_machine.proofs.RecvVerdict.{state_same}
use Rattle.h2_laws_machine.proofs.RecvVerdictLimits.{above_same, over_limits_same}
use Rattle.h2_laws_machine.proofs.SoundLogs.{sound_log}
use Rattle.h2_laws_machine.proofs.WaitingOutput.{waits_of}

-- The step that a frame makes is the same at a machine as at its log.
pub step_alike : (values : Values) (e : End) (log : Log) (frame : Frame) → Represents values e log
    → e.failed ≡ None → frame_step (end_view e) frame ≡ frame_step (log_view log) frame
unfolding frame_step
step_alike values e log frame represents up =
    let run = represents.running up in
    rw (run.started, run.reading.begun) refl

-- So is the verdict on an item, where no block has begun.
pub verdict_alike : (values : Values) (e : End) (log : Log) (decoded : Option Decoded) (item : Item)
    → Represents values e log → e.failed ≡ None
    → verdict_of (end_view (with_begun e None)) decoded item
    ≡ verdict_of (log_view (record log { begun = None })) decoded item
verdict_alike values e log decoded item represents up =
    over_limits_same _ (record log { begun = None }) _ item (waits_of values e log represents)
    (sound_begun log None (sound_log e.role values log represents.came
    (sym represents.failed ∙ up)))
    (going_begun e log None (going e log represents.streams (represents.running up)))

-- So is the state of a stream's number.
pub state_alike : (values : Values) (e : End) (log : Log) (id : ℕ) → Represents values e log
    → e.failed ≡ None → state_at e id ≡ state log id
state_alike values e log id represents up =
    state_same e (core log) id represents.role
    (sound_log e.role values log represents.came (sym represents.failed ∙ up))
    (going e log represents.streams (represents.running up))

-- So it is whether an initial window brings some stream's above the greatest.
pub overflows_alike : (values : Values) (e : End) (log : Log) (initial : ℕ)
    → Represents values e log → e.failed ≡ None
    → (end_view e).overflows initial ≡ (log_view log).overflows initial
overflows_alike values e log initial represents up =
    above_same e log initial (going e log represents.streams (represents.running up))

-- Events look at nothing of a view but the least last stream of the GOAWAYs that were received.
events_by : (view other : View) (decoded : Option Decoded) (verdict : Verdict) (item : Item)
    → view.goaway_received ≡ other.goaway_received
    → events_of view decoded verdict item ≡ events_of other decoded verdict item
unfolding events_of
events_by view other decoded Reported (alone (GoAway last code debug)) same = rw same refl
events_by view other decoded verdict item same = refl

-- The events of an item are the same at a machine as at its log.
pub events_alike : (values : Values) (e : End) (log : Log) (decoded : Option Decoded) (item : Item)
    → Represents values e log → e.failed ≡ None
    → events_of (end_view (with_begun e None)) decoded
    (verdict_of (end_view (with_begun e None)) decoded item) item
    ≡ events_of (log_view (record log { begun = None })) decoded
    (verdict_of (log_view (record log { begun = None })) decoded item) item
events_alike values e log decoded item represents up =
    ap (λ (verdict : Verdict). events_of (end_view (with_begun e None)) decoded verdict item)
    (verdict_alike _ _ _ _ _ represents up) ∙ events_by _ (log_view (record log { begun = None })) _
    (verdict_of (log_view (record log { begun = None })) decoded item) _
    (represents.running up).goaway.least_received

-- They are the same where the octets of the frame that ends the item were used.
pub events_used : (values : Values) (e : End) (log : Log) (octets : List ℕ) (frame : Frame)
    (decoded : Option Decoded) (item : Item) → Represents values e log → e.failed ≡ None
    → events_of (end_view (with_begun e None)) decoded
    (verdict_of (end_view (with_begun e None)) decoded item) item
    ≡ events_of (log_view (record (used log octets []) {
      frames = log.frames ++ frame ∷ [];
      begun = None;
    })) decoded (verdict_of (log_view (record (used log octets []) {
      frames = log.frames ++ frame ∷ [];
      begun = None;
    })) decoded item) item
unfolding used
events_used values e log octets frame decoded item represents up =
    let after : Log = record (used log octets []) {
      frames = log.frames ++ frame ∷ [];
      begun = None;
    } in
    ap (λ (verdict : Verdict). events_of (end_view (with_begun e None)) decoded verdict item)
    (over_limits_same (with_begun e None) after decoded item (waits_of values e log represents)
    (sound_begun log None (sound_log _ _ log represents.came (sym represents.failed ∙ up)))
    (going_begun e log None (going e log represents.streams (represents.running up))))
    ∙ events_by (end_view (with_begun e None)) (log_view after) decoded
    (verdict_of (log_view after) decoded item) item (represents.running up).goaway.least_received
