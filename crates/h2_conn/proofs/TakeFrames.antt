-- What has happened by a frame is what the end reports of it: the octets of a body lie where the
-- frame does.
use Rattle.h2_conn.proofs.Names.{◌≡◌, ℕ, Bool, List, [], ◌∷◌, Option, Some, None, Ok, IfSome, refl}
use Rattle.h2_conn.proofs.Names.{sym, ap, subst, ◌∙◌, option_map, Field, Frame, Complete}
use Rattle.h2_conn.proofs.Names.{CutterState, body_at, data_of_frame, alone, block, Event, View}
use Rattle.h2_conn.proofs.Names.{Verdict, ConnectionFault, Decoded, FrameStep, fails_with}
use Rattle.h2_conn.proofs.Names.{begins_block, completes, frame_step, verdict_of, End, end_view}
use Rattle.h2_conn.proofs.Names.{with_begun, after_frame, FrameEvent, IsDecodedBy, step_events}
use Rattle.h2_conn.proofs.Names.{frame_events, FrameTaken, LocatedEvent, happened_value, events_of}
use Rattle.h2_conn.proofs.Names.{rules}
use Rattle.h2_spec_log.specs.Verdicts.{StreamFault, NoEvent, Reported}
use Rattle.h2_frame.specs.Frames.{Data}
use Rattle.h2_spec_log.specs.Events.{DataEvent}
use Rattle.h2_laws_machine.proofs.RecvFrames.{completes_frame}
use Rattle.h2_core.specs.Events.{with_parts}
use Rattle.h2_core.specs.Items.{events_reported}
use Rattle.h2_conn.specs.Loans.{LiesThere, IsBodyOf}
use Rattle.h2_core.specs.declared.event.Event.TheVariants as events

-- what has happened, as events, with the fields that are kept and the octets of the body
abbrev pub happened_events : List Field → List ℕ → Option LocatedEvent → List Event
happened_events list octets None = []
happened_events list octets (Some happened) = happened_value list octets happened ∷ []

-- The end is the machine after the frame, hasn't failed, and what is reported has happened.
pub record FrameHappens (e : End) (frame : Frame) (list : List Field) (octets : List ℕ)
    (happened : Option LocatedEvent) (new : End) : Type 0 where
  pub decoded : Option Decoded
  pub says : IsDecodedBy e decoded (frame_step (end_view e) frame)
  pub after : new ≡ after_frame e decoded frame
  pub up : new.failed ≡ None
  pub events : happened_events list octets happened ≡ frame_events e decoded frame

-- An event of DATA has the octets of the frame.
data_of_item : (view : View) (decoded : Option Decoded) (verdict : Verdict) (frame : Frame) (id : ℕ)
    (octets : List ℕ) (flow : ℕ) (end : Bool)
    → DataEvent id octets flow end ∷ [] ≡ events_of view decoded verdict (alone frame)
    → data_of_frame frame ≡ Some octets
unfolding events_of
data_of_item view decoded (ConnectionFault code) frame id octets flow end is = cc
data_of_item view decoded (StreamFault code) frame id octets flow end is = cc
data_of_item view decoded NoEvent frame id octets flow end is = cc
data_of_item view decoded Reported (Data stream e o pad) id octets flow end is = cc
data_of_item view decoded Reported frame id octets flow end is = cc

-- A field block has no such event.
data_of_block : (view : View) (decoded : Option Decoded) (verdict : Verdict) (stream : ℕ)
    (last : Bool) (fragment : List ℕ) (id : ℕ) (octets : List ℕ) (flow : ℕ) (end : Bool)
    (other : Frame)
    → DataEvent id octets flow end ∷ []
    ≡ events_of view decoded verdict (block stream last fragment)
    → data_of_frame other ≡ Some octets
unfolding events_of
data_of_block view decoded (ConnectionFault code) stream last fragment id octets flow end other is =
    cc
data_of_block view decoded verdict stream last fragment id octets flow end other is = cc

data_of_step : (e : End) (decoded : Option Decoded) (frame : Frame) (step : FrameStep) (id : ℕ)
    (octets : List ℕ) (flow : ℕ) (end : Bool) → frame_step (end_view e) frame ≡ step
    → DataEvent id octets flow end ∷ [] ≡ step_events e decoded step
    → data_of_frame frame ≡ Some octets
data_of_step e decoded frame (fails_with code) id octets flow end step is = cc
data_of_step e decoded frame (begins_block begun) id octets flow end step is = cc
data_of_step e decoded frame (completes (block stream last fragment)) id octets flow end step is =
    data_of_block (end_view (with_begun e None)) decoded
    (verdict_of (end_view (with_begun e None)) decoded (block stream last fragment)) stream last
    fragment id octets flow end frame is
data_of_step e decoded frame (completes (alone lone)) id octets flow end step is =
    ap data_of_frame (completes_frame (end_view e) frame lone step)
    ∙ data_of_item (end_view (with_begun e None)) decoded
    (verdict_of (end_view (with_begun e None)) decoded (alone lone)) lone id octets flow end is

-- what is reported of a frame, with the frame in place of the octets
abbrev pub located : Complete → Option FrameEvent → Option LocatedEvent
located complete reported = option_map (with_parts tt complete) reported

-- The octets of DATA are the body of the frame that lies there.
abbrev pub HasBody : CutterState → List ℕ → Complete → Frame → Type 0
HasBody cutter piece complete frame =
    IfSome (data_of_frame frame) (λ octets. body_at cutter piece complete ≡ Some octets)

module _ (cutter : CutterState) (piece : List ℕ) (complete : Complete) where
  -- So those of an event of DATA are.
  body_of : (e : End) (decoded : Option Decoded) (frame : Frame) (id : ℕ) (octets : List ℕ)
      (flow : ℕ) (end : Bool) → HasBody cutter piece complete frame
      → DataEvent id octets flow end ∷ [] ≡ frame_events e decoded frame
      → body_at cutter piece complete ≡ Some octets
  body_of e decoded frame id octets flow end has is = subst (λ (body : Option (List ℕ)). IfSome body
      (λ one. body_at cutter piece complete ≡ Some one))
      (data_of_step e decoded frame (frame_step (end_view e) frame) id octets flow end refl is) has

  -- A body that is reported lies there.
  pub lies_there : (count : ℕ)
      (e new : End) (frame : Frame) (list : List Field) (reported : Option FrameEvent)
      → HasBody cutter piece complete frame → FrameTaken e frame list reported new
      → LiesThere cutter piece (Ok (record { used = count; happened = located complete reported }))
  lies_there count e new frame list None has taken = tt
  lies_there count e new frame list (Some (events.Data id lent flow end)) has taken =
      rw (body_of e taken.decoded frame id lent.now flow end has taken.events) refl
  lies_there count e new frame list (Some event) has taken = tt

module _ (cutter : CutterState) (piece octets : List ℕ) (complete : Complete) (count : ℕ)
    (e : End) where
  -- What happened is what is reported.
  happened_same : (decoded : Option Decoded) (frame : Frame) (list : List Field)
      (reported : Option FrameEvent) → HasBody cutter piece complete frame
      → IsBodyOf cutter piece octets (Ok (record {
        used = count;
        happened = located complete reported;
      })) → events_reported list reported ≡ frame_events e decoded frame
      → happened_events list octets (located complete reported) ≡ events_reported list reported
  happened_same decoded frame list None has body is = refl
  happened_same decoded frame list (Some (events.Data id lent flow end)) has body is =
      let some : Some octets ≡ Some lent.now =
      sym body ∙ body_of cutter piece complete e decoded frame id lent.now flow end has is in
      let same : octets ≡ lent.now = cc in
      ap (λ (o : List ℕ). DataEvent id o flow end ∷ []) same
  happened_same decoded frame list (Some event) has body is = refl

  -- A frame that was taken has happened.
  pub frame_happens : (new : End) (frame : Frame) (list : List Field) (reported : Option FrameEvent)
      → HasBody cutter piece complete frame
      → IsBodyOf cutter piece octets (Ok (record {
        used = count;
        happened = located complete reported;
      })) → FrameTaken e frame list reported new
      → FrameHappens e frame list octets (located complete reported) new
  frame_happens new frame list reported has body taken =
      search (
        rules,
        happened_same taken.decoded frame list reported has body taken.events
            ∙ taken.events,
      )
