-- The end after a frame, by the step of the rules.
use Rattle.h2_core.proofs.Names.{◌≡◌, ◌≤◌, ℕ, not, ◌&&◌, Bool, true, false, max, List, length}
use Rattle.h2_core.proofs.Names.{Option, Some, None, ◌⊎◌, inl, inr, refl, sym, ap, subst, ◌∙◌}
use Rattle.h2_core.proofs.Names.{arith, Field, Code, InternalError, ProtocolError, FrameRef, Frame}
use Rattle.h2_core.proofs.Names.{Data, Headers, Priority, Ping, GoAway, WindowUpdate, Continuation}
use Rattle.h2_core.proofs.Names.{Unknown, frame_of, BlockFault, block_fault_code, alone, block}
use Rattle.h2_core.proofs.Names.{Begun, next_fault, max_block_octets, le-ltb, Decoded, FrameStep}
use Rattle.h2_core.proofs.Names.{fails_with, begins_block, completes, may_be_first, verdict_of, End}
use Rattle.h2_core.proofs.Names.{end_view, with_begun, after_item, fail, IsSoundEnd, FailsAlike}
use Rattle.h2_core.proofs.Names.{ItemTaken, TakesItem, item_events, FrameLacksMemory, needs_memory}
use Rattle.h2_core.proofs.Names.{step_needs_memory, TakesBlock, IsSmall, FailsBy, FrameEvent}
use Rattle.h2_core.proofs.Names.{StepError, Fault, OutOfMemory, fault_outside, is_standalone}
use Rattle.h2_core.proofs.Names.{grouped, opened_by, after_verdict}
use Rattle.h2_spec_log.specs.ItemRules.{frame_step, grouping_step}
use Rattle.h2_spec_machine.specs.Machine.{after_frame, after_step}
use Rattle.std.proofs.Common.{Result, Ok, Err}
use Rattle.h2_frame.specs.Frames.{Reset, Settings}
use Rattle.h2_core.specs.Frames.{FrameTaken, FrameFails, EndTakesFrame, IsDecodedBy, step_events}
use Rattle.h2_core.specs.Blocks.{IsDecodedOf}
use Rattle.h2_core.proofs.Names.{StreamView, stream_at, StreamIsInRange}
use Rattle.h2_core.proofs.FrameFailures.{verdict_up, table_alike}
use Rattle.h2_frame.specs.declared.frame.FrameRef.TheVariants as lent
use Rattle.h2_core.proofs.Names.{rules}

-- An end that no longer has a block which has begun is sound.
pub begun_sound : (e : End) → IsSoundEnd e → IsSoundEnd (with_begun e None)
begun_sound e sound =
    let none : (begun : Begun) → None ≡ Some begun → length begun.octets ≤ max_block_octets =
    λ begun wrong. cc in
    let streams : (i : ℕ) (stream : StreamView) → stream_at e i ≡ Some stream
    → StreamIsInRange (with_begun e None) stream =
    λ i stream active. assumption (sound.ranges.streams i stream active) in
    assumption (none, streams, sound)

module _ (e : End) where
  -- A frame that may come, and has no fault, is grouped; one with a fault fails the connection.
  pub step_grouped : (frame : Frame) → (not e.reading.started && not (may_be_first frame)) ≡ false
      → next_fault e.reading.begun frame ≡ None
      → frame_step (end_view e) frame ≡ grouped e.reading.begun frame
  unfolding frame_step grouping_step
  step_grouped frame started good = rw (started, good) refl

  pub step_faulty : (frame : Frame) (fault : BlockFault)
      → (not e.reading.started && not (may_be_first frame)) ≡ false
      → next_fault e.reading.begun frame ≡ Some fault
      → frame_step (end_view e) frame ≡ fails_with (block_fault_code fault)
  unfolding frame_step grouping_step
  step_faulty frame fault started bad = rw (started, bad) refl

  -- A frame after which a block isn't complete.
  pub more_taken : (new : End) (frame : Frame) (one : Begun) (list : List Field)
      → frame_step (end_view e) frame ≡ begins_block one → new ≡ with_begun e (Some one)
      → e.failed ≡ None → FrameTaken e frame list None new
  unfolding after_frame after_step
  more_taken new frame one list is same up = search rules

  outside : e.reading.begun ≡ None → with_begun e None ≡ e
  outside none = ap (with_begun e) (sym none)

  -- A frame that is an item by itself.
  pub alone_taken : (new : End) (frame : Frame) (list : List Field) (reported : Option FrameEvent)
      → frame_step (end_view e) frame ≡ completes (alone frame) → e.reading.begun ≡ None
      → e.failed ≡ None → ItemTaken e None (alone frame) list reported new
      → FrameTaken e frame list reported new
  unfolding after_frame after_step
  alone_taken new frame list reported is none up taken =
      search (
        rules,
        taken.after ∙ ap (λ (x : End). after_item x None (alone frame))
            (sym (outside none)) ∙ sym (ap (after_step e None) is),
        ap (λ (x : End). x.failed) taken.after
            ∙ verdict_up e None (alone frame) (verdict_of (end_view e) None (alone frame))
            taken.goes_on
            ∙ up,
        taken.events ∙ ap (λ (x : End). item_events x None (alone frame)) (sym (outside none))
            ∙ sym (ap (step_events e None) is),
      )

  -- What stops one fails the connection.
  pub alone_stopped : (mid new : End) (frame : Frame) (list : List Field) (stop : StepError)
      (answer : Code) → frame_step (end_view e) frame ≡ completes (alone frame)
      → e.reading.begun ≡ None → TakesItem e None (alone frame) list (Err stop) mid
      → FailsBy mid stop answer new → FrameFails e frame answer new
      ⊎ FrameLacksMemory e frame answer new
  unfolding after_frame after_step after_verdict
  alone_stopped mid new frame list (Fault code opened) answer is none stopped fails =
      let last : ℕ = max e.streams.last_processed opened in
      let after : after_frame e None frame ≡ fail code last e = ap (after_step e None) is ∙ ap
      (λ (x : End). after_item x None (alone frame)) (outside none) ∙ ap
      (after_verdict e None (alone frame)) stopped.0 ∙ ap (λ (n : ℕ). fail code
      (max e.streams.last_processed n) e) (sym stopped.1) in
      let became : new ≡ fail code last e = fails.1 ∙ ap (λ (x : End). fail code
      (max x.streams.last_processed opened) x) stopped.2 in
      search rules
  alone_stopped mid new frame list OutOfMemory answer is none stopped fails =
      inr (record {
        needs = ap (step_needs_memory (end_view (with_begun e None))) is ∙ ap (λ (x : End).
            needs_memory (end_view x) (verdict_of (end_view x) None (alone frame)) (alone frame))
            (outside none) ∙ stopped.0;
        fails = record {
          lacks = fails.0;
          after = rw (fails.1, stopped.1) (table_alike e e.reading.table InternalError
              e.streams.last_processed);
        };
      })

  -- It opens nothing.
  pub alone_small : (mid : End) (frame : Frame) (list : List Field) (stop : StepError)
      → TakesItem e None (alone frame) list (Err stop) mid → IsSmall stop
  unfolding opened_by
  alone_small mid frame list (Fault code opened) h = omega (arith, h.1)
  alone_small mid frame list OutOfMemory h = tt

  says_of : (decoded : Option Decoded) (id : ℕ) (end : Bool) (octets : List ℕ)
      → IsDecodedOf (with_begun e None) octets decoded
      → IsDecodedBy e decoded (completes (block id end octets))
  says_of None id end octets h = h
  says_of (Some decoded) id end octets h = h

  -- A frame that completes a block.
  pub block_frame : (new : End) (frame : Frame) (id : ℕ) (end : Bool) (octets : List ℕ)
      (list : List Field) (result : Result (Option FrameEvent) Code)
      → frame_step (end_view e) frame ≡ completes (block id end octets)
      → TakesBlock (with_begun e None) id end octets list result new
      → EndTakesFrame e frame list result new
  unfolding after_frame after_step
  block_frame new frame id end octets list (Ok reported) is t = search rules
  block_frame new frame id end octets list (Err code) is (inl t) = search rules
  block_frame new frame id end octets list (Err code) is (inr t) = search rules

  -- A frame at fault fails the connection.
  pub frame_fails : (new : End) (frame : Frame) (code answer : Code)
      → frame_step (end_view e) frame ≡ fails_with code → answer ≡ code
      → FailsAlike (fail answer e.streams.last_processed e) new → FrameFails e frame answer new
  unfolding after_frame after_step
  frame_fails new frame code answer is same failed = search rules

  -- A frame that comes too early fails the connection.
  early_step : (frame : Frame) → (not e.reading.started && not (may_be_first frame)) ≡ true
      → frame_step (end_view e) frame ≡ fails_with ProtocolError
  unfolding frame_step
  early_step frame early = rw early refl

  pub early_fails : (new : End) (frame : Frame) (stop : StepError) (answer : Code)
      → (not e.reading.started && not (may_be_first frame)) ≡ true → stop ≡ Fault ProtocolError 0
      → FailsBy e stop answer new → FrameFails e frame answer new
  early_fails new frame stop answer early is fails =
      let by : FailsBy e (Fault ProtocolError 0) answer new =
      subst (λ (s : StepError). FailsBy e s answer new) is fails in
      let last : max e.streams.last_processed 0 ≡ e.streams.last_processed = omega arith in
      let became : new ≡ fail answer e.streams.last_processed e = by.1
      ∙ ap (λ (n : ℕ). fail ProtocolError n e) last
      ∙ ap (λ (x : Code). fail x e.streams.last_processed e) (sym by.0) in
      frame_fails new frame ProtocolError answer (early_step frame early) by.0
      (rw became (table_alike e e.reading.table answer e.streams.last_processed))

-- HEADERS that is a complete block, outside blocks.
headers_faultless : (begun : Option Begun) (stream : ℕ) (end : Bool) (fragment : List ℕ)
    (pad : Option ℕ) (priority : Option (List ℕ)) → begun ≡ None
    → length fragment ≤ max_block_octets
    → next_fault begun (Headers stream end true fragment pad priority) ≡ None
unfolding fault_outside
headers_faultless None stream end fragment pad priority none short = search rules
headers_faultless (Some begun) stream end fragment pad priority none short = cc

headers_grouped : (begun : Option Begun) (stream : ℕ) (end : Bool) (fragment : List ℕ)
    (pad : Option ℕ) (priority : Option (List ℕ)) → begun ≡ None
    → grouped begun (Headers stream end true fragment pad priority)
    ≡ completes (block stream end fragment)
unfolding grouped
headers_grouped None stream end fragment pad priority none = refl
headers_grouped (Some begun) stream end fragment pad priority none = cc

pub headers_taken : (e new : End) (frame : Frame) (stream : ℕ) (end : Bool) (fragment : List ℕ)
    (pad : Option ℕ) (priority : Option (List ℕ)) (list : List Field)
    (result : Result (Option FrameEvent) Code)
    → frame ≡ Headers stream end true fragment pad priority
    → (not e.reading.started && not (may_be_first frame)) ≡ false
    → e.reading.begun ≡ None → length fragment ≤ max_block_octets
    → TakesBlock e stream end fragment list result new → EndTakesFrame e frame list result new
headers_taken e new frame stream end fragment pad priority list result is started none short taken =
    let headers : Frame = Headers stream end true fragment pad priority in
    let good : next_fault e.reading.begun frame ≡ None =
    ap (next_fault e.reading.begun) is
    ∙ headers_faultless e.reading.begun stream end fragment pad priority none short in
    let step : frame_step (end_view e) frame ≡ completes (block stream end fragment) =
    step_grouped e frame started good
    ∙ ap (grouped e.reading.begun) is
    ∙ headers_grouped e.reading.begun stream end fragment pad priority none in
    block_frame e new frame stream end fragment list result step
    (subst (λ (x : End). TakesBlock x stream end fragment list result new) (sym (outside e none))
    taken)

-- A frame that is no part of a block, outside blocks.
standalone_grouped : (begun : Option Begun) (frame : Frame) → begun ≡ None
    → is_standalone frame ≡ true
    → (next_fault begun frame ≡ None) × (grouped begun frame ≡ completes (alone frame))
unfolding fault_outside grouped is_standalone
standalone_grouped None (Headers stream end whole fragment pad priority) none single = cc
standalone_grouped None (Continuation stream whole fragment) none single = cc
standalone_grouped None frame none single = (refl, refl)
standalone_grouped (Some begun) frame none single = cc

pub standalone_step : (e : End) (frame : Frame)
    → (not e.reading.started && not (may_be_first frame)) ≡ false → e.reading.begun ≡ None
    → is_standalone frame ≡ true → frame_step (end_view e) frame ≡ completes (alone frame)
standalone_step e frame started none single =
    let h = standalone_grouped e.reading.begun frame none single in
    step_grouped e frame started h.0 ∙ h.1

-- All frames but HEADERS and CONTINUATION are no part of a block.
pub other_standalone : (frame : FrameRef)
    → ((stream : _) (end : _) (whole : _) (fragment : _) (pad : _) (priority : _)
    → frame ≡ lent.Headers stream end whole fragment pad priority → ⊥)
    → ((stream : _) (whole : _) (fragment : _)
    → frame ≡ lent.Continuation stream whole fragment → ⊥)
    → is_standalone (frame_of frame) ≡ true
unfolding is_standalone
other_standalone (lent.Headers stream end whole fragment pad priority) other last =
    absurd (other stream end whole fragment pad priority refl)
other_standalone (lent.Continuation stream whole fragment) other last =
    absurd (last stream whole fragment refl)
other_standalone frame other last = refl
