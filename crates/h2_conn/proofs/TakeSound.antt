-- The values of an end are sound after each step that taking octets makes.
use Rattle.h2_conn.proofs.Names.{◌≡◌, ◌≢◌, ℕ, ◌≤◌, true, List, Option, None, arith, Result, Ok, Err}
use Rattle.h2_conn.proofs.Names.{Code, Field, Frame, Decoded, frame_step, credit_needs_memory, End}
use Rattle.h2_conn.proofs.Names.{end_view, after_frame, close_unprocessed, unprocessed_of_end}
use Rattle.h2_conn.proofs.Names.{holds, is_whole, counted, is_counted, fits, are_in_range}
use Rattle.h2_conn.proofs.Names.{IsSoundEnd, FrameEvent, IsDecodedBy, FrameTaken}
use Rattle.h2_conn.proofs.Names.{FailsWithoutMemory, rules}
use Rattle.std.specs.Result.{OnOk, IfErr}
use Rattle.h2_frame.specs.Encoding.{refusal, stream_of}
use Rattle.h2_spec_log.specs.States.{greatest_number}
use Rattle.h2_laws_machine.specs.Ranges.{IsDecodedAt}
use Rattle.h2_laws_machine.proofs.BoundsOfSteps.{frame_bounded, is_up, is_bounded, ended_up}
use Rattle.h2_laws_machine.proofs.ConservedBySteps.{frame_holds, ended, lacks_none}
use Rattle.h2_laws_machine.proofs.CountedBySteps.{frame_counts}
use Rattle.h2_laws_machine.proofs.CountedUnprocessed.{unprocessed_counts}
use Rattle.h2_laws_machine.proofs.RangesOfSteps.{frame_in_range, closed_fits}
use Rattle.h2_core.proofs.FrameWritable.{writable}

-- What was seen of a block is what it says.
decoded_at : (e : End) (decoded : Option Decoded) (frame : Frame)
    → IsDecodedBy e decoded (frame_step (end_view e) frame) → IsDecodedAt e decoded frame
decoded_at e decoded frame says stream end octets one step is = search rules

-- After a frame.
pub frame_sound : (e other : End) (frame : Frame) (list : List Field)
    (reported : Option FrameEvent) → IsSoundEnd e → e.failed ≡ None → refusal frame ≡ None
    → FrameTaken e frame list reported other → IsSoundEnd other
frame_sound e other frame list reported sound up good h =
    let number = (writable frame good).stream in
    let most : stream_of frame ≤ greatest_number = omega (arith, number) in
    let after : IsSoundEnd (after_frame e h.decoded frame) = record {
      bounded = frame_bounded e h.decoded frame up sound.bounded;
      window = is_whole
          (after_frame e h.decoded frame) (frame_holds e h.decoded frame (holds e sound.window));
      ranges =
          frame_in_range e h.decoded frame most (decoded_at e h.decoded frame h.says) sound.ranges;
      counts
          = is_counted (after_frame e h.decoded frame) (frame_counts e h.decoded frame
          (counted e sound.counts));
    } in
    search rules

-- After a stream that the peer doesn't process.
pub unprocessed_sound : (e other : End) (id : ℕ) → IsSoundEnd e → e.failed ≡ None
    → id ≡ unprocessed_of_end e.role e.streams.entries e.goaway.received → id ≢ 0
    → other ≡ close_unprocessed e id → IsSoundEnd other
unprocessed_sound e other id sound up next some closed =
    let after : IsSoundEnd (close_unprocessed e id) = record {
      bounded = is_bounded (close_unprocessed e id) (ended_up e id 0 (is_up e up sound.bounded));
      window = is_whole (close_unprocessed e id) (ended e id 0
          (lacks_none e (holds e sound.window)));
      ranges = are_in_range (close_unprocessed e id)
          (closed_fits e id 0 (fits e sound.ranges));
      counts = unprocessed_counts e id next some
          sound.counts;
    } in
    search rules

-- After a call that reports it, or for which memory is refused.
pub closed_sound : (result : Result Unit Code) (e other : End) (id : ℕ) → IsSoundEnd e
    → e.failed ≡ None → id ≡ unprocessed_of_end e.role e.streams.entries e.goaway.received → id ≢ 0
    → OnOk result (other ≡ close_unprocessed e id)
    → IfErr result (λ code. FailsWithoutMemory e code other
    × (credit_needs_memory (end_view e) id ≡ true)) → other.failed ≡ None → IsSoundEnd other
closed_sound (Ok done) e other id sound up next some closed fails going =
    unprocessed_sound e other id sound up next some closed
closed_sound (Err code) e other id sound up next some closed (fails, due) going = search rules
