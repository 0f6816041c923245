-- What each small change of an end keeps, each frame keeps.
use Rattle.h2_laws_machine.proofs.Names
use Names.{◌≡◌, ◌≢◌, ℕ, ◌+◌, ◌<◌, ◌≤◌, ◌==◌, nat_lt, max, ◌&&◌, ◌||◌, if◌then◌else◌, Bool, true}
use Names.{false, List, [], ◌∷◌, length, pos, ◌+ℤ◌, Option, Some, None, refl, ap, arith, and_parts}
use Names.{cond_both, EncoderState, code_number, payload_of, stream_of, Frame, Data, Reset}
use Names.{Settings, Ping, GoAway, WindowUpdate, Code, Item, alone, block, Begun, max_block_octets}
use Names.{Values, returns_credit, Decoded, FrameStep, fails_with, begins_block, completes}
use Names.{frame_step, settings_fault, replies_to, verdict_by_rules, verdict_of, stream_of_item}
use Names.{encoding_of_item, encoding_of_items, full_output, max_resets, greatest_number, Verdict}
use Names.{ConnectionFault, StreamFault, NoEvent, Reported, StreamView, ended_in, greatest_window}
use Names.{end_view, End, active_entry, stream_in, stream_at, state_at, owed_entry, with_begun}
use Names.{with_table_after, with_encoder, queue_output, return_credit, add_unreturned, set_stream}
use Names.{close_stream, reset_stream, update_stream, with_flow, apply_own_settings, is_fresh}
use Names.{widen_send_window, after_reported, after_ignored, after_verdict, after_stream_fault}
use Names.{after_step, after_frame, NoneAboveHighest, size-update, get_set_same, within_window}
use Names.{same_some, least_last, encoder_after_settings, exceeds_stream, overflows_stream}
use Names.{opened_by, receive_data, receive_block, apply_settings, IsDecodedAt}
use Rattle.std.proofs.Common.{leb-false, ltb-true}
use Rattle.h2_spec_machine.specs.Machine.{more_unreturned, mark_used, is_calm, narrow_recv_window}
use Rattle.h2_laws_log.proofs.RulesByTests.{few_by, data_unexceeded, limited, no_settings_fault}
use Rattle.h2_laws_machine.proofs.BlocksBegun.{StepFits, frame_step_fits}
use Rattle.h2_laws_machine.proofs.EndInvariants.{Known, StaysInRange, IsEndInvariant}
use Rattle.h2_laws_machine.proofs.RecvVerdictCases.{block_is_fault, block_is_reported}
use Rattle.h2_laws_machine.proofs.RecvVerdictCases.{data_is_reported, data_is_ignored}
use Rattle.h2_laws_machine.proofs.RecvVerdictCases.{data_is_fault, reset_is_reported}
use Rattle.h2_laws_machine.proofs.RulesAtEnds.{HasSpace, verdict_says, active_stream, above_used}
use Rattle.h2_laws_machine.proofs.RulesAtEnds.{used_then, block_opens, frame_used, update_fits}
use Rattle.h2_laws_machine.proofs.StreamRanges.{data_fits_stream, widened_fits_stream}
use Rattle.h2_laws_machine.proofs.StreamRanges.{ended_fits_stream}
use Rattle.std.specs.FinMap as map

-- how many octets of the windows DATA uses
abbrev flow_of : ℕ → Bool → List ℕ → Option ℕ → ℕ
flow_of stream end octets pad = length (payload_of (Data stream end octets pad))

-- What is known of an item that a frame completes.
known_of : (e : End) (decoded : Option Decoded) (frame : Frame) (item : Item)
    → frame_step (end_view e) frame ≡ completes item → StepFits (stream_of frame) (completes item)
    → stream_of frame ≤ greatest_number → IsDecodedAt e decoded frame → Known e decoded item
known_of e decoded frame (block i end octets) is own most seen =
    (omega (arith, own, most), λ one found. seen i end octets one is found)
known_of e decoded frame (alone other) is own most seen = tt

module _ {Typed Seen : Type 0} {P : ℕ → End → Type 0} {Q : End → Type 0}
    (steady : IsEndInvariant Typed Seen P Q) where
  -- All that is unreturned is returned.
  pub credited : (e : End) → length e.output.waiting < full_output → P 0 e → P 0 (return_credit e)
  credited e space h =
      let items : List Item = alone (WindowUpdate 0 e.windows.unreturned) ∷ [] in
      steady.windows (queue_output e items) 0 0 (return_credit e).windows (omega arith)
      (λ most. most) (λ wide. wide) (steady.joined e 0 items (λ typed within. omega (arith, size-update)) h)

  -- What is still to be returned is unreturned.
  unreturned : (more : ℕ) (e : End) → P more e → P 0 (more_unreturned e more)
  unreturned more e h =
      steady.windows e more 0 (more_unreturned e more).windows (omega arith) (λ most. most)
      (λ wide. wide) h

  -- What is still to be returned is unreturned, or is returned at once.
  pub returned_keeps : (more : ℕ) (e : End) → P more e → P 0 (add_unreturned more e)
  unfolding add_unreturned
  returned_keeps more e h =
      cond_both (returns_credit more (length e.output.waiting)) _ _ (P 0)
      (λ returns. credited (more_unreturned e more)
      (ltb-true _ _ (and_parts (nat_lt 0 more) _ returns).1) (unreturned more e h))
      (λ keeps. unreturned more e h)

  -- An active stream is over.
  close_keeps : (e : End) (i : ℕ) (stream : StreamView) → stream_at e i ≡ Some stream → P 0 e
      → P 0 (close_stream e i 0)
  close_keeps e i stream active h =
      returned_keeps (0 + owed_entry (map.get e.streams.entries i)) _
      (steady.removed e i stream active h)

  -- A stream is reset.
  pub reset_keeps : (e : End) (i more : ℕ) → (NoneAboveHighest e → i ≤ e.streams.highest)
      → e.streams.resets < max_resets → P more e → P 0 (reset_stream e i more)
  reset_keeps e i more used few h =
      returned_keeps (more + owed_entry (map.get e.streams.entries i)) _
      (steady.was_reset e i more used few h)

  -- A stream was changed: it is over, or it is set, by the test.
  updated_by : (e : End) (i : ℕ) (next : StreamView) (b : Bool) → P 0 (set_stream e i next)
      → P 0 (if b then close_stream (set_stream e i next) i 0 else set_stream e i next)
  updated_by e i next true h =
      close_keeps (set_stream e i next) i next
      (ap stream_in (get_set_same e.streams.entries i (active_entry next))) h
  updated_by e i next false h = h

  -- A stream was changed: it is over, or it is set.
  pub updated : (e : End) (more i : ℕ) (stream next : StreamView) → stream_at e i ≡ Some stream
      → next.owed ≡ stream.owed + more → StaysInRange e i stream next → P more e
      → P 0 (update_stream e i next)
  updated e more i stream next active same stays h =
      updated_by e i next (next.ended_in && next.ended_out)
      (steady.set e more 0 i stream next active (omega (arith, same)) stays h)

  -- A stream was changed that one side may have ended.
  pub ended : (e : End) (i : ℕ) (stream : StreamView) (ended_in ended_out : Bool)
      → stream_at e i ≡ Some stream → P 0 e
      → P 0 (update_stream e i (record stream { ended_in = ended_in; ended_out = ended_out }))
  ended e i stream ended_in ended_out active h =
      updated e 0 i stream (record stream { ended_in = ended_in; ended_out = ended_out }) active
      (omega arith) (λ apart peer own. ended_fits_stream _ _ stream ended_in ended_out) h

  -- The peer has used so much of the connection's receive window, which is still to be returned.
  narrowed : (e : End) (count : ℕ) → count ≤ e.windows.recv → P 0 e
      → P count (narrow_recv_window e count)
  narrowed e count within h =
      steady.windows e 0 count (narrow_recv_window e count).windows (omega (arith, within))
      (λ most. most) (λ wide. wide) h

  -- DATA was reported, which is within both windows.
  data_reported : (e : End) (i count : ℕ) (end : Bool) (x : Option StreamView) → stream_at e i ≡ x
      → count ≤ e.windows.recv → exceeds_stream count x ≡ false → P 0 e
      → P 0 (receive_data e i count end x)
  data_reported e i count end None active fits within h = h
  data_reported e i count end (Some stream) active fits within h =
      updated (narrow_recv_window e count) count i stream (with_flow stream count end) active refl
      (λ apart peer own. data_fits_stream _ _ stream count (stream.ended_in || end) within own)
      (narrowed e count fits h)

  -- A block was reported; where it opens a stream, that has a number of 31 bits other than 0, and
  -- fewer are active than may be.
  block_reported : (e : End) (i : ℕ) (end : Bool) (x : Option StreamView) → stream_at e i ≡ x
      → (Seen → i ≤ greatest_number)
      → (x ≡ None → (i ≢ 0) × (e.streams.active_count < e.own.in_force.max_streams)) → P 0 e
      → P 0 (receive_block e i end x)
  block_reported e i end None active most opens h =
      let may = opens refl in
      steady.opened e i end false (max i e.streams.highest) i (λ clear. active) (omega arith)
      (omega arith) (λ seen within. omega (arith, most seen)) (λ within. omega arith) may.0
      (λ own peer. omega (arith, may.1)) h
  block_reported e i end (Some stream) active most opens h =
      ended e i stream (stream.ended_in || end) stream.ended_out active h

  -- Own values come into force.
  own_enforced : (e : End) (x : Option Values) → e.own.awaited ≡ x → P 0 e
      → P 0 (apply_own_settings e x)
  own_enforced e None awaited h = h
  own_enforced e (Some values) awaited h = steady.enforced e values awaited h

  -- A number is used, and perhaps processed, that is above those that were used.
  marked : (e : End) (i : ℕ) (used processed : Bool) → (used ≡ true → e.streams.highest < i)
      → (processed ≡ true → used ≡ true) → (Seen → i ≤ greatest_number) → P 0 e
      → P 0 (mark_used e i used processed)
  marked e i true true above only most h =
      steady.numbered e i i (omega (arith, above refl)) (λ seen within. most seen)
      (λ within. omega arith) h
  marked e i true false above only most h =
      steady.numbered e i e.streams.last_processed (omega (arith, above refl))
      (λ seen within. most seen) (λ within. omega (arith, above refl)) h
  marked e i false true above only most h = let wrong : false ≡ true = only refl in absurd (cc)
  marked e i false false above only most h = h

  -- The connection's send window is widened, by the test.
  widened_by : (e : End) (increment : ℕ) (b : Bool)
      → (b ≡ true → e.windows.send + increment ≤ greatest_window) → P 0 e
      → P 0 (if b then record e {
        windows = record e.windows { send = e.windows.send + increment };
      } else e)
  widened_by e increment true most h =
      steady.windows e 0 0 (record e.windows { send = e.windows.send + increment }) refl
      (λ within. most refl) (λ wide. wide) h
  widened_by e increment false most h = h

  -- A send window is widened to no more than the greatest.
  widened : (e : End) (i increment : ℕ) (x : Option StreamView) → stream_at e i ≡ x
      → ((i == 0) ≡ true → e.windows.send + increment ≤ greatest_window)
      → (i ≢ 0 → overflows_stream increment x ≡ false) → P 0 e
      → P 0 (widen_send_window e i increment x)
  widened e i increment None active most within h = widened_by e increment (i == 0) most h
  widened e i increment (Some stream) active most within h =
      steady.set e 0 0 i stream
      (record stream { send_window = stream.send_window +ℤ pos increment }) active refl
      (λ apart peer own. widened_fits_stream _ _ stream increment (within apart)) h

  -- An item was reported.
  reported : (e : End) (decoded : Option Decoded) (item : Item) → (Seen → Known e decoded item)
      → verdict_by_rules (end_view e) decoded item ≡ Reported → P 0 e
      → P 0 (after_reported e decoded item)
  unfolding after_reported verdict_by_rules
  reported e None (block i end octets) known is h = absurd (cc)
  reported e (Some one) (block i end octets) known is h =
      block_reported (with_table_after e (Some one) (block i end octets)) i end (stream_at e i) refl
      (λ seen. (known seen).0)
      (block_opens e i _ (block_is_reported _ _ _ _ _ _ is) (few_by _ _ _ _ _ _ is))
      (steady.table e (Some one) (block i end octets) known h)
  reported e decoded (alone (Data i end octets pad)) known is h =
      data_reported e i (flow_of i end octets pad) end (stream_at e i) refl
      (within_window e.windows.recv _ (data_is_reported _ _ _ _ is).1)
      (data_unexceeded _ _ _ _ is) h
  reported e decoded (alone (Reset i code)) known is h =
      let active = active_stream e i (reset_is_reported (state_at e i) is) in
      close_keeps e i active.0 active.1 h
  reported e decoded (alone (Settings ack pairs)) known is h = own_enforced e e.own.awaited refl h
  reported e decoded (alone (Ping ack octets)) known is h = steady.beside e None e.goaway.received h
  reported e decoded (alone (GoAway last code debug)) known is h =
      steady.beside e e.ping (Some (least_last last e.goaway.received)) h
  reported e decoded (alone frame) known is h = h

  -- An item was ignored, and what is replied fits.
  ignored : (e : End) (decoded : Option Decoded) (item : Item) → (Seen → Known e decoded item)
      → verdict_by_rules (end_view e) decoded item ≡ NoEvent → HasSpace e (replies_to NoEvent item)
      → P 0 e → P 0 (after_ignored e decoded item)
  unfolding after_ignored replies_to verdict_by_rules encoding_of_items encoding_of_item
  ignored e decoded (block i end octets) known is fits h =
      marked (with_table_after e decoded (block i end octets)) i (is_fresh e i) false
      (above_used e i) (λ wrong. absurd (cc)) (λ seen. (known seen).0)
      (steady.table e decoded (block i end octets) known h)
  ignored e decoded (alone (Data i end octets pad)) known is fits h =
      returned_keeps (flow_of i end octets pad) (narrow_recv_window e (flow_of i end octets pad))
      (narrowed e _ (within_window e.windows.recv _ (data_is_ignored _ _ _ _ is).1) h)
  ignored e decoded (alone (Settings false pairs)) known is fits h =
      let encoder : EncoderState = encoder_after_settings e.output.encoder pairs in
      steady.joined (with_encoder (apply_settings e pairs) encoder) 0
      (alone (Settings true []) ∷ []) (λ typed. fits)
      (steady.encoded (apply_settings e pairs) encoder (limited e.output.encoder pairs)
      (steady.settings e pairs (no_settings_fault (settings_fault (end_view e) pairs) is) h))
  ignored e decoded (alone (Ping false octets)) known is fits h =
      steady.joined e 0 (alone (Ping true octets) ∷ []) (λ typed. fits) h
  ignored e decoded (alone (WindowUpdate i increment)) known is fits h =
      let within = update_fits e i increment (i == 0) refl is in
      widened e i increment (stream_at e i) refl within.0 within.1 h
  ignored e decoded (alone frame) known is fits h = h

  -- A stream was reset for an item, where RST_STREAM fits and fewer were reset than may be.
  refused : (e : End) (decoded : Option Decoded) (item : Item) (code : Code)
      → (Seen → Known e decoded item)
      → verdict_by_rules (end_view e) decoded item ≡ StreamFault code
      → HasSpace e (replies_to (StreamFault code) item) → e.streams.resets < max_resets → P 0 e
      → P 0 (after_stream_fault e decoded item code)
  unfolding after_stream_fault replies_to stream_of_item stream_of verdict_by_rules
  refused e None (block i end octets) code known is fits few h = absurd (cc)
  refused e (Some one) (block i end octets) code known is fits few h =
      let read : End = with_table_after e (Some one) (block i end octets) in
      let fresh : Bool = is_fresh e i in
      reset_keeps _ i 0 (used_then e i _ (block_is_fault _ _ _ _ _ _ code is) fresh refl) few
      (steady.joined (mark_used read i fresh (fresh && is_calm code)) 0
      (alone (Reset i (code_number code)) ∷ []) (λ typed. fits)
      (marked read i fresh (fresh && is_calm code) (above_used e i)
      (λ both. (and_parts fresh (is_calm code) both).0) (λ seen. (known seen).0)
      (steady.table e (Some one) (block i end octets) known h)))
  refused e decoded (alone (Data i end octets pad)) code known is fits few h =
      let count : ℕ = flow_of i end octets pad in
      reset_keeps _ i count (frame_used e decoded (Data i end octets pad) code is) few
      (steady.joined (narrow_recv_window e count) count (alone (Reset i (code_number code)) ∷ [])
      (λ typed. fits)
      (narrowed e count (within_window e.windows.recv _ (data_is_fault _ _ _ _ code is).1) h))
  refused e decoded (alone frame) code known is fits few h =
      reset_keeps _ (stream_of_item (alone frame)) 0 (frame_used e decoded frame code is) few
      (steady.joined e 0
      (alone (Reset (stream_of_item (alone frame)) (code_number code)) ∷ []) (λ typed. fits) h)

  -- An item was read, with its verdict.
  item_keeps : (e : End) (decoded : Option Decoded) (item : Item) (v : Verdict)
      → (Seen → Known e decoded item) → verdict_of (end_view e) decoded item ≡ v → P 0 e
      → Q (after_verdict e decoded item v)
  unfolding after_verdict
  item_keeps e decoded item (ConnectionFault code) known is h =
      steady.failed e code (max e.streams.last_processed (opened_by (end_view e) decoded item)) h
  item_keeps e decoded item (StreamFault code) known is h =
      let says = verdict_says e decoded item (StreamFault code) is (λ other wrong. cc) in
      steady.kept _ (refused e decoded item code known says.0 says.1 (leb-false _ _ says.2) h)
  item_keeps e decoded item NoEvent known is h =
      let says = verdict_says e decoded item NoEvent is (λ other wrong. cc) in
      steady.kept _ (ignored e decoded item known says.0 says.1 h)
  item_keeps e decoded item Reported known is h =
      let says = verdict_says e decoded item Reported is (λ other wrong. cc) in
      steady.kept _ (reported e decoded item known says.0 h)

  -- A frame was read, by what it makes of the block that has begun.
  step_keeps : (e : End) (decoded : Option Decoded) (frame : Frame) (step : FrameStep)
      → frame_step (end_view e) frame ≡ step → StepFits (stream_of frame) step
      → (Seen → stream_of frame ≤ greatest_number) → (Seen → IsDecodedAt e decoded frame) → P 0 e
      → Q (after_step e decoded step)
  unfolding after_step
  step_keeps e decoded frame (fails_with code) is own most sees h =
      steady.failed e code e.streams.last_processed h
  step_keeps e decoded frame (begins_block begun) is own most sees h =
      steady.kept _ (steady.begun e (Some begun)
      (λ one. same_some (λ (b : Begun). length b.octets ≤ max_block_octets) begun one own) h)
  step_keeps e decoded frame (completes item) is own most sees h =
      item_keeps (with_begun e None) decoded item _
      (λ seen. known_of e decoded frame item is own (most seen) (sees seen)) refl
      (steady.begun e None (λ one wrong. absurd (cc)) h)

  -- A frame was read.
  pub frame_keeps : (e : End) (decoded : Option Decoded) (frame : Frame)
      → (Seen → stream_of frame ≤ greatest_number) → (Seen → IsDecodedAt e decoded frame) → P 0 e
      → Q (after_frame e decoded frame)
  unfolding after_frame
  frame_keeps e decoded frame most sees h =
      step_keeps e decoded frame (frame_step (end_view e) frame) refl (frame_step_fits e frame)
      most sees h
