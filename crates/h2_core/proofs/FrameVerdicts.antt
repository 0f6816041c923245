-- The verdict on a field block that is received, case by case.
use Rattle.h2_core.proofs.ItemStatuses.{active_state}
use Rattle.h2_core.proofs.Names.{◌≡◌, ◌+◌, ◌-◌, ℕ, ◌%◌, ◌==◌, not, ◌&&◌, ◌||◌, Bool, true, false}
use Rattle.h2_core.proofs.Names.{if◌then◌else◌, List, [], ◌∷◌, length, Option, Some, None, refl}
use Rattle.h2_core.proofs.Names.{sym, ap, ◌∙◌, ltb-true, and_parts, Field, list_size, Code}
use Rattle.h2_core.proofs.Names.{ProtocolError, StreamClosed, EnhanceYourCalm, code_number, Item}
use Rattle.h2_core.proofs.Names.{alone, block, is_server, State, Idle, Active, max_list}
use Rattle.h2_core.proofs.Names.{max_frame_size_sent, max_output, StreamView, ended_in, Verdict}
use Rattle.h2_core.proofs.Names.{ConnectionFault, StreamFault, NoEvent, Reported, opening_verdict}
use Rattle.h2_core.proofs.Names.{Decoded, is_idle, is_at_capacity, is_stream_fault, peer_opens}
use Rattle.h2_core.proofs.Names.{size-reset, End, end_view, stream_at, state_at, state_by_entry}
use Rattle.h2_core.proofs.Names.{reset_entry, owed_entry, StreamEntry, active_entry, stream_in}
use Rattle.h2_core.proofs.Names.{is_above_goaway, after_item, is_fresh, return_credit}
use Rattle.h2_core.proofs.Names.{more_unreturned, reset_stream, queue_output, is_one, receive_block}
use Rattle.h2_core.proofs.Names.{returns_credit, end_of, IsSoundEnd, ItemTaken, TakesItem}
use Rattle.h2_core.proofs.Names.{item_events, needs_memory, FrameEvent, Endpoint, StepError, Fault}
use Rattle.h2_core.proofs.Names.{OutOfMemory, is_over_limits, ResetsForFault, stream_of_item}
use Rattle.h2_core.proofs.Names.{encoding_of_items, over_limits, replies_to, verdict_by_rules}
use Rattle.h2_core.proofs.Names.{verdict_of, opened_by, events_of, after_verdict}
use Rattle.h2_core.proofs.Names.{after_stream_fault, after_ignored, after_reported, add_unreturned}
use Rattle.h2_spec_machine.specs.Machine.{with_table_after, mark_used, is_calm}
use Rattle.std.proofs.Common.{nat_lt, nat_le, Result, Ok, Err, is_some, eqb-true}
use Rattle.h2_frame.specs.Frames.{Reset as ResetFrame}
use Rattle.h2_spec_log.specs.States.{ClosedByUs, Closed}
use Rattle.h2_spec_log.specs.Limits.{max_resets}
use Rattle.h2_spec_log.specs.Verdicts.{block_verdict}
use Rattle.h2_spec_log.specs.Events.{FieldsEvent}
use Rattle.h2_laws_log.proofs.ItemSizes.{size_of}
use Rattle.h2_core.specs.declared.event.Event.TheVariants.{Reset, Fields}
use Rattle.h2_core.proofs.StepStreams.{narrow_none}
use Rattle.h2_core.proofs.SoundFacts.{absent_above}
use Rattle.std.specs.FinMap as map
use Rattle.h2_core.proofs.Names.{rules}

-- a block that was decoded
abbrev pub by_block : End → ℕ → Bool → List ℕ → Decoded → Verdict
by_block e id end octets decoded = verdict_by_rules (end_view e) (Some decoded)
    (block id end octets)

-- whether a list is too large
abbrev pub is_too_large : Decoded → Bool
is_too_large decoded = nat_lt max_list (list_size decoded.fields)

-- The rule on a block looks at the state of its stream.
pub rule_of_block : (e : End) (id : ℕ) (end : Bool) (octets : List ℕ) (decoded : Decoded)
    (state : State) → state_at e id ≡ state
    → by_block e id end octets decoded
    ≡ block_verdict state (peer_opens (end_view e) id) (is_some e.goaway.sent)
    (is_at_capacity (end_view e)) (ended_in (stream_at e id)) (is_too_large decoded)
unfolding verdict_by_rules
rule_of_block e id end octets decoded state is = search rules

-- Limits leave a verdict that replies nothing to a block.
pub limits_leave : (e : End) (id : ℕ) (end : Bool) (octets : List ℕ) (decoded : Decoded)
    (verdict : Verdict) → is_stream_fault verdict ≡ false
    → by_block e id end octets decoded ≡ verdict
    → verdict_of (end_view e) (Some decoded) (block id end octets) ≡ verdict
unfolding verdict_of over_limits replies_to encoding_of_items
limits_leave e id end octets decoded (StreamFault code) quiet is = cc
limits_leave e id end octets decoded verdict quiet is = rw is refl

-- the verdict of a stream error
abbrev pub limited : Bool → Code → Verdict
limited over code = if over then ConnectionFault EnhanceYourCalm else StreamFault code

limits_by_size : (resets waiting size : ℕ) (code : Code) → size ≡ 13
    → over_limits resets waiting size (StreamFault code)
    ≡ limited (nat_le max_resets resets || nat_lt max_output (waiting + 13)) code
unfolding over_limits
limits_by_size resets waiting size code is = rw is refl

-- A stream error is one within the limits.
pub limits_of_fault : (e : End) (id : ℕ) (end : Bool) (octets : List ℕ) (decoded : Decoded)
    (code : Code) → by_block e id end octets decoded ≡ StreamFault code
    → verdict_of (end_view e) (Some decoded) (block id end octets) ≡ limited (is_over_limits e) code
unfolding verdict_of replies_to stream_of_item
limits_of_fault e id end octets decoded code is =
    ap (λ (v : Verdict). over_limits e.streams.resets (length e.output.waiting)
    (size_of max_frame_size_sent (replies_to v (block id end octets))) v) is
    ∙ limits_by_size e.streams.resets (length e.output.waiting)
    (size_of max_frame_size_sent (alone (ResetFrame id (code_number code)) ∷ [])) code
    (size-reset max_frame_size_sent id (code_number code))

-- A fresh number is odd, at a server, above all that were used, and nothing is kept of it.
pub record Fresh (e : End) (id : ℕ) : Type 0 where
  pub server : is_server e.role ≡ true
  pub odd : (id % 2 == 1) ≡ true
  pub above : nat_lt e.streams.highest id ≡ true
  pub absent : map.get e.streams.entries id ≡ None

pub fresh_of : (e : End) (id : ℕ) → IsSoundEnd e → is_fresh e id ≡ true → Fresh e id
fresh_of e id sound fresh = search rules

or_true : (b : Bool) → (b || true) ≡ true
or_true true = refl
or_true false = refl

-- It is idle.
pub fresh_idle : (e : End) (id : ℕ) → Fresh e id → state_at e id ≡ Idle
fresh_idle e id fresh = rw (fresh.absent, fresh.above, or_true (id % 2 == 0)) refl

pub fresh_no_stream : (e : End) (id : ℕ) → Fresh e id → stream_at e id ≡ None
fresh_no_stream e id fresh = rw fresh.absent refl

-- A block on it is checked as one that opens a stream.
pub opening_rule : (e : End) (id : ℕ) (end : Bool) (octets : List ℕ) (decoded : Decoded)
    → Fresh e id
    → by_block e id end octets decoded
    ≡ opening_verdict (is_some e.goaway.sent) (is_at_capacity (end_view e)) (is_too_large decoded)
unfolding block_verdict
opening_rule e id end octets decoded fresh =
    rule_of_block e id end octets decoded Idle (fresh_idle e id fresh)
    ∙ (rw (fresh.server, fresh.odd) refl)

stale_by : (e : End) (id : ℕ) (stream : StreamView) → IsSoundEnd e
    → stream_at e id ≡ Some stream → (fresh : Bool) → is_fresh e id ≡ fresh → fresh ≡ false
stale_by e id stream sound active true is = search rules
stale_by e id stream sound active false is = refl

-- An active number is not fresh.
pub active_stale : (e : End) (id : ℕ) (stream : StreamView) → IsSoundEnd e
    → stream_at e id ≡ Some stream → is_fresh e id ≡ false
active_stale e id stream sound active = stale_by e id stream sound active (is_fresh e id) refl

-- A block that was decoded into the table that the end has changes no table.
pub table_same : (e : End) (id : ℕ) (end : Bool) (octets : List ℕ) (decoded : Decoded)
    → decoded.after ≡ e.reading.table → with_table_after e (Some decoded) (block id end octets) ≡ e
table_same e id end octets decoded same = rw same refl

-- An item whose verdict is known changes the end as that verdict does.
pub after_by : (e : End) (id : ℕ) (end : Bool) (octets : List ℕ) (decoded : Decoded)
    (verdict : Verdict) → verdict_of (end_view e) (Some decoded) (block id end octets) ≡ verdict
    → after_item e (Some decoded) (block id end octets)
    ≡ after_verdict e (Some decoded) (block id end octets) verdict
after_by e id end octets decoded verdict is = search rules

pub events_by : (e : End) (id : ℕ) (end : Bool) (octets : List ℕ) (decoded : Decoded)
    (verdict : Verdict) → verdict_of (end_view e) (Some decoded) (block id end octets) ≡ verdict
    → item_events e (Some decoded) (block id end octets)
    ≡ events_of (end_view e) (Some decoded) verdict (block id end octets)
events_by e id end octets decoded verdict is = search rules

-- What marks a number commutes with returning credit, and with a reset.
marked_by : (b : Bool) (e : End) (id more : ℕ) (used processed : Bool)
    → (if b then return_credit (more_unreturned (mark_used e id used processed) more)
    else more_unreturned (mark_used e id used processed) more)
    ≡ mark_used (if b then return_credit (more_unreturned e more) else more_unreturned e more) id
    used processed
marked_by true e id more used processed = refl
marked_by false e id more used processed = refl

pub marked_credit : (e : End) (id more : ℕ) (used processed : Bool)
    → add_unreturned more (mark_used e id used processed)
    ≡ mark_used (add_unreturned more e) id used processed
unfolding add_unreturned
marked_credit e id more used processed = search rules

pub marked_reset : (e : End) (id : ℕ) (items : List Item) (used processed : Bool)
    → reset_stream (queue_output (mark_used e id used processed) items) id 0
    ≡ mark_used (reset_stream (queue_output e items) id 0) id used processed
marked_reset e id items used processed =
    marked_credit (record (queue_output e items) {
      streams = record e.streams {
        entries = map.insert e.streams.entries id reset_entry;
        active_count = e.streams.active_count - is_one (is_some (stream_at e id));
        resets = e.streams.resets + 1;
      };
    }) id (0 + owed_entry (map.get e.streams.entries id)) used processed

module _ (e : End) (id : ℕ) (end : Bool) (octets : List ℕ) (decoded : Decoded) (code : Code) where
  -- The end after a stream error by a block, where its table is there already.
  pub after_fault : decoded.after ≡ e.reading.table
      → after_stream_fault e (Some decoded) (block id end octets) code ≡ mark_used
      (reset_stream (queue_output e (alone (ResetFrame id (code_number code)) ∷ [])) id 0) id
      (is_fresh e id) (is_fresh e id && is_calm code)
  unfolding after_stream_fault
  after_fault same = ap (λ (x : End). reset_stream (queue_output (mark_used x id (is_fresh e id)
      (is_fresh e id && is_calm code)) (alone (ResetFrame id (code_number code)) ∷ [])) id 0)
      (table_same e id end octets decoded same)
      ∙ marked_reset e id (alone (ResetFrame id (code_number code)) ∷ []) (is_fresh e id)
      (is_fresh e id && is_calm code)

  -- A stream error by a block, within the limits, is answered so.
  pub fault_taken : (list : List Field) (new : End)
      → by_block e id end octets decoded ≡ StreamFault code → is_over_limits e ≡ false
      → new ≡ after_stream_fault e (Some decoded) (block id end octets) code
      → ItemTaken e (Some decoded) (block id end octets) list
      (Some (Reset id (code_number code) true)) new
  unfolding after_verdict events_of stream_of_item
  fault_taken list new is few after =
      let verdict : verdict_of (end_view e) (Some decoded) (block id end octets) ≡ StreamFault code
      = limits_of_fault e id end octets decoded code is ∙ ap (λ (b : Bool). limited b code) few in
      search rules

  -- One that is over the limits is a connection error.
  pub fault_over : by_block e id end octets decoded ≡ StreamFault code → is_over_limits e ≡ true
      → verdict_of (end_view e) (Some decoded) (block id end octets) ≡ ConnectionFault
      EnhanceYourCalm
  fault_over is much =
      limits_of_fault e id end octets decoded code is ∙ ap (λ (b : Bool). limited b code) much

-- A block on an active stream: half-closed (remote), with a list that is too large, or else.
pub further_rule : (e : End) (id : ℕ) (end : Bool) (octets : List ℕ) (decoded : Decoded)
    (stream : StreamView) → stream_at e id ≡ Some stream
    → by_block e id end octets decoded
    ≡ (if stream.ended_in then StreamFault StreamClosed
    else if is_too_large decoded then StreamFault EnhanceYourCalm else Reported)
unfolding block_verdict
further_rule e id end octets decoded stream is =
    rule_of_block e id end octets decoded Active (active_state e id stream is) ∙ (rw is refl)

-- It opens nothing.
pub further_opens : (e : End) (id : ℕ) (end : Bool) (octets : List ℕ) (decoded : Decoded)
    (stream : StreamView) → stream_at e id ≡ Some stream
    → opened_by (end_view e) (Some decoded) (block id end octets) ≡ 0
unfolding opened_by
further_opens e id end octets decoded stream is = search rules

module _ (one new : Endpoint) (id : ℕ) (end : Bool) (octets : List ℕ) (decoded : Decoded) where
  -- A stream error that stops.
  pub fault_error : (code : Code) (opened : ℕ) (stop : StepError) (list : List Field)
      → by_block (end_of one) id end octets decoded ≡ StreamFault code
      → opened_by (end_view (end_of one)) (Some decoded) (block id end octets) ≡ opened
      → ResetsForFault one id code 0 opened (Err stop) new
      → TakesItem (end_of one) (Some decoded) (block id end octets) list (Err stop) (end_of new)
  fault_error code opened (Fault fault stream) list is opens h = (
    fault_over (end_of one) id end octets decoded code is h.0 ∙ ap ConnectionFault (sym h.1),
    h.2 ∙ sym opens,
    h.3,
  )
  fault_error code opened OutOfMemory list is opens h =
      let verdict : verdict_of (end_view (end_of one)) (Some decoded) (block id end octets)
      ≡ StreamFault code = limits_of_fault (end_of one) id end octets decoded code is ∙ ap
      (λ (b : Bool). limited b code) h.0 in
      search rules

  -- One that is answered, on a number that is fresh or not.
  pub fault_answer : (code : Code) (opened : ℕ) (reported : Option FrameEvent) (list : List Field)
      (fresh : Bool) (last : End) → by_block (end_of one) id end octets decoded ≡ StreamFault code
      → is_fresh (end_of one) id ≡ fresh → decoded.after ≡ one.decoder.table
      → ResetsForFault one id code 0 opened (Ok reported) new
      → last ≡ mark_used (end_of new) id fresh (fresh && is_calm code)
      → ItemTaken (end_of one) (Some decoded) (block id end octets) list reported last
  fault_answer code opened reported list fresh last is number same h
      marked =
      let reset : End = reset_stream (queue_output (end_of one)
      (alone (ResetFrame id (code_number code)) ∷ [])) id 0 in
      rw h.1 (fault_taken (end_of one) id end octets decoded code list last is h.0 (marked
      ∙ ap (λ (x : End). mark_used x id fresh (fresh && is_calm code))
      (h.2 ∙ ap (λ (x : End). reset_stream (queue_output x
      (alone (ResetFrame id (code_number code)) ∷ [])) id 0) (narrow_none (end_of one)))
      ∙ ap (λ (b : Bool). mark_used reset id b (b && is_calm code)) (sym number)
      ∙ sym (after_fault (end_of one) id end octets decoded code same)))

  -- A stream error, on a number that isn't fresh.
  pub fault_item : (code : Code) (result : Result (Option FrameEvent) StepError)
      → by_block (end_of one) id end octets decoded ≡ StreamFault code
      → is_fresh (end_of one) id ≡ false
      → opened_by (end_view (end_of one)) (Some decoded) (block id end octets) ≡ 0
      → decoded.after ≡ one.decoder.table → ResetsForFault one id code 0 0 result new
      → TakesItem (end_of one) (Some decoded) (block id end octets) new.list result (end_of new)
  fault_item code (Ok reported) is stale opens same h =
      fault_answer code 0 reported new.list false (end_of new) is stale same h refl
  fault_item code (Err stop) is stale opens same h = fault_error code 0 stop new.list is opens h

module _ (e : End) (id : ℕ) (end : Bool) (octets : List ℕ) (decoded : Decoded)
    (list : List Field) where
  -- A block that is reported.
  pub reported_taken : (new : End) → by_block e id end octets decoded ≡ Reported
      → list ≡ decoded.fields → decoded.after ≡ e.reading.table
      → new ≡ receive_block e id end (stream_at e id)
      → ItemTaken e (Some decoded) (block id end octets) list (Some (Fields id tt end)) new
  unfolding after_verdict after_reported events_of
  reported_taken new is whole same after =
      let verdict = limits_leave e id end octets decoded Reported refl is in
      search rules

  -- A block that would be reported, for which memory was refused.
  pub report_lacks : (new : End) → by_block e id end octets decoded ≡ Reported → new ≡ e
      → TakesItem e (Some decoded) (block id end octets) list (Err OutOfMemory) new
  report_lacks new is same = (
    ap (λ (v : Verdict). needs_memory (end_view e) v (block id end octets))
        (limits_leave e id end octets decoded Reported refl is),
    same,
  )

  -- A block that is ignored.
  pub ignored_taken : (fresh : Bool) (new : End) → by_block e id end octets decoded ≡ NoEvent
      → decoded.after ≡ e.reading.table → is_fresh e id ≡ fresh → new ≡ mark_used e id fresh false
      → ItemTaken e (Some decoded) (block id end octets) list None new
  unfolding after_verdict after_ignored events_of
  ignored_taken fresh new is same number after =
      let verdict = limits_leave e id end octets decoded NoEvent refl is in
      search rules

-- What a fresh number opens.
pub fresh_opens : (e : End) (id : ℕ) (end : Bool) (octets : List ℕ) (decoded : Decoded)
    → Fresh e id → opened_by (end_view e) (Some decoded) (block id end octets)
    ≡ (if not (is_some e.goaway.sent) && not (is_at_capacity (end_view e)) then id else 0)
unfolding opened_by
fresh_opens e id end octets decoded fresh = search rules

-- A number that isn't idle isn't fresh.
pub stale_of : (e : End) (id : ℕ) (state : State) → IsSoundEnd e → state_at e id ≡ state
    → is_idle state ≡ false → (fresh : Bool) → is_fresh e id ≡ fresh → fresh ≡ false
stale_of e id state sound is other false number = refl
stale_of e id state sound is other true number = search rules

idle_by : (entry : Option StreamEntry) (idle above : Bool) → state_by_entry entry idle above ≡ Idle
    → idle ≡ true
idle_by None true above is = refl
idle_by None false true is = cc
idle_by None false false is = cc
idle_by (Some reset_entry) idle above is = cc
idle_by (Some (active_entry stream)) idle above is = cc

stale_opens : (opens even above : Bool) → (even || above) ≡ true → (opens && above) ≡ false
    → (opens ≡ true → even ≡ false) → opens ≡ false
stale_opens false even above used stale odd = refl
stale_opens true true above used stale odd = odd refl
stale_opens true false true used stale odd = stale
stale_opens true false false used stale odd = sym used

odd_even : (n : ℕ) → (n == 1) ≡ true → (n == 0) ≡ false
odd_even n is = rw (eqb-true n 1 is) refl

-- An idle number that isn't fresh is none that the peer may open.
pub idle_unopened : (e : End) (id : ℕ) → state_at e id ≡ Idle → is_fresh e id ≡ false
    → peer_opens (end_view e) id ≡ false
idle_unopened e id idle stale = search rules

-- A block on an idle number that isn't fresh, or a closed one, is a connection error.
pub record Unwanted (e : End) (id : ℕ) (end : Bool) (octets : List ℕ) (decoded : Decoded)
    : Type 0 where
  pub fault : verdict_of (end_view e) (Some decoded) (block id end octets)
      ≡ ConnectionFault ProtocolError
  pub opens : opened_by (end_view e) (Some decoded) (block id end octets) ≡ 0

pub idle_unwanted : (e : End) (id : ℕ) (end : Bool) (octets : List ℕ) (decoded : Decoded)
    → state_at e id ≡ Idle → is_fresh e id ≡ false → Unwanted e id end octets decoded
unfolding block_verdict opened_by
idle_unwanted e id end octets decoded idle stale =
    let closed = idle_unopened e id idle stale in
    record {
      fault = limits_leave e id end octets decoded (ConnectionFault ProtocolError) refl
          (rule_of_block e id end octets decoded Idle idle ∙ (rw closed refl));
      opens = rw (idle, closed) refl;
    }

pub closed_unwanted : (e : End) (id : ℕ) (end : Bool) (octets : List ℕ) (decoded : Decoded)
    → state_at e id ≡ Closed → Unwanted e id end octets decoded
unfolding block_verdict opened_by
closed_unwanted e id end octets decoded past =
    search (
      rules,
      limits_leave e id end octets decoded (ConnectionFault ProtocolError) refl
          (rule_of_block e id end octets decoded Closed past),
    )

-- One on a number that this end has closed is ignored.
pub ignored_rule : (e : End) (id : ℕ) (end : Bool) (octets : List ℕ) (decoded : Decoded)
    → state_at e id ≡ ClosedByUs → by_block e id end octets decoded ≡ NoEvent
unfolding block_verdict
ignored_rule e id end octets decoded is = rule_of_block e id end octets decoded ClosedByUs is
