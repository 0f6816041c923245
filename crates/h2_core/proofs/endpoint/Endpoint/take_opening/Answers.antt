use Rattle.h2_core.proofs.Names.{◌≡◌, ℕ, ◌+◌, Bool, true, false, max, not, if◌then◌else◌, List}
use Rattle.h2_core.proofs.Names.{None, Some, arith, refl, sym, ap, ◌∙◌, ltb-true}
use Rattle.h2_core.proofs.Names.{err_from_is_err_and, EnhanceYourCalm, StreamState, TableState}
use Rattle.h2_core.proofs.Names.{Decoded, opened_by, is_at_capacity, StreamFault, Reported, NoEvent}
use Rattle.h2_core.proofs.Names.{StreamView, block, End, end_view, stream_at, active_entry}
use Rattle.h2_core.proofs.Names.{receive_block, new_stream, Endpoint, end_of, opening_verdict}
use Rattle.std.proofs.Common.{is_some}
use Rattle.h2_frame.specs.declared.code.Code.TheVariants.{RefusedStream}
use Rattle.h2_core.proofs.FrameVerdicts.{by_block, is_too_large, Fresh, fresh_of, fresh_no_stream}
use Rattle.h2_core.proofs.FrameVerdicts.{opening_rule, fresh_opens, fault_error, fault_answer}
use Rattle.h2_core.proofs.FrameVerdicts.{ignored_taken, reported_taken, report_lacks}
use Rattle.h2_core.proofs.StepEnds.{with_table}
use Rattle.std.specs.FinMap as map
use Rattle.h2_core.proofs.endpoint.Endpoint.take_opening.Goals as goal

module _ (e : End) (id : ℕ) (end : Bool) (octets : List ℕ) (decoded : Decoded) where
  -- the rule, by what is known of the end
  left_rule : Fresh e id → is_some e.goaway.sent ≡ true → by_block e id end octets decoded ≡ NoEvent
  unfolding opening_verdict
  left_rule fresh left = opening_rule e id end octets decoded fresh ∙ (rw left refl)

  full_rule : Fresh e id → is_some e.goaway.sent ≡ false → is_at_capacity (end_view e) ≡ true
      → by_block e id end octets decoded ≡ StreamFault RefusedStream
  unfolding opening_verdict
  full_rule fresh stays full = opening_rule e id end octets decoded fresh ∙ (rw (stays, full) refl)

  large_rule : Fresh e id → is_some e.goaway.sent ≡ false → is_at_capacity (end_view e) ≡ false
      → is_too_large decoded ≡ true → by_block e id end octets decoded ≡ StreamFault EnhanceYourCalm
  unfolding opening_verdict
  large_rule fresh stays room large =
      opening_rule e id end octets decoded fresh ∙ (rw (stays, room, large) refl)

  open_rule : Fresh e id → is_some e.goaway.sent ≡ false → is_at_capacity (end_view e) ≡ false
      → is_too_large decoded ≡ false → by_block e id end octets decoded ≡ Reported
  unfolding opening_verdict
  open_rule fresh stays room small =
      opening_rule e id end octets decoded fresh ∙ (rw (stays, room, small) refl)

  -- what is opened, by the same
  opens_by : (full : Bool) → Fresh e id → is_some e.goaway.sent ≡ false
      → is_at_capacity (end_view e) ≡ full
      → opened_by (end_view e) (Some decoded) (block id end octets) ≡ (if not full then id else 0)
  opens_by full fresh stays is = fresh_opens e id end octets decoded fresh ∙ (rw (stays, is) refl)

pub returns-then-is_some : goal.returns-then-is_some
returns-then-is_some c =
    λ decoded octets same large whole.
    let e : End = end_of c.args.self.now in
    let fresh = fresh_of e c.args.id c.requires.sound c.requires.fresh in
    ignored_taken e c.args.id c.args.end octets decoded c.args.self.now.list true _
    (left_rule e c.args.id c.args.end octets decoded fresh
    (sym c.is_some.ensures ∙ c.if-is_some.true))
    same c.requires.fresh refl

pub returns-in_err-reported : goal.returns-in_err-reported
returns-in_err-reported c =
    λ decoded octets same large whole.
    let e : End = end_of c.args.self.now in
    let fresh = fresh_of e c.args.id c.requires.sound c.requires.fresh in
    let stays = sym c.is_some.ensures ∙ c.if-is_some.false in
    let full = sym (c.is_at_capacity.ensures fresh.server) ∙ c.if-is_at_capacity.true in
    let p = err_from_is_err_and c.from_residual.result c.from_residual.ensures.1 in
    rw (p.1, p.2) (fault_error c.args.self.now c.reset_for_fault.new.self c.args.id c.args.end
    octets decoded RefusedStream 0 c.in_err-reported.field-0.0 c.reset_for_fault.new.self.list
    (full_rule e c.args.id c.args.end octets decoded fresh stays full)
    (opens_by e c.args.id c.args.end octets decoded true fresh stays full)
    c.in_err-reported.ensures)

pub returns-then-is_at_capacity : goal.returns-then-is_at_capacity
returns-then-is_at_capacity c =
    λ decoded octets same large whole.
    let e : End = end_of c.args.self.now in
    let fresh = fresh_of e c.args.id c.requires.sound c.requires.fresh in
    let stays = sym c.is_some.ensures ∙ c.if-is_some.false in
    let full = sym (c.is_at_capacity.ensures fresh.server) ∙ c.if-is_at_capacity.true in
    fault_answer c.args.self.now c.reset_for_fault.new.self c.args.id c.args.end octets decoded
    RefusedStream 0 c.in_ok-reported.reported c.reset_for_fault.new.self.list true _
    (full_rule e c.args.id c.args.end octets decoded fresh stays full)
    c.requires.fresh same (rw c.in_ok-reported.was at c.reset_for_fault.ensures) refl

pub returns-in_err-reported-2 : goal.returns-in_err-reported-2
returns-in_err-reported-2 c =
    λ decoded octets same large whole.
    let e : End = end_of c.args.self.now in
    let fresh = fresh_of e c.args.id c.requires.sound c.requires.fresh in
    let stays = sym c.is_some.ensures ∙ c.if-is_some.false in
    let room = sym (c.is_at_capacity.ensures fresh.server) ∙ c.if-is_at_capacity.false in
    let result = c.from_residual-in_err-reported-2.result in
    let p = err_from_is_err_and result c.from_residual-in_err-reported-2.ensures.1 in
    rw (p.1, p.2) (fault_error c.args.self.now c.reset_for_fault-then-too_large.new.self c.args.id
    c.args.end octets decoded EnhanceYourCalm c.args.id c.in_err-reported-2.field-0.0
    c.reset_for_fault-then-too_large.new.self.list
    (large_rule e c.args.id c.args.end octets decoded fresh stays room
    (large ∙ c.if-too_large.true))
    (opens_by e c.args.id c.args.end octets decoded false fresh stays room)
    c.in_err-reported-2.ensures)

pub returns-then-too_large : goal.returns-then-too_large
returns-then-too_large c =
    λ decoded octets same large whole.
    let e : End = end_of c.args.self.now in
    let fresh = fresh_of e c.args.id c.requires.sound c.requires.fresh in
    let stays = sym c.is_some.ensures ∙ c.if-is_some.false in
    let room = sym (c.is_at_capacity.ensures fresh.server) ∙ c.if-is_at_capacity.false in
    fault_answer c.args.self.now c.reset_for_fault-then-too_large.new.self c.args.id c.args.end
    octets decoded EnhanceYourCalm c.args.id c.in_ok-reported-2.reported
    c.reset_for_fault-then-too_large.new.self.list true _
    (large_rule e c.args.id c.args.end octets decoded fresh stays room
    (large ∙ c.if-too_large.true))
    c.requires.fresh same
    (rw c.in_ok-reported-2.was at c.reset_for_fault-then-too_large.ensures) refl

-- an end with a table of streams in which one was opened
abbrev opened_end : Endpoint → ℕ → TableState → End
opened_end one id table =
    record (end_of one) {
      streams = record {
        entries = table.entries;
        active_count = one.active_count + 1;
        highest = id;
        last_processed = id;
        resets = one.resets;
      };
      peer = record (end_of one).peer { initial_window = table.send_initial };
      own = record (end_of one).own {
        in_force = record (end_of one).own.in_force { initial_window = table.recv_initial };
      };
    }

-- It is the end after a block that opens a stream.
received : (one : Endpoint) (id : ℕ) (end : Bool) (table : TableState) (stream : StreamView)
    → Fresh (end_of one) id
    → table ≡ record one.streams {
      entries = map.insert one.streams.entries id (active_entry stream);
    }
    → stream ≡ new_stream (end_of one) end false
    → opened_end one id table ≡ receive_block (end_of one) id end (stream_at (end_of one) id)
received one id end table stream fresh with_it is =
    let most : id ≡ max id one.highest = omega (arith, ltb-true one.highest id fresh.above) in
    ap (opened_end one id) with_it
    ∙ ap (λ (s : StreamView). opened_end one id (record one.streams {
      entries = map.insert one.streams.entries id (active_entry s);
    })) is
    ∙ ap (λ (n : ℕ). record (receive_block (end_of one) id end None) {
      streams = record (receive_block (end_of one) id end None).streams { highest = n };
    }) most
    ∙ sym (ap (receive_block (end_of one) id end) (fresh_no_stream (end_of one) id fresh))

pub returns : goal.returns
returns c =
    λ decoded octets same large whole.
    let e : End = end_of c.args.self.now in
    let fresh = fresh_of e c.args.id c.requires.sound c.requires.fresh in
    let stays = sym c.is_some.ensures ∙ c.if-is_some.false in
    let room = sym (c.is_at_capacity.ensures fresh.server) ∙ c.if-is_at_capacity.false in
    reported_taken e c.args.id c.args.end octets decoded c.args.self.now.list _
    (open_rule e c.args.id c.args.end octets decoded fresh stays room
    (large ∙ c.if-too_large.false))
    (whole c.if-too_large.false) same
    (received c.args.self.now c.args.id c.args.end c.open.new.self _ fresh
    c.in_ok-open.ensures.ok
    (c.new_stream-stream.ensures
    ∙ ap (λ (s : StreamState). new_stream e c.args.end s.ended_out) c.open-state.ensures))

pub returns-in_err-open : goal.returns-in_err-open
returns-in_err-open c =
    λ decoded octets same large whole.
    let e : End = end_of c.args.self.now in
    let fresh = fresh_of e c.args.id c.requires.sound c.requires.fresh in
    let stays = sym c.is_some.ensures ∙ c.if-is_some.false in
    let room = sym (c.is_at_capacity.ensures fresh.server) ∙ c.if-is_at_capacity.false in
    let result = c.from_residual-in_err-open.result in
    let p = err_from_is_err_and result c.from_residual-in_err-open.ensures.1 in
    rw (p.1, p.2) (report_lacks e c.args.id c.args.end octets decoded c.args.self.now.list _
    (open_rule e c.args.id c.args.end octets decoded fresh stays room
    (large ∙ c.if-too_large.false))
    (ap (with_table e) c.in_err-open.ensures.err))
