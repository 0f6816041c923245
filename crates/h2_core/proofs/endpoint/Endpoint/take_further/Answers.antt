use Rattle.h2_core.proofs.Names.{◌≡◌, ℕ, Bool, true, false, if◌then◌else◌, List, Some, arith, refl}
use Rattle.h2_core.proofs.Names.{sym, ap, ◌∙◌, ◌||◌, inl, inr, ◌⊎◌, Code, StreamClosed}
use Rattle.h2_core.proofs.Names.{EnhanceYourCalm, stream_view, Decoded, StreamFault, Reported}
use Rattle.h2_core.proofs.Names.{StreamView, End, stream_at, update_stream, receive_block, end_of}
use Rattle.h2_core.proofs.Names.{err_from_is_err_and}
use Rattle.h2_core.proofs.StepEnds.{with_waiting}
use Rattle.h2_core.proofs.SoundFacts.{counted, owed_fits, send_near, recv_near}
use Rattle.h2_core.proofs.FrameVerdicts.{active_stale, by_block, is_too_large, further_rule}
use Rattle.h2_core.proofs.FrameVerdicts.{further_opens, fault_item, reported_taken, report_lacks}
use Rattle.h2_core.proofs.endpoint.Endpoint.take_further.Goals.{then-stream-2, else-stream-2}
use Rattle.h2_core.proofs.endpoint.Endpoint.take_further.Goals as goal

-- the code of a fault
abbrev code_of : Bool → Code
code_of ended = if ended then StreamClosed else EnhanceYourCalm

-- Where the stream is half-closed (remote), or the list is too large, it is a stream error.
at_fault : (e : End) (id : ℕ) (end : Bool) (octets : List ℕ) (decoded : Decoded)
    (stream : StreamView) (ended large : Bool) → stream_at e id ≡ Some stream
    → stream.ended_in ≡ ended → is_too_large decoded ≡ large
    → (ended ≡ true) ⊎ ((ended ≡ false) × (large ≡ true))
    → by_block e id end octets decoded ≡ StreamFault (code_of ended)
at_fault e id end octets decoded stream true large active ended is some =
    further_rule e id end octets decoded stream active ∙ (rw ended refl)
at_fault e id end octets decoded stream false large active ended is (inl wrong) = cc
at_fault e id end octets decoded stream false large active ended is (inr both) =
    further_rule e id end octets decoded stream active ∙ (rw (ended, is, both.1) refl)

pub returns-then-stream : goal.returns-then-stream
returns-then-stream c =
    λ decoded octets same large whole.
    let e : End = end_of c.args.self.now in
    let code : c.if-stream-2.code ≡ code_of c.args.stream.state.ended_in =
    elim c.if-stream-2.branch [
      | then-stream-2 w ↦ w.code-is ∙ (rw w.if-stream-2.true refl)
      | else-stream-2 w ↦ w.code-is ∙ (rw w.if-stream-2.false refl)
    ] in
    fault_item c.args.self.now c.reset_for_fault.new.self c.args.id c.args.end octets decoded
    c.if-stream-2.code c.reset_for_fault.result
    (at_fault e c.args.id c.args.end octets decoded (stream_view c.args.stream)
    c.args.stream.state.ended_in c.args.too_large c.requires.active refl large
    c.then-stream.either ∙ ap StreamFault (sym code))
    (active_stale e c.args.id (stream_view c.args.stream) c.requires.sound c.requires.active)
    (further_opens e c.args.id c.args.end octets decoded (stream_view c.args.stream)
    c.requires.active)
    same c.reset_for_fault.ensures

pub update_stream-requires-clause-near : goal.update_stream-requires-clause-near
update_stream-requires-clause-near c =
    record {
      send = send_near (end_of c.args.self.now) c.args.id (stream_view c.args.stream)
          c.requires.sound c.requires.active;
      recv = recv_near (end_of c.args.self.now) c.args.id (stream_view c.args.stream)
          c.requires.sound c.requires.active;
    }

pub update_stream-requires-clause-counted : goal.update_stream-requires-clause-counted
update_stream-requires-clause-counted c =
    counted (end_of c.args.self.now) c.args.id (stream_view c.args.stream) c.requires.sound
    c.requires.active

pub update_stream-requires-clause-window : goal.update_stream-requires-clause-window
update_stream-requires-clause-window c =
    omega (
      arith,
      owed_fits (end_of c.args.self.now) c.args.id (stream_view c.args.stream)
          c.requires.sound c.requires.active,
    )

-- A block that is reported on a stream that is open or half-closed (local).
received : (e : End) (id : ℕ) (end : Bool) (stream : StreamView) (waiting : List ℕ) (new : End)
    → stream_at e id ≡ Some stream → stream.ended_in ≡ false → waiting ≡ e.output.waiting
    → new ≡ update_stream (with_waiting e waiting) id (record stream { ended_in = end })
    → new ≡ receive_block e id end (stream_at e id)
received e id end stream waiting new active unended same after =
    after
    ∙ ap (λ (w : List ℕ). update_stream (with_waiting e w) id (record stream { ended_in = end }))
    same
    ∙ ap (λ (b : Bool). update_stream e id (record stream { ended_in = b || end })) (sym unended)
    ∙ sym (ap (receive_block e id end) active)

-- A block with a list that isn't too large is reported.
reported : (e : End) (id : ℕ) (end : Bool) (octets : List ℕ) (decoded : Decoded)
    (stream : StreamView) → stream_at e id ≡ Some stream → stream.ended_in ≡ false
    → is_too_large decoded ≡ false → by_block e id end octets decoded ≡ Reported
reported e id end octets decoded stream active unended small =
    further_rule e id end octets decoded stream active ∙ (rw (unended, small) refl)

pub returns-in_err-reserve_if_over : goal.returns-in_err-reserve_if_over
returns-in_err-reserve_if_over c =
    λ decoded octets same large whole.
    let e : End = end_of c.args.self.now in
    let p = err_from_is_err_and c.from_residual.result c.from_residual.ensures.1 in
    rw (p.1, p.2) (report_lacks e c.args.id c.args.end octets decoded c.args.self.now.list _
    (reported e c.args.id c.args.end octets decoded (stream_view c.args.stream) c.requires.active
    c.if-stream.false (large ∙ c.if-too_large.false))
    (ap (with_waiting e) c.reserve_if_over.ensures.waiting))

pub returns : goal.returns
returns c =
    λ decoded octets same large whole.
    let e : End = end_of c.args.self.now in
    reported_taken e c.args.id c.args.end octets decoded c.update_stream.new.self.list
    (end_of c.update_stream.new.self)
    (reported e c.args.id c.args.end octets decoded (stream_view c.args.stream) c.requires.active
    c.if-stream.false (large ∙ c.if-too_large.false))
    (c.update_stream.ensures.list ∙ whole c.if-too_large.false)
    same
    (received e c.args.id c.args.end (stream_view c.args.stream)
    c.reserve_if_over.new.output.waiting (end_of c.update_stream.new.self) c.requires.active
    c.if-stream.false
    c.reserve_if_over.ensures.waiting c.update_stream.ensures.after)
