-- A piece is a step of each log that the parts represent: by the lemmas on each.
use Rattle.h2_conn.proofs.Names.{◌≡◌, ◌∙◌, sym, ap, subst, ℕ, List, take, Option, Some, IfSome, Err}
use Rattle.h2_conn.proofs.Names.{refl, take-length, Frame, Complete, CutterState, CutterLimited}
use Rattle.h2_conn.proofs.Names.{data_of_frame, wire_fault_code, end_of, payload_limit_of, fail}
use Rattle.h2_conn.proofs.Names.{limit_in_range, ◌≢◌, InternalError}
use Rattle.h2_frame.specs.Frames.{frame_of}
use Rattle.h2_frame.proofs.FrameLemmas.{one_frame_lem}
use Rattle.h2_conn.proofs.SetLimits.{body_limited}
use Rattle.h2_conn.proofs.TakeFrames.{HasBody, located, lies_there, frame_happens}
use Rattle.h2_conn.proofs.TakeParts.{no_frame_taken, takes_octets, frame_taken, frame_stops}
use Rattle.h2_conn.proofs.TakeParts.{cut_stopped, is_internal, not_internal}
use Rattle.h2_conn.proofs.TakeMemory.{cutter_lacks}
use Rattle.h2_conn.proofs.TakeSound.{frame_sound}
use Rattle.h2_conn.proofs.Names.{log_view, Why}
use Rattle.h2_conn.proofs.WhySeen.{before_seen, after_seen}
use Rattle.h2_conn.proofs.PartsFit.{fit_of}
use Rattle.h2_conn.proofs.taking.take_piece.Goals.{in-Some-event, in-None}
use Rattle.h2_conn.proofs.taking.take_piece.Goals as goal

pub returns-in-Err-clause-takes : goal.returns-in-Err-clause-takes
returns-in-Err-clause-takes c = λ octets body values log p.
    let fails = c.in-Err.ensures.advances in
    let code : c.code-code.result ≡ wire_fault_code c.in-Err.fault = c.code-code.ensures in
    rw (code, c.of_octets.ensures) (cut_stopped values _ _ _ _ log c.args.piece.now c.in-Err.fault
    (fit_of values _ _ _ _ log p)
    (takes_octets values _ log p.machine c.requires.up c.requires.reported) fails
    (λ memory. cutter_lacks _ c.args.piece.now _ (ap Err memory) c.requires.cuts
    c.in-Err.ensures.checked c.in-Err.ensures.preface c.in-Err.ensures.lent c.in-Err.ensures.none)
    (c.fail_with.ensures
    ∙ ap (λ x. fail x c.args.end.now.last_processed (end_of c.args.end.now)) code))

pub returns-in_default-clause-takes : goal.returns-in_default-clause-takes
returns-in_default-clause-takes c = λ octets body values log p.
    let passes = rw c.in_default.is at c.in-Ok.ensures.advances in
    let piece = c.args.piece.now in
    let all_of : take c.in-Ok.advance.used piece ≡ piece =
    ap (λ (n : ℕ). take n piece) passes.all ∙ take-length piece in
    no_frame_taken values _ _ _ log piece c.in-Ok.advance.used p
    (takes_octets values _ log p.machine c.requires.up c.requires.reported) c.requires.up passes.all
    (rw all_of passes.continues)

pub returns-clause-sound : goal.returns-clause-sound
returns-clause-sound c = λ up.
    frame_sound _ _ _ _ c.in-Ok-take_frame.event c.requires.sound c.requires.up
    c.frame-frame.ensures.good c.in-Ok-take_frame.ensures

-- The frame's body still lies there.
has_body : (cutter limited : CutterState) (limit : ℕ) (piece : List ℕ) (complete : Complete)
    (frame : Frame) → CutterLimited cutter limit limited → HasBody cutter piece complete frame
    → HasBody limited piece complete frame
has_body cutter limited limit piece complete frame set has =
    subst (λ (body : Option (List ℕ)). IfSome (data_of_frame frame) (λ octets. body ≡ Some octets))
    (sym (body_limited cutter limited limit piece complete set)) has

pub returns-clause-lies : goal.returns-clause-lies
returns-clause-lies c =
    let piece = c.args.piece.now in
    let complete = c.in-Some.complete in
    let has = has_body _ _ _ piece complete _ c.set_limit.ensures c.frame-frame.ensures.body in
    let is : c.match-event.happened ≡ located complete c.in-Ok-take_frame.event =
    elim c.match-event.branch [
      | in-Some-event w ↦ rw (w.happened-is, w.in-Some-event.is, w.with_parts.ensures) refl
      | in-None w ↦ rw (w.happened-is, w.in-None.is) refl
    ] in
    rw is (lies_there c.set_limit.new.self piece complete c.in-Ok.advance.used _ _
    (frame_of c.frame-frame.result) _ c.in-Ok-take_frame.event has c.in-Ok-take_frame.ensures)

pub returns-clause-takes : goal.returns-clause-takes
returns-clause-takes c = λ octets body values log p.
    let ends = rw c.in-Some.is at c.in-Ok.ensures.advances in
    let piece = c.args.piece.now in
    let complete = c.in-Some.complete in
    let cut = c.advance.new.self in
    let limited = c.set_limit.new.self in
    let e = end_of c.take_frame.new.self in
    let set : CutterLimited cut (payload_limit_of e.own) limited =
    subst (λ (limit : ℕ). CutterLimited cut limit limited) c.payload_limit.ensures
    c.set_limit.ensures in
    let sound = frame_sound _ e _ _ c.in-Ok-take_frame.event c.requires.sound c.requires.up
    c.frame-frame.ensures.good c.in-Ok-take_frame.ensures in
    let has = has_body cut limited _ piece complete _ set c.frame-frame.ensures.body in
    let is : c.match-event.happened ≡ located complete c.in-Ok-take_frame.event =
    elim c.match-event.branch [
      | in-Some-event w ↦ rw (w.happened-is, w.in-Some-event.is, w.with_parts.ensures) refl
      | in-None w ↦ rw (w.happened-is, w.in-None.is) refl
    ] in
    let happens = frame_happens limited piece octets complete c.in-Ok.advance.used _ e
    (frame_of c.frame-frame.result) _ c.in-Ok-take_frame.event has (rw is at body)
    c.in-Ok-take_frame.ensures in
    rw is (frame_taken values _ cut limited _ e log piece c.in-Ok.advance.used
    (frame_of c.frame-frame.result) _ octets (located complete c.in-Ok-take_frame.event) p
    (takes_octets values _ log p.machine c.requires.up c.requires.reported) c.requires.up
    (record {
      continues = ends.continues (frame_of c.frame-frame.result) c.frame-frame.ensures.value;
      within = ends.within;
      none = ends.none_unparsed;
    }) happens set (limit_in_range e sound.ranges) c.with-counted.ensures)

-- A frame at fault is counted, and one for which memory was refused is not.
pub returns-else-eq-clause-takes : goal.returns-else-eq-clause-takes
returns-else-eq-clause-takes c = λ octets body values log p.
    let ends = rw c.in-Some.is at c.in-Ok.ensures.advances in
    let other : c.in-Err-take_frame.code ≢ InternalError =
    not_internal _ (sym c.eq.ensures ∙ c.if-eq.false) in
    -- the frame that is lent again is the one that was taken
    let same_frame : frame_of c.frame-frame-else-eq.result ≡ frame_of c.frame-frame.result =
    one_frame_lem _ _ _ c.frame-frame-else-eq.ensures.value c.frame-frame.ensures.value in
    frame_stops values _ _ _ _ log c.args.piece.now c.in-Ok.advance.used
    (frame_of c.frame-frame.result) c.in-Err-take_frame.code
    (fit_of values _ _ _ _ log p)
    (takes_octets values _ log p.machine c.requires.up c.requires.reported) c.requires.up
    (record {
      continues = ends.continues (frame_of c.frame-frame.result) c.frame-frame.ensures.value;
      within = ends.within;
      none = ends.none_unparsed;
    }) c.in-Err-take_frame.ensures c.with-counted.ensures (λ fault. refl)
    (λ same. absurd (other same))
    (λ fault fails. ap (λ (why : Why). Some why)
    (rw same_frame at c.rule_of_frame.ensures (log_view log)
    (before_seen values _ log c.of-before.result p.machine c.requires.up c.of-before.ensures)
    (after_seen values _ _ log (frame_of c.frame-frame.result) c.in-Err-take_frame.code p.machine
    c.requires.up fails)))
    (λ same. absurd (other same))

pub returns-then-eq-clause-takes : goal.returns-then-eq-clause-takes
returns-then-eq-clause-takes c = λ octets body values log p.
    let ends = rw c.in-Some.is at c.in-Ok.ensures.advances in
    let same : c.in-Err-take_frame.code ≡ InternalError =
    is_internal _ (sym c.eq.ensures ∙ c.if-eq.true) in
    frame_stops values _ _ _ _ log c.args.piece.now c.in-Ok.advance.used
    (frame_of c.frame-frame.result) c.in-Err-take_frame.code
    (fit_of values _ _ _ _ log p)
    (takes_octets values _ log p.machine c.requires.up c.requires.reported) c.requires.up
    (record {
      continues = ends.continues (frame_of c.frame-frame.result) c.frame-frame.ensures.value;
      within = ends.within;
      none = ends.none_unparsed;
    }) c.in-Err-take_frame.ensures c.with-counted.ensures (λ fault. absurd (fault same))
    (λ lacks. refl) (λ fault fails. absurd (fault same)) (λ lacks. refl)

pub returns-in_default-clause-cuts : goal.returns-in_default-clause-cuts
returns-in_default-clause-cuts c = λ up.
    (rw c.in_default.is at c.in-Ok.ensures.advances).continues.sound

pub returns-clause-cuts : goal.returns-clause-cuts
returns-clause-cuts c = λ up.
    let ends = rw c.in-Some.is at c.in-Ok.ensures.advances in
    ap (λ (state : CutterState). state.fault) c.set_limit.ensures.same
    ∙ (ends.continues (frame_of c.frame-frame.result) c.frame-frame.ensures.value).sound
