use Rattle.h2_core.proofs.Names.{◌≡◌, None, Some, inl, refl, sym, ap, ◌∙◌, Option, Bool, true}
use Rattle.h2_core.proofs.Names.{false, subst, Begun, alone, FrameRef, frame_of, Headers, End}
use Rattle.h2_core.proofs.Names.{end_of, IsSoundEnd, not, ◌&&◌, List, ℕ, may_be_first}
use Rattle.h2_core.proofs.Names.{is_standalone}
use Rattle.h2_frame.specs.Frames.{Settings}
use Rattle.std.proofs.Common.{is_some}
use Rattle.h2_core.proofs.FrameFailures.{stopped_same}
use Rattle.h2_core.proofs.FrameWritable.{headers_number}
use Rattle.h2_core.proofs.FrameTaking.{early_fails, headers_taken, standalone_step}
use Rattle.h2_core.proofs.FrameTaking.{other_standalone, alone_taken, alone_stopped, alone_small}
use Rattle.h2_core.proofs.endpoint.Endpoint.take_frame.Goals.{Joined-frame, After-is_inside}
use Rattle.h2_frame.specs.declared.frame.FrameRef.TheVariants as lent
use Rattle.h2_core.proofs.endpoint.Endpoint.take_frame.Goals as goal

settings_first : (ack : Bool) (pairs : List (ℕ × ℕ)) → not ack ≡ may_be_first (Settings ack pairs)
unfolding may_be_first
settings_first true pairs = refl
settings_first false pairs = refl

other_first : (frame : FrameRef)
    → ((ack : Bool) (pairs : _) → frame ≡ lent.Settings ack pairs → ⊥)
    → may_be_first (frame_of frame) ≡ false
unfolding may_be_first
other_first (lent.Settings ack pairs) other = absurd (other ack pairs refl)
other_first frame other = refl

-- Whether a frame may come now.
first_is : (c : Joined-frame) → c.match-frame.may_be_first ≡ may_be_first (frame_of c.args.frame)
first_is c = elim c.match-frame.branch [
  | goal.in-Settings w ↦
      rw (w.may_be_first-is, w.in-Settings.is) (settings_first w.in-Settings.ack _)
  | goal.in_default w ↦
      w.may_be_first-is ∙ sym (other_first c.args.frame w.in_default.not-Settings)
]

timely : (c : After-is_inside) → c.match-frame.may_be_first ≡ may_be_first (frame_of c.args.frame)
    → (not c.args.self.now.started && not (may_be_first (frame_of c.args.frame))) ≡ false
timely c first = elim c.else-not-self.branch [
  | goal.else-not-self-via-then-not-self+else-not-may_be_first w ↦
      rw (w.if-not-self.true, ← first, w.if-not-may_be_first.false) refl
  | goal.else-not-self-via-else-not-self w ↦ rw w.if-not-self.false refl
]

pub returns-then-not-may_be_first : goal.returns-then-not-may_be_first
returns-then-not-may_be_first c =
    let first = first_is (goal.at.returns-then-not-may_be_first c).Joined-frame in
    inl (early_fails (end_of c.args.self.now) (end_of c.fail_by.new.self) (frame_of c.args.frame)
    c.fault.result c.fail_by.result
    (rw (c.if-not-self.true, ← first, c.if-not-may_be_first.true) refl) c.fault.ensures
    c.fail_by.ensures)

pub take_block-requires-clause-number : goal.take_block-requires-clause-number
take_block-requires-clause-number c =
    headers_number c.in-Headers.stream c.in-Headers.end c.in-Headers.whole
    c.in-Headers.fragment.now c.in-Headers.pad c.in-Headers.priority
    (rw c.in-Headers.is at c.requires.good)

none_by : (begun : Option Begun) → is_some begun ≡ false → begun ≡ None
none_by None is = refl
none_by (Some begun) is = cc

pub returns-then-fragment-le-MAX_BLOCK : goal.returns-then-fragment-le-MAX_BLOCK
returns-then-fragment-le-MAX_BLOCK c =
    let frame : frame_of c.args.frame
    ≡ Headers c.in-Headers.stream c.in-Headers.end true c.in-Headers.fragment.now c.in-Headers.pad
    c.in-Headers.priority =
    ap frame_of c.in-Headers.is
    ∙ ap (λ (b : Bool). Headers c.in-Headers.stream c.in-Headers.end b c.in-Headers.fragment.now
    c.in-Headers.pad c.in-Headers.priority) c.if-whole.true in
    headers_taken (end_of c.args.self.now) (end_of c.take_block.new.self) (frame_of c.args.frame)
    c.in-Headers.stream c.in-Headers.end c.in-Headers.fragment.now c.in-Headers.pad
    c.in-Headers.priority c.take_block.new.self.list c.take_block.result frame
    (timely (goal.at.returns-then-fragment-le-MAX_BLOCK c).After-is_inside (first_is
    (goal.at.returns-then-fragment-le-MAX_BLOCK c).Joined-frame))
    (none_by c.args.self.now.gather.begun (sym c.is_inside.ensures ∙ c.if-is_inside.false))
    c.if-fragment-le-MAX_BLOCK.true c.take_block.ensures

pub gather_frame-requires-clause-started : goal.gather_frame-requires-clause-started
gather_frame-requires-clause-started c = timely (goal.at.gather_frame-requires-clause-started
    c).After-is_inside (first_is (goal.at.gather_frame-requires-clause-started c).Joined-frame)

pub take_alone-requires-clause-alone : goal.take_alone-requires-clause-alone
take_alone-requires-clause-alone c =
    other_standalone c.args.frame c.in_default-frame.not-Headers c.in_default-frame.not-Continuation

pub fail_by-requires-in-Err-clause-sound : goal.fail_by-requires-in-Err-clause-sound
fail_by-requires-in-Err-clause-sound c =
    subst (λ (x : End). IsSoundEnd x)
    (sym (stopped_same (end_of c.args.self.now) (end_of c.take_alone.new.self) None
    (alone (frame_of c.args.frame)) c.take_alone.new.self.list c.in-Err.stop c.in-Err.ensures))
    c.requires.sound

pub fail_by-requires-in-Err-clause-opened : goal.fail_by-requires-in-Err-clause-opened
fail_by-requires-in-Err-clause-opened c =
    alone_small (end_of c.args.self.now) (end_of c.take_alone.new.self) (frame_of c.args.frame)
    c.take_alone.new.self.list c.in-Err.stop c.in-Err.ensures

pub returns-in-Ok : goal.returns-in-Ok
returns-in-Ok c =
    let e : End = end_of c.args.self.now in
    let none : e.reading.begun ≡ None =
    none_by c.args.self.now.gather.begun (sym c.is_inside.ensures ∙ c.if-is_inside.false) in
    alone_taken e (end_of c.take_alone.new.self) (frame_of c.args.frame) c.take_alone.new.self.list
    c.in-Ok.event
    (standalone_step e (frame_of c.args.frame)
    (timely (goal.at.returns-in-Ok c).After-is_inside (first_is (goal.at.returns-in-Ok
    c).Joined-frame)) none
    (other_standalone c.args.frame c.in_default-frame.not-Headers
    c.in_default-frame.not-Continuation))
    none c.requires.up c.in-Ok.ensures

pub returns-in-Err : goal.returns-in-Err
returns-in-Err c =
    let e : End = end_of c.args.self.now in
    let none : e.reading.begun ≡ None =
    none_by c.args.self.now.gather.begun (sym c.is_inside.ensures ∙ c.if-is_inside.false) in
    alone_stopped e (end_of c.take_alone.new.self) (end_of c.fail_by-in-Err.new.self)
    (frame_of c.args.frame) c.take_alone.new.self.list c.in-Err.stop c.fail_by-in-Err.result
    (standalone_step e (frame_of c.args.frame)
    (timely (goal.at.returns-in-Err c).After-is_inside (first_is (goal.at.returns-in-Err
    c).Joined-frame)) none
    (other_standalone c.args.frame c.in_default-frame.not-Headers
    c.in_default-frame.not-Continuation))
    none c.in-Err.ensures c.fail_by-in-Err.ensures

pub gather_frame-requires-else-whole-clause-part : goal.gather_frame-requires-else-whole-clause-part
unfolding is_standalone
gather_frame-requires-else-whole-clause-part c = λ none.
    ap (λ (f : FrameRef). is_standalone (frame_of f)) c.in-Headers.is

pub gather_frame-requires-in-Continuation-clause-part :
    goal.gather_frame-requires-in-Continuation-clause-part
unfolding is_standalone
gather_frame-requires-in-Continuation-clause-part c = λ none.
    ap (λ (f : FrameRef). is_standalone (frame_of f)) c.in-Continuation.is
