use Rattle.h2_conn.proofs.Names.{◌≡◌, ◌≤◌, ℕ, Bool, List, Option, ◌∙◌, ap, arith, length, refl, sym}
use Rattle.h2_frame.specs.Frames.{frame_of}
use Rattle.h2_frame.specs.declared.frame.FrameRef.{FrameRef}
use Rattle.h2_frame.specs.declared.frame.FrameRef.TheVariants as refs
use Rattle.std.specs.Borrow.{Bor}
use Rattle.h2_frame.specs.Encoding.{padded, payload_of}
use Rattle.std.specs.Prelude.{◌+◌}
use Rattle.h2_core.proofs.FrameWritable.{writable}
use Rattle.h2_conn.specs.Counts.{flow_after}
use Rattle.h2_conn.proofs.CountsFlow.{padded_length, padding_of}
use Rattle.h2_conn.proofs.counts.flow_after.Goals.{Joined-pad, in-Some, in-None}
use Rattle.h2_conn.proofs.counts.flow_after.Goals as goal

-- The padding is as long as it is said to be,
padding_is : (c : Joined-pad) → c.match-pad.padding ≡ padding_of c.in-Data.pad
padding_is c = elim c.match-pad.branch [
  | in-Some w ↦ rw (w.padding-is, w.from.ensures, w.in-Some.is) refl
  | in-None w ↦ rw (w.padding-is, w.in-None.is) refl
]

-- and the payload no longer than a payload may be.
fits : (c : Joined-pad) → length c.in-Data.octets.now + c.match-pad.padding ≤ 16777215
unfolding payload_of
fits c =
    let good = writable (frame_of c.args.frame) c.requires.good in
    let within : length (payload_of (frame_of c.args.frame)) ≤ 16777215 = good.payload in
    let short : length (padded c.in-Data.octets.now c.in-Data.pad) ≤ 16777215 =
    rw c.in-Data.is at within in
    omega (arith, short, padding_is c, padded_length c.in-Data.octets.now c.in-Data.pad)

-- Another frame takes nothing.
other_frame : (before : ℕ) (frame : FrameRef)
    → ((stream : ℕ) (end : Bool) (octets : Bor (List ℕ)) (pad : Option ℕ)
    → frame ≡ refs.Data stream end octets pad → ⊥)
    → before ≡ flow_after before (frame_of frame)
unfolding flow_after
other_frame before (refs.Data stream end octets pad) other =
    absurd (other stream end octets pad refl)
other_frame before frame other = refl

pub overflow_cast-result : goal.overflow_cast-result
overflow_cast-result c =
    let at = (goal.at.overflow_cast-result c).Joined-pad in omega (arith, fits at)

pub overflow_add-result : goal.overflow_add-result
overflow_add-result c =
    let at = (goal.at.overflow_add-result c).Joined-pad in omega (arith, fits at)

pub returns-after-pad : goal.returns-after-pad
unfolding flow_after payload_of
returns-after-pad c =
    let at = (goal.at.returns-after-pad c).Joined-pad in
    rw c.in-Data.is (ap (λ (n : ℕ). length c.in-Data.octets.now + n) (padding_is at)
    ∙ sym (padded_length c.in-Data.octets.now c.in-Data.pad))

pub returns-in_default : goal.returns-in_default
returns-in_default c = other_frame c.args.before c.args.frame c.in_default.not-Data
