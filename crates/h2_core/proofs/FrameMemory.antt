-- Memory is refused to a gatherer only with a part of a field block that has no fault.
use Rattle.h2_core.proofs.Names.{◌≡◌, ◌+◌, ◌==◌, not, ◌&&◌, Bool, true, false, if◌then◌else◌}
use Rattle.h2_core.proofs.Names.{length, Option, Some, None, refl, ap, ◌∙◌, Code, Frame, Data}
use Rattle.h2_core.proofs.Names.{Headers, Priority, Ping, GoAway, WindowUpdate, Continuation}
use Rattle.h2_core.proofs.Names.{Unknown, BlockFault, Begun, next_fault, max_block_octets}
use Rattle.h2_core.proofs.Names.{ReportsFault, may_be_first, End, end_view, with_begun}
use Rattle.h2_core.proofs.Names.{FailsWithoutMemory, FrameLacksMemory, step_needs_memory}
use Rattle.h2_core.proofs.Names.{fault_outside, fault_inside, is_standalone, grouped}
use Rattle.std.proofs.Common.{nat_lt, Err}
use Rattle.h2_frame.specs.Frames.{Reset, Settings}
use Rattle.h2_core.proofs.FrameTaking.{step_grouped}
use Rattle.h2_block.specs.declared.fault.BlockFault.TheVariants as faults
use Rattle.h2_core.proofs.Names.{rules}

-- No frame is at fault for memory.
long_only : (b : Bool)
    → (if b then Some faults.TooLong else None) ≡ Some faults.Memory → ⊥
long_only true is = cc
long_only false is = cc

inside_only : (same long : Bool)
    → (if not same then Some faults.Interrupted else if long then Some faults.TooLong else None)
    ≡ Some faults.Memory → ⊥
inside_only false long is = cc
inside_only true long is = long_only long is

never_memory : (begun : Option Begun) (frame : Frame)
    → next_fault begun frame ≡ Some faults.Memory → ⊥
unfolding fault_outside fault_inside
never_memory None (Headers stream end whole fragment pad priority) is = search rules
never_memory None frame is = cc
never_memory (Some begun) (Continuation stream whole fragment) is = search rules
never_memory (Some begun) frame is = cc

-- A frame at fault is reported, so one for which memory is refused has no fault.
lacking_unfaulty : (begun : Option Begun) (frame : Frame) (fault : BlockFault)
    (found : Option BlockFault) → next_fault begun frame ≡ found → fault ≡ faults.Memory
    → ReportsFault begun frame (Err fault) → found ≡ None
lacking_unfaulty begun frame fault None is lacks reports = refl
lacking_unfaulty begun frame fault (Some other) is lacks reports =
    let told = reports other is in
    let same : other ≡ faults.Memory = cc in
    absurd (never_memory begun frame (is ∙ ap Some same))

-- A frame without a fault that isn't passed on by itself is a part of a block.
part_needs : (e : End) (begun : Option Begun) (frame : Frame) → next_fault begun frame ≡ None
    → (begun ≡ None → is_standalone frame ≡ true → ⊥)
    → step_needs_memory (end_view (with_begun e None)) (grouped begun frame) ≡ true
unfolding fault_outside fault_inside grouped is_standalone
part_needs e None (Headers stream end true fragment pad priority) good part = refl
part_needs e None (Headers stream end false fragment pad priority) good part = refl
part_needs e None (Continuation stream whole fragment) good part = cc
part_needs e None frame good part = absurd (part refl refl)
part_needs e (Some begun) (Continuation stream true fragment) good part = refl
part_needs e (Some begun) (Continuation stream false fragment) good part = refl
part_needs e (Some begun) frame good part = cc

-- The connection fails where the gatherer was refused memory for a frame.
pub gathering_lacks : (e new : End) (frame : Frame) (fault : BlockFault) (code : Code)
    → (not e.reading.started && not (may_be_first frame)) ≡ false → fault ≡ faults.Memory
    → ReportsFault e.reading.begun frame (Err fault)
    → (e.reading.begun ≡ None → is_standalone frame ≡ true → ⊥)
    → FailsWithoutMemory e code new → FrameLacksMemory e frame code new
gathering_lacks e new frame fault code started lacks reports part fails =
    let good : next_fault e.reading.begun frame ≡ None = lacking_unfaulty e.reading.begun frame
    fault (next_fault e.reading.begun frame) refl lacks reports in
    assumption (ap (step_needs_memory (end_view (with_begun e None)))
    (step_grouped e frame started good) ∙ part_needs e e.reading.begun frame good part)
