-- No rule has the code INTERNAL_ERROR: an end fails with it only where memory was refused.
use Rattle.h2_laws_end.proofs.Names
use Names.{◌≡◌, ◌≢◌, ◌∙◌, ℕ, Bool, true, false, if◌then◌else◌, List, [], ◌∷◌, Option, Some, None}
use Names.{length, nat_lt, sym, ap, refl, ◌==◌, ◌+◌, ◌++◌, not, subst, InternalError, Frame}
use Names.{Headers, Continuation, BlockFault, Item, Begun, next_fault, none_some, one_some, Verdict}
use Names.{ConnectionFault, View, Decoded, FrameStep, fails_with, begins_block, completes}
use Names.{verdict_of, Log, log_view, took_frame, cond_both, fault_codes, ProtocolError}
use Names.{fault_outside, fault_inside, max_block_octets, block_fault_code, grouped, grouping_step}
use Names.{frame_step, used, with_verdict, with_step, with_frame}
use Rattle.h2_laws_end.proofs.Failures.{replied_failed, still_up}
use Rattle.h2_laws_end.proofs.FaultCodes.{HasCode, verdict_coded}
use Rattle.h2_block.specs.declared.fault.BlockFault.TheVariants as faults

-- No verdict on an item is that the connection fails with INTERNAL_ERROR.
verdict_not : (view : View) (decoded : Option Decoded) (item : Item)
    → verdict_of view decoded item ≢ ConnectionFault InternalError
verdict_not view decoded item is =
    (subst (HasCode (fault_codes item)) is (verdict_coded view decoded item)) refl

-- Nor does a frame fail the grouping of blocks with it.
long_only : (long : Bool) → (if long then Some faults.TooLong else None) ≢ Some faults.Memory
long_only true = λ is. cc
long_only false = λ is. cc

inside_only : (other long : Bool)
    → (if other then Some faults.Interrupted else if long then Some faults.TooLong else None)
    ≢ Some faults.Memory
inside_only true long = λ is. cc
inside_only false long = long_only long

never_memory : (begun : Option Begun) (frame : Frame) → next_fault begun frame ≢ Some faults.Memory
unfolding fault_outside fault_inside
never_memory None (Headers stream end whole fragment pad priority) =
    long_only (nat_lt max_block_octets (length fragment))
never_memory (Some begun) (Continuation stream whole fragment) =
    inside_only (not (stream == begun.stream))
    (nat_lt max_block_octets (length begun.octets + length fragment))
never_memory None other = λ is. cc
never_memory (Some begun) other = λ is. cc

-- The step of a frame doesn't fail the connection with it.
abbrev StepIsNot : FrameStep → Type 0
StepIsNot step = step ≢ fails_with InternalError

code_not : (fault : BlockFault) → fault ≢ faults.Memory
    → StepIsNot (fails_with (block_fault_code fault))
code_not faults.Memory other = absurd (other refl)
code_not fault other = λ is. cc

grouped_not : (begun : Option Begun) (frame : Frame) → StepIsNot (grouped begun frame)
unfolding grouped
grouped_not None (Headers stream end true fragment pad priority) = λ is. cc
grouped_not None (Headers stream end false fragment pad priority) = λ is. cc
grouped_not (Some begun) (Continuation stream true fragment) = λ is. cc
grouped_not (Some begun) (Continuation stream false fragment) = λ is. cc
grouped_not begun frame = λ is. cc

grouping_not : (begun : Option Begun) (frame : Frame) (fault : Option BlockFault)
    → fault ≢ Some faults.Memory → StepIsNot (grouping_step begun frame fault)
unfolding grouping_step
grouping_not begun frame None other = grouped_not begun frame
grouping_not begun frame (Some fault) other = code_not fault (λ is. other (ap Some is))

step_not : (view : View) (frame : Frame) → StepIsNot (frame_step view frame)
unfolding frame_step
step_not view frame =
    cond_both _ (fails_with ProtocolError) _ StepIsNot (λ stray is. cc)
    (λ comes. grouping_not view.begun frame (next_fault view.begun frame)
    (never_memory view.begun frame))

verdict_up : (log : Log) (decoded : Option Decoded) (item : Item) (verdict : Verdict)
    → log.failed ≡ None → verdict ≢ ConnectionFault InternalError
    → (with_verdict log decoded item verdict).failed ≢ Some InternalError
unfolding with_verdict
verdict_up log decoded item (ConnectionFault code) up other = λ is.
    let same : code ≡ InternalError = one_some code InternalError is in
    other (ap ConnectionFault same)
verdict_up log decoded item another up other =
    still_up log.failed _ InternalError up (replied_failed log _ _ _ _ refl)

step_up : (log : Log) (decoded : Option Decoded) (step : FrameStep) → log.failed ≡ None
    → step ≢ fails_with InternalError
    → (with_step log decoded step).failed ≢ Some InternalError
unfolding with_step
step_up log decoded (fails_with code) up other = λ is.
    let same : code ≡ InternalError = one_some code InternalError is in
    other (ap fails_with same)
step_up log decoded (begins_block begun) up other = λ is. none_some InternalError (sym up ∙ is)
step_up log decoded (completes item) up other =
    verdict_up (record log { begun = None }) decoded item _ up
    (verdict_not (log_view (record log { begun = None })) decoded item)

-- So a connection that was up doesn't fail with INTERNAL_ERROR for a frame that it takes.
pub frame_up : (log : Log) (octets : List ℕ) (decoded : Option Decoded) (frame : Frame)
    → log.failed ≡ None → (took_frame log octets decoded frame).failed ≢ Some InternalError
unfolding with_frame used
frame_up log octets decoded frame up =
    step_up (record (used log octets []) { frames = log.frames ++ frame ∷ [] }) decoded
    (frame_step (log_view (used log octets [])) frame) up
    (step_not (log_view (used log octets [])) frame)
