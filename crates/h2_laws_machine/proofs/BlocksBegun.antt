-- A field block that a frame begins, continues or completes: it is within the limit, and of the
-- frame's stream.
use Rattle.h2_laws_machine.proofs.Names
use Names.{◌≡◌, ℕ, ◌+◌, ◌≤◌, ◌==◌, nat_lt, not, ◌&&◌, if◌then◌else◌, Bool, true, false, List}
use Names.{length, length-append, Option, Some, None, refl, sym, arith, ProtocolError, stream_of}
use Names.{Frame, alone, block, Begun, max_block_octets, FrameStep, fails_with, begins_block}
use Names.{completes, frame_step, may_be_first, grouped, grouping_step, end_view, End, Headers}
use Names.{Continuation, Interrupted, next_fault, fault_outside, fault_inside}
use Rattle.std.proofs.Common.{ltb-false, eqb-true}
use Rattle.h2_block.specs.declared.fault.BlockFault.TheVariants.{TooLong}

-- What a frame makes of the block that has begun is within the limit, and is of the frame's stream.
abbrev pub StepFits : ℕ → FrameStep → Type 0
StepFits i (fails_with code) = Unit {0}
StepFits i (begins_block begun) = length begun.octets ≤ max_block_octets
StepFits i (completes (block stream end octets)) = stream ≡ i
StepFits i (completes (alone frame)) = Unit {0}

-- HEADERS begin a block within the limit, or complete it, by the tests.
headers_fit : (i : ℕ) (end last : Bool) (fragment : List ℕ) (pad : Option ℕ)
    (priority : Option (List ℕ)) (b : Bool) → nat_lt max_block_octets (length fragment) ≡ b
    → StepFits i (grouping_step None (Headers i end last fragment pad priority)
    (if b then Some TooLong else None))
unfolding grouping_step grouped
headers_fit i end last fragment pad priority true long = tt
headers_fit i end true fragment pad priority false fitting = refl
headers_fit i end false fragment pad priority false fitting =
    ltb-false max_block_octets (length fragment) fitting

-- CONTINUATION leaves a block within the limit, or completes it, by the tests.
continuation_fits : (begun : Begun) (i : ℕ) (last : Bool) (fragment : List ℕ) (same long : Bool)
    → (i == begun.stream) ≡ same
    → nat_lt max_block_octets (length begun.octets + length fragment) ≡ long
    → StepFits i (grouping_step (Some begun) (Continuation i last fragment)
    (if not same then Some Interrupted else if long then Some TooLong else None))
unfolding grouping_step grouped
continuation_fits begun i last fragment false long apart is = tt
continuation_fits begun i last fragment true true same is = tt
continuation_fits begun i true fragment true false same is = sym (eqb-true i begun.stream same)
continuation_fits begun i false fragment true false same is =
    omega (arith, ltb-false, length-append {A = ℕ})

-- What a frame makes of the block that has begun, or of none.
grouping_fits : (begun : Option Begun) (frame : Frame)
    → StepFits (stream_of frame) (grouping_step begun frame (next_fault begun frame))
unfolding grouping_step grouped fault_outside fault_inside stream_of
grouping_fits None (Headers i end last fragment pad priority) =
    headers_fit i end last fragment pad priority (nat_lt max_block_octets (length fragment)) refl
grouping_fits (Some begun) (Continuation i last fragment) =
    continuation_fits begun i last fragment (i == begun.stream)
    (nat_lt max_block_octets (length begun.octets + length fragment)) refl refl
grouping_fits None other = tt
grouping_fits (Some begun) other = tt

-- What a frame makes of the block that has begun, by the test whether it may come.
first_fits : (i : ℕ) (b : Bool) (step : FrameStep) → StepFits i step
    → StepFits i (if b then fails_with ProtocolError else step)
first_fits i true step h = tt
first_fits i false step h = h

-- What a frame makes of the block that has begun is within the limit, and of its stream.
pub frame_step_fits : (e : End) (frame : Frame)
    → StepFits (stream_of frame) (frame_step (end_view e) frame)
unfolding frame_step
frame_step_fits e frame =
    first_fits (stream_of frame) (not e.reading.started && not (may_be_first frame))
    (grouping_step e.reading.begun frame (next_fault e.reading.begun frame))
    (grouping_fits e.reading.begun frame)
