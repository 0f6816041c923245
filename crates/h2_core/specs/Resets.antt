-- The end after a stream error.
use Rattle.std.specs.Prelude.{◌≡◌, ℕ, ◌+◌, ◌||◌, Bool, true, false, nat_le, nat_lt, length, [], ◌∷◌}
use Rattle.std.specs.Prelude.{Option, Some, Result, Ok, Err}
use Rattle.h2_frame.specs.declared.code.Code.{Code}
use Rattle.h2_frame.specs.declared.code.Code.TheVariants.{EnhanceYourCalm}
use Rattle.h2_frame.specs.Codes.{code_number}
use Rattle.h2_frame.specs.Frames.{Reset as ResetFrame}
use Rattle.h2_block.specs.Grouping.{alone}
use Rattle.h2_spec_log.specs.Limits.{max_resets, max_output}
use Rattle.h2_spec_machine.specs.End.{End}
use Rattle.h2_spec_machine.specs.Machine.{reset_stream, queue_output, narrow_recv_window}
use Rattle.h2_core.specs.declared.endpoint.Endpoint.{Endpoint}
use Rattle.h2_core.specs.declared.event.Event.TheVariants.{Reset}
use Rattle.h2_core.specs.declared.step_error.StepError.{StepError}
use Rattle.h2_core.specs.declared.step_error.StepError.TheVariants.{Fault, OutOfMemory}
use Rattle.h2_core.specs.Endpoint.{end_of}
use Rattle.h2_core.specs.Events.{FrameEvent}

-- Whether a further RST_STREAM is more than an end sends.
abbrev pub is_over_limits : End → Bool
is_over_limits e =
    nat_le max_resets e.streams.resets || nat_lt max_output (length e.output.waiting + 13)

-- A stream is reset with the code, and what the item took of the connection's window is unreturned;
-- or that is one more RST_STREAM than this end sends, and nothing has changed; or it isn't, but
-- memory was refused, and nothing has changed.
-- rule: 5.4 (own) Only blocks, replies, resets and returned credit take memory
abbrev pub ResetsForFault : Endpoint → ℕ → Code → (flow opened : ℕ)
    → Result (Option FrameEvent) StepError → Endpoint → Type 0
ResetsForFault one id code flow opened (Ok reported) new =
    (is_over_limits (end_of one) ≡ false) × (reported ≡ Some (Reset id (code_number code) true))
    × (end_of new ≡ reset_stream (queue_output (narrow_recv_window (end_of one) flow)
    (alone (ResetFrame id (code_number code)) ∷ [])) id flow)
ResetsForFault one id code flow opened (Err (Fault fault stream)) new =
    (is_over_limits (end_of one) ≡ true) × (fault ≡ EnhanceYourCalm) × (stream ≡ opened)
    × (end_of new ≡ end_of one)
ResetsForFault one id code flow opened (Err OutOfMemory) new =
    (is_over_limits (end_of one) ≡ false) × (end_of new ≡ end_of one)
