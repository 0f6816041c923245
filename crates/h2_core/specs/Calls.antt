-- The end after a call, and when a call is refused.
use Rattle.std.specs.Prelude.{◌≡◌, ◌⊎◌, ℕ, not, nat_le, is_some, [], ◌∷◌, length, None, Some}
use Rattle.std.specs.Prelude.{Result, Ok, Err, ◌≤◌, ◌-◌, ◌^◌, min, Bool, List}
use Rattle.hpack.specs.declared.types.field.Field.{Field}
use Rattle.hpack.specs.Choice.{block_of}
use Rattle.hpack.specs.Lists.{EncoderState, list_size}
use Rattle.h2_block.specs.Spread.{spread_frames, encoding_of_frames}
use Rattle.h2_spec_log.specs.declared.refusal.Refusal.{Refusal}
use Rattle.h2_spec_log.specs.declared.refusal.Refusal.TheVariants.{Memory, Closed, NoSuchStream}
use Rattle.h2_spec_log.specs.declared.refusal.Refusal.TheVariants.{Ended, OutputFull}
use Rattle.h2_spec_log.specs.Acts.{Act, Refuse}
use Rattle.h2_spec_log.specs.CallRules.{refusal_of, first_of, refuse_fault}
use Rattle.h2_spec_log.specs.Limits.{full_output}
use Rattle.h2_spec_log.specs.View.{ended_out}
use Rattle.h2_spec_machine.specs.End.{End, end_view, stream_at}
use Rattle.h2_spec_machine.specs.Machine.{after_call, fail}
use Rattle.h2_frame.specs.declared.code.Code.TheVariants.{InternalError}
use Rattle.h2_core.specs.declared.endpoint.Endpoint.{Endpoint}
use Rattle.h2_core.specs.Endpoint.{end_of}

-- A call was refused for the first condition that holds; or memory was, where none holds. Nothing
-- has changed.
pub record CallRefused (e : End) (act : Act) (refusal : Refusal) (new : End) : Type 0 where
  pub why : (refusal_of (end_view e) act ≡ Some refusal)
      ⊎ ((refusal ≡ Memory) × (refusal_of (end_view e) act ≡ None))
  pub same : new ≡ e

-- No condition holds, and the end is the machine after the call.
pub record CallAccepted (e : End) (act : Act) (new : End) : Type 0 where
  pub free : refusal_of (end_view e) act ≡ None
  pub after : new ≡ after_call e act

-- Why nothing may be sent on a stream: the connection has failed, the stream isn't active, it is
-- half-closed (local), or too much output is queued; the first of these.
abbrev pub NotSendable : Endpoint → ℕ → Refusal → Type 0
NotSendable one id refusal = first_of (
    (is_some one.failed, Closed) ∷
    (not (is_some (stream_at (end_of one) id)), NoSuchStream)
    ∷ (ended_out (stream_at (end_of one) id), Ended)
    ∷ (nat_le full_output (length one.output.waiting), OutputFull) ∷ []
    ) ≡ Some refusal

-- The end after `refuse`: the call is refused; or it is accepted; or the stream was to be reset,
-- an allocation was refused, and the connection fails.
-- rule: 5.4 (own) Being out of memory hides no other fault of the connection
abbrev pub CallRefuses : End → ℕ → ℕ → Result Unit Refusal → End → Type 0
CallRefuses e id code (Ok done) new = CallAccepted e (Refuse id code) new
    ⊎ ((refusal_of (end_view e) (Refuse id code) ≡ None)
    × (refuse_fault (end_view e) code ≡ None)
    × (new ≡ fail InternalError e.streams.last_processed e))
CallRefuses e id code (Err refusal) new =
    (refusal_of (end_view e) (Refuse id code) ≡ Some refusal) × (new ≡ e)

-- It is the size of the list, or the greatest number where that is less.
abbrev pub IsSizeOf : ℕ → List Field → Type 0
IsSizeOf size fields = size ≡ min (list_size fields) (2 ^ 64 - 1)

-- A list's field block takes at most `room` octets in frames, at any encoder, whatever greatest
-- payload the peer reads.
abbrev pub FramesFit : List Field → ℕ → Type 0
FramesFit fields room = (most : ℕ) (encoder : EncoderState) (id : ℕ) (end : Bool) → 16384 ≤ most
    → length (encoding_of_frames (spread_frames most id end (block_of encoder fields))) ≤ room
