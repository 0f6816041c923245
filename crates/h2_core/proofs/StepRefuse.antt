-- When a layer above refuses a stream: the condition of the call, and the end after it.
use Rattle.h2_core.proofs.Names.{◌≡◌, ◌≢◌, ℕ, ◌+◌, ◌==◌, Bool, true, false, ◌&&◌, ◌||◌, not}
use Rattle.h2_core.proofs.Names.{if◌then◌else◌, [], ◌∷◌, length, Some, None, ap, ap₂, ◌∙◌}
use Rattle.h2_core.proofs.Names.{InternalError, EnhanceYourCalm, alone, refusal_of, stream_at}
use Rattle.h2_core.proofs.Names.{End, end_view, queue_output, reset_stream, fail, conditions}
use Rattle.h2_core.proofs.Names.{after_call, first_of, StreamView}
use Rattle.h2_spec_log.specs.CallRules.{refuse_fault}
use Rattle.h2_spec_machine.specs.Machine.{after_refuse}
use Rattle.std.proofs.Common.{nat_lt, is_some, eq-eqb, ne_eqb, nat_le}
use Rattle.h2_frame.specs.Frames.{Reset}
use Rattle.h2_spec_log.specs.declared.refusal.Refusal.TheVariants.{Closed, NoSuchStream}
use Rattle.h2_spec_log.specs.Acts.{Refuse}
use Rattle.hpack.proofs.Tests.{and_false as and-false}

-- The connection has failed.
pub refuse-closed : (e : End) (id code : ℕ) → is_some e.failed ≡ true
    → refusal_of (end_view e) (Refuse id code) ≡ Some Closed
unfolding conditions first_of
refuse-closed e id code down = rw down

module _ (e : End) (id code : ℕ) where
  -- The stream isn't active, and the code isn't INTERNAL_ERROR.
  pub refuse-no-stream : e.failed ≡ None → code ≢ 2 → None ≡ stream_at e id
      → refusal_of (end_view e) (Refuse id code) ≡ Some NoSuchStream
  unfolding conditions first_of
  refuse-no-stream up other none = rw (up, ne_eqb code 2 other, ← none)

  -- The code is INTERNAL_ERROR.
  pub refuse-internal : e.failed ≡ None → code ≡ 2 → refusal_of (end_view e) (Refuse id code) ≡ None
  unfolding conditions first_of
  refuse-internal up same = rw (up, eq-eqb code 2 same)

  -- The stream is active.
  pub refuse-active : (stream : StreamView) → e.failed ≡ None → Some stream ≡ stream_at e id
      → refusal_of (end_view e) (Refuse id code) ≡ None
  unfolding conditions first_of
  refuse-active stream up some = rw (up, ← some, and-false (not (code == 2)))

  -- The code is INTERNAL_ERROR, and the connection fails with it.
  pub after-internal : code ≡ 2
      → after_call e (Refuse id code) ≡ fail InternalError e.streams.last_processed e
  unfolding after_call refuse_fault
  after-internal same = rw (eq-eqb code 2 same)

  -- A limit is reached.
  pub after-limit : code ≢ 2
      → (nat_le 1000 e.streams.resets || nat_lt 262144 (length e.output.waiting + 13)) ≡ true
      → after_call e (Refuse id code) ≡ fail EnhanceYourCalm e.streams.last_processed e
  unfolding after_call refuse_fault
  after-limit other over = rw (ne_eqb code 2 other, over)

-- None is, and the connection doesn't fail of itself.
pub no-limit : (e : End) (code : ℕ) → code ≢ 2
    → (nat_le 1000 e.streams.resets || nat_lt 262144 (length e.output.waiting + 13)) ≡ false
    → refuse_fault (end_view e) code ≡ None
unfolding refuse_fault
no-limit e code other within = rw (ne_eqb code 2 other, within)

-- So the stream is reset.
pub after-refusal : (e : End) (id code : ℕ) → code ≢ 2
    → (nat_le 1000 e.streams.resets || nat_lt 262144 (length e.output.waiting + 13)) ≡ false
    → after_call e (Refuse id code)
    ≡ reset_stream (queue_output e (alone (Reset id code) ∷ [])) id 0
unfolding after_call refuse_fault
after-refusal e id code other within = rw (ne_eqb code 2 other, within)
