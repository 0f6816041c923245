-- What was accepted for a stream at one end, and is at the other (RFC 9113, section 8.1).
use Rattle.std.specs.Prelude.{◌≡◌, ◌⊎◌, ℕ, true, List, []}
use Rattle.h2_spec_log.specs.Log.{active}
use Rattle.h2_ends.specs.Ends.{EndLog, said_for, tokens_out, tokens_said, tokens_waiting}
use Rattle.h2_ends.specs.MessageTokens.{parts_heard, parts_said}
use Rattle.h2_joined.specs.Joints.{JointEnd, Made}
use Rattle.h2_joined.specs.Headline.{WasResetIn}

-- Of what one end has accepted for a stream nothing waits: all of it was sent, and the other end
-- has handed it out, part by part. Of a message that was begun that is all that was given of it.
-- rule (law): joined (own) Two ends that are driven get quiet, and all that was accepted arrives
pub record HasArrived (one other : EndLog) (i : ℕ) : Type 0 where
  pub none_waits : tokens_waiting one i ≡ []
  pub sent : tokens_out one i ≡ tokens_said one i
  pub handed : parts_heard i other.handed ≡ parts_said (said_for i one.accepted)

-- The stream is active at this end; or no Reset of it was made, and the client has not reported it
-- as unprocessed.
abbrev pub WasSpared : List Made → (client one : JointEnd) → ℕ → Type 0
WasSpared made client one i =
    (active one.happened.log i ≡ true) ⊎ (WasResetIn made client i → ⊥)
