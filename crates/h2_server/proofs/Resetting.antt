-- Resets that a server refuses.
use Rattle.std.proofs.Common.{◌≡◌, Result, Ok, Err}
use Rattle.std.specs.Prelude.{IfOk}
use Rattle.h2_frame.specs.declared.code.Code.{Code}
use Rattle.h2_frame.specs.declared.code.Code.TheVariants.{NoError}
use Rattle.h2_spec_log.specs.Acts.{Refused}
use Rattle.h2_spec_log.specs.declared.refusal.Refusal.TheVariants as reasons
use Rattle.h2_server.specs.declared.exchange.Stage.TheVariants as stages
use Rattle.h2_server.specs.declared.giving.Given.{Given}
use Rattle.h2_server.specs.declared.stop.Stop.{Stop}
use Rattle.h2_server.specs.Giving.{IsResetSo, stage_given}

-- After 1,000 resets one more is not made: the answer is given, where it would only have asked to
-- stop, or the connection can't go on.
pub one_too_many : (code : Code) (result : Result Given Stop)
    → IfOk result (λ given. (code ≡ NoError) × (given.stage ≡ stages.Given))
    → IsResetSo code (Refused reasons.TooManyResets) (stage_given result)
one_too_many code (Ok given) is = is
one_too_many code (Err stop) is = tt
