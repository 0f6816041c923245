-- No connection was made, the request was not accepted, or the response was gathered.
use Rattle.std.proofs.Common.{◌⊎◌, ℕ, Err, subst}
use Rattle.h2_engines.specs.Fetches.{IsNotAccepted}
use Rattle.h2_message.specs.Values.{message_value}
use Rattle.h2_get.specs.Gathers.{is_gathered, not_accepted, not_connected}
use Rattle.h2_get.specs.Windows.{IsNotWidened, fetch_values}
use Rattle.h2_get.proofs.gathering.gather_location.Goals as goal

pub returns-in-Err-clause-gathers : goal.returns-in-Err-clause-gathers
returns-in-Err-clause-gathers g c = not_connected c.in-Err.ending.error c.in-Err.ensures.err

pub returns-in-Err-begin_fetch-clause-gathers : goal.returns-in-Err-begin_fetch-clause-gathers
returns-in-Err-begin_fetch-clause-gathers g c =
    let error = c.in-Err-begin_fetch.error in
    rw c.from.ensures (not_accepted error
    (subst (λ (window : ℕ). IsNotAccepted (fetch_values window) (message_value c.args.message)
    (Err error) ⊎ IsNotWidened error) c.window_of.ensures c.in-Err-begin_fetch.ensures.refused))

pub returns-clause-gathers : goal.returns-clause-gathers
returns-clause-gathers g c =
    is_gathered c.in-Ok-begin_fetch.fetch _ _
    (rw c.window_of.ensures at c.in-Ok-begin_fetch.ensures.ok) c.gather_with_hint-gathered.ensures.gathers
