-- No connection was made, the request was not accepted, or the response was printed as it came.
use Rattle.std.proofs.Common.{◌⊎◌, ℕ, Err, refl, subst}
use Rattle.h2_engines.specs.Fetches.{IsNotAccepted}
use Rattle.h2_message.specs.Values.{message_value}
use Rattle.h2_get.specs.Streams.{is_streamed, not_accepted, not_connected}
use Rattle.h2_get.specs.Windows.{IsNotWidened, fetch_values}
use Rattle.h2_get.proofs.streaming.stream_location.Goals as goal

pub returns-in-Err : goal.returns-in-Err
returns-in-Err g c =
    rw c.of_link.ensures.error (not_connected c.in-Err.ending.error c.in-Err.ensures.err refl)

pub returns-in-Err-begin_fetch : goal.returns-in-Err-begin_fetch
returns-in-Err-begin_fetch g c =
    rw c.of_error.ensures.error (not_accepted c.in-Err-begin_fetch.error
    (subst (λ (window : ℕ). IsNotAccepted (fetch_values window) (message_value c.args.message)
    (Err c.in-Err-begin_fetch.error) ⊎ IsNotWidened c.in-Err-begin_fetch.error) c.window_of.ensures c.in-Err-begin_fetch.ensures.refused) refl)

pub returns : goal.returns
returns g c =
    is_streamed c.in-Ok-begin_fetch.fetch _ _
    (rw c.window_of.ensures at c.in-Ok-begin_fetch.ensures.ok) c.stream_with_hint-streamed.ensures.streams
