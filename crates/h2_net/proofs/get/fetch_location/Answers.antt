-- A link that is not made ends the fetch, without a hint.
use Rattle.std.proofs.Common.{◌≡◌, ◌⊎◌, [], Err, None, inl, inr, refl, ap}
use Rattle.std.proofs.lemmas.Result.{err_from_is_err_and}
use Rattle.h2_link.specs.declared.error.LinkError.{LinkError}
use Rattle.h2_link.specs.declared.error.LinkError.TheVariants as errors
use Rattle.h2_message.specs.Messages.{SentMessage}
use Rattle.h2_message.specs.Values.{message_value}
use Rattle.h2_net.specs.Fetching.{FetchesRequest}
use Rattle.h2_net.specs.Endings.{HasClientHint}
use Rattle.h2_net.proofs.get.fetch_location.Goals as goal

no_link_fetches : (message : SentMessage) (error : LinkError)
    → (error ≡ errors.Device) ⊎ (error ≡ errors.Memory) → FetchesRequest message (Err error)
no_link_fetches message error (inl device) = inl (ap Err device)
no_link_fetches message error (inr memory) = inr (inl (ap Err memory))

no_link_hints : (error : LinkError) → (error ≡ errors.Device) ⊎ (error ≡ errors.Memory)
    → HasClientHint (record { error = error; hint = None; why = None })
no_link_hints error (inl device) = rw device (inl ([], None, refl))
no_link_hints error (inr memory) = rw memory (inl ([], None, refl))

pub returns-in_err-link-clause-fetches : goal.returns-in_err-link-clause-fetches
returns-in_err-link-clause-fetches g c =
    let answer = err_from_is_err_and c.from_residual.result c.from_residual.ensures.1 in
    rw (answer.1, answer.2)
    (no_link_fetches (message_value c.args.message) _ c.in_err-link.ensures.err)

pub returns-in_err-link-clause-hint : goal.returns-in_err-link-clause-hint
returns-in_err-link-clause-hint g c =
    let answer = err_from_is_err_and c.from_residual.result c.from_residual.ensures.1 in
    rw (answer.1, answer.2) (no_link_hints _ c.in_err-link.ensures.err)
