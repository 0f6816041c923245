-- A location is fetched with the request that asks for it.
use Rattle.std.proofs.Common.{◌≡◌, Result, inl, inr, subst}
use Rattle.h2_message.specs.Messages.{SentMessage}
use Rattle.h2_message.specs.Values.{message_value}
use Rattle.h2_link.specs.declared.error.LinkError.{LinkError}
use Rattle.h2_engines.specs.declared.fetcher.Fetched.{Fetched}
use Rattle.h2_engines.specs.Fetches.{Fetches}
use Rattle.h2_net.specs.declared.location.Location.{Location}
use Rattle.h2_net.specs.Endings.{without_hint}
use Rattle.h2_net.specs.Fetching.{FetchesRequest, GetsLocation, default_values, get_request}
use Rattle.h2_net.proofs.get.get_location.Goals as goal

gets : (location : Location) (message : SentMessage) (result : Result Fetched LinkError)
    → message ≡ get_request location → FetchesRequest message result → GetsLocation location result
gets location message result same (inl device) = inl device
gets location message result same (inr (inl memory)) = inr (inl memory)
gets location message result same (inr (inr over)) = inr (inr (
  over.0,
  over.1,
  inl (subst (λ (one : SentMessage). Fetches default_values one over.0 over.1 result) same over.2),
))

pub returns-clause-gets : goal.returns-clause-gets
returns-clause-gets g c =
    gets c.args.location.now (message_value c.in-Ok.message) (without_hint c.fetch_location.result)
    c.in-Ok.ensures c.fetch_location.ensures.fetches
