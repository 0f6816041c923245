-- What is held was sent, or that has failed.
use Rattle.h2_net.proofs.DefaultValues.{are_defaults}
use Rattle.h2_net.proofs.HeldLemmas.{sent_or_failed}
use Rattle.h2_net.proofs.get.fetch_with_hint.Goals as goal

pub returns-in-Err-clause-sent : goal.returns-in-Err-clause-sent
returns-in-Err-clause-sent g c =
    sent_or_failed _ _ c.flush.result _ _ c.args.link.now.failures _ _
    c.fetch_link_why-fetched.result c.flush.ensures.sends c.flush.ensures.failures c.fetch_link_why-fetched.ensures.failures

-- What has happened at the client says why.
pub returns-in-Err-clause-why : goal.returns-in-Err-clause-why
returns-in-Err-clause-why g c =
    (_, _, rw (are_defaults c.default.result c.default.ensures) at c.in-Err.ensures.fetches)
