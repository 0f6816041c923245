-- The requests that a client has made stay so where credit is returned and what waits is sent.
use Rattle.h2_engines.proofs.Names.{ℕ, Result, Values, EndLog, EndRefusal, LinkError, MayPump}
use Rattle.h2_engines.proofs.Names.{HasSentWaiting, owed}
use Rattle.h2_engines.specs.ClientHistories.{pumps as one_pumps, releases as one_releases}
use Rattle.h2_engines.specs.Sending.{MayReturnCredit, owes_none, releases_owed}
use Rattle.h2_engines.specs.declared.sending.Credit.{Credit}
use Rattle.h2_engines.specs.declared.sending.Credit.TheVariants.{All, Kept, On}
use Rattle.h2_engines.proofs.WithoutLinkSends.{sent_holds}
use Rattle.h2_fetch.specs.Sends.{AllowsCredit, Asking, AsksOne, AsksSeveral, HasAsked}
use Rattle.h2_fetch.specs.Several.{pumps, releases, releases_on}

-- They stay where credit is returned,
returned_asks : (values : Values) (asking : Asking) (credit : Credit) (before after : EndLog)
    (result : Result (Unit {0}) EndRefusal) → HasAsked values asking before
    → AllowsCredit credit asking → MayReturnCredit credit before result after
    → HasAsked values asking after
returned_asks values asking Kept before after result was allows may = rw may.1 was
returned_asks values (AsksOne message wide) All before after result was allows may =
    one_releases was result may
returned_asks values (AsksSeveral asked wide) All before after result was allows may =
    releases was result may
returned_asks values (AsksOne message wide) (On id) before after result was allows may =
    absurd allows
returned_asks values (AsksSeveral asked wide) (On id) before after result was allows
    (owes_none none done same) = rw same was
returned_asks values (AsksSeveral asked wide) (On id) before after result was allows
    (releases_owed answer some typed may by same) =
    rw same (releases_on was id (owed before.log id) answer typed may)

-- and at a pump.
pumped_asks : (values : Values) (asking : Asking) (before after : EndLog)
    (sent : Result ℕ EndRefusal) → HasAsked values asking before → MayPump before sent after
    → HasAsked values asking after
pumped_asks values (AsksOne message wide) before after sent was may = one_pumps was sent may
pumped_asks values (AsksSeveral asked wide) before after sent was may = pumps was sent may

-- So they stay at both.
pub sent_asks : (values : Values) (asking : Asking) {credit : Credit} {before after : EndLog}
    {result : Result (Unit {0}) LinkError} → HasAsked values asking before
    → AllowsCredit credit asking → HasSentWaiting credit before after result
    → HasAsked values asking after
sent_asks values asking {credit} was allows sent =
    sent_holds (HasAsked values asking) credit
    (λ one two said at may. returned_asks values asking credit one two said at allows may)
    (λ one two said at may. pumped_asks values asking one two said at may) was sent
