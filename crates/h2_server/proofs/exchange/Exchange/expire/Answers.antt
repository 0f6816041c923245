use Rattle.std.proofs.Common.{sym}
use Rattle.h2_server.specs.Deferring.{is_deferred}
use Rattle.h2_server.specs.Exchanges.{exchange_kept}
use Rattle.h2_server.proofs.Expired.{not_since}
use Rattle.h2_server.proofs.exchange.Exchange.expire.Goals as goal

pub returns-then-is_none-clause-expired : goal.returns-then-is_none-clause-expired
returns-then-is_none-clause-expired g c =
    sym (not_since (is_deferred (exchange_kept c.args.self.now)) c.args.self.now.since c.args.limit
    c.args.now (let is = c.is_none.ensures in let true_is = c.if-is_none.true in cc))
