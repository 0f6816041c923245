use Rattle.std.proofs.Common.{◌∙◌, sym}
use Rattle.h2_server.specs.Exchanges.{exchange_kept}
use Rattle.h2_server.proofs.KeptMaps.{found_kept}
use Rattle.h2_server.proofs.exchanges.Exchanges.check_unanswered.Goals as goal

pub returns-in-Some-clause-err : goal.returns-in-Some-clause-err
returns-in-Some-clause-err g c = λ reply. (
  exchange_kept c.in-Some.exchange.now,
  found_kept c.args.id c.args.self.now.kept.entries _ c.in-Some.ensures.value,
  sym c.has_response.ensures ∙ c.if-has_response.true,
)

pub returns-in-Some-2-clause-ok : goal.returns-in-Some-2-clause-ok
returns-in-Some-2-clause-ok g c = (
  exchange_kept c.in-Some.exchange.now,
  found_kept c.args.id c.args.self.now.kept.entries _ c.in-Some.ensures.value,
  sym c.has_response.ensures ∙ c.if-has_response.false,
)
