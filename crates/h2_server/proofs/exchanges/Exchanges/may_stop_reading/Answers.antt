use Rattle.std.proofs.Common.{ap, ◌∙◌}
use Rattle.h2_server.specs.Exchanges.{Kept}
use Rattle.h2_server.proofs.KeptMaps.{kept_found}
use Rattle.h2_server.proofs.exchanges.Exchanges.may_stop_reading.Goals as goal

pub returns-in-Given : goal.returns-in-Given
returns-in-Given g c = λ sent values end is kept was.
    let same = kept_found c.args.id c.args.self.now.kept.entries
    c.in-Some.exchange.now c.in-Some.ensures.value kept was in
    let of = c.is_sent.ensures sent values end is in
    record {
      refused = ap (λ (k : Kept _). k.refused) same ∙ c.if-exchange.true;
      given = ap (λ (k : Kept _). k.stage) same ∙ c.in-Given.is;
      active = of.0;
      sent = of.1;
    }
