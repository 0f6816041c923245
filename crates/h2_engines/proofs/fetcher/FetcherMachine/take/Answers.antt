-- By what the client hears.
use Rattle.h2_engines.proofs.Names.{true, refl, err_from_is_err_and}
use Rattle.h2_engines.proofs.ClientMachine.{client_hears, client_hears_last}
use Rattle.h2_engines.proofs.fetcher.FetcherMachine.take.Goals as goal

pub returns-in_err-heard-clause-hears : goal.returns-in_err-heard-clause-hears
returns-in_err-heard-clause-hears c =
    let answer = err_from_is_err_and c.from_residual.result c.from_residual.ensures.1 in
    let self = c.args.self.now in
    rw (answer.1, answer.2)
    (client_hears_last self.client.end c.hear.new.client.end self.id self.coming c.hear.new.coming
    self.whole c.args.piece.now c.in_err-heard.field-0.0 c.in_err-heard.ensures.hears)

pub returns-in-Whole-clause-hears : goal.returns-in-Whole-clause-hears
returns-in-Whole-clause-hears c =
    let self = c.args.self.now in
    client_hears self.client.end c.hear.new.client.end self.id self.coming c.hear.new.coming
    self.whole true c.args.piece.now c.in_ok-heard.heard (λ is. refl)
    (λ other. absurd (other c.in-Whole.is)) c.in_ok-heard.ensures.hears

pub returns : goal.returns
returns c =
    let self = c.args.self.now in
    record {
      hears = client_hears self.client.end c.hear.new.client.end self.id self.coming
          c.hear.new.coming self.whole self.whole c.args.piece.now c.in_ok-heard.heard
          (λ is. absurd (c.in_default.not-Whole is)) (λ other. refl) c.in_ok-heard.ensures.hears;
      within = c.in_ok-heard.ensures.within;
      err = tt;
    }
