-- Nothing is due.
use Rattle.h2_engines.proofs.ClientMachine.{client_acts}
use Rattle.h2_engines.proofs.fetcher.FetcherMachine.act.Goals as goal

pub returns-clause-acts : goal.returns-clause-acts
returns-clause-acts c =
    client_acts c.args.self.now.client.end c.args.self.now.id c.args.self.now.coming
    c.args.self.now.whole _ _
