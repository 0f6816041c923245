-- By how its end was written out.
use Rattle.h2_engines.proofs.Names.{Fetching}
use Rattle.h2_engines.proofs.MachineWrites.{waiting_written}
use Rattle.h2_engines.proofs.fetcher.FetcherMachine.write_all.Goals as goal

pub returns-clause-writes : goal.returns-clause-writes
returns-clause-writes g c =
    let self = c.args.self.now in
    waiting_written _ _ self.client.end c.write_out.new.end.end
    (Fetching self.id self.coming self.whole) c.write_out.result c.write_out.ensures.writes
