-- By what was put out of its end.
use Rattle.h2_engines.proofs.WithoutLinkPutOut.{client_has}
use Rattle.h2_engines.proofs.fetcher.Fetcher.put_out.Goals as goal

pub returns-clause-puts : goal.returns-clause-puts
returns-clause-puts c =
    client_has c.args.self.now c.put_out.new.machine c.args.count _ _ c.put_out.result
    c.put_out.ensures.kept c.put_out.ensures.puts
