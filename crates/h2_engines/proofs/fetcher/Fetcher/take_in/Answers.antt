-- By how the client was driven without a link.
use Rattle.h2_engines.proofs.FetchEnds.{takes_in, takes_none}
use Rattle.h2_engines.proofs.MachineViews.{begun}
use Rattle.h2_engines.proofs.fetcher.Fetcher.take_in.Goals as goal

pub returns-then-self-clause-takes : goal.returns-then-self-clause-takes
returns-then-self-clause-takes c =
    takes_none c.args.self.now c.args.piece.now c.if-self.true

pub returns-clause-takes : goal.returns-clause-takes
returns-clause-takes c =
    takes_in begun begun c.args.self.now c.take_all.new.machine c.args.piece.now c.take_all.result
    c.take_all.ensures.takes
