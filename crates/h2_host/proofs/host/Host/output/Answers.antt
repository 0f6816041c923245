-- By the lemmas on slices that are cut at what is left of a turn.
use Rattle.std.proofs.Common.{rules}
use Rattle.h2_host.proofs.Lent.{lends_in_turn}
use Rattle.h2_host.proofs.host.Host.output.Goals as goal

pub returns : goal.returns
returns g c =
    lends_in_turn g.P.Party.output_of c.args.self.now c.args.token c.in-Some.party.now
    c.output.result.0.now c.output.result.1.now c.saturating_sub-left.result c.min.result
    c.min-2.result (search rules) (search rules) c.output.ensures (search rules)
    c.min.ensures c.min-2.ensures
