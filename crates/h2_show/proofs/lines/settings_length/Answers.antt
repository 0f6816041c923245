-- The octets of the pairs are within a slice.
use Rattle.h2_show.proofs.Names.{rules}
use Rattle.h2_show.proofs.LinesLemmas.{pairs_fit}
use Rattle.h2_show.proofs.lines.settings_length.Goals as goal

pub returns : goal.returns
returns c =
    let fit = pairs_fit c.args.pairs.octets.now in
    rw (c.saturating_mul.ensures, c.len.ensures) (search rules)
