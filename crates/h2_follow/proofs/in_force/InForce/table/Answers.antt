-- The greatest of the values that wait, by their peaks.
use Rattle.h2_follow.proofs.Names.{◌∙◌, map}
use Rattle.h2_follow.specs.declared.in_force.Values.{Values}
use Rattle.h2_follow.proofs.GreatestLemmas.{greatest_tables}
use Rattle.h2_follow.proofs.in_force.InForce.table.Goals as goal

pub returns : goal.returns
returns c =
    let waiting = c.args.self.now.waiting.items in
    c.greatest.ensures (map (λ (one : Values). one.table) waiting) c.args.self.now.table_peaks
    ∙ greatest_tables c.args.self.now.acknowledged.table waiting
