use Rattle.hpack.proofs.Names.{ap, arith, Entries}
use Rattle.hpack.proofs.SizeLemmas.{entries_are_few}
use Rattle.hpack.proofs.table.dynamic_table.Table.len.Goals as goal

pub returns-clause-bound : goal.returns-clause-bound
returns-clause-bound c =
    let few = entries_are_few c.self.inside.ring.items c.self.inside.maximum
    (omega (arith, c.self.invariant.counted, c.self.invariant.within)) in
    let same = ap (λ (t : Entries). t.maximum) c.self.view_is in
    omega (arith, few, same, c.len.ensures.len)
