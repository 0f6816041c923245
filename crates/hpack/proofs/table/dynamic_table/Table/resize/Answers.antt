use Rattle.hpack.proofs.Names.{◌≡◌, OnOk, subst, Entries}
use Rattle.hpack.proofs.SizeLemmas.{resized_same}
use Rattle.hpack.proofs.table.dynamic_table.Table.resize.Goals as goal

pub returns-clause-ok : goal.returns-clause-ok
returns-clause-ok c =
    subst (λ (table : Entries). OnOk c.resize_twice.result (c.resize_twice.new.self ≡ table))
    (resized_same c.args.self.now c.args.maximum) c.resize_twice.ensures.ok
