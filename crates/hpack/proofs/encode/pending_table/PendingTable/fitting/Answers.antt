use Rattle.hpack.proofs.Names.{◌∙◌, sym, take, arith, newest_first}
use Rattle.hpack.proofs.SizeLemmas.{fit-all}
use Rattle.hpack.proofs.PendingTableLemmas.{shorter}
use Rattle.hpack.proofs.encode.pending_table.PendingTable.fitting.Goals as goal

pub overflow_sub-size : goal.overflow_sub-size
overflow_sub-size c =
    (shorter (newest_first c.args.self.now c.args.table.now) c.loop-size.live c.loop-size.size
    c.args.bound c.size_at-size.result (omega (arith, c.requires.live))
    c.loop-size.invariant.counted c.loop-size-test.true (omega arith) c.size_at-size.ensures).within

pub loop-size-preserved : goal.loop-size-preserved
loop-size-preserved c =
    let step = shorter (newest_first c.args.self.now c.args.table.now) c.loop-size.live
    c.loop-size.size c.args.bound c.size_at-size.result (omega (arith, c.requires.live))
    c.loop-size.invariant.counted c.loop-size-test.true (omega arith) c.size_at-size.ensures in
    record {
      live = omega arith;
      counted = step.counted;
      fitting = step.fitting
          ∙ c.loop-size.invariant.fitting;
    }

pub returns-clause-fitting : goal.returns-clause-fitting
returns-clause-fitting c =
    sym (fit-all (take c.loop-size.live (newest_first c.args.self.now c.args.table.now))
    c.args.bound (omega (arith, c.loop-size.invariant.counted, c.loop-size-test.false)))
    ∙ c.loop-size.invariant.fitting
