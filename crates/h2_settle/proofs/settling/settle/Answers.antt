-- Round by round.
use Rattle.std.proofs.Common.{arith, sym, subst}
use Rattle.h2_settle.specs.declared.settling.Settled.{Settled}
use Rattle.h2_settle.specs.Settling.{Settles}
use Rattle.h2_settle.proofs.Driven.{drives_none, drives_more, settles_quiet, settles_failed}
use Rattle.h2_settle.proofs.Driven.{settles_without_memory, settles_at_most}
use Rattle.h2_settle.proofs.settling.settle.Goals as goal

pub loop-rounds-init : goal.loop-rounds-init
loop-rounds-init c = drives_none c.args.joined.now

pub loop-rounds-preserved : goal.loop-rounds-preserved
loop-rounds-preserved c =
    drives_more c.args.joined.now c.loop-rounds.joined c.make_round.new.joined
    c.loop-rounds.rounds c.loop-rounds.invariant c.if-quiet.ensures c.in-Whole.ensures

pub returns-then-quiet : goal.returns-then-quiet
returns-then-quiet c =
    subst (λ (settled : Settled). Settles c.args.joined.now c.args.most settled
    c.loop-rounds.joined) (sym c.after.ensures)
    (settles_quiet c.args.joined.now c.loop-rounds.joined c.loop-rounds.rounds c.args.most
    (omega (arith, c.loop-rounds-test.true)) c.loop-rounds.invariant c.if-quiet.ensures)

pub returns-in-Failed : goal.returns-in-Failed
returns-in-Failed c =
    let is = c.after-in-Failed.ensures in
    rw is (settles_failed c.args.joined.now c.loop-rounds.joined c.make_round.new.joined
    c.loop-rounds.rounds c.args.most (omega (arith, c.loop-rounds-test.true))
    c.loop-rounds.invariant c.if-quiet.ensures c.in-Failed.side c.in-Failed.ensures)

pub returns-in-NoMemory : goal.returns-in-NoMemory
returns-in-NoMemory c =
    let is = c.after-in-NoMemory.ensures in
    rw is (settles_without_memory c.args.joined.now c.loop-rounds.joined
    c.make_round.new.joined c.loop-rounds.rounds c.args.most
    (omega (arith, c.loop-rounds-test.true)) c.loop-rounds.invariant c.if-quiet.ensures
    c.in-NoMemory.ensures)

pub returns : goal.returns
returns c =
    subst (λ (settled : Settled). Settles c.args.joined.now c.args.most settled
    c.loop-rounds.joined) (sym c.after-2.ensures)
    (settles_at_most c.args.joined.now c.loop-rounds.joined c.loop-rounds.rounds c.args.most
    c.loop-rounds.invariant
    (omega (arith, c.loop-rounds-test.false, c.loop-rounds.auto.rounds-end)))
