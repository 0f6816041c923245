use Rattle.std.proofs.Common.{arith, length, length-take, length-drop, drop, ◌+◌, ◌-◌}
use Rattle.std.proofs.lemmas.Result.{err_from_is_err_and}
use Rattle.std.proofs.lemmas.List.{take_rest}
use Rattle.h2_server.specs.Exchanges.{handling_of}
use Rattle.h2_server.proofs.StepsMade.{nothing_handles, stops_after, stops_counted, then_counted}
use Rattle.h2_server.proofs.StepsMade.{then_nothing}
use Rattle.h2_server.proofs.exchanges.Exchanges.take_some.Goals as goal

pub loop-init : goal.loop-init
loop-init g c = record {
  within = omega arith;
  handles = nothing_handles c.args.server.now.end (handling_of c.args.self.now);
}

pub returns-in_err-heard-clause-handles : goal.returns-in_err-heard-clause-handles
returns-in_err-heard-clause-handles g c =
    let answer = err_from_is_err_and c.from_residual.result c.from_residual.ensures.1 in
    rw (answer.1, answer.2) (stops_after c.loop.used _ c.loop.invariant.handles
    (rw (take_rest c.args.piece.now c.loop.used) at c.in_err-heard.ensures.err))

pub returns-in_err-told-clause-handles : goal.returns-in_err-told-clause-handles
returns-in_err-told-clause-handles g c =
    let result = c.from_residual-in_err-told.result in
    let answer = err_from_is_err_and result c.from_residual-in_err-told.ensures.1 in
    rw answer.1 (stops_counted (c.loop.used + c.in_ok-heard.heard.used) answer.0
    (then_nothing (then_counted c.args.piece.now c.loop.used c.in_ok-heard.heard.used
    c.loop.invariant.handles
    (rw (take_rest c.args.piece.now c.loop.used) at c.in_ok-heard.ensures.ok))
    c.do_due.ensures.handles))

pub returns-then-is_done-clause-handles : goal.returns-then-is_done-clause-handles
returns-then-is_done-clause-handles g c =
    then_counted c.args.piece.now c.loop.used c.in_ok-heard.heard.used c.loop.invariant.handles
    (rw (take_rest c.args.piece.now c.loop.used) at c.in_ok-heard.ensures.ok)

pub loop-preserved : goal.loop-preserved
loop-preserved g c = record {
  within = omega (
    arith,
    c.loop.invariant.within,
    c.in_ok-heard.ensures.within,
    length-take (length c.args.piece.now - c.loop.used) (drop c.loop.used c.args.piece.now),
    length-drop c.loop.used c.args.piece.now,
  );
  handles = then_nothing (then_counted c.args.piece.now c.loop.used c.in_ok-heard.heard.used
      c.loop.invariant.handles
      (rw (take_rest c.args.piece.now c.loop.used) at c.in_ok-heard.ensures.ok))
      c.do_due.ensures.handles;
}
