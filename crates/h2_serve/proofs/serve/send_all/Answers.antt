-- In each round it is given its turn, and what waits is written.
use Rattle.h2_engines.proofs.Names.{ℕ, refl, ap, sym, ◌∙◌, arith, err_from_is_err_and, failures_by}
use Rattle.h2_engines.proofs.Names.{length}
use Rattle.std.proofs.lemmas.Bool.{not-true}
use Rattle.h2_engines.proofs.MachineTakes.{failures_err}
use Rattle.h2_server.specs.Phases.{is_phase_down}
use Rattle.h2_serve.proofs.Serving.{serves_now, stops_out}
use Rattle.h2_serve.proofs.TurnsGiven.{has_written}
use Rattle.h2_serve.proofs.serve.send_all.Goals as goal

pub loop-init : goal.loop-init
loop-init g c = record { failures = refl; sends = λ begin was. serves_now was }

pub returns-then-not-take_turn-clause-sends : goal.returns-then-not-take_turn-clause-sends
returns-then-not-take_turn-clause-sends g c begin was =
    c.end_early.ensures.ends begin
    (c.if-not-take_turn.ensures.turns begin _ (c.loop.invariant.sends begin was).serving)

pub returns-then-not-take_turn-clause-failures : goal.returns-then-not-take_turn-clause-failures
returns-then-not-take_turn-clause-failures g c =
    c.end_early.ensures.failures
    ∙ ap (λ (n : ℕ). failures_by n c.end_early.result) c.loop.invariant.failures
    ∙ sym (failures_err (Unit {0}) _ c.end_early.result)

pub returns-then-not-wants_turn-clause-sends : goal.returns-then-not-wants_turn-clause-sends
returns-then-not-wants_turn-clause-sends g c begin was =
    let on = c.loop.invariant.sends begin was in
    let turned = c.if-not-take_turn.ensures.turns begin _ on.serving in
    let up = not-true (is_phase_down c.take_turn.new.connection.phase)
    (sym c.if-not-take_turn.ensures.up) in
    let (written, later) = has_written up turned c.wants_write.result c.wants_turn.result
    c.wants_write.ensures c.if-not-wants_write.true c.wants_turn.ensures c.if-not-wants_turn.true in
    (written, omega (arith, on.passed, later))

pub returns-in_err-write_out-clause-sends : goal.returns-in_err-write_out-clause-sends
returns-in_err-write_out-clause-sends g c =
    let answer = err_from_is_err_and c.from_residual.result c.from_residual.ensures.1 in
    rw (answer.1, answer.2) (λ begin was.
    let on = c.loop.invariant.sends begin was in
    let turned = c.if-not-take_turn.ensures.turns begin _ on.serving in
    c.in_err-write_out.ensures.writes begin turned.serving (λ up. turned.ready))

pub loop-preserved : goal.loop-preserved
loop-preserved g c =
    record {
      failures = c.in_ok-write_out.ensures.failures ∙ c.loop.invariant.failures;
      sends = λ begin was.
          let on = c.loop.invariant.sends begin was in
          let turned = c.if-not-take_turn.ensures.turns begin _ on.serving in
          let up = not-true (is_phase_down c.take_turn.new.connection.phase)
          (sym c.if-not-take_turn.ensures.up) in
          let (serving, kept) = rw up at (c.in_ok-write_out.ensures.writes begin turned.serving
          (λ up. turned.ready)) in
          record { serving = serving; passed = omega (arith, on.passed, turned.later, kept) };
    }

pub returns-clause-sends : goal.returns-clause-sends
returns-clause-sends g c begin was =
    stops_out c.loop.counter (length was.after.log.turns)
    (c.loop.invariant.sends begin was) (omega arith)
