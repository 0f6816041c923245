-- In each round what can be sent is written, and octets are read and taken.
use Rattle.h2_engines.proofs.Names.{Ok, ap, refl, sym, ◌∙◌, arith, length}
use Rattle.h2_engines.proofs.Names.{err_from_is_err_and}
use Rattle.h2_engines.proofs.MachineDrives.{gives_none}
use Rattle.h2_link.specs.declared.error.LinkError.TheVariants as errors
use Rattle.h2_serve.proofs.Serving.{serves_now, serving_still, stops_out, stops_so, written_still}
use Rattle.h2_serve.proofs.serve.drive.Goals as goal

pub loop-init : goal.loop-init
loop-init g c = record { failures = refl; room = refl; drives = λ begin was. serves_now was }

pub returns-in_err-send_all-clause-drives : goal.returns-in_err-send_all-clause-drives
returns-in_err-send_all-clause-drives g c =
    let answer = err_from_is_err_and c.from_residual.result c.from_residual.ensures.1 in
    rw (answer.1, answer.2) (λ begin was. c.in_err-send_all.ensures.sends begin
    (c.loop.invariant.drives begin was).serving)

pub returns-in_err-count-clause-drives : goal.returns-in_err-count-clause-drives
returns-in_err-count-clause-drives g c =
    let answer = err_from_is_err_and c.from_residual-in_err-count.result
    c.from_residual-in_err-count.ensures.1 in
    rw (answer.1, answer.2) (λ begin was.
    let (written, later) = c.in_ok-send_all.ensures.sends begin
    (c.loop.invariant.drives begin was).serving in
    stops_so errors.Device (serving_still written.serving c.in_err-count.ensures.takes_none
    c.in_err-count.ensures.gives) tt)

pub returns-then-count-eq0-clause-drives : goal.returns-then-count-eq0-clause-drives
returns-then-count-eq0-clause-drives g c begin was =
    written_still (gives_none _ _ c.read_some.new.input c.in_ok-count.count
    c.if-count-eq0.true c.in_ok-count.ensures.gives.1) c.in_ok-count.ensures.takes_none
    (c.in_ok-send_all.ensures.sends begin (c.loop.invariant.drives begin was).serving).0

pub returns-then-count-eq0-clause-ended : goal.returns-then-count-eq0-clause-ended
returns-then-count-eq0-clause-ended g c =
    c.in_ok-count.ensures.ended (ap Ok c.if-count-eq0.true)

pub loop-preserved : goal.loop-preserved
loop-preserved g c =
    record {
      failures = c.in_ok-count.ensures.failures ∙ c.in_ok-send_all.ensures.failures
          ∙ c.loop.invariant.failures;
      room = c.in_ok-count.ensures.length ∙ c.loop.invariant.room;
      drives = λ begin was.
          let on = c.loop.invariant.drives begin was in
          let (written, later) = c.in_ok-send_all.ensures.sends begin on.serving in
          let (serving, kept) = c.take_in.ensures begin _ _ written c.in_ok-count.ensures.gives.1
          c.in_ok-count.ensures.takes_none in
          record { serving = serving; passed = omega (arith, on.passed, later, kept) };
    }

pub returns-clause-drives : goal.returns-clause-drives
returns-clause-drives g c begin was =
    stops_out c.loop.counter (length was.after.log.turns) (c.loop.invariant.drives begin was)
    (omega arith)
