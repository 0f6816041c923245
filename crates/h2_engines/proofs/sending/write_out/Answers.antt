-- By the lemmas on output that is written.
use Rattle.h2_engines.proofs.Names.{refl, ap, sym, ◌∙◌, arith, err_from_is_err_and, error_after}
use Rattle.h2_engines.proofs.Names.{traffic, HasPutOutSince}
use Rattle.h2_link.specs.Links.{WritesAll}
use Rattle.h2_engines.specs.Sending.{puts_none}
use Rattle.h2_engines.proofs.MachineWrites.{puts_since}
use Rattle.h2_engines.proofs.ResponderFaults.{written_some, written_failures, written_ends}
use Rattle.h2_engines.proofs.ResponderFaults.{call_failures, written_known}
use Rattle.h2_engines.proofs.ResponderWrites.{writes_all, writes_lent, writes_lent_first}
use Rattle.h2_engines.proofs.ResponderWrites.{writes_ready, writes_no_more, writes_nothing}
use Rattle.h2_engines.proofs.ResponderWrites.{never_lost, writes_refused}
use Rattle.h2_engines.proofs.sending.write_out.Goals as goal

pub loop-init : goal.loop-init
loop-init g c = record {
  failures = refl;
  writes = λ values start end unused is linked. writes_nothing
      (HasPutOutSince end) is puts_none linked;
}

pub returns-in_err-unless_refused-clause-writes : goal.returns-in_err-unless_refused-clause-writes
returns-in_err-unless_refused-clause-writes g c values start end unused is linked =
    let new = c.ready.new.self.end in
    let answer = err_from_is_err_and c.from_residual.result c.from_residual.ensures.1 in
    let (refused, refusal, same, made, ends) = c.in_err-unless_refused.ensures.err in
    rw (answer.1, answer.2) (writes_refused (HasPutOutSince end) (puts_since end)
    (c.loop.invariant.writes values start end unused is linked) new 0 refused
    (omega arith)
    (rw same at c.ready.ensures.answers) (ends ∙ ap error_after made))

pub returns-then-waiting-eq0-clause-writes : goal.returns-then-waiting-eq0-clause-writes
returns-then-waiting-eq0-clause-writes g c values start end unused is linked =
    let new = c.ready.new.self.end in
    let done = c.in_ok-unless_refused.ensures.ok in
    writes_all (HasPutOutSince end) c.loop.counter tt
    (λ values log conn. sym c.if-waiting-eq0.true
    ∙ (rw c.conn.ensures at c.waiting.ensures.count) values log conn)
    (rw done at c.ready.ensures.returned)
    (writes_ready (HasPutOutSince end) (puts_since end)
    (c.loop.invariant.writes values start end unused is linked) new
    (rw done at c.ready.ensures.answers))

pub returns-in_err-written : goal.returns-in_err-written
returns-in_err-written g c =
    let link = c.write_waiting-written.new.link in
    let now = traffic (g.L.Link.given link) (g.L.Link.taken link) (g.L.Link.stalled link) in
    let answer = err_from_is_err_and c.from_residual-in_err-written.result
    c.from_residual-in_err-written.ensures.1 in
    let done = c.in_ok-unless_refused.ensures.ok in
    let written = rw (c.in_err-written.was, c.conn-in-loop.ensures)
    at c.write_waiting-written.ensures.writes in
    let some = written_some _ _ _ _ _ _ written in
    rw (answer.1, answer.2) (record {
      writes = λ values start end unused is linked. writes_lent_first
          (HasPutOutSince end) (puts_since end) now c.ready.new.self.end
          c.consume-consumed.new.self.end
          (c.loop.invariant.writes values start end unused is linked)
          (rw done at c.ready.ensures.answers)
          (record {
            few = rw c.conn.ensures at c.waiting.ensures.bound;
            all = rw c.conn.ensures at c.waiting.ensures.count;
            lent = λ values log conn. conn.machine.output.waiting;
            returned = rw done at c.ready.ensures.returned;
          })
          c.write_waiting-written.ensures.gives_none c.consume-consumed.result some.0
          c.in_err-written.field-0.0 c.consume-consumed.ensures.answers
          c.consume-consumed.ensures.room some.1.took (written_known _ _ _ _ _ _ written)
          (rw c.in_err-written.was at c.write_waiting-written.ensures.stalled);
      failures = written_failures (Unit {0}) _ _ _ _ _ c.loop.invariant.failures written;
      err = written_ends _ _ _ _ _ _ written;
    })

pub returns-in_err-unless_refused-2-clause-failures :
    goal.returns-in_err-unless_refused-2-clause-failures
unfolding WritesAll
returns-in_err-unless_refused-2-clause-failures g c =
    let answer = err_from_is_err_and c.from_residual-in_err-unless_refused-2.result
    c.from_residual-in_err-unless_refused-2.ensures.1 in
    let written = rw c.in_ok-written.was at c.write_waiting-written.ensures.writes in
    rw (answer.1, answer.2) (call_failures (Unit {0}) _ _ c.in_err-unless_refused-2.ensures.kind
    (written.1 ∙ c.loop.invariant.failures))

pub loop-preserved : goal.loop-preserved
unfolding WritesAll
loop-preserved g c =
    let link = c.write_waiting-written.new.link in
    let now = traffic (g.L.Link.given link) (g.L.Link.taken link) (g.L.Link.stalled link) in
    let done = c.in_ok-unless_refused.ensures.ok in
    let written = rw (c.in_ok-written.was, c.conn-in-loop.ensures)
    at c.write_waiting-written.ensures.writes in
    record {
      failures = written.1 ∙ c.loop.invariant.failures;
      writes = λ values start end unused is linked. writes_lent
          (HasPutOutSince end) (puts_since end) now c.ready.new.self.end
          c.consume-consumed.new.self.end
          (c.loop.invariant.writes values start end unused is linked)
          (rw done at c.ready.ensures.answers)
          (record {
            few = rw c.conn.ensures at c.waiting.ensures.bound;
            all = rw c.conn.ensures at c.waiting.ensures.count;
            lent = λ values log conn. conn.machine.output.waiting;
            returned = rw done at c.ready.ensures.returned;
          })
          c.write_waiting-written.ensures.gives_none c.in_ok-unless_refused-2.field-0
          (rw c.in_ok-unless_refused-2.ensures.ok at c.consume-consumed.ensures.answers) written.0;
    }

pub returns-clause-writes : goal.returns-clause-writes
returns-clause-writes g c values start end unused is linked =
    writes_no_more (HasPutOutSince end) (omega arith)
    (c.loop.invariant.writes values start end unused is linked)

pub returns-in_err-unless_refused-2-clause-writes :
    goal.returns-in_err-unless_refused-2-clause-writes
returns-in_err-unless_refused-2-clause-writes g c values start end unused is linked =
    let done = c.in_ok-unless_refused.ensures.ok in
    let (refused, refusal, same, made, ends) = c.in_err-unless_refused-2.ensures.err in
    let answer = err_from_is_err_and c.from_residual-in_err-unless_refused-2.result
    c.from_residual-in_err-unless_refused-2.ensures.1 in
    rw answer.1 (never_lost (HasPutOutSince end) (puts_since end) _ c.ready.new.self.end
    c.consume-consumed.new.self.end c.consume-consumed.result refused answer.0
    (c.loop.invariant.writes values start end unused is linked)
    (rw done at c.ready.ensures.answers) (rw done at c.ready.ensures.returned)
    c.consume-consumed.ensures.room same)
