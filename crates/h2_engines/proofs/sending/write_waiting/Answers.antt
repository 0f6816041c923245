-- Each write takes octets that follow those taken before; where none is left, all are taken.
use Rattle.std.proofs.Common.{◌+◌, [], ◌∙◌, ap, sym, arith}
use Rattle.std.proofs.KnownBytes.{Appends-trans}
use Rattle.std.proofs.lemmas.Result.{err_from_is_err_and}
use Rattle.h2_link.specs.Links.{WritesAll}
use Rattle.h2_link.proofs.TakesLemmas.{takes_more, takes_all}
use Rattle.std.proofs.lemmas.List.{take_rest}
use Rattle.h2_conn.specs.Conn.{octets_queued}
use Rattle.h2_engines.proofs.sending.write_waiting.Goals as goal

pub returns-then-count-eq0-clause-writes : goal.returns-then-count-eq0-clause-writes
unfolding WritesAll
returns-then-count-eq0-clause-writes g c =
    let kept = c.loop.invariant in (
      (
        _,
        takes_more _ _ _ _ _ _ kept.within kept.taken
            (rw (sym (take_rest (octets_queued c.args.conn.now) c.loop.written))
            at c.in_ok-count.ensures.takes),
      ),
      c.in_ok-count.ensures.failures ∙ kept.failures,
    )

pub returns-in_err-count-clause-writes : goal.returns-in_err-count-clause-writes
unfolding WritesAll
returns-in_err-count-clause-writes g c =
    let error = err_from_is_err_and c.from_residual.result c.from_residual.ensures.1 in
    let kept = c.loop.invariant in
    let took = c.in_err-count.ensures.takes in rw (error.1, error.2) (
      (
        _,
        takes_more _ _ _ _ _ _ kept.within kept.taken
            (rw (sym (take_rest (octets_queued c.args.conn.now) c.loop.written)) at took.1),
      ),
      c.in_err-count.ensures.failures ∙ ap (λ n. n + 1) kept.failures,
    )

pub loop-preserved : goal.loop-preserved
loop-preserved g c =
    let kept = c.loop.invariant in
    let took = takes_more _ _ _ _ _ _ kept.within kept.taken
    (rw (take_rest (octets_queued c.args.conn.now) c.loop.written) c.in_ok-count.ensures.takes) in
    record {
      within = took.within;
      counted = omega arith;
      failures = c.in_ok-count.ensures.failures ∙ kept.failures;
      taken = took.took;
      ended = c.in_ok-count.ensures.ended ∙ kept.ended;
      given = Appends-trans _ _ _ [] [] kept.given c.in_ok-count.ensures.gives_none;
    }

pub returns-after-loop-clause-writes : goal.returns-after-loop-clause-writes
unfolding WritesAll
returns-after-loop-clause-writes g c =
    let kept = c.loop.invariant in
    (takes_all _ _ _ _ (omega arith) kept.taken, kept.failures)

pub returns-then-written-waiting-clause-writes : goal.returns-then-written-waiting-clause-writes
unfolding WritesAll
returns-then-written-waiting-clause-writes g c =
    let kept = c.loop.invariant in
    (takes_all _ _ _ _ (omega arith) kept.taken, kept.failures)
