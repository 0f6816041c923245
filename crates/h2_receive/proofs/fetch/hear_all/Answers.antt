-- By the lemmas on what is heard of a response.
use Rattle.h2_engines.proofs.Names.{ℕ, Err, refl, sym, ap, ◌∙◌, arith, err_from_is_err_and}
use Rattle.h2_receive.specs.declared.errors.FetchError.TheVariants.{Link}
use Rattle.h2_receive.specs.Heard.{failures_heard}
use Rattle.h2_receive.proofs.Hearing.{cuts_heard, fails_heard, heard_on, heard_refused, heard_whole}
use Rattle.h2_receive.proofs.Hearing.{hears_first, hears_next, hears_no_more, hears_no_round}
use Rattle.h2_receive.proofs.fetch.hear_all.Goals as goal

pub loop-init : goal.loop-init
loop-init g c = record {
  failures = refl;
  hears = λ values message wide start end coming none. hears_first c.args.fetch end coming none;
}

pub returns-in_err-part-clause-hears : goal.returns-in_err-part-clause-hears
returns-in_err-part-clause-hears g c =
    let answer = err_from_is_err_and c.from_residual.result c.from_residual.ensures.1 in
    rw (answer.1, answer.2) (λ values message wide start end coming none. hears_no_more c.loop.fetch
    c.next.new.self c.in_err-part.field-0.0 c.in_err-part.ensures.next c.in_err-part.ensures.stream
    (c.loop.invariant.hears values message wide start end coming none))

pub returns-in_err-part-clause-cut_off : goal.returns-in_err-part-clause-cut_off
returns-in_err-part-clause-cut_off g c =
    let answer = err_from_is_err_and c.from_residual.result c.from_residual.ensures.1 in
    rw (answer.1, answer.2) (cuts_heard c.in_err-part.field-0.0 _ c.in_err-part.ensures.cut_off)

pub returns-in_err-part-clause-failures : goal.returns-in_err-part-clause-failures
returns-in_err-part-clause-failures g c =
    let answer = err_from_is_err_and c.from_residual.result c.from_residual.ensures.1 in
    let error = c.in_err-part.field-0.0 in
    rw (answer.1, answer.2) (c.in_err-part.ensures.failures ∙ fails_heard _ error
    ∙ ap (λ (n : ℕ). failures_heard n (Err (Link error))) c.loop.invariant.failures)

pub returns-in_err-part-2-clause-hears : goal.returns-in_err-part-2-clause-hears
returns-in_err-part-2-clause-hears g c =
    let answer = err_from_is_err_and c.from_residual-in_err-part-2.result
    c.from_residual-in_err-part-2.ensures.1 in
    rw (answer.1, answer.2) (λ values message wide start end coming none. heard_refused
    c.in_err-part-2.field-0.0 (hears_next c.loop.fetch c.next.new.self c.in_ok-part.part
    c.in_ok-part.ensures.next c.in_ok-part.ensures.stream
    (c.loop.invariant.hears values message wide start end coming none)) c.in_err-part-2.ensures)

pub returns-in_err-part-2-clause-cut_off : goal.returns-in_err-part-2-clause-cut_off
returns-in_err-part-2-clause-cut_off g c =
    let answer = err_from_is_err_and c.from_residual-in_err-part-2.result
    c.from_residual-in_err-part-2.ensures.1 in
    rw (answer.1, answer.2) tt

pub returns-in_err-part-2-clause-failures : goal.returns-in_err-part-2-clause-failures
returns-in_err-part-2-clause-failures g c =
    let answer = err_from_is_err_and c.from_residual-in_err-part-2.result
    c.from_residual-in_err-part-2.ensures.1 in
    rw (answer.1, answer.2) (c.in_ok-part.ensures.failures ∙ c.loop.invariant.failures)

pub returns-then-is_last-clause-hears : goal.returns-then-is_last-clause-hears
returns-then-is_last-clause-hears g c values message wide start end coming none =
    let has = hears_next c.loop.fetch c.next.new.self c.in_ok-part.part c.in_ok-part.ensures.next
    c.in_ok-part.ensures.stream
    (c.loop.invariant.hears values message wide start end coming none) in
    heard_whole has c.in_ok-part-2.ensures (sym c.ends_response-is_last.ensures ∙ c.if-is_last.true)

pub loop-preserved : goal.loop-preserved
loop-preserved g c =
    record {
      failures = c.in_ok-part.ensures.failures ∙ c.loop.invariant.failures;
      hears = λ values message wide start end coming none. heard_on
          (hears_next c.loop.fetch c.next.new.self c.in_ok-part.part c.in_ok-part.ensures.next
          c.in_ok-part.ensures.stream
          (c.loop.invariant.hears values message wide start end coming none)) c.in_ok-part-2.ensures
          (sym c.ends_response-is_last.ensures ∙ c.if-is_last.false);
    }

pub returns-clause-hears : goal.returns-clause-hears
returns-clause-hears g c values message wide start end coming none =
    hears_no_round (omega arith) (c.loop.invariant.hears values message wide start end coming none)
