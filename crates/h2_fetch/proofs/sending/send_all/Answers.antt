-- By the lemmas on what is sent in rounds.
use Rattle.h2_engines.proofs.Names.{refl, ◌∙◌, arith, err_from_is_err_and}
use Rattle.h2_fetch.proofs.SendingRounds.{no_round, not_waited, not_written, sends_first, waited}
use Rattle.h2_fetch.proofs.SendingRounds.{wrote_all, wrote_on}
use Rattle.h2_fetch.proofs.sending.send_all.Goals as goal

pub loop-init : goal.loop-init
loop-init g c =
    record { failures = refl; sends = sends_first c.args.credit _ c.args.client.now.end }

pub returns-in_err-send_waiting-clause-sends : goal.returns-in_err-send_waiting-clause-sends
returns-in_err-send_waiting-clause-sends g c values asking start end unused is was allows linked
    up =
    let answer = err_from_is_err_and c.from_residual.result c.from_residual.ensures.1 in
    rw (answer.1, answer.2) (not_waited c.send_waiting.new.end.end c.args.credit allows
    (c.loop.invariant.sends values asking start end unused is was allows linked up)
    c.in_err-send_waiting.field-0.0 c.in_err-send_waiting.ensures.sends)

pub returns-in_err-write_out-clause-sends : goal.returns-in_err-write_out-clause-sends
returns-in_err-write_out-clause-sends g c values asking start end unused is was allows linked up =
    let answer = err_from_is_err_and c.from_residual-in_err-write_out.result
    c.from_residual-in_err-write_out.ensures.1 in
    let sent = waited c.send_waiting.new.end.end c.args.credit allows
    (c.loop.invariant.sends values asking start end unused is was allows linked up) _
    c.in_ok-send_waiting.ensures.sends in
    rw (answer.1, answer.2) (not_written _ c.write_out.new.end.end sent
    c.in_err-write_out.field-0.0 c.in_err-write_out.ensures.err
    c.in_err-write_out.ensures.writes)

pub returns-then-not-is_full-clause-sends : goal.returns-then-not-is_full-clause-sends
returns-then-not-is_full-clause-sends g c values asking start end unused is was allows linked up =
    let sent = waited c.send_waiting.new.end.end c.args.credit allows
    (c.loop.invariant.sends values asking start end unused is was allows linked up) _
    c.in_ok-send_waiting.ensures.sends in
    wrote_all _ c.write_out.new.end.end sent tt c.in_ok-write_out.ensures.writes

pub loop-preserved : goal.loop-preserved
loop-preserved g c =
    record {
      failures = c.in_ok-write_out.ensures.failures ∙ c.loop.invariant.failures;
      sends = λ values asking start end unused is was allows linked up. wrote_on _
          c.write_out.new.end.end
          (waited c.send_waiting.new.end.end c.args.credit allows
          (c.loop.invariant.sends values asking start end unused is was allows linked up) _
          c.in_ok-send_waiting.ensures.sends) tt c.in_ok-write_out.ensures.writes;
    }

pub returns-clause-sends : goal.returns-clause-sends
returns-clause-sends g c values asking start end unused is was allows linked up =
    no_round _ c.loop.client.end (omega arith)
    (c.loop.invariant.sends values asking start end unused is was allows linked up)
