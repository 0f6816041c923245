-- By the lemmas on an answer.
use Rattle.h2_engines.proofs.Names.{refl, arith, err_from_is_err_and}
use Rattle.h2_engines.specs.ServerSteps.{AnsweredSo, no_memory, counted_answer, counts_no_more}
use Rattle.h2_engines.proofs.ResponderCalls.{answers_done, answers_refused}
use Rattle.h2_engines.proofs.responder.Responder.answer.Goals.{in-Ok, in-Err}
use Rattle.h2_engines.proofs.responder.Responder.answer.Goals as goal

pub returns-in_default-clause-answers : goal.returns-in_default-clause-answers
unfolding AnsweredSo
returns-in_default-clause-answers c values end represents =
    (end, represents, counts_no_more (omega (arith, c.in_default.ensures)) refl)

pub returns-in_default-clause-count : goal.returns-in_default-clause-count
unfolding counted_answer
returns-in_default-clause-count c = refl

pub returns-in_err-message-clause-answers : goal.returns-in_err-message-clause-answers
unfolding AnsweredSo
returns-in_err-message-clause-answers c values end represents =
    let answer = err_from_is_err_and c.from_residual.result c.from_residual.ensures.1 in
    (end, represents, rw (answer.1, answer.2) (no_memory refl refl))

pub returns-in_err-message-clause-count : goal.returns-in_err-message-clause-count
unfolding counted_answer
returns-in_err-message-clause-count c =
    let answer = err_from_is_err_and c.from_residual.result c.from_residual.ensures.1 in
    rw answer.1 refl

pub returns-clause-answers : goal.returns-clause-answers
returns-clause-answers c =
    elim c.match-respond.branch [
      | in-Ok w ↦ rw (w.self-is, w.result-is) (answers_done c.args.self.now.server.end
          c.respond.new.self.end c.args.id _ _ c.in_ok-message.ensures w.in-Ok.ensures)
      | in-Err w ↦ rw (w.self-is, w.result-is) (answers_refused c.args.self.now.server.end
          c.respond.new.self.end c.args.id _ (w.in-Err.field-0-0, w.in-Err.refusal)
          c.in_ok-message.ensures w.error_of_refusal.ensures.error w.in-Err.ensures)
    ]

pub returns-clause-count : goal.returns-clause-count
unfolding counted_answer
returns-clause-count c =
    elim c.match-respond.branch [
      | in-Ok w ↦ rw (w.self-is, w.result-is)
          (omega (arith, c.in-Some.ensures))
      | in-Err w ↦ rw (w.self-is, w.result-is) refl
    ]
