-- By the lemmas on what the connection answers, and what is kept then.
use Rattle.h2_ends.proofs.Names.{refl, sym, ◌∙◌}
use Rattle.h2_ends.specs.EndCalls.{opened_with}
use Rattle.h2_ends.proofs.RequestRefusals.{refuses_fitting}
use Rattle.h2_ends.proofs.RequestSends.{unchanged_itself, open_typed}
use Rattle.h2_ends.proofs.TableSteps.{keeps_but}
use Rattle.h2_ends.proofs.RequestTable.{kept_alike}
use Rattle.h2_ends.proofs.RequestOpens.{opens_nowhere, opens_not, opens_new, on_err}
use Rattle.h2_ends.proofs.RequestOpens.{on_ok, or_memory, keeps_none}
use Rattle.h2_ends.proofs.end.End.open_with.Goals as goal

pub returns-in_default : goal.returns-in_default
returns-in_default c = λ values end said is head ends fits.
    let answers = rw (← head, ← ends)
    at (c.open.ensures.answers values end.log is.streams.conn) in
    opens_nowhere values c.args.self.now _ end said c.open.result
    (sym (c.next_number.ensures values end.log is.streams.conn) ∙ c.in_default.is)
    (open_typed _ _ (rw (← head) at c.open.ensures.octets)) is answers.0 answers.1 refl refl refl

pub returns-then-is_err : goal.returns-then-is_err
returns-then-is_err c = λ values end said is head ends fits.
    let same = on_err c.insert.result _ (sym c.is_err.ensures.value ∙ c.if-is_err.true)
    c.insert.ensures.err in
    let first = rw (← head, ← ends)
    at (c.refusal_to_open-refusal.ensures.refusal values end.log is.streams.conn c.args.ends) in (
      end,
      refuses_fitting end.log (opened_with said) said.message c.unwrap_or.result fits
          (or_memory _ c.refusal_to_open-refusal.result c.unwrap_or.result first
          c.unwrap_or.ensures),
      unchanged_itself end,
      kept_alike values c.args.self.now _ end is refl refl refl (λ i. rw same refl),
    )

pub returns-then-is_err-2 : goal.returns-then-is_err-2
returns-then-is_err-2 c = λ values end said is head ends fits.
    let updates = on_ok c.insert.result _ (sym c.is_err.ensures.value ∙ c.if-is_err.false)
    c.insert.ensures.updates in
    let answers = rw (← head, ← ends)
    at (c.open-opened.ensures.answers values end.log is.streams.conn) in
    opens_not values c.args.self.now _ end said c.in-Some.id c.open-opened.result
    (sym c.is_err-2.ensures.value ∙ c.if-is_err-2.true) fits
    (sym (c.next_number.ensures values end.log is.streams.conn) ∙ c.in-Some.is)
    (open_typed _ _ (rw (← head) at c.open-opened.ensures.octets)) is answers.0 answers.1 refl refl
    (keeps_none c.args.self.now (record c.args.self.now { streams = c.insert.new.self }) _
    c.in-Some.id _ updates c.remove.ensures.updates)

pub returns-else-is_err-2 : goal.returns-else-is_err-2
returns-else-is_err-2 c = λ values end said is head ends fits.
    let updates = on_ok c.insert.result _ (sym c.is_err.ensures.value ∙ c.if-is_err.false)
    c.insert.ensures.updates in
    let answers = rw (← head, ← ends)
    at (c.open-opened.ensures.answers values end.log is.streams.conn) in
    opens_new values c.args.self.now _ end said c.in-Some.id c.open-opened.result c.new.result
    (sym c.is_err-2.ensures.value ∙ c.if-is_err-2.false) fits
    (sym (c.next_number.ensures values end.log is.streams.conn) ∙ c.in-Some.is)
    answers.0 answers.1 refl refl (rw (← head) at (rw c.asks_head.ensures at c.new.ensures))
    (keeps_but c.args.self.now _ c.in-Some.id _ updates)
