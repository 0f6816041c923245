use Rattle.h2_ends.proofs.Names.{Some, refl, sym, ◌∙◌}
use Rattle.h2_ends.proofs.RequestOpens.{on_err, on_ok}
use Rattle.h2_ends.proofs.TableSteps.{keeps_but}
use Rattle.h2_ends.proofs.TakeReads.{first_stream, first_taken, first_refused, first_lacks}
use Rattle.h2_ends.proofs.end.End.read_first.Goals as goal

pub returns-in_default-clause-reads : goal.returns-in_default-clause-reads
returns-in_default-clause-reads c = λ values happened is.
    first_refused values c.args.self.now happened c.args.id _ c.args.end c.new-reading.result
    c.fields.new.self is c.requires.first (rw c.first_reads.ensures at c.new-reading.ensures)
    c.broken_by_fields-rule.result
    (λ reads parts follows.
    rw (c.list.ensures, c.in_default.is) at c.fields.ensures reads parts follows)
    (λ reads parts follows.
    rw c.list-in_default.ensures at c.broken_by_fields-rule.ensures reads parts follows)

pub returns-then-is_err-clause-reads : goal.returns-then-is_err-clause-reads
returns-then-is_err-clause-reads c = λ values happened is.
    first_lacks values c.args.self.now happened c.args.id _ c.args.end c.new-reading.result
    c.fields.new.self is c.requires.first (rw c.first_reads.ensures at c.new-reading.ensures) _
    c.in-Some.place
    (λ reads parts follows. rw c.list.ensures at c.in-Some.ensures reads parts follows) refl refl
    refl (on_err c.insert.result _ (sym c.is_err.ensures.value ∙ c.if-is_err.true)
    c.insert.ensures.err)

pub returns-clause-reads : goal.returns-clause-reads
returns-clause-reads c = λ values happened is.
    let updates = on_ok c.insert.result _ (sym c.is_err.ensures.value ∙ c.if-is_err.false)
    c.insert.ensures.updates in
    first_taken values c.args.self.now happened c.args.id _ c.args.end c.new-reading.result
    c.fields.new.self is c.requires.first (rw c.first_reads.ensures at c.new-reading.ensures) _
    c.in-Some.place
    (λ reads parts follows. rw c.list.ensures at c.in-Some.ensures reads parts follows)
    (keeps_but c.args.self.now _ c.args.id (Some (first_stream c.fields.new.self)) updates) refl
    refl refl
