-- By the lemmas on credit that is returned on one stream.
use Rattle.h2_engines.proofs.Names.{Err, Refused, Done, refl, rules, err_from_is_err_and}
use Rattle.h2_engines.proofs.ReturningCredit.{returns_nothing, returns_some}
use Rattle.h2_ends.specs.declared.refusal.EndRefusal.TheVariants as refusals
use Rattle.std.proofs.Common.{Ok}
use Rattle.h2_engines.proofs.sending.return_credit.Goals as goal

pub returns-in-Kept : goal.returns-in-Kept
returns-in-Kept g c = rw c.in-Kept.is (λ values end represents up. (end, (refl, refl), represents))

pub returns-then-owed-eq0 : goal.returns-then-owed-eq0
returns-then-owed-eq0 g c =
    rw c.in-On.is (returns_nothing c.args.end.now.end c.in-On.id c.owed-owed.result
    (rw c.conn.ensures at c.owed-owed.ensures) c.if-owed-eq0.true)

pub returns-in_err-release-in-On : goal.returns-in_err-release-in-On
returns-in_err-release-in-On g c =
    let answer = err_from_is_err_and c.from_residual.result c.from_residual.ensures.1 in
    let refusal = c.in_err-release-in-On.field-0.0 in
    rw (c.in-On.is, answer.1, answer.2) (returns_some c.args.end.now.end c.release.new.self.end
    c.in-On.id c.owed-owed.result (Err (refusals.Conn refusal)) (Refused refusal)
    (rw c.conn.ensures at c.owed-owed.ensures) c.if-owed-eq0.false (search rules) (search rules)
    (rw c.in_err-release-in-On.was at c.release.ensures) refl)

pub returns-in_ok-release-in-On : goal.returns-in_ok-release-in-On
returns-in_ok-release-in-On g c =
    rw c.in-On.is (returns_some c.args.end.now.end c.release.new.self.end c.in-On.id
    c.owed-owed.result (Ok tt) Done (rw c.conn.ensures at c.owed-owed.ensures)
    c.if-owed-eq0.false (search rules) (search rules)
    (rw c.in_ok-release-in-On.was at c.release.ensures) refl)
