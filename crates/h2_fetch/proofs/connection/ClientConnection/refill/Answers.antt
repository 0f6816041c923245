-- By the lemma on a piece that is read.
use Rattle.h2_engines.proofs.Names.{Ok, Err, refl, err_from_is_err_and}
use Rattle.h2_fetch.proofs.SeveralWaits.{filled}
use Rattle.h2_fetch.proofs.connection.ClientConnection.refill.Goals as goal

pub returns-in_err-self-clause-fills : goal.returns-in_err-self-clause-fills
returns-in_err-self-clause-fills g c =
    let answer = err_from_is_err_and c.from_residual.result c.from_residual.ensures.1 in
    rw (answer.1, answer.2) (filled _ _ c.args.self.now _ c.args.id _ _
    (Err c.in_err-self.field-0.0) refl tt refl
    (rw c.conn.ensures at c.credit_before-credit.ensures)
    c.in_err-self.ensures.reads)

pub returns-clause-fills : goal.returns-clause-fills
returns-clause-fills g c =
    filled _ _ c.args.self.now _ c.args.id _ _ (Ok c.in_ok-self.field-0) refl (refl, refl)
    refl (rw c.conn.ensures at c.credit_before-credit.ensures)
    c.in_ok-self.ensures.reads
