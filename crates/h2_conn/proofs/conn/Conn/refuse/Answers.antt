-- By the lemmas on refusing a stream.
use Rattle.h2_conn.proofs.Names.{◌∙◌, sym, IsTypedAct, err_from_is_err_and}
use Rattle.h2_conn.proofs.AskSound.{refusing_kept}
use Rattle.h2_conn.proofs.WhyCalls.{refused_shows, refuse_up, refuse_down}
use Rattle.h2_conn.proofs.conn.Conn.refuse.Goals as goal

pub invariant_of-self : goal.invariant_of-self
unfolding IsTypedAct
invariant_of-self c =
    assumption (refusing_kept c.refuse.result _ _ c.args.id c.args.code _
    (c.ranges.id.fits, c.ranges.code.fits)
    c.args.self.now.sound c.args.self.now.cuts c.refuse.ensures)

pub invariant_of-self-in_default : goal.invariant_of-self-in_default
unfolding IsTypedAct
invariant_of-self-in_default c =
    assumption (refusing_kept c.refuse.result _ _ c.args.id c.args.code _
    (c.ranges.id.fits, c.ranges.code.fits)
    c.args.self.now.sound c.args.self.now.cuts c.refuse.ensures)

pub returns-in_err-refuse : goal.returns-in_err-refuse
unfolding IsTypedAct
returns-in_err-refuse c =
    let answer = err_from_is_err_and c.from_residual.result c.from_residual.ensures.1 in
    rw (answer.1, answer.2) (refused_shows (c.ranges.id.fits, c.ranges.code.fits)
    c.in_err-refuse.ensures)

pub returns-in-Some : goal.returns-in-Some
unfolding IsTypedAct
returns-in-Some c =
    refuse_down (c.ranges.id.fits, c.ranges.code.fits) c.in_ok-refuse.ensures
    (sym c.failed.ensures ∙ c.in-Some.is) c.of_refusal.ensures

pub returns-in_default : goal.returns-in_default
unfolding IsTypedAct
returns-in_default c =
    refuse_up (c.ranges.id.fits, c.ranges.code.fits) c.in_ok-refuse.ensures
    (sym c.failed.ensures ∙ c.in_default.is)
