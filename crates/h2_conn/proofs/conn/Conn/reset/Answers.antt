-- By the lemmas on a call's answer.
use Rattle.h2_conn.proofs.Names.{refl, Done, IsTypedAct, may_lack_memory}
use Rattle.h2_spec_log.specs.Acts.{ResetStream}
use Rattle.h2_conn.proofs.AskCalls.{done_by}
use Rattle.h2_conn.proofs.AskSound.{call_kept}
use Rattle.h2_conn.proofs.WhyCalls.{represented, plain}
use Rattle.h2_conn.proofs.conn.Conn.reset.Goals as goal

pub invariant_of-self : goal.invariant_of-self
unfolding IsTypedAct
invariant_of-self c =
    assumption (call_kept c.reset.result _ _ (ResetStream c.args.id c.args.code) _ refl
    (c.ranges.id.fits, c.ranges.code.fits)
    c.args.self.now.sound c.args.self.now.cuts c.reset.ensures.ok c.reset.ensures.err)

pub returns : goal.returns
unfolding IsTypedAct may_lack_memory
returns c =
    represented (plain (ResetStream c.args.id c.args.code) (λ done. Done) c.reset.result
    (λ done. refl))
    (c.ranges.id.fits, c.ranges.code.fits)
    (done_by Done c.reset.result _ _ _ _ refl refl
    (c.ranges.id.fits, c.ranges.code.fits) (λ lacks. refl) refl
    c.reset.ensures.ok c.reset.ensures.err)
