-- By the lemmas on a call's answer.
use Rattle.h2_conn.proofs.Names.{refl, Done, IsTypedAct, may_lack_memory}
use Rattle.h2_spec_log.specs.Acts.{Release}
use Rattle.h2_conn.proofs.AskCalls.{done_by}
use Rattle.h2_conn.proofs.AskSound.{call_kept}
use Rattle.h2_conn.proofs.WhyCalls.{represented, plain}
use Rattle.h2_conn.proofs.conn.Conn.release.Goals as goal

pub invariant_of-self : goal.invariant_of-self
unfolding IsTypedAct
invariant_of-self c =
    assumption (call_kept c.release.result _ _ (Release c.args.id c.args.count) _ refl
    (c.ranges.id.fits, c.ranges.count.fits)
    c.args.self.now.sound c.args.self.now.cuts
    c.release.ensures.ok c.release.ensures.err)

pub returns : goal.returns
unfolding IsTypedAct may_lack_memory
returns c =
    represented (plain (Release c.args.id c.args.count) (λ done. Done) c.release.result
    (λ done. refl))
    (c.ranges.id.fits, c.ranges.count.fits)
    (done_by Done c.release.result _ _ _ _ refl refl
    (c.ranges.id.fits, c.ranges.count.fits) (λ lacks. refl) refl
    c.release.ensures.ok c.release.ensures.err)
