-- By the lemmas on a call's answer.
use Rattle.h2_conn.proofs.Names.{refl, Done, IsTypedAct, may_lack_memory}
use Rattle.h2_spec_log.specs.Acts.{Widen}
use Rattle.h2_conn.proofs.AskCalls.{done_by}
use Rattle.h2_conn.proofs.AskSound.{call_kept}
use Rattle.h2_conn.proofs.WhyCalls.{represented, plain}
use Rattle.h2_conn.proofs.conn.Conn.widen.Goals as goal

pub invariant_of-self : goal.invariant_of-self
unfolding IsTypedAct
invariant_of-self c =
    assumption (call_kept c.widen.result _ _ (Widen c.args.count) _ refl
    c.ranges.count.fits
    c.args.self.now.sound c.args.self.now.cuts
    c.widen.ensures.ok c.widen.ensures.err)

pub returns : goal.returns
unfolding IsTypedAct may_lack_memory
returns c =
    represented (plain (Widen c.args.count) (λ done. Done) c.widen.result
    (λ done. refl))
    c.ranges.count.fits
    (done_by Done c.widen.result _ _ _ _ refl refl
    c.ranges.count.fits (λ lacks. refl) refl
    c.widen.ensures.ok c.widen.ensures.err)
