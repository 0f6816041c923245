-- By the lemmas on a call's answer.
use Rattle.h2_conn.proofs.Names.{refl, Done, IsTypedAct, may_lack_memory}
use Rattle.h2_spec_log.specs.Acts.{SendGoAway}
use Rattle.h2_conn.proofs.AskCalls.{done_by}
use Rattle.h2_conn.proofs.AskSound.{call_kept}
use Rattle.h2_conn.proofs.WhyCalls.{represented, plain}
use Rattle.h2_conn.proofs.conn.Conn.go_away.Goals as goal

pub invariant_of-self : goal.invariant_of-self
unfolding IsTypedAct
invariant_of-self c =
    assumption (call_kept c.go_away.result _ _ (SendGoAway) _ refl
    tt
    c.args.self.now.sound c.args.self.now.cuts
    c.go_away.ensures.ok c.go_away.ensures.err)

pub returns : goal.returns
unfolding IsTypedAct may_lack_memory
returns c =
    represented (plain (SendGoAway) (λ done. Done) c.go_away.result (λ done. refl))
    tt
    (done_by Done c.go_away.result _ _ _ _ refl refl
    tt (λ lacks. refl) refl
    c.go_away.ensures.ok c.go_away.ensures.err)
