-- By the lemmas on a call's answer.
use Rattle.h2_conn.proofs.Names.{refl, rules, all_octets, Done, IsTypedAct, may_lack_memory}
use Rattle.h2_spec_log.specs.Acts.{SendPing}
use Rattle.h2_conn.proofs.AskCalls.{done_by}
use Rattle.h2_conn.proofs.AskSound.{call_kept}
use Rattle.h2_conn.proofs.WhyCalls.{represented, plain}
use Rattle.h2_conn.proofs.conn.Conn.ping.Goals as goal

pub invariant_of-self : goal.invariant_of-self
unfolding IsTypedAct
invariant_of-self c =
    assumption (call_kept c.ping.result _ _ (SendPing c.args.octets) _ refl
    (search rules, all_octets c.args.octets (λ i. search rules))
    c.args.self.now.sound c.args.self.now.cuts c.ping.ensures.ok c.ping.ensures.err)

pub returns : goal.returns
unfolding IsTypedAct may_lack_memory
returns c =
    represented (plain (SendPing c.args.octets) (λ done. Done) c.ping.result (λ done. refl))
    (search rules, all_octets c.args.octets (λ i. search rules))
    (done_by Done c.ping.result _ _ _ _ refl refl
    (search rules, all_octets c.args.octets (λ i. search rules)) (λ lacks. refl) refl
    c.ping.ensures.ok c.ping.ensures.err)
