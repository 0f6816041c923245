-- By the lemmas on a call's answer.
use Rattle.h2_conn.proofs.Names.{refl, Done, IsTypedAct, may_lack_memory}
use Rattle.h2_spec_log.specs.Acts.{SendFields}
use Rattle.h2_conn.proofs.AskCalls.{done_by}
use Rattle.h2_conn.proofs.AskSound.{call_kept}
use Rattle.h2_conn.proofs.WhyCalls.{represented, plain}
use Rattle.h2_conn.proofs.conn.Conn.fields.Goals as goal

pub invariant_of-self : goal.invariant_of-self
unfolding IsTypedAct
invariant_of-self c =
    assumption (call_kept c.send_fields.result _ _
    (SendFields c.args.id c.args.fields.now c.args.end) _ refl
    (c.ranges.id.fits, c.send_fields.ensures.octets)
    c.args.self.now.sound c.args.self.now.cuts
    c.send_fields.ensures.ok c.send_fields.ensures.err)

pub returns-clause-answers : goal.returns-clause-answers
unfolding IsTypedAct may_lack_memory
returns-clause-answers c =
    represented (plain (SendFields c.args.id c.args.fields.now c.args.end) (λ done. Done)
    c.send_fields.result (λ done. refl))
    (c.ranges.id.fits, c.send_fields.ensures.octets)
    (done_by Done c.send_fields.result _ _ _ _ refl refl
    (c.ranges.id.fits, c.send_fields.ensures.octets) (λ lacks. refl) refl
    c.send_fields.ensures.ok c.send_fields.ensures.err)
