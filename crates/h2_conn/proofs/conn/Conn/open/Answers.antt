-- By the lemmas on a call's answer.
use Rattle.h2_conn.proofs.Names.{refl, ap, Open, IsTypedAct, may_lack_memory}
use Rattle.h2_spec_log.specs.Acts.{Number}
use Rattle.h2_conn.proofs.AskCalls.{answers_by, value_as}
use Rattle.h2_conn.proofs.AskSound.{call_kept, beside_value}
use Rattle.h2_conn.proofs.WhyCalls.{represented, plain}
use Rattle.h2_conn.proofs.conn.Conn.open.Goals as goal

pub invariant_of-self : goal.invariant_of-self
unfolding IsTypedAct
invariant_of-self c =
    assumption (call_kept c.open.result _ _ (Open c.args.fields.now c.args.end) _ refl
    c.open.ensures.octets
    c.args.self.now.sound c.args.self.now.cuts
    (beside_value _ _ c.open.result c.open.ensures.ok) c.open.ensures.err)

pub returns-clause-answers : goal.returns-clause-answers
unfolding IsTypedAct may_lack_memory
returns-clause-answers c =
    represented (plain (Open c.args.fields.now c.args.end) Number c.open.result (λ id. refl))
    c.open.ensures.octets
    (answers_by Number _ _ _ _ _ refl refl
    c.open.ensures.octets (λ lacks. refl)
    (value_as _ _ _ c.open.result (λ value is. ap Number is)
    c.open.ensures.ok) c.open.ensures.err)
