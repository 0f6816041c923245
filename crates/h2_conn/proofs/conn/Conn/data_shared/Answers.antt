-- By the lemmas on a call's answer.
use Rattle.h2_conn.proofs.Names.{not, refl, ap, Count, end_of, IsTypedAct}
use Rattle.h2_conn.proofs.Names.{may_lack_memory}
use Rattle.h2_spec_log.specs.Acts.{SendData}
use Rattle.std.proofs.lemmas.Bool.{false_from_ne_true}
use Rattle.h2_conn.proofs.AskCalls.{answers_by, value_as}
use Rattle.h2_conn.proofs.AskMemory.{nothing_taken}
use Rattle.h2_conn.proofs.AskSound.{call_kept, beside_value}
use Rattle.h2_conn.proofs.WhyCalls.{represented, plain}
use Rattle.h2_conn.proofs.conn.Conn.data_shared.Goals as goal

pub invariant_of-self : goal.invariant_of-self
unfolding IsTypedAct
invariant_of-self c =
    assumption (call_kept c.send_shared_data.result _ _
    (SendData c.args.id c.args.octets c.args.end) _ refl
    (c.ranges.id.fits, rw c.as_slice.ensures at c.are_octets.ensures)
    c.args.self.now.sound c.args.self.now.cuts
    (beside_value _ _ c.send_shared_data.result c.send_shared_data.ensures.ok)
    c.send_shared_data.ensures.err)

pub returns-clause-answers : goal.returns-clause-answers
unfolding IsTypedAct may_lack_memory
returns-clause-answers c =
    represented (plain (SendData c.args.id c.args.octets c.args.end) Count
    c.send_shared_data.result (λ count. refl))
    (c.ranges.id.fits, rw c.as_slice.ensures at c.are_octets.ensures)
    (answers_by Count _ _ _ _ _ refl refl
    (c.ranges.id.fits, rw c.as_slice.ensures at c.are_octets.ensures)
    (λ lacks. ap not (false_from_ne_true _ (λ none. c.send_shared_data.ensures.nothing none lacks)))
    (value_as _ _ _ c.send_shared_data.result (λ value is. ap Count is)
    c.send_shared_data.ensures.ok) c.send_shared_data.ensures.err)

pub returns-clause-octets : goal.returns-clause-octets
returns-clause-octets c = rw c.as_slice.ensures at c.are_octets.ensures

pub returns-clause-nothing : goal.returns-clause-nothing
returns-clause-nothing c = λ values log parts none.
    nothing_taken values (end_of c.args.self.now.end) log c.args.id c.args.octets
    c.args.end c.send_shared_data.result parts.machine c.send_shared_data.ensures.closed
    c.send_shared_data.ensures.nothing none
