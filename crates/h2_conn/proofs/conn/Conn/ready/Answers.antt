-- It is consuming 0 octets.
use Rattle.h2_conn.proofs.Names.{sym, ◌∙◌, arith, err_from_is_err_and, end_of, IsTypedAct}
use Rattle.h2_conn.proofs.Names.{refl, PutOut, Count, Refused}
use Rattle.h2_conn.proofs.AskMemory.{returns_alike}
use Rattle.h2_conn.proofs.AskOutput.{ready_consumes, ready_answers, ready_returned}
use Rattle.h2_conn.proofs.AskSound.{put_out_kept}
use Rattle.h2_conn.proofs.WhyCalls.{represented}
use Rattle.h2_conn.proofs.conn.Conn.ready.Goals as goal

pub invariant_of-self : goal.invariant_of-self
unfolding IsTypedAct
invariant_of-self c =
    assumption (put_out_kept c.consume.result _ _ 0 _ (omega arith)
    c.args.self.now.sound c.args.self.now.cuts
    c.consume.ensures.ok c.consume.ensures.err)

pub returns-in_err-consume-clause-answers : goal.returns-in_err-consume-clause-answers
unfolding IsTypedAct
returns-in_err-consume-clause-answers c =
    let why = err_from_is_err_and c.from_residual.result c.from_residual.ensures.1 in
    let answers = ready_consumes {counts = c.args.self.now.counts} c.consume.result
    c.args.self.now.cutter (end_of c.args.self.now.end) (end_of c.consume.new.self)
    c.consume.ensures.nothing c.consume.ensures.ok c.consume.ensures.err in
    rw (why.1, why.2) (represented {act = PutOut 0}
    {answer = Refused c.in_err-consume.field-0.0} refl (omega arith) (rw c.in_err-consume.was at answers))

pub returns-in_err-consume-clause-room : goal.returns-in_err-consume-clause-room
returns-in_err-consume-clause-room c values log parts none =
    let done = c.consume.ensures.nothing
    (returns_alike values (end_of c.args.self.now.end) log parts.machine ∙ none) in
    let wrong = rw c.in_err-consume.was at done in absurd (cc)

pub returns-clause-answers : goal.returns-clause-answers
unfolding IsTypedAct
returns-clause-answers c =
    represented {act = PutOut 0} {answer = Count 0} refl (omega arith)
    (ready_answers c.consume.result c.in_ok-consume.field-0 _ _ _ c.in_ok-consume.was
    c.consume.ensures.ok
    (ready_consumes c.consume.result _ _ _ c.consume.ensures.nothing c.consume.ensures.ok
    c.consume.ensures.err))

pub returns-clause-returned : goal.returns-clause-returned
returns-clause-returned c values log parts =
    sym (returns_alike values (end_of c.consume.new.self) log parts.machine)
    ∙ ready_returned (end_of c.args.self.now.end) (end_of c.consume.new.self)
    c.in_ok-consume.field-0 c.in_ok-consume.ensures.ok
