-- Call by call, by the lemmas on what is sent.
use Rattle.h2_ends.proofs.Names.{arith, true, ap, ◌-◌}
use Rattle.h2_ends.proofs.SendingBody.{going_begins, none_by, going_on, going_stuck, going_ends}
use Rattle.h2_ends.proofs.SendingBody.{going_refused, trailers_go, trailers_refused, left_is}
use Rattle.h2_ends.proofs.SendingBody.{fields_are, typed_data}
use Rattle.h2_ends.proofs.RequestSends.{fields_typed}
use Rattle.h2_ends.proofs.sending.send.Goals as goal

pub loop-waiting-init : goal.loop-waiting-init
loop-waiting-init c =
    going_begins c.args.conn.now c.args.id c.args.waiting.now c.args.count.now

pub returns-in-Ok-eq0 : goal.returns-in-Ok-eq0
returns-in-Ok-eq0 c =
    let left = c.loop-waiting.waiting in
    going_stuck c.args.conn.now c.args.id c.args.waiting.now c.args.count.now c.loop-waiting.conn
    c.send.new.conn left c.loop-waiting.count c.loop-waiting.invariant _ _
    (omega (arith, c.loop-waiting-test.true)) (left_is left _ (ap (λ n. n - left.sent) c.len-all.ensures))
    (none_by left.trailers _ c.is_none-ends.ensures)
    (typed_data c.args.id _ _ (omega arith) c.send.ensures.octets) c.in-Ok-eq0.field-0
    c.in-Ok-eq0.field-0-test c.in-Ok-eq0.ensures.answers

pub loop-waiting-smaller : goal.loop-waiting-smaller
loop-waiting-smaller c = omega (arith, c.loop-waiting-test.true, c.in-Ok.sent-test.1)

pub loop-waiting-preserved : goal.loop-waiting-preserved
loop-waiting-preserved c =
    let left = c.loop-waiting.waiting in
    going_on c.args.conn.now c.args.id c.args.waiting.now c.args.count.now c.loop-waiting.conn
    c.send.new.conn left c.loop-waiting.count c.loop-waiting.invariant _ _
    (omega (arith, c.loop-waiting-test.true)) (left_is left _ (ap (λ n. n - left.sent) c.len-all.ensures))
    (none_by left.trailers _ c.is_none-ends.ensures)
    (typed_data c.args.id _ _ (omega arith) c.send.ensures.octets) c.in-Ok.sent
    c.saturating_add.result c.saturating_add.ensures c.in-Ok.ensures.answers

pub returns-in-Err : goal.returns-in-Err
returns-in-Err c =
    let left = c.loop-waiting.waiting in
    going_refused c.args.conn.now c.args.id c.args.waiting.now c.args.count.now c.loop-waiting.conn
    c.send.new.conn left c.loop-waiting.count c.loop-waiting.invariant _ _
    (omega (arith, c.loop-waiting-test.true)) (left_is left _ (ap (λ n. n - left.sent) c.len-all.ensures))
    (none_by left.trailers _ c.is_none-ends.ensures)
    (typed_data c.args.id _ _ (omega arith) c.send.ensures.octets) c.in-Err.refusal _
    c.stopped_by.ensures c.in-Err.ensures.answers

pub returns-in_default : goal.returns-in_default
returns-in_default c =
    let left = c.loop-waiting.waiting in
    going_ends c.args.conn.now c.args.id c.args.waiting.now c.args.count.now c.loop-waiting.conn
    c.loop-waiting.conn left c.loop-waiting.count c.loop-waiting.invariant
    (omega (arith, c.loop-waiting-test.false)) c.in_default.is

pub returns-in-Ok-fields : goal.returns-in-Ok-fields
returns-in-Ok-fields c =
    let left = c.loop-waiting.waiting in
    trailers_go c.args.conn.now c.args.id c.args.waiting.now c.args.count.now c.loop-waiting.conn
    c.fields.new.self left c.loop-waiting.count c.loop-waiting.invariant _
    (omega (arith, c.loop-waiting-test.false))
    (fields_are left.trailers c.in-Some.trailers _ c.in-Some.is c.deref.ensures.value)
    (fields_typed c.args.id _ true (omega arith) c.fields.ensures.octets)
    c.in-Ok-fields.ensures.answers

pub returns-in-Err-fields : goal.returns-in-Err-fields
returns-in-Err-fields c =
    let left = c.loop-waiting.waiting in
    trailers_refused c.args.conn.now c.args.id c.args.waiting.now c.args.count.now
    c.loop-waiting.conn c.fields.new.self left c.loop-waiting.count c.loop-waiting.invariant _
    (omega (arith, c.loop-waiting-test.false))
    (fields_are left.trailers c.in-Some.trailers _ c.in-Some.is c.deref.ensures.value)
    (fields_typed c.args.id _ true (omega arith) c.fields.ensures.octets)
    c.in-Err-fields.refusal _ c.stopped_by-in-Err-fields.ensures c.in-Err-fields.ensures.answers
