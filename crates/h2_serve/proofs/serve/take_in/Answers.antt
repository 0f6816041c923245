-- By what each call makes of how it is served.
use Rattle.h2_engines.proofs.Names.{sym, ◌∙◌, arith, Appends-nil}
use Rattle.h2_serve.proofs.Serving.{serves_call, serves_dropped}
use Rattle.h2_serve.proofs.serve.take_in.Goals as goal

pub returns-then-not-is_down : goal.returns-then-not-is_down
returns-then-not-is_down g c begin before now was gives takes =
    let ready = c.set_ready.ensures in
    let first = serves_call {now = before} c.args.connection.now c.set_ready.new.self was.serving
    was.up ready ready.gives (Appends-nil before.given) (Appends-nil before.taken) in
    let then = serves_call c.set_ready.new.self c.receive.new.self first.serving
    (sym c.is_down.ensures ∙ c.if-not-is_down.true) c.receive.ensures c.receive.ensures.gives gives
    takes in
    (then.serving, omega (arith, first.passed, then.passed))

pub returns-else-not-is_down : goal.returns-else-not-is_down
returns-else-not-is_down g c begin before now was gives takes =
    let ready = c.set_ready.ensures in
    let first = serves_call {now = before} c.args.connection.now c.set_ready.new.self was.serving
    was.up ready ready.gives (Appends-nil before.given) (Appends-nil before.taken) in
    let then = serves_dropped first.serving takes c.args.octets.now
    (sym c.is_down.ensures ∙ c.if-not-is_down.false) gives in
    (then.serving, omega (arith, first.passed, then.passed))
