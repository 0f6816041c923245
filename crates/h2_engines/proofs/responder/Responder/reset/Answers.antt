-- By the lemmas on a reset.
use Rattle.h2_engines.proofs.Names.{◌≡◌, Err, refl, rules, TooManyResets, Refused, ResetSo, ◌≢◌}
use Rattle.h2_engines.proofs.ResponderCalls.{resets_as}
use Rattle.h2_engines.proofs.responder.Responder.reset.Goals as goal

pub returns-in-Err-TooManyResets-clause-resets : goal.returns-in-Err-TooManyResets-clause-resets
unfolding ResetSo
returns-in-Err-TooManyResets-clause-resets c values end represents =
    let is : c.reset-answer.result ≡ Err TooManyResets = search rules in
    let (may, now) = (rw (is, c.number-code.ensures) at c.reset-answer.ensures) values end
    represents in
    (Refused TooManyResets, may, now, (c.number-code.ensures, refl))

pub returns-in_default-clause-resets : goal.returns-in_default-clause-resets
returns-in_default-clause-resets c =
    let other : c.reset-answer.result ≢ Err TooManyResets = search rules in
    resets_as c.args.self.now.server.end c.reset-answer.new.self.end c.args.id
    c.reset-answer.result c.unless_refused.result other c.unless_refused.ensures.ok
    c.unless_refused.ensures.err (rw c.number-code.ensures at c.reset-answer.ensures)
