use Rattle.h2_message.proofs.Names.{InBody, OctetsPart, ◌∙◌, refl, first_broken}
use Rattle.h2_message.proofs.BrokenParts.{named_at, rule_of_early, rule_of_octets}
use Rattle.h2_message.proofs.reading.Reading.broken_by_data.Goals as goal

pub returns-in_default : goal.returns-in_default
returns-in_default c reads parts octets counted follows =
    named_at reads parts (OctetsPart octets, c.args.end) c.args.self.now.phase _ follows.phase
    (rule_of_early reads octets c.args.end c.args.self.now.phase c.in_default.not-InBody)

pub returns-in-Ok : goal.returns-in-Ok
unfolding first_broken
returns-in-Ok c reads parts octets counted follows =
    let left = c.in-InBody.left in
    let end = c.args.end in
    named_at reads parts (OctetsPart octets, end) (InBody left) _
    (rw c.in-InBody.is at follows.phase)
    (rw (counted, c.in-Ok.ensures.ok) refl ∙ rule_of_octets reads left octets end)

pub returns-in-Err : goal.returns-in-Err
unfolding first_broken
returns-in-Err c reads parts octets counted follows =
    let left = c.in-InBody.left in
    let end = c.args.end in
    named_at reads parts (OctetsPart octets, end) (InBody left) _
    (rw c.in-InBody.is at follows.phase)
    (rw (c.in-Err.ensures.err.0, counted, c.in-Err.ensures.err.1) refl
    ∙ rule_of_octets reads left octets end)
