-- By the lemmas on what the connection answers to trailers, or to a head.
use Rattle.h2_ends.proofs.Names.{true, arith, message_value, is_head_alone}
use Rattle.h2_ends.proofs.RequestSends.{sends_trailers, sends_head, fields_typed}
use Rattle.h2_ends.proofs.sending.send_head.Goals as goal

pub returns-in-Some : goal.returns-in-Some
returns-in-Some c = λ values log is.
    let message = message_value c.args.message.now in
    let large = c.in-Some.ensures.large in
    let answers = rw large.0 at (c.fields.ensures.answers values log is) in
    sends_trailers values log c.args.id message c.fields.result c.fields.new.self
    (rw large.0 at large.1)
    (fields_typed c.args.id _ true (omega (arith, c.ranges.id))
    (rw large.0 at c.fields.ensures.octets)) answers.0 answers.1

pub returns-in-None : goal.returns-in-None
returns-in-None c = λ values log is.
    let message = message_value c.args.message.now in
    let answers = rw (c.deref.ensures.value, c.is_head_alone.ensures)
    at (c.fields-in-None.ensures.answers values log is) in
    sends_head values log c.args.id message c.fields-in-None.result c.fields-in-None.new.self
    c.in-None.ensures.fits
    (fields_typed c.args.id message.head (is_head_alone message) (omega (arith, c.ranges.id))
    (rw c.deref.ensures.value at c.fields-in-None.ensures.octets)) answers.0 answers.1
