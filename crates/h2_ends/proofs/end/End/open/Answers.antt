-- By the lemmas on what the connection answers to trailers that are too large, and to a head.
use Rattle.h2_ends.proofs.Names.{true, refl, sym, at_once, message_value}
use Rattle.h2_ends.proofs.RequestSends.{open_typed}
use Rattle.h2_ends.proofs.RequestOpens.{opens_trailers}
use Rattle.h2_ends.proofs.end.End.open.Goals as goal

pub returns-in-Some : goal.returns-in-Some
returns-in-Some c = λ values end is.
    let large = c.in-Some.ensures.large in
    let answers = rw large.0 at (c.open.ensures.answers values end.log is.streams.conn) in
    opens_trailers values c.args.self.now _ end (at_once (message_value c.args.message.now))
    c.open.result (rw large.0 at large.1) (open_typed _ true (rw large.0 at c.open.ensures.octets))
    is answers.0 answers.1 refl refl refl

pub returns : goal.returns
returns c = λ values end is.
    c.open_with.ensures values end (at_once (message_value c.args.message.now)) is
    (sym c.deref.ensures.value) (sym c.is_head_alone.ensures) c.in_default.ensures.fits
