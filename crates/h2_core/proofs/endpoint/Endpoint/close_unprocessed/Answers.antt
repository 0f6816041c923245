-- The next stream is active, and by the facts of a sound end what it owes can be returned.
use Rattle.h2_core.proofs.Names.{arith, sym, stream_view, end_of}
use Rattle.h2_core.proofs.SoundFacts.{counted, owed_fits}
use Rattle.h2_core.proofs.OwnNumbers.{unprocessed_active}
use Rattle.h2_core.proofs.endpoint.Endpoint.close_unprocessed.Goals as goal

pub close_stream-requires-clause-counted : goal.close_stream-requires-clause-counted
close_stream-requires-clause-counted c =
    counted (end_of c.args.self.now) c.args.id _ c.requires.sound (sym c.in-Some.ensures)

pub close_stream-requires-clause-window : goal.close_stream-requires-clause-window
close_stream-requires-clause-window c =
    let stream = stream_view c.in-Some.stream in
    let fits = owed_fits (end_of c.args.self.now) c.args.id stream c.requires.sound
    (sym c.in-Some.ensures) in
    omega (arith, fits)

pub returns-in_default-clause-ok : goal.returns-in_default-clause-ok
returns-in_default-clause-ok c =
    let one = c.args.self.now in
    let active = rw (← c.requires.next) at
    (unprocessed_active one.role one.streams.entries one.goaway_received) in
    absurd (active c.requires.some (sym c.in_default.ensures))
