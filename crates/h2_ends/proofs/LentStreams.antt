-- What an end keeps once a stream that its map lent was written back.
use Rattle.h2_ends.proofs.Names.{◌≡◌, ℕ, Some, refl, sym, ap, Values, Conn, End, Stream}
use Rattle.h2_ends.proofs.Names.{Outgoing, Waiting, EndLog, EndRepresents, kept_at, IsGiven}
use Rattle.h2_ends.proofs.Names.{given_stream, Span, InSpan}
use Rattle.std.specs.Option.{is_some}
use Rattle.h2_numbers.specs.Entries.{NumberEntries}
use Rattle.h2_numbers.specs.Lends.{WritesThrough}
use Rattle.h2_ends.proofs.RequestGiven.{with_none, with_span, given_here}
use Rattle.h2_ends.proofs.SendingStreams.{with_streams, unwritten}
use Rattle.h2_ends.proofs.ShareIdle.{same_represents}
use Rattle.h2_ends.specs.declared.outgoing.Outgoing.TheVariants as outgoings

module _ (old : End) (id : ℕ) (stream : Stream) (streams : NumberEntries Stream)
    (was : Some stream ≡ kept_at id old.streams.entries) where
  -- Where it is as it was, the end represents the same, whatever its connection is.
  pub as_lent : WritesThrough id old.streams stream streams → (values : Values) (conn : Conn)
      (happened : EndLog) → EndRepresents values (record old { conn = conn }) happened
      → EndRepresents values (with_streams old conn streams) happened
  as_lent writes values conn happened is =
      same_represents values (record old { conn = conn }) streams happened
      (λ i. unwritten old.streams streams id stream i (sym was) writes) is

  -- Where it was given what does not wait, the end keeps that.
  pub given_lent : (conn : Conn) (outgoing : Outgoing)
      → ((waiting : Waiting) → outgoing ≡ outgoings.Waiting waiting → ⊥)
      → WritesThrough id old.streams (given_stream outgoing stream) streams
      → IsGiven (record old { conn = conn }) id outgoing (with_streams old conn streams)
  given_lent conn outgoing none writes =
      let mid = record old { conn = conn } in
      given_here mid mid (with_streams old conn streams) id outgoing stream
      (given_stream outgoing stream) (with_none mid id outgoing none) was refl refl refl refl
      (writes.changes (ap is_some (sym was)))

  -- Where it was given what waits, that is found too.
  pub given_waiting : (conn : Conn) (outgoing : Outgoing) (span : Span) → InSpan span id
      → ((i : ℕ) → InSpan old.spans.waiting i → InSpan span i)
      → WritesThrough id old.streams (given_stream outgoing stream) streams
      → IsGiven (record old { conn = conn }) id outgoing (record (with_streams old conn streams) {
        spans = record old.spans { waiting = span };
      })
  given_waiting conn outgoing span here more writes =
      let mid = record old { conn = conn } in
      let wider = record mid { spans = record old.spans { waiting = span } } in
      given_here mid wider (record wider { streams = streams }) id outgoing stream
      (given_stream outgoing stream) (with_span mid id outgoing span here more) was refl refl refl
      refl (writes.changes (ap is_some (sym was)))
