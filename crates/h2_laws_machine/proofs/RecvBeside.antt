-- What an end keeps besides its streams, and what an item that is read, an event and a reply make
-- of it.
use Rattle.h2_laws_machine.proofs.Names.{◌≡◌, ℕ, ◌+◌, Option, refl, ap, arith, Entries, Reset, Item}
use Rattle.h2_laws_machine.proofs.Names.{alone, data_of, increment_on, Event, one_acked, one_pong}
use Rattle.h2_laws_machine.proofs.Names.{Decoded, table_after, RepresentsReading, RepresentsWindows}
use Rattle.h2_laws_machine.proofs.Names.{RepresentsPeer, RepresentsOwn, RepresentsGoAways}
use Rattle.h2_laws_machine.proofs.LogCore.{Core, CoreFacts, Advances, StreamsOf, PingOf, confirmed}
use Rattle.h2_laws_machine.proofs.RecvEvents.{report, reported_kept}
use Rattle.h2_laws_machine.proofs.RecvRead.{IsCommon, reads, windows_read, peer_read, goaways_read}
use Rattle.h2_laws_machine.proofs.SentConnectionItems.{computing}
use Rattle.h2_laws_machine.proofs.SentQuietItems.{sends, windows_sent, own_sent, goaways_sent}
use Rattle.h2_laws_machine.proofs.SentQuietItems.{ping_sent}

-- An end keeps what a log says, but for its streams.
pub record Beside (h : CoreFacts) (c : Core) : Type 0 where
  pub reading : RepresentsReading h.reading c.begun c.table
  pub encoder : h.encoder ≡ c.encoder
  pub windows : RepresentsWindows h.windows c.received c.sent c.calls c.unreturned
  pub peer : RepresentsPeer h.peer c.received
  pub own : RepresentsOwn h.own c.role (confirmed c) c.sent
  pub goaway : RepresentsGoAways h.goaway c.received c.sent
  pub ping : PingOf h.ping c

-- What an end keeps is that besides the streams.
pub beside_of : (h : CoreFacts) (c : Core) → Advances h c → Beside h c
beside_of h c g = assumption g

-- With the streams it is what an end keeps.
pub advances_with : (h : CoreFacts) (c : Core) → StreamsOf h.streams c → Beside h c → Advances h c
advances_with h c are g = assumption (are, g)

-- A block's table stands.
pub beside_table : (h : CoreFacts) (c : Core) (decoded : Option Decoded) (item : Item)
    → Beside h c
    → Beside (record h {
      reading = record h.reading { table = table_after h.reading.table decoded item };
    }) (record c { table = table_after c.table decoded item })
beside_table h c decoded item g =
    assumption (ap (λ (t : Entries). table_after t decoded item) g.reading.table, g)

-- An item is read that is neither SETTINGS nor GOAWAY.
pub beside_read : (h : CoreFacts) (c : Core) (item : Item) (send recv : ℕ) → IsCommon item
    → send ≡ h.windows.send + increment_on 0 item → recv + data_of item ≡ h.windows.recv
    → Beside h c
    → Beside (record h { windows = record h.windows { send = send; recv = recv } }) (reads c item)
beside_read h c item send recv q wider less g =
    assumption (
      windows_read h.windows c.received c.sent c.calls c.unreturned item send recv wider less
          g.windows,
      peer_read h.peer c.received item q.settings g.peer,
      goaways_read h.goaway c.received c.sent item q g.goaway,
      g,
    )

-- An event is reported that neither acknowledges nor answers.
pub beside_reported : (h : CoreFacts) (c : Core) (event : Event) → one_acked event ≡ 0
    → one_pong event ≡ 0 → Beside h c → Beside h (report c event)
beside_reported h c event quiet none g =
    let own : RepresentsOwn h.own c.role (confirmed (report c event)) c.sent = rw
    (reported_kept one_acked event c.reported quiet) g.own in
    let ping : PingOf h.ping (report c event) = rw (reported_kept one_pong _ _ none) g.ping in
    assumption (own, ping, g)

-- RST_STREAM is sent.
pub beside_reset : (h : CoreFacts) (c : Core) (id code : ℕ) → Beside h c
    → Beside h (sends c (alone (Reset id code)))
unfolding computing
beside_reset h c id code g =
    let item : Item = alone (Reset id code) in
    record {
      reading = g.reading;
      encoder = g.encoder;
      windows = windows_sent _ _ _ _ _ _ h.windows.recv refl (omega arith) g.windows;
      peer = g.peer;
      own = own_sent h.own c.role (confirmed c) c.sent item refl g.own;
      goaway = goaways_sent h.goaway c.received c.sent item refl refl g.goaway;
      ping = ping_sent h.ping c item refl refl g.ping;
    }
