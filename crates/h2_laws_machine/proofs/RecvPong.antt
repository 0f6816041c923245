-- The answer to an own PING that awaits it.
use Rattle.h2_laws_machine.proofs.Names
use Names.{◌≡◌, ℕ, ◌≤◌, ◌+◌, nat_lt, true, false, List, ◌∷◌, Option, None, refl, arith, le-ltb}
use Names.{Ping, stream_of, Item, alone, stream_of_item, one_ping, total, Event, flow_on, one_acked}
use Names.{one_pong, reported_total, reports_unprocessed, processed_by, is_server, Log, Reported}
use Names.{Decoded, replies_to, with_sent, with_verdict, events_of, discarded_flow, End}
use Names.{after_reported, RepresentsOwn}
use Rattle.h2_spec_log.specs.Events.{PongEvent}
use Rattle.h2_laws_machine.proofs.LogCore.{Core, core, CoreFacts, core_facts, Advances, Going}
use Rattle.h2_laws_machine.proofs.LogCore.{confirmed, PingOf}
use Rattle.h2_laws_machine.proofs.RecvConnectionItems.{plain_quiet}
use Rattle.h2_laws_machine.proofs.OwedAtClose.{dead_owing, zero_dead}
use Rattle.h2_laws_machine.proofs.RecvEvents.{report, active_reported, reported_kept, taken_kept}
use Rattle.h2_laws_machine.proofs.RecvRead.{quiet_read, reads}
use Rattle.h2_laws_machine.proofs.RecvReturnedCredit.{After, unsettled}
use Rattle.h2_laws_machine.proofs.StreamsSame.{SameAt, streams_same}
use Rattle.h2_laws_machine.proofs.WaitingOutput.{Waits}

-- One more is answered.
pong_one : (octets : List ℕ) (reported : List Event)
    → reported_total one_pong (PongEvent octets ∷ reported) ≡ 1 + reported_total one_pong reported
unfolding reported_total one_pong
pong_one octets reported = refl

-- It acknowledges nothing, reports no flow, names no stream and shows none that was processed.
pong_acks : (octets : List ℕ) → one_acked (PongEvent octets) ≡ 0
unfolding one_acked
pong_acks octets = refl

pong_flow : (octets : List ℕ) (j : ℕ) → flow_on j (PongEvent octets) ≡ 0
unfolding flow_on
pong_flow octets j = refl

pong_names : (octets : List ℕ) (j : ℕ) → reports_unprocessed j (PongEvent octets) ≡ false
unfolding reports_unprocessed
pong_names octets j = refl

pong_shows : (octets : List ℕ) → processed_by (PongEvent octets) ≡ 0
unfolding processed_by
pong_shows octets = refl

-- The log says the same of each number after it.
pong_same : (c : Core) (octets : List ℕ) (j : ℕ) → SameAt j c (report c (PongEvent octets))
pong_same c octets j =
    let acks = reported_kept one_acked (PongEvent octets) c.reported (pong_acks octets) in
    let flow = reported_kept (flow_on j) (PongEvent octets) c.reported (pong_flow octets j) in
    record {
      active = active_reported _ _ _ _ _ c.reported (pong_names octets j);
      was_reset = refl;
      stream = λ alive. rw (acks, flow) refl;
    }

-- What an end keeps where an own PING is answered, of which one at most awaited its answer.
pong_advances : (h : CoreFacts) (c : Core) (octets : List ℕ)
    → total one_ping c.sent ≤ reported_total one_pong c.reported + 1 → Advances h c
    → Advances (record h { ping = None }) (report c (PongEvent octets))
pong_advances h c octets most g =
    let event : Event = PongEvent octets in
    let acks = reported_kept one_acked event c.reported (pong_acks octets) in
    let none : nat_lt (reported_total one_pong (event ∷ c.reported)) (total one_ping c.sent) ≡ false
    = le-ltb _ _ (omega (arith, most, pong_one octets c.reported)) in
    let own : RepresentsOwn h.own c.role (confirmed (report c event)) c.sent = rw acks g.own in
    let ping : PingOf None (report c event) = rw none refl in
    assumption (
      streams_same h.streams c (report c event) (pong_same c octets) refl
          (taken_kept (is_server c.role) event c.reported (pong_shows octets)) refl g.streams,
      own,
      ping,
      g,
    )

-- What an end makes of the answer to an own PING that awaits it.
pub pong_reported : (e : End) (log : Log) (decoded : Option Decoded) (octets : List ℕ)
    → total one_ping log.sent ≤ reported_total one_pong log.reported + 1 → Waits e log
    → Going e (core log)
    → After (after_reported e decoded (alone (Ping true octets))) (with_verdict log decoded
    (alone (Ping true octets)) Reported)
unfolding with_verdict after_reported replies_to events_of discarded_flow stream_of_item stream_of
    with_sent
pong_reported e log decoded octets most w g =
    let item : Item = alone (Ping true octets) in
    let event : Event = PongEvent octets in
    let dead = zero_dead (core log) in
    unsettled (record e { ping = None }) _ _ _ (omega (arith, dead_owing)) w g.windows.unreturned
    (pong_advances (core_facts e) (reads (core log) item) octets most
    (quiet_read (core_facts e) (core log) item (plain_quiet (Ping true octets) refl) g))
