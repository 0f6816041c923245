-- What an event that is reported makes of what an end keeps, by what it makes of the streams.
use Rattle.h2_laws_machine.proofs.Names.{◌≡◌, ℕ, Bool, true, false, if◌then◌else◌, List, ◌∷◌, refl}
use Rattle.h2_laws_machine.proofs.Names.{arith, Item, Role, Event, flow_on, one_acked, one_pong}
use Rattle.h2_laws_machine.proofs.Names.{reported_total, greatest_processed, reports_unprocessed}
use Rattle.h2_laws_machine.proofs.Names.{processed_by, is_server, is_active, Streams, RepresentsOwn}
use Rattle.h2_laws_machine.proofs.LogCore.{StreamsOf, Core, CoreFacts, Advances, confirmed, PingOf}
use Rattle.h2_laws_machine.proofs.StreamsSame.{streams_same, SameAt}

-- the core with an event that was reported
abbrev pub report : Core → Event → Core
report c event = record c { reported = event ∷ c.reported }

-- An event of which nothing counts changes no count.
pub reported_kept : (f : Event → ℕ) (event : Event) (reported : List Event) → f event ≡ 0
    → reported_total f (event ∷ reported) ≡ reported_total f reported
unfolding reported_total
reported_kept f event reported none = omega (arith, none)

-- An event that neither acknowledges, answers, nor names a stream unprocessed.
pub record ChangesNoStream (event : Event) : Type 0 where
  pub acks : one_acked event ≡ 0
  pub pongs : one_pong event ≡ 0
  pub names : (i : ℕ) → reports_unprocessed i event ≡ false

-- Streams are active as before after such an event.
pub active_reported : (role : Role) (i : ℕ) (received sent : List Item) (event : Event)
    (reported : List Event) → reports_unprocessed i event ≡ false
    → is_active role i received sent (event ∷ reported) ≡ is_active role i received sent reported
unfolding is_active
active_reported role i received sent event reported none = rw none refl

-- What an end keeps where an event is reported that neither acknowledges nor answers, by what it
-- makes of the streams.
pub reported_by : (h : CoreFacts) (c : Core) (event : Event) (streams : Streams)
    → one_acked event ≡ 0 → one_pong event ≡ 0 → StreamsOf streams (report c event) → Advances h c
    → Advances (record h { streams = streams }) (report c event)
reported_by h c event streams quiet none are g =
    let own : RepresentsOwn h.own c.role (confirmed (report c event)) c.sent = rw
    (reported_kept one_acked event c.reported quiet) g.own in
    let ping : PingOf h.ping (report c event) = rw (reported_kept one_pong _ _ none) g.ping in
    assumption (are, own, ping, g)

-- The log says the same of a number after an event that reports no flow on it.
pub same_reported : (j : ℕ) (c : Core) (event : Event) → ChangesNoStream event → flow_on j event ≡ 0
    → SameAt j c (report c event)
same_reported j c event q none =
    let acks : reported_total one_acked (event ∷ c.reported) ≡ reported_total one_acked c.reported =
    reported_kept one_acked event c.reported q.acks in
    let flow : reported_total (flow_on j) (event ∷ c.reported) ≡ reported_total (flow_on j)
    c.reported = reported_kept (flow_on j) event c.reported none in
    record {
      active = active_reported c.role j c.received c.sent event c.reported (q.names j);
      was_reset = refl;
      stream = λ alive. rw (acks, flow) refl;
    }

-- The greatest stream that was taken is as before after an event that shows none.
pub taken_kept : (b : Bool) (event : Event) (reported : List Event) → processed_by event ≡ 0
    → (if b then greatest_processed (event ∷ reported) else 0) ≡ (if b then greatest_processed
    reported else 0)
unfolding greatest_processed
taken_kept true event reported none = omega (arith, none)
taken_kept false event reported none = refl

-- An event that changes nothing of what an end keeps.
pub quiet_reported : (h : CoreFacts) (c : Core) (event : Event) → ChangesNoStream event
    → ((j : ℕ) → flow_on j event ≡ 0) → processed_by event ≡ 0 → Advances h c
    → Advances h (report c event)
quiet_reported h c event q none shows g =
    reported_by h c event h.streams q.acks q.pongs
    (streams_same h.streams c (report c event) (λ j. same_reported j c event q (none j)) refl
    (taken_kept (is_server c.role) event c.reported shows) refl g.streams) g
