-- What is unreturned is added, and perhaps returned at an end as at its log, and events are
-- reported that change little of what an end keeps.
use Rattle.h2_laws_machine.proofs.Names.{◌≡◌, ℕ, ◌+◌, List, [], ◌∷◌, ◌++◌, None, refl, arith}
use Rattle.h2_laws_machine.proofs.Names.{WindowUpdate, alone, Event, Log, with_sent, with_reported}
use Rattle.h2_laws_machine.proofs.Names.{with_unreturned, with_credit_returned, both_by, End}
use Rattle.h2_laws_machine.proofs.Names.{end_view, add_unreturned}
use Rattle.h2_laws_machine.proofs.LogCore.{StreamsOf, Core, CoreFacts, Advances, Going, core}
use Rattle.h2_laws_machine.proofs.LogCore.{core_facts}
use Rattle.h2_laws_machine.proofs.SentConnectionItems.{widened_advances}
use Rattle.h2_laws_machine.proofs.SentQuietItems.{unreturned_advances}
use Rattle.h2_laws_machine.proofs.WaitingOutput.{Waits, reports_connection, credit_connection}
use Rattle.h2_laws_machine.proofs.WaitingOutput.{waits_much}

-- An end and the log for which it stands, but for what it takes for it to come about.
pub record After (e : End) (log : Log) : Type 0 where
  pub waits : Waits e log
  pub streams : StreamsOf e.streams (core log)
  pub going : e.failed ≡ None → Going e (core log)

-- What an end keeps that hasn't failed is so.
pub after_going : (e : End) (log : Log) → Waits e log → Going e (core log) → After e log
after_going e log waits g = record { waits = waits; streams = g.streams; going = λ up. g }

-- Events after which what an end keeps is what another log says, so much being due.
paid : (h : CoreFacts) (c : Core) (more : ℕ) → Advances h c
    → Advances (record h {
      windows = record h.windows {
        recv = h.windows.recv + (h.windows.unreturned + more);
        unreturned = 0;
      };
    })
    (record c { sent = alone (WindowUpdate 0 (c.unreturned + more)) ∷ c.sent; unreturned = 0 })
paid h c more g =
    rw (← g.windows.unreturned) (widened_advances (record h {
      windows = record h.windows { unreturned = 0 };
    }) (record c { unreturned = 0 }) _ (unreturned_advances h c 0 0 refl g))

-- the core of a log with events that were reported
reports_core : (log : Log) (events : List Event) → core (with_reported log events) ≡ record
    (core log) { reported = events ++ log.reported }
unfolding with_reported
reports_core log [] = refl
reports_core log (event ∷ events) = refl

module _ (e : End) (log : Log) (events : List Event) where
  -- What is unreturned is added, and perhaps returned at an end as at its log, and events are
  -- reported.
  pub returned : (n more : ℕ) → n ≡ more → Waits e log → e.windows.unreturned ≡ log.unreturned
      → Advances (core_facts e) (record (core log) { reported = events ++ log.reported })
      → After (add_unreturned n e) (with_reported (with_unreturned more log) events)
  unfolding add_unreturned with_unreturned with_sent
  returned n more same waits unreturned g =
      let after = record (core log) { reported = events ++ log.reported } in
      rw (same, waits_much e log waits.output)
      (both_by (λ (x : End) (next : Log). After x (with_reported next events)) _
      (after_going _ _ (reports_connection e.role e.failed _ _ events (credit_connection e.role
      e.failed e.output.waiting log (end_view e).max_payload more e.windows.unreturned unreturned
      waits))
      (rw (reports_core (with_credit_returned (record log { unreturned = log.unreturned + more }))
      events) (paid (core_facts e) after more g)))
      (after_going _ _ (reports_connection e.role e.failed e.output.waiting
      (record log { unreturned = log.unreturned + more }) events waits)
      (rw (reports_core (record log { unreturned = log.unreturned + more }) events)
      (unreturned_advances (core_facts e) after (e.windows.unreturned + more)
      (log.unreturned + more) (omega (arith, unreturned)) g))))

  -- nothing more is unreturned, and events are reported
  unsettled_none : Waits e log → e.windows.unreturned ≡ log.unreturned
      → Advances (core_facts e) (record (core log) { reported = events ++ log.reported })
      → After e (with_reported (with_unreturned 0 log) events)
  unfolding with_unreturned
  unsettled_none waits unreturned g =
      after_going e _ (reports_connection e.role e.failed e.output.waiting
      (record log { unreturned = log.unreturned + 0 }) events waits)
      (rw (reports_core (record log { unreturned = log.unreturned + 0 }) events)
      (unreturned_advances (core_facts e) (record (core log) { reported = events ++ log.reported })
      e.windows.unreturned (log.unreturned + 0) (omega (arith, unreturned)) g))

  -- Where nothing more is unreturned, events are reported.
  pub unsettled : (more : ℕ) → more ≡ 0 → Waits e log → e.windows.unreturned ≡ log.unreturned
      → Advances (core_facts e) (record (core log) { reported = events ++ log.reported })
      → After e (with_reported (with_unreturned more log) events)
  unsettled more none waits unreturned g = rw none (unsettled_none waits unreturned g)
