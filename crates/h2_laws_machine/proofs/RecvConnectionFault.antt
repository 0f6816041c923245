-- An item that is a fault of the connection makes it fail at an end as at its log.
use Rattle.h2_laws_machine.proofs.Names.{◌≡◌, max, arith, Option, Some, None, refl, ap₂, list_any}
use Rattle.h2_laws_machine.proofs.Names.{Code, Item, alone, block, end_view, End, log_view}
use Rattle.h2_laws_machine.proofs.Names.{is_goaway, Log, last_processed, active_count, max_streams}
use Rattle.h2_laws_machine.proofs.Names.{ConnectionFault, Decoded, with_verdict, after_verdict}
use Rattle.h2_laws_machine.proofs.Names.{goaway_sent_last, greatest_processed, when_some, opened_by}
use Rattle.h2_laws_machine.proofs.LogCore.{core, Going}
use Rattle.h2_laws_machine.proofs.RecvReturnedCredit.{After}
use Rattle.h2_laws_machine.proofs.RecvVerdict.{Sound, state_same}
use Rattle.h2_laws_machine.proofs.SentConnectionItems.{failing_streams}
use Rattle.h2_laws_machine.proofs.ViewsAgree.{max_streams_agree}
use Rattle.h2_laws_machine.proofs.WaitingOutput.{Waits, fails_connection}

-- The number that an item opens is the same.
opened_same : (e : End) (log : Log) (decoded : Option Decoded) (item : Item) → e.role ≡ log.role
    → Sound (core log)
    → Going e (core log) → opened_by (end_view e) decoded item ≡ opened_by (log_view log) decoded
    item
unfolding opened_by active_count max_streams
opened_same e log None item role sound g = refl
opened_same e log (Some decoded) (alone frame) role sound g = refl
opened_same e log (Some decoded) (block i end octets) role sound g =
    rw (
      state_same e (core log) i role sound g,
      role,
      max_streams_agree _ _ (max_streams log) g.own.in_force.max_streams,
      g.streams.active_count,
      g.goaway.last_sent,
      when_some (list_any is_goaway log.sent) (goaway_sent_last log.sent),
    ) refl

-- An item that is a fault of the connection makes it fail at an end as at its log.
pub fault_after : (e : End) (log : Log) (decoded : Option Decoded) (item : Item) (code : Code)
    → Waits e log → Sound (core log) → Going e (core log)
    → After (after_verdict e decoded item (ConnectionFault code)) (with_verdict log decoded item
    (ConnectionFault code))
unfolding after_verdict with_verdict last_processed
fault_after e log decoded item code w sound g =
    let last = max (last_processed log) (opened_by (log_view log) decoded item) in
    record {
      waits = fails_connection e.role e.failed e.output.waiting log (end_view e).max_payload code
          (max e.streams.last_processed (opened_by (end_view e) decoded item)) last
          (ap₂ max g.streams.last_processed (opened_same e log decoded item w.same_role sound g)) w;
      streams = failing_streams e.streams log code last (λ server i active_is.
          let taken = sound.active_taken server i active_is in
          let same : last_processed log ≡ greatest_processed log.reported = rw server refl in
          omega (arith, taken, same)) g.streams;
      going = λ up. absurd (cc);
    }
