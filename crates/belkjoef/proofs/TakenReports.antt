-- The event of C's after a call of `take` of a connection.
use Rattle.std.proofs.Common.{◌≡◌, ◌∙◌, refl, sym, ap, List, ℕ}
use Rattle.std.specs.Prelude.{None, Some, Ok, Err}
use Rattle.h2_frame.specs.Codes.{code_number}
use Rattle.h2_conn.specs.declared.conn.Conn.{Conn}
use Rattle.h2_conn.specs.declared.taken.ConnFault.{ConnFault}
use Rattle.h2_conn.specs.declared.taken.Taken.{Taken}
use Rattle.h2_conn.specs.Conn.{ConnTakes}
use Rattle.h2_conn.specs.Events.{LentEvent}
use Rattle.belkjoef.specs.declared.conn_event.BjReport.{BjReport}
use Rattle.belkjoef.specs.ConnEvents.{report_with, report_with_lent, TakesReport}
use Rattle.belkjoef.specs.Numbers.{ok, failed}

module _ (old new : Conn) (piece : List ℕ) (before : BjReport) where
  -- An event was reported.
  pub reports_event : (report : BjReport) (taken : Taken) (event : LentEvent)
      → taken.event ≡ Some event → report ≡ report_with (record before { used = taken.used }) event
      → ConnTakes old piece (Ok taken) new → TakesReport old piece before report ok new
  reports_event report taken event is said takes = record {
    outcome = Ok taken;
    takes = takes;
    told = refl;
    said = said ∙ ap (report_with_lent (record before { used = taken.used })) (sym is);
  }

  -- Nothing was reported.
  pub reports_nothing : (taken : Taken) → taken.event ≡ None → ConnTakes old piece (Ok taken) new
      → TakesReport old piece before (record before { used = taken.used }) ok new
  reports_nothing taken is takes = record {
    outcome = Ok taken;
    takes = takes;
    told = refl;
    said = ap (report_with_lent (record before { used = taken.used })) (sym is);
  }

  -- The connection has failed.
  pub reports_fault : (fault : ConnFault) (code : ℕ) → code ≡ code_number fault.code
      → ConnTakes old piece (Err fault) new
      → TakesReport old piece before (record before { code = code }) failed new
  reports_fault fault code is takes = record {
    outcome = Err fault;
    takes = takes;
    told = refl;
    said = ap (λ (k : ℕ). record before { code = k }) is;
  }
