-- The event of C's after a call of `take`.
use Rattle.std.proofs.Common.{◌≡◌, ◌∙◌, refl, sym, ap, List, ℕ}
use Rattle.std.specs.Prelude.{None, Some, Ok, Err}
use Rattle.h2_frame.specs.Codes.{code_number}
use Rattle.h2_conn.specs.declared.taken.ConnFault.{ConnFault}
use Rattle.h2_ends.specs.declared.end.End.{End}
use Rattle.h2_ends.specs.declared.event.EndTaken.{EndTaken}
use Rattle.h2_ends.specs.EndEvents.{LentPart}
use Rattle.h2_ends.specs.Represents.{EndTakes}
use Rattle.belkjoef.specs.declared.event.BjEvent.{BjEvent}
use Rattle.belkjoef.specs.Events.{event_with, event_with_handed, TakesEvent}
use Rattle.belkjoef.specs.Numbers.{ok, failed}

module _ (old new : End) (piece : List ℕ) (before : BjEvent) where
  -- An event was handed out.
  pub says_handed : (event : BjEvent) (taken : EndTaken) (handed : LentPart)
      → taken.event ≡ Some handed → event ≡ event_with (record before { used = taken.used }) handed
      → EndTakes old piece (Ok taken) new → TakesEvent old piece before event ok new
  says_handed event taken handed is said takes = record {
    outcome = Ok taken;
    takes = takes;
    told = refl;
    said = said ∙ ap (event_with_handed (record before { used = taken.used })) (sym is);
  }

  -- Nothing was handed out.
  pub says_nothing : (taken : EndTaken) → taken.event ≡ None → EndTakes old piece (Ok taken) new
      → TakesEvent old piece before (record before { used = taken.used }) ok new
  says_nothing taken is takes = record {
    outcome = Ok taken;
    takes = takes;
    told = refl;
    said = ap (event_with_handed (record before { used = taken.used })) (sym is);
  }

  -- The connection has failed.
  pub says_fault : (fault : ConnFault) (code : ℕ) → code ≡ code_number fault.code
      → EndTakes old piece (Err fault) new
      → TakesEvent old piece before (record before { code = code }) failed new
  says_fault fault code is takes = record {
    outcome = Err fault;
    takes = takes;
    told = refl;
    said = ap (λ (k : ℕ). record before { code = k }) is;
  }
