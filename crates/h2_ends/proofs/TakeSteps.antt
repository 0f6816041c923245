-- What taking octets makes of an end, as its connection answers.
use Rattle.h2_ends.proofs.Names.{◌≡◌, ℕ, List, Option, Some, None, ◌≤◌, refl, sym, subst, Code}
use Rattle.h2_ends.proofs.Names.{Values, Event, Log, TakeAnswer, MayTake, Took, Failed}
use Rattle.h2_ends.proofs.Names.{ConnRepresents, End, EndLog, Handed, EndAnswer, EndTook}
use Rattle.h2_ends.proofs.Names.{EndFailed, end_with_log, hands_nothing, EndRepresents}
use Rattle.h2_ends.proofs.Names.{HasReported, take_has_data, take_has_fields, take_may_close}
use Rattle.h2_ends.specs.EndTakes.{fails}
use Rattle.h2_ends.proofs.EndSteps.{taken, taken_kept, kept}
use Rattle.h2_ends.proofs.TakeHands.{Hands}
use Rattle.h2_ends.proofs.TakeInStep.{quiet_taken}

-- The connection may answer so, and represents the log then.
abbrev pub Tells : Values → EndLog → List ℕ → TakeAnswer → End → Type 0
Tells values end piece answer new =
    (after : Log) × MayTake end.log piece answer after × ConnRepresents values new.conn after

module _ (values : Values) (old new : End) (end : EndLog) (piece : List ℕ)
    (is : EndRepresents values old end) (role : new.role ≡ old.role)
    (streams : new.streams ≡ old.streams) (waiting : new.spans ≡ old.spans) where
  -- It fails, or reports nothing.
  pub fails_so : (code : Code) → Tells values end piece (Failed code) new
      → Hands values end piece (EndFailed code) new
  unfolding take_has_fields take_has_data take_may_close
  fails_so code told = (
    end_with_log end told.0,
    fails code told.0 told.1 refl refl,
    quiet_taken values old new end piece (Failed code) told.0 is told.1 told.2 role streams
        waiting (λ i. refl) (λ i. refl) (λ i. refl) (λ i. refl),
  )

  pub nothing_so : (count : ℕ) → Tells values end piece (Took count None) new
      → Hands values end piece (EndTook count None) new
  unfolding take_has_fields take_has_data take_may_close
  nothing_so count told = (
    end_with_log end told.0,
    hands_nothing count told.0 told.1 refl refl,
    quiet_taken values old new end piece (Took count None) told.0 is told.1 told.2 role streams
        waiting (λ i. refl) (λ i. refl) (λ i. refl) (λ i. refl),
  )

  -- It reports an event.
  pub reports_so : (count : ℕ) (event : Event)
      → (told : Tells values end piece (Took count (Some event)) new)
      → HasReported values new end piece count event told.0
  reports_so count event told =
      record {
        took = told.1;
        logged = (_, is.streams.conn.machine.came);
        streams = taken values old new end piece (Took count (Some event)) told.0 is.streams told.1
            told.2 role streams;
        kept = λ i. rw streams (taken_kept end piece (Took count (Some event)) told.0 i
            (kept old i) told.1 (is.streams.streams i));
        in_step = λ i. rw (streams, waiting) (is.in_step i);
        active = λ i. rw streams (is.active i);
      }

-- The same answer may be said in another way.
pub lent_so : (values : Values) (end : EndLog) (piece : List ℕ) (answer other : EndAnswer)
    (new : End) → other ≡ answer → Hands values end piece answer new
    → Hands values end piece other new
lent_so values end piece answer other new same hands =
    subst (λ (one : EndAnswer). Hands values end piece one new) (sym same) hands

-- As many octets were used as it says.
pub used_so : (count most other : ℕ) (handed lent : Option Handed)
    → EndTook other lent ≡ EndTook count handed → count ≤ most → other ≤ most
used_so count most other handed lent same within =
    let counted : other ≡ count = cc in rw counted within
