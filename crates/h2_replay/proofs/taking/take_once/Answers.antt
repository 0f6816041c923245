-- By the lemmas on the octets that a call of `take` has used.
use Rattle.h2_replay.proofs.Names.{◌≡◌, ap, sym, refl, subst, Some, Option, Event, Took, MayTake}
use Rattle.h2_replay.proofs.Names.{kept_event_value}
use Rattle.std.specs.Option.{option_map}
use Rattle.h2_conn.specs.Events.{lent_value}
use Rattle.h2_replay.proofs.TakingLemmas.{took_input, failed_input}
use Rattle.h2_replay.proofs.taking.take_once.Goals.{in-Some+in_ok-copy_event-in-Some, in-None}
use Rattle.h2_replay.proofs.taking.take_once.Goals as goal

pub returns-in-Ok-clause-takes : goal.returns-in-Ok-clause-takes
returns-in-Ok-clause-takes c values log represents =
    let taken = (rw c.in-Ok.is at c.take.follows.holds-at-none) values log represents in
    let piece = c.args.piece.now in
    let used = c.in-Ok.taken.used in
    let same : option_map lent_value c.in-Ok.taken.event
    ≡ option_map kept_event_value c.match-taken.event =
    elim c.match-taken.branch [
      | in-Some+in_ok-copy_event-in-Some w ↦
          rw (w.event-is, w.in-Some.is)
          (ap (λ (e : Event). Some e) (sym w.in_ok-copy_event-in-Some.ensures))
      | in-None w ↦ rw (w.event-is, w.in-None.is) refl
    ] in
    record {
      after = taken.0;
      may = subst (λ (e : Option Event). MayTake log piece (Took used e) taken.0) same taken.1;
      input = took_input log taken.0 piece used _ taken.1;
      represents = taken.2;
    }

pub returns-clause-takes : goal.returns-clause-takes
returns-clause-takes c values log represents =
    let taken = (rw c.in-Err.is at c.take.follows.holds-at-none) values log represents in
    record {
      after = taken.0;
      may = taken.1;
      input = failed_input log taken.0 c.args.piece.now c.in-Err.fault.code
          c.place-before.result c.place-after.result taken.1
          (c.place-before.ensures values log represents)
          (c.place-after.ensures values taken.0 taken.2) c.if-after.false;
      represents = taken.2;
    }
