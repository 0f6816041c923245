-- What holds of a connection still once only what is counted or watched of it has changed, and what
-- became of its GOAWAY.
use Rattle.std.proofs.Common.{◌≡◌, sym, subst, ap}
use Rattle.std.specs.Prelude.{ℕ, List, Bool, true, false, if◌then◌else◌, Result, Ok, Err}
use Rattle.std.specs.Prelude.{is_err, is_ok}
use Rattle.h2_spec_log.specs.declared.refusal.Refusal.{Refusal}
use Rattle.h2_spec_log.specs.Acts.{Done, SendGoAway, Widen}
use Rattle.h2_spec_log.specs.Acts as log
use Rattle.h2_conn.specs.Conn.{answer_by}
use Rattle.h2_ends.specs.declared.end.End.{End}
use Rattle.h2_ends.specs.Represents.{EndAnswers}
use Rattle.h2_server.specs.declared.connection.Connection.{Connection}
use Rattle.h2_server.specs.declared.connection.Phase.{Phase}
use Rattle.h2_server.specs.declared.reason.CloseReason.{CloseReason}
use Rattle.h2_server.specs.declared.watch.Watch.{Watch}
use Rattle.h2_server.specs.Connections.{ConnectionWidens, GoesAway, KeepsTold, MakesOwn}
use Rattle.h2_server.specs.Connections.{NotesEnding, NotesFailing, moved_of}
use Rattle.h2_server.specs.Exchanges.{Relations}
use Rattle.h2_server.proofs.FailingCodes.{widen_up_so}

module _ {H W : Type 0} where
  -- Only what is counted has changed since.
  pub told_counted : (one two three : Connection H W)
      → three ≡ record two { holds = three.holds; ready = three.ready } → KeepsTold one two
      → KeepsTold one three
  told_counted one two three counted told =
      subst (λ (c : Connection H W). KeepsTold one c) (sym counted) told

  pub counted_away : (one two three : Connection H W)
      → three ≡ record two { holds = three.holds; ready = three.ready } → GoesAway one two
      → GoesAway one three
  counted_away one two three counted away =
      subst (λ (c : Connection H W). GoesAway one c) (sym counted) away

  -- Only what is watched of it had changed before.
  pub own_watched : {rel : Relations H W} {gone : List ℕ} (old mid new : Connection H W)
      (watch : Watch) → mid ≡ record old { watch = watch } → MakesOwn rel gone mid new
      → MakesOwn rel gone old new
  own_watched {rel} {gone} old mid new watch is makes values end represents =
      let a = (subst (λ (c : Connection H W). MakesOwn rel gone c new) is makes) values end
      represents in record {
        kept = a.kept;
        loses = a.loses;
        closed = a.closed;
        after = a.after;
        steps = a.steps;
        represents = a.represents;
        failing = a.failing;
      }

  -- Only what is watched of it has changed since.
  pub own_watched_after : {rel : Relations H W} {gone : List ℕ} (old mid : Connection H W)
      (watch : Watch) → MakesOwn rel gone old mid
      → MakesOwn rel gone old (record mid { watch = watch })
  own_watched_after old mid watch makes values end represents =
      let a = makes values end represents in record {
        kept = a.kept;
        loses = a.loses;
        closed = a.closed;
        after = a.after;
        steps = a.steps;
        represents = a.represents;
        failing = a.failing;
      }

  -- What has moved of bodies is no part of where it is once it shuts down, or has failed.
  notes_moved : (old : Connection H W) (moved : Bool) (why : CloseReason) (since : ℕ)
      (new : Phase) → NotesEnding (record old {
        watch = if moved then record old.watch { moved = moved_of old } else old.watch;
      }) why since new → NotesEnding old why since new
  notes_moved old true why since new notes = notes
  notes_moved old false why since new notes = notes

  pub notes_ending : (old mid : Connection H W) (moved : Bool) (why : CloseReason)
      (since from : ℕ) (new : Phase) → mid ≡ record old {
        watch = if moved then record old.watch { moved = moved_of old } else old.watch;
      } → from ≡ since → NotesEnding mid why from new → NotesEnding old why since new
  notes_ending old mid moved why since from new is same notes =
      notes_moved old moved why since new
      (subst (λ (c : Connection H W). NotesEnding c why since new) is
      (subst (λ (n : ℕ). NotesEnding mid why n new) same notes))

  pub notes_failing : (old mid : Connection H W) (watch : Watch) (why : CloseReason)
      (since from : ℕ) (new : Phase) → mid ≡ record old { watch = watch } → from ≡ since
      → NotesFailing mid why from new → NotesFailing old why since new
  notes_failing old mid watch why since from new is same notes =
      subst (λ (c : Connection H W). NotesFailing c why since new) is
      (subst (λ (n : ℕ). NotesFailing mid why n new) same notes)

-- GOAWAY was queued, or refused.
pub away_done : {one two : End} (result : Result (Unit {0}) Refusal) → is_err result ≡ false
    → EndAnswers one SendGoAway (answer_by (λ done. Done) result) two
    → EndAnswers one SendGoAway Done two
away_done (Ok done) none answers = answers
away_done (Err refusal) none answers = absurd (cc)

pub away_refused : {one two : End} (result : Result (Unit {0}) Refusal) → is_err result ≡ true
    → EndAnswers one SendGoAway (answer_by (λ done. Done) result) two
    → (refusal : Refusal) × EndAnswers one SendGoAway (log.Refused refusal) two
away_refused (Ok done) some answers = absurd (cc)
away_refused (Err refusal) some answers = (refusal, answers)

-- The window was widened, and then only what is counted has changed.
pub widened : {H W : Type 0} (old mid new : Connection H W) (count : ℕ)
    (result : Result (Unit {0}) Refusal) (done : Bool)
    → EndAnswers old.server.end (Widen count) (answer_by (λ done. Done) result) mid.server.end
    → done ≡ is_ok result → mid ≡ record old { server = mid.server }
    → new ≡ record mid { holds = new.holds; ready = new.ready }
    → ConnectionWidens old count done new
widened {H} {W} old mid new count result done answers is same counted =
    subst (λ (c : Connection H W). ConnectionWidens old count done c) (sym counted) (record {
      result = result;
      answers = answers;
      is_done = is;
      up = widen_up_so old (record mid { holds = new.holds; ready = new.ready }) count result
          answers (ap (λ (c : Connection H W). c.phase) same);
      rest = ap (λ (c : Connection H W). record c { holds = new.holds; ready = new.ready }) same;
    })
