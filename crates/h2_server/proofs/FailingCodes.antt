-- With which code a connection fails, and that the server of one that is up has not failed.
use Rattle.std.proofs.Common.{◌≡◌, ◌≢◌, ◌∙◌, ap, inr, refl, sym, subst}
use Rattle.std.proofs.lemmas.Bool.{false≢true}
use Rattle.std.specs.Prelude.{ℕ, Bool, true, false, Option, Some, None, Result, Ok, Err}
use Rattle.h2_frame.specs.declared.code.Code.{Code}
use Rattle.h2_frame.specs.declared.code.Code.TheVariants.{EnhanceYourCalm}
use Rattle.h2_spec_log.specs.declared.refusal.Refusal.{Refusal}
use Rattle.h2_spec_log.specs.Acts.{Act, Answer, Done, SendGoAway, Values, Widen}
use Rattle.h2_spec_log.specs.Log.{Log}
use Rattle.h2_spec_log.specs.LogCalls.{with_call}
use Rattle.h2_laws_log.proofs.GrowthBySteps.{HoldsOfWrites, holds_items}
use Rattle.h2_laws_log.proofs.PartsStay.{SamePart, stays_written}
use Rattle.h2_conn.specs.declared.conn.Conn.{Conn}
use Rattle.h2_conn.specs.Conn.{ConnRepresents, answer_by}
use Rattle.h2_ends.specs.Represents.{EndAnswers}
use Rattle.h2_server.specs.declared.connection.Connection.{Connection}
use Rattle.h2_server.specs.declared.connection.Phase.{Phase}
use Rattle.h2_server.specs.declared.connection.Phase.TheVariants.{Open, Ending, Failing, Over}
use Rattle.h2_server.specs.declared.deadlines.Timeout.{Timeout}
use Rattle.h2_server.specs.declared.deadlines.Timeout.TheVariants as timeouts
use Rattle.h2_server.specs.declared.floods.Flood.{Flood}
use Rattle.h2_server.specs.declared.floods.FloodCounts.{FloodCounts}
use Rattle.h2_server.specs.declared.reason.CloseReason.TheVariants as reasons
use Rattle.h2_server.specs.declared.watch.Watch.{Watch}
use Rattle.h2_server.specs.Connections.{AreCounts, IsAllSent, NotesOpen, NotesPhase}
use Rattle.h2_server.specs.Connections.{NotesPhaseFrom}
use Rattle.h2_server.specs.Deadlines.{overdue_of}
use Rattle.h2_server.specs.Exchanges.{Relations, handling_of}
use Rattle.h2_server.specs.Failing.{FailsServerWith, HasNotFailed, IsUpSo, KeepsUpSo, NotesCode}
use Rattle.h2_server.specs.Failing.{LateFailsAt, NotesCodeIn, Stopped, StopsByCode, late_code}
use Rattle.h2_server.specs.Floods.{flood_of}
use Rattle.h2_server.specs.Phases.{is_phase_down, is_phase_failing}
use Rattle.h2_server.specs.Steps.{HandlesAny}
use Rattle.h2_server.proofs.FailingPhase.{failing_down}
use Rattle.h2_server.proofs.StepsMade.{then_any}

-- Neither what is sent nor credit changes whether an end has failed.
failed_part : HoldsOfWrites (SamePart (λ log. log.failed))
failed_part =
    stays_written (λ log. log.failed) (λ log sent written payloads turns. refl)
    (λ log count. refl)

-- So GOAWAY fails none, nor does a window that is widened.
away_failed : (log : Log) → (with_call log SendGoAway Done).failed ≡ log.failed
unfolding with_call
away_failed log = holds_items (SamePart (λ log. log.failed)) failed_part log SendGoAway Done

widen_failed : (log : Log) (count : ℕ) (result : Result (Unit {0}) Refusal)
    → (with_call log (Widen count) (answer_by (λ done. Done) result)).failed ≡ log.failed
unfolding with_call
widen_failed log count (Ok done) =
    holds_items (SamePart (λ log. log.failed)) failed_part log (Widen count) Done
widen_failed log count (Err refusal) = refl

module _ {H W : Type 0} where
  -- What is down is not up.
  pub down_up_so : (old new : Connection H W) → is_phase_down new.phase ≡ true
      → KeepsUpSo old new
  down_up_so old new down values end is so up = absurd (false≢true (sym up ∙ down))

  -- A call was made by which no server fails.
  call_up_so : (old new : Connection H W) (act : Act) (answer : Answer)
      → ((log : Log) → (with_call log act answer).failed ≡ log.failed)
      → EndAnswers old.server.end act answer new.server.end
      → (is_phase_down new.phase ≡ false → is_phase_down old.phase ≡ false) → KeepsUpSo old new
  call_up_so old new act answer keeps answers phase values end is so up any log there =
      let made = answers values end is in
      sym there.machine.failed ∙ made.1.streams.conn.machine.failed ∙ keeps end.log
      ∙ so (phase up) values end.log is.streams.conn

  pub away_up_so : (old new : Connection H W)
      → EndAnswers old.server.end SendGoAway Done new.server.end
      → is_phase_down old.phase ≡ false → KeepsUpSo old new
  away_up_so old new answers phase =
      call_up_so old new SendGoAway Done away_failed answers (λ up. phase)

  pub widen_up_so : (old new : Connection H W) (count : ℕ) (result : Result (Unit {0}) Refusal)
      → EndAnswers old.server.end (Widen count) (answer_by (λ done. Done) result) new.server.end
      → new.phase ≡ old.phase → KeepsUpSo old new
  widen_up_so old new count result answers phase =
      call_up_so old new (Widen count) (answer_by (λ done. Done) result)
      (λ log. widen_failed log count result) answers
      (λ up. ap is_phase_down (sym phase) ∙ up)

  -- Only what is watched of it had changed before.
  code_watched : (phase : Phase) (old new : Connection H W) (watch : Watch)
      → NotesCodeIn phase (record old { watch = watch }) new → NotesCodeIn phase old new
  code_watched Open old new watch code = code
  code_watched (Ending why since) old new watch code = code
  code_watched (Failing reasons.Ended since) old new watch code = code
  code_watched (Failing reasons.Asked since) old new watch code = code
  code_watched (Failing (reasons.Late late) since) old new watch code = code
  code_watched (Failing (reasons.Flood flood) since) old new watch code = code
  code_watched (Failing (reasons.Refused bound) since) old new watch code = code
  code_watched (Failing reasons.Lost since) old new watch code = code
  code_watched (Failing (reasons.Failed code_of) since) old new watch code = code
  code_watched (Over why) old new watch code = code

  pub code_moved : (old mid new : Connection H W) (watch : Watch)
      → mid ≡ record old { watch = watch } → NotesCodeIn new.phase mid new
      → NotesCodeIn new.phase old new
  code_moved old mid new watch is code =
      code_watched new.phase old new watch
      (subst (λ (c : Connection H W). NotesCodeIn new.phase c new) is code)

  -- Only what is counted has changed since.
  code_more : (phase : Phase) (old new : Connection H W) (holds : ℕ) (ready : Bool)
      → NotesCodeIn phase old new
      → NotesCodeIn phase old (record new { holds = holds; ready = ready })
  code_more Open old new holds ready code = code
  code_more (Ending why since) old new holds ready code = code
  code_more (Failing reasons.Ended since) old new holds ready code = code
  code_more (Failing reasons.Asked since) old new holds ready code = code
  code_more (Failing (reasons.Late late) since) old new holds ready code = code
  code_more (Failing (reasons.Flood flood) since) old new holds ready code = code
  code_more (Failing (reasons.Refused bound) since) old new holds ready code = code
  code_more (Failing reasons.Lost since) old new holds ready code = code
  code_more (Failing (reasons.Failed code_of) since) old new holds ready code = code
  code_more (Over why) old new holds ready code = code

  pub code_counted : (one two three : Connection H W)
      → three ≡ record two { holds = three.holds; ready = three.ready } → NotesCode one two
      → NotesCode one three
  code_counted one two three counted code =
      subst (λ (c : Connection H W). NotesCode one c) (sym counted)
      (λ up. code_more two.phase one two three.holds three.ready (code up))

  pub up_counted : (two three : Connection H W)
      → three ≡ record two { holds = three.holds; ready = three.ready } → IsUpSo two
      → IsUpSo three
  up_counted two three counted up =
      subst (λ (c : Connection H W). IsUpSo c) (sym counted) up

module _ {H W : Type 0} where
  -- Only what is watched of it had changed, where all was sent.
  pub sent_watched : (old : Connection H W) (watch : Watch)
      → IsAllSent (record old { watch = watch }) → IsAllSent old
  sent_watched old watch sent = record {
    written = sent.written;
    used = sent.used;
    nothing = sent.nothing;
    answered = sent.answered;
  }

  -- Where nothing is a flood, one that is open is closed once all was sent.
  pub notes_sent : (old : Connection H W) (new : Phase) (counts : FloodCounts)
      (flood : Option Flood) → old.phase ≡ Open → HasNotFailed old
      → AreCounts old.server.end.conn old.exchanges.totals.refused counts
      → flood ≡ flood_of old.watch.budget.before counts old.watch.limits.floods → flood ≡ None
      → new ≡ Over reasons.Ended → old.readiness.ended ≡ true → IsAllSent old
      → NotesPhase old new
  notes_sent old new counts flood was up are is none over ended sent =
      subst (λ (p : Phase). NotesPhaseFrom p old new) (sym was) (inr (
        up,
        (
          counts,
          are,
          subst (λ (f : Option Flood). NotesOpen f old new) (sym none ∙ is)
              (inr (over, ended, sent)),
        ),
      ))

-- The code for what has taken too long.
pub late_other : (late : Timeout) → late ≢ timeouts.Opening → EnhanceYourCalm ≡ late_code late
late_other timeouts.Opening other = absurd (other refl)
late_other timeouts.Frame other = refl
late_other timeouts.Body other = refl
late_other timeouts.Writing other = refl
late_other timeouts.Answering other = refl
late_other timeouts.Idle other = refl

module _ {H W : Type 0} where
  -- It is overdue, and its code is that with which the server was failed.
  pub late_with : (late : Timeout) (code : Code) (time : ℕ) (old new : Connection H W)
      → overdue_of old.watch.deadlines old.watch.limits.times time ≡ Some late
      → code ≡ late_code late → FailsServerWith code old new → LateFailsAt time old new
  late_with late code time old new found is fails was other idle same =
      let one : Some late ≡ Some other = sym found ∙ same in
      let it : late ≡ other = cc in
      subst (λ (c : Code). FailsServerWith c old new) (is ∙ ap late_code it) fails

  -- A server was asked, and has not failed.
  pub none_failed : (old : Connection H W) (conn : Conn) (failed : Option Code)
      → ((values : Values) (log : Log) → ConnRepresents values conn log → failed ≡ log.failed)
      → conn ≡ old.server.end.conn → failed ≡ None → HasNotFailed old
  none_failed old conn failed says is none values log there =
      sym (says values log
      (subst (λ (c : Conn). ConnRepresents values c log) (sym is) there)) ∙ none

-- What is up fails for nothing.
pub up_code : {H W : Type 0} (phase : Phase) (old new : Connection H W)
    → is_phase_down phase ≡ false → NotesCodeIn phase old new
up_code Open old new up = tt
up_code (Ending why since) old new up = tt
up_code (Failing why since) old new up = absurd (cc)
up_code (Over why) old new up = tt

module _ {H W : Type 0} {rel : Relations H W} where
  -- One that was down, or is up or closed, was not stopped.
  pub was_down : (old new : Connection H W) → is_phase_down old.phase ≡ true
      → Stopped rel old new
  was_down old new down up failing = absurd (false≢true (sym up ∙ down))

  pub not_failing : (old new : Connection H W) → is_phase_failing new.phase ≡ false
      → Stopped rel old new
  not_failing old new is up failing = absurd (false≢true (sym is ∙ failing))

  pub goes_on : (old new : Connection H W) → is_phase_down new.phase ≡ false
      → Stopped rel old new
  goes_on old new is up failing = absurd (false≢true (sym is ∙ failing_down new.phase failing))

  -- It was, in a state to which steps of its server with its handler have led,
  pub stopped_at : (old mid new : Connection H W)
      → HandlesAny rel old.server.end (handling_of old.exchanges) mid.server.end
      (handling_of mid.exchanges) → StopsByCode mid new → Stopped rel old new
  stopped_at old mid new handles stops up failing =
      record { mid = mid; handles = handles; stops = stops }

  -- or by what came after such steps.
  pub stopped_after : (old mid new : Connection H W)
      → HandlesAny rel old.server.end (handling_of old.exchanges) mid.server.end
      (handling_of mid.exchanges) → mid.phase ≡ old.phase → Stopped rel mid new
      → Stopped rel old new
  stopped_after old mid new handles phase stops up failing =
      let at = stops (ap is_phase_down phase ∙ up) failing in record {
        mid = at.mid;
        handles = then_any handles at.handles;
        stops = at.stops;
      }
