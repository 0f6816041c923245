-- What is known of a connection after a turn, and after a write.
use Rattle.std.proofs.Common.{◌≡◌, ◌∙◌, ap, refl, sym, inl, inr, arith, append_assoc}
use Rattle.std.proofs.Common.{is_some}
use Rattle.std.proofs.lemmas.Bool.{cases_Bool, false≢true}
use Rattle.std.proofs.lemmas.List.{drop-drop, length-drop, take-append-drop, take_min}
use Rattle.std.specs.Prelude.{ℕ, Bool, true, false, List, [], ◌++◌, ◌+◌, length, min, take, drop}
use Rattle.std.specs.Prelude.{not}
use Rattle.std.specs.Prelude.{◌&&◌, ◌≤◌}
use Rattle.std.specs.Prelude.{Result, Ok, Err, IsOk, OnOk, is_err, if◌then◌else◌}
use Rattle.h2_spec_log.specs.declared.refusal.Refusal.{Refusal}
use Rattle.h2_spec_log.specs.Acts.{Values, PutOut, Count}
use Rattle.h2_spec_log.specs.CallRules.{returns_before_put_out}
use Rattle.h2_spec_log.specs.Log.{Log, output, waiting}
use Rattle.h2_spec_log.specs.LogCalls.{before_put_out, called, with_call}
use Rattle.h2_spec_log.specs.LogSteps.{with_credit_returned}
use Rattle.h2_spec_log.specs.LogView.{log_view}
use Rattle.h2_conn.specs.Conn.{ConnRepresents, answer_by, octets_queued}
use Rattle.h2_ends.specs.declared.end.End.{End}
use Rattle.h2_ends.specs.Ends.{EndLog}
use Rattle.h2_ends.specs.Represents.{EndAnswers, EndRepresents}
use Rattle.h2_server.specs.declared.connection.Connection.{Connection}
use Rattle.h2_server.specs.declared.connection.Phase.{Phase}
use Rattle.h2_server.specs.declared.connection.Phase.TheVariants.{Open, Ending, Failing, Over}
use Rattle.h2_server.specs.declared.watch.Watch.{Watch}
use Rattle.h2_server.specs.Connections.{FailsSo, IsSameOrRefused, MakesOwn, NotesPhase}
use Rattle.h2_server.specs.Connections.{NotesPhaseFrom, input_kept}
use Rattle.h2_server.specs.Credit.{HandlesCredit}
use Rattle.h2_server.specs.Exchanges.{Relations, handling_of}
use Rattle.h2_server.specs.Phases.{is_phase_down, is_phase_over}
use Rattle.h2_server.specs.Steps.{Handles}
use Rattle.h2_server.specs.Turns.{KeepsDown, KeepsUp, Turns, Wrote, WroteUp}
use Rattle.h2_server.proofs.ConnectionSteps.{made_then}
use Rattle.h2_server.proofs.GoneOutput.{as_many}
use Rattle.h2_server.proofs.StepsMade.{steps_then}

-- What is down is not up.
pub not_up : {A : Type 0} {down : Bool} → down ≡ true → down ≡ false → A
not_up is off = absurd (false≢true (sym off ∙ is))

-- One that has failed or is closed stays so.
pub stays_down : {H W : Type 0} (phase : Phase) (old : Connection H W) (new : Phase)
    → is_phase_down phase ≡ true → NotesPhaseFrom phase old new → is_phase_down new ≡ true
stays_down Open old new down notes = absurd (cc)
stays_down (Ending why since) old new down notes = absurd (cc)
stays_down (Failing why since) old new down (inl (drained, is)) = ap is_phase_down is
stays_down (Failing why since) old new down (inr (drained, is)) = ap is_phase_down is
stays_down (Over why) old new down is = ap is_phase_down is

pub stays_over : {H W : Type 0} (phase : Phase) (old : Connection H W) (new : Phase)
    → is_phase_over phase ≡ true → NotesPhaseFrom phase old new → is_phase_over new ≡ true
stays_over Open old new over notes = absurd (cc)
stays_over (Ending why since) old new over notes = absurd (cc)
stays_over (Failing why since) old new over notes = absurd (cc)
stays_over (Over why) old new over is = ap is_phase_over is

refused_down : (phase new : Phase) → is_phase_down phase ≡ true → IsSameOrRefused phase new
    → is_phase_down new ≡ true
refused_down Open new down is = absurd (cc)
refused_down (Ending why since) new down is = absurd (cc)
refused_down (Failing why since) new down (inl same) = ap is_phase_down same
refused_down (Failing why since) new down (inr refused) = ap is_phase_down refused
refused_down (Over why) new down is = ap is_phase_down is

pub was_up : {H W : Type 0} (old : Connection H W) (new : Phase)
    → NotesPhaseFrom old.phase old new → is_phase_down new ≡ false
    → is_phase_down old.phase ≡ false
was_up old new notes up = elim (cases_Bool (is_phase_down old.phase)) [
  | inl down ↦ not_up (stays_down old.phase old new down notes) up
  | inr so ↦ so
]

-- A call that was not refused was done.
done_of : {two one : End} (result : Result (Unit {0}) Refusal) → is_err result ≡ false
    → EndAnswers one (PutOut 0) (answer_by (λ done. Count 0) result) two
    → EndAnswers one (PutOut 0) (Count 0) two
done_of (Ok done) some answers = answers
done_of (Err refusal) some answers = absurd (cc)

of_done : {P : Type 0} (result : Result (Unit {0}) Refusal) → is_err result ≡ false → OnOk result P
    → P
of_done (Ok done) some p = p
of_done (Err refusal) some p = absurd (cc)

-- What was removed of the output was given out by one call.
counted_of : {one two : End} (asked : ℕ) (result : Result ℕ Refusal) → is_err result ≡ false
    → EndAnswers one (PutOut asked) (answer_by (λ given. Count given) result) two
    → (given : ℕ) × EndAnswers one (PutOut asked) (Count given) two
counted_of asked (Ok given) some answers = (given, answers)
counted_of asked (Err refusal) some answers = absurd (cc)

pub removed_up : {H W : Type 0} (count gone waits : ℕ) (old new : Connection H W)
    (result : Result ℕ Refusal) → is_err result ≡ false
    → EndAnswers old.server.end (PutOut gone) (answer_by (λ given. Count given) result)
    new.server.end
    → waits ≡ length (octets_queued old.server.end.conn) → gone ≡ min count waits
    → new.exchanges ≡ old.exchanges → input_kept new ≡ input_kept old → WroteUp count old new
removed_up count gone waits old new result some answers queued least exchanges input up =
    let asked = least ∙ ap (min count) queued in (
      counted_of _ result some (rw asked at answers),
      (exchanges, input),
    )

-- So it is once that was noted.
pub noted_up : {H W : Type 0} (count : ℕ) (old mid new : Connection H W) → WroteUp count old mid
    → KeepsUp mid new → NotesPhaseFrom mid.phase mid new.phase → WroteUp count old new
noted_up count old mid new wrote keeps notes up =
    let was = wrote (was_up mid new.phase notes up) in
    let kept = keeps up in (
      (was.0.0, rw kept.0 was.0.1),
      (kept.1.0 ∙ was.1.0, kept.1.1 ∙ was.1.1),
    )

module _ {H W : Type 0} {rel : Relations H W} where
  -- Of one that is down nothing is to be shown.
  pub turns_down : (old new : Connection H W) → is_phase_down new.phase ≡ true
      → Turns rel old new
  turns_down old new down up = not_up down up

  -- Steps were made by which credit was returned, where that is due, and then the output was made
  -- ready.
  module _ (old new : Connection H W) (mid : End)
      (handles : Handles rel [] old.server.end (handling_of old.exchanges) mid
      (handling_of new.exchanges))
      (credit : new.readiness.reads ≡ false → HandlesCredit rel old.server.end
      (handling_of old.exchanges) mid (handling_of new.exchanges))
      (result : Result (Unit {0}) Refusal) (some : is_err result ≡ false)
      (answers : EndAnswers mid (PutOut 0) (answer_by (λ done. Count 0) result) new.server.end)
      (returned : OnOk result ((values : Values) (log : Log)
      → ConnRepresents values new.server.end.conn log
      → returns_before_put_out (log_view log) ≡ false))
      (kept : input_kept new ≡ input_kept old) where
    pub turns_ready : Turns rel old new
    turns_ready up values end is = elim (cases_Bool new.readiness.reads) [
      | inl reads ↦
          let made = handles values end is in
          let answered = done_of result some answers values made.0 made.2 in
          record {
            used = [];
            order = sym kept;
            before = made.0;
            steps = made.1;
            credit = λ none. not_up reads none;
            may = answered.0;
            represents = answered.1;
            ready = of_done result some returned values _ answered.1.streams.conn;
          }
      | inr none ↦
          let made = credit none values end is in
          let answered = done_of result some answers values made.0 made.2 in
          record {
            used = [];
            order = sym kept;
            before = made.0;
            steps = made.1;
            credit = λ same. made.3;
            may = answered.0;
            represents = answered.1;
            ready = of_done result some returned values _ answered.1.streams.conn;
          }
    ]

  -- First octets of those that were kept were used before.
  pub turns_after : (old mid new : Connection H W) (used : List ℕ)
      → Handles rel used old.server.end (handling_of old.exchanges) mid.server.end
      (handling_of mid.exchanges) → input_kept old ≡ used ++ input_kept mid
      → Turns rel mid new → Turns rel old new
  turns_after old mid new used handles split turns up values end is =
      let made = handles values end is in
      let so = turns up values made.0 made.2 in record {
        used = used ++ so.used;
        order = split ∙ ap (λ (rest : List ℕ). used ++ rest) so.order
            ∙ sym (append_assoc used so.used (input_kept new));
        before = so.before;
        steps = steps_then made.1 so.steps;
        credit = so.credit;
        may = so.may;
        represents = so.represents;
        ready = so.ready;
      }

  -- What follows from a call keeps that.
  pub turns_noted : (old mid new : Connection H W) → Turns rel old mid
      → (is_phase_down new.phase ≡ false → is_phase_down mid.phase ≡ false) → KeepsUp mid new
      → new.readiness ≡ mid.readiness → Turns rel old new
  turns_noted old mid new turns stays keeps readiness up values end is =
      let so = turns (stays up) values end is in
      let same = keeps up in record {
        used = so.used;
        order = rw same.1.1 so.order;
        before = so.before;
        steps = rw same.1.0 so.steps;
        credit = rw (same.1.0, readiness) so.credit;
        may = so.may;
        represents = rw same.0 so.represents;
        ready = so.ready;
      }

-- Where no credit is returned first, nothing is written by a call that puts output out.
same_by : (log : Log) (returns : Bool) → returns ≡ false
    → (if returns then with_credit_returned log else log).written ≡ log.written
same_by log true off = absurd (cc)
same_by log false off = refl

left_after : (log : Log) (count given : ℕ) → returns_before_put_out (log_view log) ≡ false
    → drop (log.given + given) (with_call log (PutOut count) (Count given)).written
    ≡ drop given (drop log.given log.written)
unfolding with_call before_put_out waiting output
left_after log count given ready =
    ap (λ (all : List ℕ). drop (log.given + given) all)
    (same_by (called log (PutOut count) (Count given)) (returns_before_put_out (log_view log))
    ready)
    ∙ sym (drop-drop given log.given log.written)

-- A server that has failed returns none.
failed_by : (failed rest : Bool) → failed ≡ true → (not failed && rest) ≡ false
failed_by true rest is = refl
failed_by false rest is = absurd (cc)

failed_ready : (log : Log) → is_some log.failed ≡ true
    → returns_before_put_out (log_view log) ≡ false
failed_ready log failed = failed_by (is_some log.failed) _ failed

-- Of one that is down, and not closed, the server has failed.
down_failed : (phase : Phase) (end : EndLog) → is_phase_over phase ≡ false
    → is_phase_down phase ≡ true → FailsSo phase end → is_some end.log.failed ≡ true
down_failed Open end over down fails = absurd (cc)
down_failed (Ending why since) end over down fails = absurd (cc)
down_failed (Failing why since) end over down fails = fails refl
down_failed (Over why) end over down fails = absurd (cc)

-- What waited, once so many octets were put out, and no credit was returned before: those, and what
-- waits now.
queue_split : (one two : End) (count gone waits : ℕ) (result : Result ℕ Refusal)
    → is_err result ≡ false
    → EndAnswers one (PutOut gone) (answer_by (λ given. Count given) result) two
    → waits ≡ length (octets_queued one.conn) → gone ≡ min count waits
    → (values : Values) (end : EndLog) → EndRepresents values one end
    → returns_before_put_out (log_view end.log) ≡ false
    → octets_queued one.conn ≡ take count (octets_queued one.conn) ++ octets_queued two.conn
unfolding waiting output with_call
queue_split one two count gone waits (Err refusal) some answers size is values end rep ready =
    absurd (cc)
queue_split one two count gone waits (Ok given) some answers size is values end rep ready =
    let queue = octets_queued one.conn in
    let log = end.log in
    let (may, after) = answers values end rep in
    let first : queue ≡ drop log.given log.written =
    rep.streams.conn.machine.output.waiting in
    let least : gone ≡ min count (length queue) = is ∙ ap (λ (n : ℕ). min count n) size in
    let few : gone ≤ waiting log =
    omega (
      arith,
      least,
      ap (λ (o : List ℕ). length o) first,
      length-drop log.given log.written,
    ) in
    let many : given ≡ gone = as_many may few in
    let left : octets_queued two.conn ≡ drop (log.given + given)
    (with_call log (PutOut gone) (Count given)).written =
    after.streams.conn.machine.output.waiting in
    let rest : octets_queued two.conn ≡ drop gone queue =
    left ∙ left_after log gone given ready
    ∙ ap (λ (n : ℕ). drop n (drop log.given log.written)) many
    ∙ ap (λ (o : List ℕ). drop gone o) (sym first) in
    sym (take-append-drop gone queue)
    ∙ ap (λ (some : List ℕ). some ++ drop gone queue)
    (ap (λ (n : ℕ). take n queue) least ∙ take_min count queue)
    ∙ ap (λ (o : List ℕ). take count queue ++ o) (sym rest)

-- A call that is done is not refused.
pub never_err : {A P : Type 0} (result : Result A Refusal) → is_err result ≡ true → IsOk result → P
never_err (Ok value) is ok = absurd (cc)
never_err (Err refusal) is ok = absurd (false≢true ok)

module _ {H W : Type 0} {rel : Relations H W} where
  -- Nothing was removed of one that is closed;
  pub wrote_none : (count : ℕ) (old : Connection H W) → is_phase_over old.phase ≡ true
      → MakesOwn rel [] old old → Wrote rel count old old
  wrote_none count old over makes values end is = record {
    gone = [];
    made = makes values end is;
    all = λ up ready. absurd (false≢true (sym up ∙ over));
    split = λ down fails. refl;
  }

  -- nor where that was refused, since credit was returned first;
  pub wrote_refused : (count gone : ℕ) (old new : Connection H W) (result : Result ℕ Refusal)
      → is_phase_over old.phase ≡ false → is_err result ≡ true
      → ((values : Values) (log : Log) → ConnRepresents values old.server.end.conn log
      → returns_before_put_out (log_view log) ≡ false → IsOk result)
      → MakesOwn rel [] old new → Wrote rel count old new
  wrote_refused count gone old new result over refused room makes values end is = record {
    gone = [];
    made = makes values end is;
    all = λ up ready. never_err result refused (room values end.log is.streams.conn ready);
    split = λ down fails. never_err result refused (room values end.log is.streams.conn
        (failed_ready end.log (down_failed old.phase end over down fails)));
  }

  -- else as many were as could be.
  pub wrote_some : (count gone waits : ℕ) (old new : Connection H W) (result : Result ℕ Refusal)
      → is_phase_over old.phase ≡ false → is_err result ≡ false
      → EndAnswers old.server.end (PutOut gone) (answer_by (λ given. Count given) result)
      new.server.end
      → waits ≡ length (octets_queued old.server.end.conn) → gone ≡ min count waits
      → MakesOwn rel (take count (octets_queued old.server.end.conn)) old new
      → Wrote rel count old new
  wrote_some count gone waits old new result over done answers size is makes values end rep =
      record {
        gone = take count (octets_queued old.server.end.conn);
        made = makes values end rep;
        all = λ up ready. refl;
        split = λ down fails. queue_split old.server.end new.server.end count gone waits result done
            answers size is values end rep
            (failed_ready end.log (down_failed old.phase end over down fails));
      }

  -- Only what is watched of it has changed since.
  pub wrote_watched : (count : ℕ) (old mid : Connection H W) (watch : Watch)
      → Wrote rel count old mid → Wrote rel count old (record mid { watch = watch })
  wrote_watched count old mid watch wrote values end is =
      let a = wrote values end is in record {
        gone = a.gone;
        made = record {
          kept = a.made.kept;
          loses = a.made.loses;
          closed = a.made.closed;
          after = a.made.after;
          steps = a.made.steps;
          represents = a.made.represents;
          failing = a.made.failing;
        };
        all = a.all;
        split = a.split;
      }

  -- What follows from a call keeps the server of one that is down.
  pub wrote_noted : (count : ℕ) (old mid new : Connection H W) → Wrote rel count old mid
      → MakesOwn rel [] mid new → NotesPhase mid new.phase → KeepsDown mid new
      → IsSameOrRefused old.phase mid.phase → Wrote rel count old new
  wrote_noted count old mid new wrote notes noted keeps phase values end is =
      let a = wrote values end is in record {
        gone = a.gone;
        made = made_then old mid new a.made notes
            (λ over. stays_over mid.phase mid new.phase over noted)
            (λ down. stays_down mid.phase mid new.phase down noted);
        all = a.all;
        split = λ down fails. rw (keeps (refused_down old.phase mid.phase down phase))
            (a.split down fails);
      }
