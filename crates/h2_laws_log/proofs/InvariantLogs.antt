-- The invariant of every log that comes about.
use Rattle.h2_laws_log.proofs.Names
use Names.{list_any, both_ways, InternalError, Role, total, increment_on, one_answer, is_goaway}
use Names.{settings_count, one_ack, UnprocessedEvent, flow_on, reported_total, one_acked, one_pong}
use Names.{Values, AreInRange, Act, Answer, IsTypedAct, Open, SendFields, SendData, Release}
use Names.{ResetStream, Refuse, SendPing, SendGoAway, Fail, PutOut, ChangeSettings, Widen, Log}
use Names.{released, widened}
use Names.{last_processed, least_goaway, next_unprocessed, with_sent, with_reported, owed_at_close}
use Names.{took_none, used, opened, with_call, MayAnswer, accepts, refuses, lacks, fails}
use Names.{refusal_of, answer_of, log_view, IsLog, AllowedHistory, starts, sum_below, ◌≡◌, ◌≢◌, ℕ}
use Names.{zero, suc, zero-add, ◌-◌, ◌≤◌, Bool, true, false, if◌then◌else◌, List, [], ◌∷◌, None}
use Names.{refl, sym, arith, wire_fault_code, begins, took_some, took_one, met_fault}
use Names.{ran_out_of_memory, reported_one, called_one}
use Rattle.h2_laws_log.proofs.FitItems.{completed_fit, stream_low}
use Rattle.h2_laws_log.proofs.InvariantCalls.{refused_represents, reset_represents}
use Rattle.h2_laws_log.proofs.InvariantCalls.{refuse_represents, end_represents}
use Rattle.h2_laws_log.proofs.InvariantCalls.{failed_represents, ping_represents}
use Rattle.h2_laws_log.proofs.InvariantCalls.{leave_represents, change_represents}
use Rattle.h2_laws_log.proofs.InvariantCalls.{put_out_represents, widen_represents}
use Rattle.h2_laws_log.proofs.InvariantReads.{frame_represents}
use Rattle.h2_laws_log.proofs.InvariantSends.{open_represents, fields_represent, data_represents}
use Rattle.h2_laws_log.proofs.InvariantSteps.{fails_represents, last_low, step_log}
use Rattle.h2_laws_log.proofs.LogHistory.{History, history_of, left, owes, used_view, sum_less}
use Rattle.h2_laws_log.proofs.LogInvariant.{Represents, NumbersFit, Moves}
use Rattle.h2_laws_log.proofs.ProcessedStreams.{numbers_fit}
use Rattle.h2_laws_log.proofs.ReleasedCredit.{release_represents}
use Rattle.h2_laws_log.proofs.StreamNumbers.{next_left}

-- To report a stream as unprocessed is sound, where a GOAWAY was read.
unprocessed_moves : (v : History) (n : ℕ) → AllowedHistory v.role v.received v.sent
    → list_any is_goaway v.received ≡ true → Moves v n [] [] (UnprocessedEvent n ∷ []) v.calls 0
unfolding total reported_total settings_count one_acked one_pong flow_on
unprocessed_moves v n with_sent left = record {
  with_sent = with_sent;
  returned = refl;
  answered = refl;
  acked = omega arith;
  ponged = omega arith;
  named = λ j some. left;
  gave = λ j some. omega arith;
  reported_read = λ j. omega arith;
  reported_open = λ j some. absurd (some refl);
  elsewhere = λ j other. refl;
  kept = λ j. omega arith;
  wider = omega arith;
  wide = λ before. before;
  out = omega arith;
  out_active = λ some. absurd (some (omega arith));
  fits = omega arith;
}

-- The invariant holds after a stream that was reported as unprocessed.
unprocessed_represents : (role : Role) (log : Log) → Represents role (history_of log)
    → log.failed ≡ None → next_unprocessed log ≢ 0
    → Represents role (history_of (took_none log))
unfolding with_sent
unprocessed_represents role log represents up some =
    step_log role log log (next_unprocessed log) [] [] (UnprocessedEvent
    (next_unprocessed log) ∷ []) log.calls 0
    (owed_at_close log (with_reported log (UnprocessedEvent (next_unprocessed log) ∷ []))
    (next_unprocessed log)) represents up refl
    (unprocessed_moves (history_of log) (next_unprocessed log) represents.with_sent
    (next_left log represents.with_sent some)) (sym (zero-add _))

-- The invariant holds after a call that is accepted.
accepted_represents : (role : Role) (log : Log) (act : Act) (answer : Answer)
    → Represents role (history_of log) → (log.failed ≡ None → NumbersFit (history_of log))
    → IsTypedAct act
    → refusal_of (log_view log) act ≡ None → answer ≡ answer_of (log_view log) act
    → Represents role (history_of (with_call log act answer))
unfolding IsTypedAct
accepted_represents role log (Open fields end) answer represents fit typed none is = rw is
    (open_represents role log fields end represents none)
accepted_represents role log (SendFields id fields end) answer represents fit typed none is = rw is
    (fields_represent role log id fields end represents none)
accepted_represents role log (SendData id octets end) answer represents fit typed none is = rw is
    (data_represents role log id octets end represents none)
accepted_represents role log (Release id count) answer represents fit typed none is = rw is
    (release_represents role log id count represents none)
accepted_represents role log (ResetStream id code) answer represents fit typed none is = rw is
    (reset_represents role log id code represents none)
accepted_represents role log (Refuse id code) answer represents fit typed none is =
    refuse_represents role log id code answer represents fit none is
accepted_represents role log (SendPing octets) answer represents fit typed none is = rw is
    (ping_represents role log octets represents none)
accepted_represents role log SendGoAway answer represents fit typed none is = rw is
    (leave_represents role log represents fit none)
accepted_represents role log (Fail code) answer represents fit typed none is =
    end_represents role log code answer represents fit none is
accepted_represents role log (PutOut count) answer represents fit typed none is = rw is
    (put_out_represents role log count _ represents)
accepted_represents role log (ChangeSettings values) answer represents fit typed none is = rw is
    (change_represents role log values represents typed none)
accepted_represents role log (Widen count) answer represents fit typed none is = rw is
    (widen_represents role log count represents none)

-- The invariant holds after a call.
call_represents : (role : Role) (log : Log) (act : Act) (answer : Answer)
    → Represents role (history_of log) → (log.failed ≡ None → NumbersFit (history_of log))
    → IsTypedAct act → MayAnswer log act answer
    → Represents role (history_of (with_call log act answer))
call_represents role log act answer represents fit typed
    (accepts none is) = accepted_represents role log act answer represents fit typed none is
call_represents role log act answer represents fit typed (refuses refusal for is) = rw is
    (refused_represents role log act refusal represents)
call_represents role log act answer represents fit typed (fails none may is) = rw is
    (failed_represents role log act may represents fit none)
call_represents role log act answer represents fit typed (lacks none may is) = rw is
    (refused_represents role log act _ represents)

-- nothing of nothing
none_owed : (n : ℕ) → sum_below n (λ j. 0) ≡ 0
unfolding sum_below
none_owed zero = refl
none_owed (suc n) = omega (arith, none_owed n)

-- a choice of nothing
none_of : (b : Bool) → (if b then 0 - 0 else 0) ≤ 0
none_of true = omega arith
none_of false = omega arith

-- nothing is owed at first
first_owes : (role : Role) (values : Values) (j : ℕ) → owes (history_of (opened role values)) j ≤ 0
unfolding opened with_sent owes left reported_total released
first_owes role values j = none_of _

-- The invariant of a new log.
begins_represents : (role : Role) (values : Values) → AreInRange values
    → Represents role (history_of (opened role values))
unfolding opened with_sent total settings_count reported_total released widened one_ack one_answer
    increment_on
begins_represents role values ok = record {
  own = refl;
  with_sent = starts values ok;
  good = λ up. record {
    returned = refl;
    answered = refl;
    acked = omega arith;
    ponged = omega arith;
    named = λ i some. absurd (both_ways false refl some);
    gave = λ i some. omega arith;
    reported_read = λ i. omega arith;
    opened = λ i none. refl;
    whole = λ n. omega (
      arith,
      sum_less n (λ j. 0) (owes (history_of (opened role values)))
          (λ j below. first_owes role values j),
      none_owed n,
    );
    wide = omega arith;
  };
}

-- octets that were used fail nothing
used_up : (log : Log) (octets unparsed : List ℕ) → log.failed ≡ None
    → (used log octets unparsed).failed ≡ None
unfolding used
used_up log octets unparsed up = up

-- They change nothing of what GOAWAY names.
used_low : (log : Log) (octets : List ℕ) → NumbersFit (history_of log)
    → last_processed log ≤ least_goaway (used log octets []).sent
unfolding used
used_low log octets fit = last_low log fit

-- The invariant of every log.
pub log_represents : (role : Role) (values : Values) (log : Log) → IsLog role values log
    → Represents role (history_of log)
log_represents role values _ (begins in_range) = begins_represents role values in_range
log_represents role values _ (took_some {log = log} is takes octets unparsed read) =
    rw (used_view log octets unparsed) (log_represents role values log is)
log_represents role values _ (took_one {log = log} is takes octets frame decoded read sees) =
    frame_represents role (used log octets []) decoded frame (rw (used_view log octets [])
    (log_represents role values log is)) (used_up log octets [] takes.up)
    (rw (used_view log octets []) (numbers_fit role values log is takes.up)) (λ item step.
    let small = stream_low item (completed_fit role values log octets frame item is read step) in
    omega (arith, small))
log_represents role values _ (met_fault {log = log} is takes octets fault at) =
    fails_represents role (wire_fault_code fault) _ (used log octets []) (rw
    (used_view log octets []) (log_represents role values log is)) (used_up log octets [] takes.up)
    (used_low log octets (numbers_fit role values log is takes.up))
log_represents role values _ (ran_out_of_memory {log = log} is up octets may) =
    fails_represents role InternalError _ (used log octets []) (rw (used_view log octets [])
    (log_represents role values log is)) (used_up log octets [] up)
    (used_low log octets (numbers_fit role values log is up))
log_represents role values _ (reported_one {log = log} is up some) = unprocessed_represents role log
    (log_represents role values log is) up some
log_represents role values _
    (called_one {log = log} is act answer typed may) = call_represents role log act answer
    (log_represents role values log is) (numbers_fit role values log is) typed may

-- What an end has written was allowed when it wrote it.
pub written_is_allowed : (role : Role) (values : Values) (log : Log) → IsLog role values log
    → AllowedHistory role log.received log.sent
written_is_allowed role values log is = let represents = log_represents role values log is in rw
    (← (represents.own)) represents.with_sent
