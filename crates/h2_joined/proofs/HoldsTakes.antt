-- What a call of `take` makes of an end to which octets are delivered.
use Rattle.h2_joined.proofs.JointHolds.{holds_refused}
use Rattle.h2_joined.proofs.Names.{Option, ℕ}
use Rattle.h2_message.specs.declared.malformed.Malformed.{Malformed}
use Rattle.h2_joined.proofs.Names
use Names.{◌<◌, ◌^◌, ◌∷◌, ◌++◌, drop, true, refl, arith, Code, InternalError, Values, Answer}
use Names.{Refuse, Event, FieldsEvent, ResetEvent, Log, MayAnswer, with_call, MayTake, Took}
use Names.{log_after_take, Part, FieldsPart, Half, EndLog, Passed, EndAnswer, EndTook, EndFailed}
use Names.{IsNoEmptyPart, parts_on, reads_on, handed_as, EndMayTake, IsReadableWith, end_with_log}
use Names.{end_with_handed, hands_nothing, hands_out, refusal_fails, runs_out_of_memory, KeepsOrder}
use Names.{memory_fails, Side, JointEnd, Made, half_of, part_of_event, ◌≡◌, ◌≢◌, ℕ, List, Some}
use Names.{None, Bool, Failed, fails, passes, refuses}
use Rattle.h2_laws_end.specs.Takes.{AfterTake}
use Rattle.h2_ends.proofs.EndTokens.{take_calls}
use Rattle.h2_joined.proofs.HoldsNumbers.{part_low_at}
use Rattle.h2_joined.proofs.HoldsParts.{holds_none, holds_passed, holds_handed}
use Rattle.h2_joined.proofs.HoldsReads.{readable_at}
use Rattle.h2_joined.proofs.HoldsSides.{IsPairAt, has_role_at, faultless_at}
use Rattle.h2_joined.proofs.HoldsSteps.{took_at, loses_at, failed_at, refused_at, where_at}
use Rattle.h2_joined.proofs.JointHolds.{EndHolds, AllHadMemory, accept_same, AcceptAt}

-- What stays as it is while octets are delivered to an end: its side, both ends' settings at first,
-- the acts that were made before, and the other end.
pub record Around : Type 0 where
  pub side : Side
  pub client_values : Values
  pub server_values : Values
  pub made : List Made
  pub other : JointEnd

-- the end as half of a pair, with these octets on the pipe to it
abbrev pub half_with : Log → (incoming lost : List ℕ) → Half
half_with log incoming lost = record { log = log; incoming = incoming; lost = lost }

-- It is a pair with the other one, undisturbed where this holds.
abbrev pub IsPairIn : Around → Half → (other_lost : List ℕ) → (calm : Type 0) → Type 0
IsPairIn around one other_lost calm =
    IsPairAt around.side around.client_values around.server_values one
    (half_of around.other other_lost) calm

-- What holds of an end and of what was accepted, as long as memory was not refused.
pub record IsCalmIn (around : Around) (end : EndLog) : Type 0 where
  pub holds : EndHolds around.made around.side end
  pub accepted : AcceptAt around.side end around.other.happened

-- What holds of an end while octets are delivered to it: `incoming` are those that come next, and
-- after them those that stay on the pipe.
pub record HoldsIn (around : Around) (end : EndLog) (incoming : List ℕ) : Type 0 where
  pub lost : List ℕ
  pub other_lost : List ℕ
  pub pair : IsPairIn around (half_with end.log incoming lost) other_lost
      (AllHadMemory around.made)
  pub calm : AllHadMemory around.made → IsCalmIn around end

-- What holds once its connection has failed: then memory was refused.
pub record FallsIn (around : Around) (code : Code) (end : EndLog) (incoming : List ℕ) : Type 0
  where
    pub lost : List ℕ
    pub other_lost : List ℕ
    pub pair : IsPairIn around (half_with end.log incoming lost) other_lost ⊥
    pub calm : AllHadMemory around.made → code ≢ InternalError → ⊥

-- What holds after a call of `take`, by its answer.
abbrev pub LeadsIn : Around → (piece later : List ℕ) → EndAnswer → EndLog → Type 0
LeadsIn around piece later (EndTook count handed) after =
    HoldsIn around after (drop count piece ++ later)
LeadsIn around piece later (EndFailed code) after = FallsIn around code after later

-- What a call of `take` that has not failed reports.
reports : (before after : Log) (piece : List ℕ) (count : ℕ) (event : Event)
    → AfterTake before after piece (Took count (Some event))
    → after.reported ≡ event ∷ before.reported
reports before after piece count event says = says.5

reports_none : (before after : Log) (piece : List ℕ) (count : ℕ)
    → AfterTake before after piece (Took count None) → after.reported ≡ before.reported
reports_none before after piece count says = says.5

-- It reports nothing.
leads_nothing : (around : Around) (end : EndLog) (piece later : List ℕ) (count : ℕ) (log : Log)
    → HoldsIn around end (piece ++ later) → MayTake end.log piece (Took count None) log
    → HoldsIn around (end_with_log end log) (drop count piece ++ later)
leads_nothing around end piece later count log is may =
    record {
      lost = is.lost;
      other_lost = is.other_lost;
      pair = took_at _ _ _ _ _ (AllHadMemory around.made) _ _ _ None log is.pair refl may;
      calm = λ had. record {
        holds = holds_none around.made around.side end log (is.calm had).holds
            (reports_none end.log log piece count
            (log_after_take end.log log piece (Took count None) may))
            (take_calls end.log log piece (Took count None) may);
        accepted = accept_same around.side end (end_with_log end log) around.other.happened refl
            (is.calm had).accepted;
      };
    }

module _ (around : Around) (end : EndLog) (piece later : List ℕ) (count : ℕ) (event : Event) where
  -- It reports an event: the pair with that.
  reported_in : (log : Log) → (is : HoldsIn around end (piece ++ later))
      → MayTake end.log piece (Took count (Some event)) log
      → IsPairIn around (half_with log (drop count piece ++ later) is.lost) is.other_lost
      (AllHadMemory around.made)
  reported_in log is may = took_at around.side around.client_values around.server_values
      (half_with end.log (piece ++ later) is.lost) (half_of around.other is.other_lost)
      (AllHadMemory around.made) piece later count (Some event) log is.pair refl may

  -- One that is no part of a message is passed on.
  leads_passed : (log : Log) → HoldsIn around end (piece ++ later)
      → MayTake end.log piece (Took count (Some event)) log → part_of_event event ≡ None
      → HoldsIn around (end_with_handed end log (Passed event)) (drop count piece ++ later)
  leads_passed log is may none =
      record {
        lost = is.lost;
        other_lost = is.other_lost;
        pair = reported_in log is may;
        calm = λ had. record {
          holds = holds_passed around.made around.side end event log (is.calm had).holds
              (reports end.log log piece count event
              (log_after_take end.log log piece (Took count (Some event)) may))
              (take_calls end.log log piece (Took count (Some event)) may) none;
          accepted = accept_same around.side end (end_with_handed end log (Passed event))
              around.other.happened refl (is.calm had).accepted;
        };
      }

  -- A part of a message can be read, and says something, as long as memory was not refused.
  readable_in : (log : Log) (id : ℕ) (part : Part × Bool) → KeepsOrder around.other.happened
      → HoldsIn around end (piece ++ later) → MayTake end.log piece (Took count (Some event)) log
      → part_of_event event ≡ Some (id, part) → AllHadMemory around.made
      → IsReadableWith end id part × IsNoEmptyPart part
  readable_in log id part order is may of had =
      readable_at around.side around.client_values around.server_values
      (half_with log (drop count piece ++ later) is.lost) (half_of around.other is.other_lost)
      (AllHadMemory around.made) around.made end around.other.happened event id part
      (reported_in log is may) refl (reports end.log log piece count event
      (log_after_take end.log log piece (Took count (Some event)) may))
      (has_role_at around.side around.client_values around.server_values
      (half_with end.log (piece ++ later) is.lost) (half_of around.other is.other_lost)
      (AllHadMemory around.made) is.pair)
      (is.calm had).holds (is.calm had).accepted (order.sends id) of

  -- One that can be read is handed out.
  leads_handed : (log : Log) (id : ℕ) (part : Part × Bool) → KeepsOrder around.other.happened
      → HoldsIn around end (piece ++ later) → MayTake end.log piece (Took count (Some event)) log
      → part_of_event event ≡ Some (id, part) → IsReadableWith end id part
      → HoldsIn around (end_with_handed end log (handed_as (reads_on end id) (parts_on id
      end.handed) id part)) (drop count piece ++ later)
  leads_handed log id part order is may of readable =
      let handed = handed_as (reads_on end id) (parts_on id end.handed) id part in
      record {
        lost = is.lost;
        other_lost = is.other_lost;
        pair = reported_in log is may;
        calm = λ had. record {
          holds = holds_handed around.made around.side end event log (reads_on end id)
              (parts_on id end.handed) id part (is.calm had).holds
              (reports end.log log piece count event
              (log_after_take end.log log piece (Took count (Some event)) may))
              (take_calls end.log log piece (Took count (Some event)) may) of
              (readable_in log id part order is may of had).1 readable;
          accepted = accept_same around.side end (end_with_handed end log handed)
              around.other.happened refl (is.calm had).accepted;
        };
      }

  -- A stream is refused once a part of a message was reported on it.
  refused_in : (log : Log) (id : ℕ) (part : Part × Bool) (code : ℕ) (refused : Answer)
      → (is : HoldsIn around end (piece ++ later))
      → MayTake end.log piece (Took count (Some event)) log → part_of_event event ≡ Some (id, part)
      → code < 2 ^ 32 → MayAnswer log (Refuse id code) refused
      → IsPairIn around (half_with (with_call log (Refuse id code) refused)
      (drop count piece ++ later) is.lost) is.other_lost ⊥
  refused_in log id part code refused is may of few answers =
      let one = half_with log (drop count piece ++ later) is.lost in
      let other = half_of around.other is.other_lost in
      let pair = reported_in log is may in
      refused_at around.side around.client_values around.server_values one other
      (AllHadMemory around.made) id code refused pair
      (part_low_at around.side around.client_values around.server_values one other
      (AllHadMemory around.made) end.log piece count event id part pair may of) few answers

-- Which part was refused last doesn't count for it.
holds_named : (around : Around) (end : EndLog) (last : Option (ℕ × Malformed))
    (incoming : List ℕ) → HoldsIn around end incoming
    → HoldsIn around (record end { malformed = last }) incoming
holds_named around end last incoming is =
    record {
      lost = is.lost;
      other_lost = is.other_lost;
      pair = is.pair;
      calm = λ had. let calm = is.calm had in record {
        holds = holds_refused around.made around.side end last calm.holds;
        accepted = accept_same around.side end (record end { malformed = last })
            around.other.happened refl calm.accepted;
      };
    }

falls_named : (around : Around) (code : Code) (end : EndLog) (last : Option (ℕ × Malformed))
    (incoming : List ℕ) → FallsIn around code end incoming
    → FallsIn around code (record end { malformed = last }) incoming
falls_named around code end last incoming is =
    record { lost = is.lost; other_lost = is.other_lost; pair = is.pair; calm = is.calm }

-- Where the connection has failed with that, what was not used is lost.
falls_in : (around : Around) (code : Code) (end : EndLog) (log : Log) (unused later lost : List ℕ)
    (other_lost : List ℕ) → IsPairIn around (half_with log (unused ++ later) lost) other_lost ⊥
    → log.failed ≡ Some code → (AllHadMemory around.made → code ≢ InternalError → ⊥)
    → FallsIn around code (end_with_log end log) later
falls_in around code end log unused later lost other_lost pair failed calm =
    record {
      lost = lost ++ unused;
      other_lost = other_lost;
      pair = loses_at _ _ _ _ _ ⊥ unused later pair (λ none. cc) refl;
      calm = calm;
    }

-- A stream was refused, and that is handed out. That isn't so as long as memory was not refused.
leads_reset : (around : Around) (end : EndLog) (log : Log) (piece later : List ℕ)
    (count id : ℕ) (lost other_lost : List ℕ)
    → IsPairIn around (half_with log (drop count piece ++ later) lost) other_lost ⊥
    → (AllHadMemory around.made → ⊥)
    → LeadsIn around piece later (EndTook count (Some (Passed (ResetEvent id 1 true))))
    (end_with_handed end log (Passed (ResetEvent id 1 true)))
leads_reset around end log piece later count id lost other_lost pair calm =
    record {
      lost = lost;
      other_lost = other_lost;
      pair = where_at _ _ _ _ _ ⊥ (AllHadMemory around.made) pair calm;
      calm = λ had. absurd (calm had);
    }

module _ (around : Around) (end : EndLog) (piece later : List ℕ) where
  -- The connection fails as it takes octets. As long as memory was not refused it has no fault.
  leads_failed : (code : Code) (log : Log) → HoldsIn around end (piece ++ later)
      → MayTake end.log piece (Failed code) log → FallsIn around code (end_with_log end log) later
  leads_failed code log is may =
      let other = half_of around.other is.other_lost in
      let calm = AllHadMemory around.made × (code ≢ InternalError) in
      let fell = failed_at around.side around.client_values around.server_values
      (half_with end.log (piece ++ later) is.lost) other (AllHadMemory around.made) piece later code
      log is.pair refl may in
      let down : log.failed ≡ Some code = (log_after_take end.log log piece (Failed code) may).5 in
      record {
        lost = fell.0;
        other_lost = is.other_lost;
        pair = where_at around.side around.client_values around.server_values
            (half_with log later fell.0) other calm ⊥ fell.1 (λ wrong. absurd wrong);
        calm = λ had memory.
            let up : log.failed ≡ None = (faultless_at around.side around.client_values
            around.server_values (half_with log later fell.0) other calm fell.1 (had, memory)).up in
            cc;
      }

  -- After a call of `take` it holds again.
  pub take_leads : (answer : EndAnswer) (after : EndLog) → KeepsOrder around.other.happened
      → HoldsIn around end (piece ++ later) → EndMayTake end piece answer after
      → LeadsIn around piece later answer after
  unfolding part_of_event
  take_leads answer after order is (fails code log may answers same) =
      rw (answers, same) (leads_failed code log is may)
  take_leads answer after order is (hands_nothing count log may answers same) =
      rw (answers, same) (leads_nothing around end piece later count log is may)
  take_leads answer after order is (passes count event log may none answers same) =
      rw (answers, same) (leads_passed around end piece later count event log is may none)
  take_leads answer after order is
      (hands_out count event log may id part of readable answers same) = rw (answers, same)
      (leads_handed around end piece later count event log id part order is may of readable)
  take_leads answer after order is
      (refuses count event log may id part of stops refused answers_it up answers same) =
      rw (answers, same) (holds_named around _ _ _
      (leads_reset around end (with_call log (Refuse id 1) refused) piece later count
      id is.lost is.other_lost
      (refused_in around end piece later count event log id part 1 refused is may of (omega arith)
      answers_it)
      (λ had. stops (readable_in around end piece later count event log id part order is may of
      had).0)))
  take_leads answer after order is
      (refusal_fails count event log may id part of stops refused answers_it code down answers
      same) = rw (answers, same) (falls_named around code _ _ _
      (falls_in around code end (with_call log (Refuse id 1) refused)
      (drop count piece) later is.lost is.other_lost
      (refused_in around end piece later count event log id part 1 refused is may of (omega arith)
      answers_it) down
      (λ had other. stops (readable_in around end piece later count event log id part order is may
      of had).0)))
  take_leads answer after order is
      (runs_out_of_memory count id list ends log may role first readable refused answers_it answers
      same) =
      rw (answers, same) (falls_in around InternalError end (with_call log (Refuse id 2) refused)
      (drop count piece) later is.lost is.other_lost
      (refused_in around end piece later count (FieldsEvent id list ends) log id
      (FieldsPart list, ends) 2 refused is may refl (omega arith) answers_it)
      (memory_fails log id refused
      (log_after_take end.log log piece (Took count (Some (FieldsEvent id list ends))) may).6
      answers_it) (λ had other. other refl))
