-- What an end that has failed has written last: GOAWAY with its code, and nothing after it.
use Rattle.h2_laws_end.proofs.Names
use Names.{◌≡◌, ◌≤◌, ℕ, ◌&&◌, not, max, Bool, true, false, List, [], ◌∷◌, ◌++◌, Option, Some, None}
use Names.{refl, sym, ap, ◌∙◌, inl, inr, arith, subst, ◌+◌, both_ways, Code, InternalError, Frame}
use Names.{wire_fault_code, none_some, one_some, Item, Role, Event, Values, Act, Answer, Refuse}
use Names.{PutOut, Count, OutOfMemory, Refused, Log, Verdict, ConnectionFault, View, log_view}
use Names.{Decoded, FrameStep, fails_with, begins_block, completes, frame_step, refusal_of}
use Names.{refuse_fault, with_unreturned, with_failure, called, MayAnswer, accepts, refuses, lacks}
use Names.{fails, IsLog, begins, took_some, took_one, met_fault, ran_out_of_memory, reported_one}
use Names.{called_one, put_out_cases, none_holds, holds_unreturned, stream_of, Memory}
use Names.{encoding_of_items, last_processed, opened_by, conditions, used, with_sent, with_reported}
use Names.{with_verdict, with_step, with_frame, with_items, refused_with, with_call, opened}
use Names.{SamePart, stays_written, HoldsOfWrites, holds_sent, Fail}
use Rattle.std.proofs.Common.{is_some}
use Rattle.h2_spec_log.specs.Items.{encoding_of_item}
use Rattle.h2_spec_log.specs.CallRules.{has_failed, may_fail_for_memory}
use Rattle.h2_laws_log.proofs.GrowthBySteps.{holds_sent_unreturned, holds_items, holds_ready}
use Rattle.h2_laws_end.specs.Failures.{EndsInGoAway, IsLastStream}
use Rattle.h2_laws_end.proofs.BlockStreams.{IsItemOn, IsStepOn, step_on, opened_on, greater_is}

-- The second log has failed with the code of the first, or neither has failed.
abbrev FailedAs : Log → Log → Type 0
FailedAs = SamePart (λ log. log.failed)

-- What is written and what is unreturned fail nothing.
failed_as : HoldsOfWrites FailedAs
failed_as =
    stays_written (λ log. log.failed) (λ log sent written payloads turns. refl) (λ log count. refl)

pub sent_failed : (log : Log) (items : List Item) → (with_sent log items).failed ≡ log.failed
sent_failed log items = holds_sent FailedAs failed_as log items

pub unreturned_failed : (more : ℕ) (log : Log) → (with_unreturned more log).failed ≡ log.failed
unreturned_failed more log = holds_unreturned FailedAs failed_as more log

pub items_failed : (log : Log) (act : Act) (answer : Answer)
    → (with_items log act answer).failed ≡ log.failed
items_failed log act answer = holds_items FailedAs failed_as log act answer

-- Nor does what is reported.
pub reported_failed : (log : Log) (events : List Event)
    → (with_reported log events).failed ≡ log.failed
unfolding with_reported
reported_failed log [] = refl
reported_failed log (event ∷ events) = refl

-- Nor a verdict that is no fault of the connection.
pub replied_failed : (log read : Log) (more : ℕ) (replies : List Item) (events : List Event)
    → read.failed ≡ log.failed
    → (with_reported (with_unreturned more (with_sent read replies)) events).failed ≡ log.failed
replied_failed log read more replies events same =
    reported_failed _ events ∙ holds_sent_unreturned FailedAs failed_as read replies more ∙ same

-- A number is not above itself.
at_most : (n : ℕ) → n ≤ n
at_most n = omega arith

-- nor above the greater of two
at_most_max : (n m : ℕ) → n ≤ max n m
at_most_max n m = omega arith

-- A failure writes GOAWAY with its code last.
fails_ends : (fault : Code) (last : ℕ) (log : Log) → last_processed log ≤ last
    → IsLastStream log last → (code : Code)
    → (with_failure fault last log).failed ≡ Some code
    → EndsInGoAway (with_failure fault last log) code
unfolding with_sent encoding_of_items encoding_of_item last_processed
fails_ends fault last log processed exact code is =
    subst (λ (c : Code). EndsInGoAway (with_failure fault last log) c) (one_some fault code is)
    (record {
      last = last;
      earlier = log.sent;
      prefix = log.written;
      newest = refl;
      processed = processed;
      exact = exact;
      written = refl;
    })

-- What was up and hasn't changed isn't failed.
pub still_up : {Goal : Type 0} (old new : Option Code) (code : Code) → old ≡ None
    → new ≡ old → new ≡ Some code → Goal
still_up old new code up same is = none_some code (sym up ∙ sym same ∙ is)

-- The last stream after an item that its last frame completes.
item_last : (log : Log) (decoded : Option Decoded) (item : Item) (prefix : List Frame)
    (frame : Frame) → log.frames ≡ prefix ++ frame ∷ [] → IsItemOn frame item
    → IsLastStream log (max (last_processed log) (opened_by (log_view log) decoded item))
item_last log decoded item prefix frame frames on =
    elim (greater_is (last_processed log) (opened_by (log_view log) decoded item)
    (stream_of frame) (opened_on (log_view log) decoded item frame on)) [
      | inl same ↦ inl same
      | inr same ↦ inr (prefix, frame, frames, same)
    ]

-- After an item, by its verdict.
verdict_ends : (log : Log) (decoded : Option Decoded) (item : Item) (verdict : Verdict)
    → log.failed ≡ None → (prefix : List Frame) (frame : Frame) → log.frames ≡ prefix ++ frame ∷ []
    → IsItemOn frame item → (code : Code)
    → (with_verdict log decoded item verdict).failed ≡ Some code
    → EndsInGoAway (with_verdict log decoded item verdict) code
unfolding with_verdict
verdict_ends log decoded item (ConnectionFault fault) up prefix frame frames on code is =
    fails_ends fault _ log (at_most_max _ _)
    (item_last log decoded item prefix frame frames on) code is
verdict_ends log decoded item verdict up prefix frame frames on code is =
    still_up log.failed _ code up (replied_failed log _ _ _ _ refl) is

-- After what a frame makes of the block that has begun.
step_ends : (log : Log) (decoded : Option Decoded) (step : FrameStep) → log.failed ≡ None
    → (prefix : List Frame) (frame : Frame) → log.frames ≡ prefix ++ frame ∷ []
    → IsStepOn frame step → (code : Code) → (with_step log decoded step).failed ≡ Some code
    → EndsInGoAway (with_step log decoded step) code
unfolding with_step
step_ends log decoded (fails_with fault) up prefix frame frames on code is =
    fails_ends fault (last_processed log) log (at_most _) (inl refl) code is
step_ends log decoded (begins_block begun) up prefix frame frames on code is =
    none_some code (sym up ∙ is)
step_ends log decoded (completes item) up prefix frame frames on code is =
    verdict_ends (record log { begun = None }) decoded item _ up prefix frame frames on code is

-- After a frame.
frame_ends : (log : Log) (decoded : Option Decoded) (frame : Frame) → log.failed ≡ None
    → (code : Code) → (with_frame log decoded frame).failed ≡ Some code
    → EndsInGoAway (with_frame log decoded frame) code
unfolding with_frame
frame_ends log decoded frame up code is =
    step_ends (record log { frames = log.frames ++ frame ∷ [] }) decoded
    (frame_step (log_view log) frame) up log.frames frame refl (step_on (log_view log) frame) code
    is

-- After a stream that was refused, by the fault that this makes.
refused_ends : (log : Log) (act : Act) (answer : Answer) (fault : Option Code)
    → log.failed ≡ None → (code : Code)
    → (refused_with log act answer fault).failed ≡ Some code
    → EndsInGoAway (refused_with log act answer fault) code
unfolding refused_with last_processed
refused_ends log act answer (Some fault) up code is =
    fails_ends fault (last_processed log) (called log act answer) (at_most _) (inl refl) code is
refused_ends log act answer None up code is =
    still_up log.failed _ code up (items_failed log act answer) is

-- After a call of a connection that hadn't failed.
call_ends : (log : Log) (act : Act) (answer : Answer) → log.failed ≡ None → (code : Code)
    → (with_call log act answer).failed ≡ Some code
    → EndsInGoAway (with_call log act answer) code
unfolding with_call last_processed
call_ends log act (Refused refusal) up code is = none_some code (sym up ∙ is)
call_ends log act OutOfMemory up code is =
    fails_ends InternalError (last_processed log) (called log act OutOfMemory) (at_most _)
    (inl refl) code is
call_ends log (Refuse id number) answer up code is =
    refused_ends log (Refuse id number) answer (refuse_fault (log_view log) number) up code is
call_ends log (Fail own) answer up code is =
    fails_ends own (last_processed log) (called log (Fail own) answer) (at_most _) (inl refl) code
    is
call_ends log (PutOut count) (Count given) up code is =
    still_up log.failed _ code up
    (holds_ready FailedAs failed_as (called log (PutOut count) (Count given))) is
call_ends log act answer up code is = still_up log.failed _ code up (items_failed log act answer) is

-- A log with the same frames and output as another, and the same failure.
pub record SameOutput (old new : Log) : Type 0 where
  pub role : new.role ≡ old.role
  pub frames : new.frames ≡ old.frames
  pub sent : new.sent ≡ old.sent
  pub written : new.written ≡ old.written
  pub reported : new.reported ≡ old.reported
  pub failed : new.failed ≡ old.failed

-- Of a failed connection no call is accepted but to put output out.
only_put_out : (view : View) (act : Act) → has_failed view ≡ true → refusal_of view act ≡ None
    → (count : ℕ) × (act ≡ PutOut count)
unfolding conditions
only_put_out view (PutOut count) failed none = (count, refl)
only_put_out view act failed none = absurd (both_ways _ (none_holds _ none).0 failed)

-- The output stays the same where a call is refused.
same_called : (log : Log) (act : Act) (answer : Answer) → SameOutput log (called log act answer)
same_called log act answer = record {
  role = refl;
  frames = refl;
  sent = refl;
  written = refl;
  reported = refl;
  failed = refl;
}

-- what is no condition, where the first of two isn't
no_return : (failed : Option Code) (code : Code) (b : Bool) → failed ≡ Some code
    → (not (is_some failed) && b) ≡ false
no_return failed code b is = rw is refl

-- And where output is put out of a connection that has failed.
same_put_out : (log : Log) (code : Code) (count given : ℕ) → log.failed ≡ Some code
    → SameOutput log (with_call log (PutOut count) (Count given))
unfolding with_call
same_put_out log code count given failed =
    let put = called log (PutOut count) (Count given) in
    put_out_cases (λ ready. SameOutput log (record ready { given = log.given + given })) put
    (λ returns. absurd (both_ways _ (no_return log.failed code _ failed) returns))
    (λ keeps. record {
      role = refl;
      frames = refl;
      sent = refl;
      written = refl;
      reported = refl;
      failed = refl;
    })

-- No call of a connection that has failed writes.
pub same_output : (log : Log) (code : Code) (act : Act) (answer : Answer)
    → log.failed ≡ Some code → MayAnswer log act answer
    → SameOutput log (with_call log act answer)
unfolding with_call may_fail_for_memory
same_output log code act answer failed (accepts none is) =
    let put = only_put_out (log_view log) act (ap is_some failed) none in
    rw (is, put.1) (same_put_out log code put.0 _ failed)
same_output log code act answer failed (refuses refusal some is) =
    rw is (same_called log act (Refused refusal))
same_output log code act answer failed (lacks none may is) =
    rw is (same_called log act (Refused Memory))
same_output log code act answer failed (fails none may is) =
    let put = only_put_out (log_view log) act (ap is_some failed) none in
    absurd (both_ways _ refl (rw put.1 at may))

-- GOAWAY that stands last still does in a log with the same output.
ends_still : (old new : Log) (code : Code) → SameOutput old new → EndsInGoAway old code
    → EndsInGoAway new code
unfolding last_processed
ends_still old new code same ends = record {
  last = ends.last;
  earlier = ends.earlier;
  prefix = ends.prefix;
  newest = same.sent ∙ ends.newest;
  processed = rw (same.role, same.reported) ends.processed;
  exact = rw (same.role, same.reported, same.frames) ends.exact;
  written = same.written ∙ ends.written;
}

-- After a call, by whether the connection had failed.
called_ends : (log : Log) (act : Act) (answer : Answer) (before : Option Code)
    → log.failed ≡ before → MayAnswer log act answer
    → ((code : Code) → log.failed ≡ Some code → EndsInGoAway log code) → (code : Code)
    → (with_call log act answer).failed ≡ Some code
    → EndsInGoAway (with_call log act answer) code
called_ends log act answer None up may last code is = call_ends log act answer up code is
called_ends log act answer (Some before) failed may last code is =
    let same = same_output log before act answer failed may in
    ends_still log _ code same (last code (sym same.failed ∙ is))

-- Octets that were used fail nothing.
pub used_up : (log : Log) (octets unparsed : List ℕ)
    → (used log octets unparsed).failed ≡ log.failed
unfolding used
used_up log octets unparsed = refl

-- What an end that has failed has written last.
pub failed_last : (role : Role) (values : Values) (log : Log) (code : Code)
    → IsLog role values log → log.failed ≡ Some code → EndsInGoAway log code
unfolding opened with_sent used last_processed
failed_last role values _ code (begins in_range) is = none_some code is
failed_last role values _ code (took_some {log = log} before takes octets unparsed read) is =
    still_up log.failed _ code takes.up (used_up log octets unparsed) is
failed_last role values _ code (took_one {log = log} before takes octets frame decoded read sees)
    is = frame_ends (used log octets []) decoded frame (used_up log octets [] ∙ takes.up) code is
failed_last role values _ code (met_fault {log = log} before takes octets fault at) is =
    fails_ends (wire_fault_code fault) _ (used log octets []) (at_most _) (inl refl) code is
failed_last role values _ code (ran_out_of_memory {log = log} before up octets may) is =
    fails_ends InternalError _ (used log octets []) (at_most _) (inl refl) code is
failed_last role values _ code (reported_one {log = log} before up some) is =
    still_up log.failed _ code up (reported_failed _ _ ∙ unreturned_failed _ _) is
failed_last role values _ code (called_one {log = log} before act answer typed may) is =
    called_ends log act answer log.failed refl may
    (λ other failed. failed_last role values log other before failed) code is
