-- What each step puts before what was read, written and reported, and what it says of it.
use Rattle.h2_laws_end.proofs.Names
use Names.{◌≡◌, ◌≤◌, ℕ, ◌+◌, List, [], ◌∷◌, ◌++◌, Option, Some, None, refl, sym, ap, ◌∙◌, inl, inr}
use Names.{arith, append_assoc, subst, Code, InternalError, code_number, Frame, GoAway, Fail, ◌≢◌}
use Names.{WindowUpdate, Item, alone, Refusal, Event, UnprocessedEvent, Act, Answer, Refuse, Done}
use Names.{OutOfMemory, Refused, In, Log, next_unprocessed, log_view, Verdict, ConnectionFault}
use Names.{StreamFault, NoEvent, Reported, Decoded, FrameStep, fails_with, begins_block, completes}
use Names.{replies_to, verdict_of, events_of, refusal_of, answer_of, items_of, refuse_fault, read}
use Names.{with_unreturned, with_failure, limits_from, took_frame, took_none, MayAnswer, accepts}
use Names.{refuses, lacks, fails, credit_cases, grows_call, IsCredit, Memory, last_processed, used}
use Names.{with_sent, with_reported, with_verdict, with_step, with_frame, refused_with, with_call}
use Rattle.h2_laws_end.proofs.Failures.{sent_failed, reported_failed, unreturned_failed}
use Rattle.h2_laws_end.proofs.WrittenSteps.{call_writes}

-- These stand before what was read, written and reported.
pub record Adds (before after : Log) (reads items : List Item) (events : List Event) : Type 0 where
  pub role : after.role ≡ before.role
  pub received : after.received ≡ reads ++ before.received
  pub sent : after.sent ≡ items ++ before.sent
  pub reported : after.reported ≡ events ++ before.reported

-- Items are written.
sent_adds : (log : Log) (items : List Item) → Adds log (with_sent log items) [] items []
unfolding with_sent
sent_adds log [] = record { role = refl; received = refl; sent = refl; reported = refl }
sent_adds log (item ∷ items) = record { role = refl; received = refl; sent = refl; reported = refl }

-- Events are reported.
reported_adds : (log : Log) (events : List Event) → Adds log (with_reported log events) [] [] events
unfolding with_reported
reported_adds log [] = record { role = refl; received = refl; sent = refl; reported = refl }
reported_adds log (event ∷ events) =
    record { role = refl; received = refl; sent = refl; reported = refl }

-- Credit is written, or nothing.
pub record AddsCredit (before after : Log) : Type 0 where
  pub credit : List Item
  pub is_credit : IsCredit credit
  pub adds : Adds before after [] credit []

-- What is due.
unreturned_adds : (more : ℕ) (log : Log) → AddsCredit log (with_unreturned more log)
unfolding with_sent
unreturned_adds more log =
    credit_cases (AddsCredit log) more log (λ returns. record {
      credit = alone (WindowUpdate 0 (log.unreturned + more)) ∷ [];
      is_credit = inr (log.unreturned + more, refl);
      adds = record { role = refl; received = refl; sent = refl; reported = refl };
    }) (λ keeps. record {
      credit = [];
      is_credit = inl refl;
      adds = record { role = refl; received = refl; sent = refl; reported = refl };
    })

-- A failure.
failure_adds : (code : Code) (last : ℕ) (log : Log)
    → Adds log (with_failure code last log) [] (alone (GoAway last (code_number code) []) ∷ []) []
unfolding with_sent
failure_adds code last log = record { role = refl; received = refl; sent = refl; reported = refl }

-- What a frame may do after its octets were used: nothing to what was read, written and reported;
-- or the connection fails, with a last stream that is no less than the greatest that was processed;
-- or an item was read, replied to and reported, by its verdict.
pub data AfterFrame (before : Log) (decoded : Option Decoded) (after : Log) : Type 0 where
  stays_same : Adds before after [] [] [] → after.failed ≡ before.failed
      → AfterFrame before decoded after
  has_broken : (code : Code) (last : ℕ) → last_processed before ≤ last
      → Adds before after [] (alone (GoAway last (code_number code) []) ∷ []) []
      → after.failed ≡ Some code → AfterFrame before decoded after
  has_read : (item : Item) (verdict : Verdict) (credit : List Item)
      → verdict_of (log_view before) decoded item ≡ verdict
      → ((code : Code) → verdict ≡ ConnectionFault code → ⊥) → IsCredit credit
      → Adds before after (item ∷ []) (credit ++ replies_to verdict item)
      (events_of (log_view before) decoded verdict item)
      → after.failed ≡ before.failed → AfterFrame before decoded after

module _ (log : Log) (decoded : Option Decoded) (item : Item) where
  -- An item is read.
  read_adds : Adds log (read log decoded item) (item ∷ []) [] []
  read_adds = record { role = refl; received = refl; sent = refl; reported = refl }

  -- An item was read, replied to and reported.
  replied_adds : (more : ℕ) (replies : List Item) (events : List Event) → (credit : List Item)
      × IsCredit credit
      × Adds log (with_reported (with_unreturned more (with_sent (read log decoded item) replies))
      events)
      (item ∷ []) (credit ++ replies) events
  replied_adds more replies events =
      let one = read log decoded item in
      let two = with_sent one replies in
      let due = unreturned_adds more two in
      let read_it = read_adds in
      let replied = sent_adds one replies in
      let reported = reported_adds (with_unreturned more two) events in (
        due.credit,
        due.is_credit,
        record {
          role = reported.role ∙ due.adds.role ∙ replied.role ∙ read_it.role;
          received = reported.received ∙ due.adds.received ∙ replied.received ∙ read_it.received;
          sent = reported.sent ∙ due.adds.sent ∙ ap (λ (items : List Item). due.credit ++ items)
              replied.sent ∙ sym (append_assoc due.credit replies log.sent);
          reported = reported.reported ∙ ap (λ (before : List Event). events ++ before)
              (due.adds.reported ∙ replied.reported);
        },
      )

  -- It fails nothing.
  replied_failed : (more : ℕ) (replies : List Item) (events : List Event)
      → (with_reported (with_unreturned more (with_sent (read log decoded item) replies))
      events).failed ≡ log.failed
  replied_failed more replies events =
      reported_failed _ events ∙ unreturned_failed more _ ∙ sent_failed _ replies

  -- An item, by its verdict.
  verdict_after : (verdict : Verdict) → verdict_of (log_view log) decoded item ≡ verdict
      → AfterFrame log decoded (with_verdict log decoded item verdict)
  unfolding with_verdict
  verdict_after (ConnectionFault code) is =
      has_broken code _ (omega arith) (failure_adds code _ log) refl
  verdict_after (StreamFault code) is =
      let adds = replied_adds _ _ _ in
      has_read item (StreamFault code) adds.0 is (λ other wrong. cc) adds.1 adds.2
      (replied_failed _ _ _)
  verdict_after NoEvent is =
      let adds = replied_adds _ _ _ in
      has_read item NoEvent adds.0 is (λ other wrong. cc) adds.1 adds.2 (replied_failed _ _ _)
  verdict_after Reported is =
      let adds = replied_adds _ _ _ in
      has_read item Reported adds.0 is (λ other wrong. cc) adds.1 adds.2 (replied_failed _ _ _)

-- What a frame makes of the block that has begun.
step_after : (log : Log) (decoded : Option Decoded) (step : FrameStep)
    → AfterFrame (record log { begun = None }) decoded (with_step log decoded step)
unfolding with_step last_processed with_sent
step_after log decoded (fails_with code) =
    has_broken code (last_processed log) (omega arith)
    (record { role = refl; received = refl; sent = refl; reported = refl }) refl
step_after log decoded (begins_block begun) =
    stays_same (record { role = refl; received = refl; sent = refl; reported = refl }) refl
step_after log decoded (completes item) =
    verdict_after (record log { begun = None }) decoded item _ refl

-- The log in which the octets of a frame were used, as the item that it completes finds it.
abbrev pub frame_used : Log → List ℕ → Frame → Log
frame_used log octets frame = record log {
  input = log.input ++ octets;
  limits = limits_from log;
  unparsed = [];
  turns = In octets ∷ log.turns;
  frames = log.frames ++ frame ∷ [];
  begun = None;
}

-- A frame.
pub frame_after : (log : Log) (octets : List ℕ) (decoded : Option Decoded) (frame : Frame)
    → AfterFrame (frame_used log octets frame) decoded (took_frame log octets decoded frame)
unfolding with_frame used
frame_after log octets decoded frame =
    step_after (record (used log octets []) { frames = log.frames ++ frame ∷ [] }) _ _

-- Octets with which no frame ends, and octets that make a fault, do no more.
pub part_after : (log : Log) (octets unparsed : List ℕ)
    → AfterFrame log None (used log octets unparsed)
unfolding used
part_after log octets unparsed =
    stays_same (record { role = refl; received = refl; sent = refl; reported = refl }) refl

pub fault_after : (log : Log) (octets : List ℕ) (code : Code)
    → AfterFrame log None (with_failure code (last_processed log) (used log octets []))
unfolding used with_sent
fault_after log octets code =
    has_broken code (last_processed log) (omega arith)
    (record { role = refl; received = refl; sent = refl; reported = refl }) refl

-- A stream that is reported as unprocessed.
pub none_adds : (log : Log)
    → (credit : List Item) × IsCredit credit
    × Adds log (took_none log) [] credit (UnprocessedEvent (next_unprocessed log) ∷ [])
none_adds log =
    let due = unreturned_adds _ log in
    let reported = reported_adds _ (UnprocessedEvent (next_unprocessed log) ∷ []) in (
      due.credit,
      due.is_credit,
      record {
        role = reported.role ∙ due.adds.role;
        received = reported.received ∙ due.adds.received;
        sent = reported.sent ∙ due.adds.sent;
        reported = reported.reported
            ∙ ap (λ (before : List Event). UnprocessedEvent (next_unprocessed log) ∷ before)
            due.adds.reported;
      },
    )

-- What a call may do: it was refused, and nothing is written; or the connection fails; or it was
-- accepted, and what it owes is written, and credit.
pub data AfterCall (log : Log) (act : Act) (answer : Answer) (after : Log) : Type 0 where
  was_refused : (refusal : Refusal) → answer ≡ Refused refusal → Adds log after [] [] []
      → AfterCall log act answer after
  was_broken : (code : Code)
      → Adds log after [] (alone (GoAway (last_processed log) (code_number code) []) ∷ []) []
      → after.failed ≡ Some code → AfterCall log act answer after
  was_accepted : (credit : List Item) → IsCredit credit → refusal_of (log_view log) act ≡ None
      → answer ≡ answer_of (log_view log) act
      → Adds log after [] (credit ++ items_of (log_view log) act answer) []
      → AfterCall log act answer after

-- A call that is accepted and doesn't end the connection, and whose stream isn't one that makes it
-- fail.
accepted_after : (log : Log) (act : Act)
    → refusal_of (log_view log) act ≡ None
    → ((id code : ℕ) → act ≡ Refuse id code → refuse_fault (log_view log) code ≡ None)
    → ((code : Code) → act ≢ Fail code)
    → AfterCall log act (answer_of (log_view log) act)
    (with_call log act (answer_of (log_view log) act))
accepted_after log act none up goes_on =
    let writes = call_writes log act (answer_of (log_view log) act) refl up goes_on in
    let grows = grows_call log act (answer_of (log_view log) act) in
    was_accepted writes.credit writes.is_credit none refl (record {
      role = grows.role;
      received = grows.received;
      sent = writes.sent ∙ sym (append_assoc writes.credit _ log.sent);
      reported = grows.reported;
    })

-- A stream that is refused, by what that makes of the connection.
refused_after : (log : Log) (id code : ℕ) (fault : Option Code)
    → refusal_of (log_view log) (Refuse id code) ≡ None
    → refuse_fault (log_view log) code ≡ fault
    → AfterCall log (Refuse id code) Done (with_call log (Refuse id code) Done)
unfolding with_call refused_with with_sent
refused_after log id code None none is =
    accepted_after log (Refuse id code) none (λ other number same.
    let equal : code ≡ number = cc in
    subst (λ (n : ℕ). refuse_fault (log_view log) n ≡ None) equal is) (λ other same. cc)
refused_after log id code (Some fault) none is = rw is
    (was_broken fault (record { role = refl; received = refl; sent = refl; reported = refl }) refl)

-- A call that is accepted.
answered_after : (log : Log) (act : Act) → refusal_of (log_view log) act ≡ None
    → AfterCall log act (answer_of (log_view log) act)
    (with_call log act (answer_of (log_view log) act))
unfolding with_call with_sent
answered_after log (Refuse id code) none = refused_after _ _ _ _ none refl
answered_after log (Fail code) none =
    was_broken code (record { role = refl; received = refl; sent = refl; reported = refl }) refl
answered_after log act none = accepted_after log act none (λ id code wrong. cc) (λ code wrong. cc)

-- A call that is refused.
refusal_after : (log : Log) (act : Act) (refusal : Refusal)
    → AfterCall log act (Refused refusal) (with_call log act (Refused refusal))
unfolding with_call
refusal_after log act refusal =
    was_refused refusal refl (record { role = refl; received = refl; sent = refl; reported = refl })

-- A call for which there is no memory.
broken_after : (log : Log) (act : Act)
    → AfterCall log act OutOfMemory (with_call log act OutOfMemory)
unfolding with_call with_sent
broken_after log act =
    was_broken InternalError
    (record { role = refl; received = refl; sent = refl; reported = refl }) refl

-- Any call.
pub call_after : (log : Log) (act : Act) (answer : Answer) → MayAnswer log act answer
    → AfterCall log act answer (with_call log act answer)
call_after log act answer (accepts none same) = rw same (answered_after log act none)
call_after log act answer (refuses refusal condition same) = rw same (refusal_after log act refusal)
call_after log act answer (lacks none may same) = rw same (refusal_after log act Memory)
call_after log act answer (fails none may same) = rw same (broken_after log act)
