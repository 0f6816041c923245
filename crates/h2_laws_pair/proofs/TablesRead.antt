-- What an end reads, as long as each acknowledgment that it reads is awaited: each is reported, and
-- the blocks decode in order, from an empty table on, to the end's table.
use Rattle.h2_laws_log.proofs.GrowthBySteps.{holds_call, holds_sent_unreturned, holds_unreturned}
use Rattle.h2_laws_log.proofs.GrowthBySteps.{holds_failure}
use Rattle.h2_spec_log.specs.Events.{one_acked, reported_total}
use Rattle.h2_spec_log.specs.Log.{settings_wait}
use Rattle.h2_spec_log.specs.ItemRules.{settings_fault}
use Rattle.h2_laws_log.proofs.LogHistory.{reported_append}
use Rattle.h2_laws_end.proofs.ReadingRules.{IsSeen, rules_see}
use Rattle.h2_laws_pair.proofs.Names
use Names.{◌≡◌, ℕ, ◌+◌, ◌≤◌, Bool, true, false, if◌then◌else◌, List, [], ◌∷◌, ◌++◌, Option, Some}
use Names.{None, refl, sym, arith, both_ways, lt-ltb, Field, empty_table, Entries, Code}
use Names.{InternalError, Settings, Item, alone, block, Role, Values, Act, Answer, total, Event}
use Names.{UnprocessedEvent, one_ack, settings_count, Log, acked, next_unprocessed, log_view}
use Names.{Verdict, ConnectionFault, StreamFault, NoEvent, Reported, Decoded, FrameStep, completes}
use Names.{replies_to, frame_step, verdict_by_rules, verdict_of, events_of, read, used, with_sent}
use Names.{with_reported, with_unreturned, with_step, with_frame, opened, called, with_call}
use Names.{IsDecodedIn, total_one, Says, says_of, MachineStep, uses_part, ends_frame, meets_fault}
use Names.{runs_out_of_memory, reports_unprocessed, is_called, MayStep, log_after, DecodeInOrder}
use Names.{verdict_of_fault}
use Rattle.h2_laws_pair.proofs.StepsOfLogs.{IsNoCall}
use Rattle.h2_laws_pair.proofs.TablesDecoded.{decode_more}
use Rattle.h2_laws_pair.proofs.FrameSteps.{with_item, has_item, kept_by_step}
use Rattle.h2_laws_pair.proofs.TablesSteps.{Stays, stays_by_calls}

-- What was read, by the parts of a log: each acknowledgment was reported, and the blocks decode.
pub record ReadsInStep (received sent : List Item) (reported : List Event) (table : Entries)
    : Type 0 where
  pub awaited : reported_total one_acked reported ≡ total one_ack received
  pub read : List (List Field)
  pub decode : DecodeInOrder sent 0 (empty_table 4096) received read table

-- The same of a log, of which these events are still to be reported.
abbrev pub PendingInStep : List Event → Log → Type 0
PendingInStep events log = ReadsInStep log.received log.sent (events ++ log.reported) log.table

-- The same of a log.
abbrev pub LogInStep : Log → Type 0
LogInStep log = PendingInStep [] log

-- No more acknowledgments were read than SETTINGS were sent.
abbrev pub HasAwaited : Log → Type 0
HasAwaited log = total one_ack log.received ≤ settings_count log.sent

-- Where nothing is read, it stays.
pub stays_in_step : (events : List Event) (old new : Log) → Stays old new → HasAwaited old
    → PendingInStep events old → PendingInStep events new
stays_in_step events old new stays awaited is =
    rw (stays.received, stays.sent, stays.reported, stays.table) (record {
      awaited = is.awaited;
      read = is.read;
      decode = decode_more stays.items old.sent 0 (empty_table 4096) old.received is.read old.table
          (omega (arith, awaited)) is.decode;
    })

-- Events are reported.
reported_in_step : (log : Log) (events : List Event) → PendingInStep events log
    → LogInStep (with_reported log events)
unfolding with_reported
reported_in_step log [] is = is
reported_in_step log (event ∷ events) is = is

-- An item that is read keeps it, if its acknowledgment, where it is one, is among its events.
item_in_step : (log : Log) (decoded : Option Decoded) (item : Item) (events : List Event)
    → IsDecodedIn log decoded (completes item) → IsSeen decoded item
    → reported_total one_acked events ≡ one_ack item → LogInStep log
    → PendingInStep events (read log decoded item)
item_in_step log decoded (alone frame) events sees seen acks is = record {
  awaited = omega (arith, reported_append, total_one);
  read = is.read;
  decode = is.decode;
}
item_in_step log None (block stream end octets) events sees seen acks is = absurd seen
item_in_step log (Some decoded) (block stream end octets) events sees seen acks is =
    let count : acked log ≡ 0 + total one_ack log.received = omega (arith, is.awaited) in
    record {
      awaited = omega (arith, reported_append, total_one);
      read = decoded.fields ∷ is.read;
      decode = (
        decoded.fields,
        is.read,
        log.table,
        refl,
        is.decode,
        rw count at sees,
      );
    }

-- What is said of an acknowledgment: where it is awaited, it is reported.
abbrev IsSilent : Log → Item → Type 0
IsSilent log item = (one_ack item ≡ 1 → settings_wait log ≡ true) → one_ack item ≡ 0

abbrev IsTold : Log → Option Decoded → Item → Type 0
IsTold log decoded item =
    reported_total one_acked (events_of (log_view log) decoded Reported item) ≡ one_ack item

abbrev SaysAcks : Log → Option Decoded → Item → Verdict → Type 0
SaysAcks log decoded item = Says (one_ack item ≡ 0) (IsSilent log item) (IsTold log decoded item)

-- Of an item that is none nothing is told of one, whatever the verdict.
other_acks : (log : Log) (decoded : Option Decoded) (item : Item) (verdict : Verdict)
    → one_ack item ≡ 0 → IsTold log decoded item → SaysAcks log decoded item verdict
other_acks log decoded item (ConnectionFault code) none told = tt
other_acks log decoded item (StreamFault code) none told = none
other_acks log decoded item NoEvent none told = λ wait. none
other_acks log decoded item Reported none told = told

-- SETTINGS, by their fault, and an acknowledgment, by the test whether it is awaited.
settings_acks : (F S T : Type 0) (fault : Option Code) → S → Says F S T (verdict_of_fault fault)
settings_acks F S T None s = s
settings_acks F S T (Some code) s = tt

reply_acks : (F T : Type 0) (one : ℕ) (b : Bool) → one ≡ 1 → T
    → Says F ((one ≡ 1 → b ≡ true) → one ≡ 0) T (if b then Reported else NoEvent)
reply_acks F T one true is t = t
reply_acks F T one false is t = λ wait. absurd (both_ways false refl (wait is))

-- It is so by the rules.
rules_ack : (log : Log) (decoded : Option Decoded) (item : Item)
    → SaysAcks log decoded item (verdict_by_rules (log_view log) decoded item)
unfolding verdict_by_rules events_of one_acked reported_total one_ack
rules_ack log decoded (alone (Settings false pairs)) =
    settings_acks _ _ _ (settings_fault (log_view log) pairs) (λ wait. refl)
rules_ack log decoded (alone (Settings true pairs)) = reply_acks _ _ 1 (settings_wait log) refl refl
rules_ack log decoded (block stream end octets) =
    let item = block stream end octets in
    other_acks log decoded item (verdict_by_rules (log_view log) decoded item) refl refl
rules_ack log decoded (alone frame) =
    let item = alone frame in
    other_acks log decoded item (verdict_by_rules (log_view log) decoded item) refl refl

-- An acknowledgment that is read is awaited, where no more are read than SETTINGS were sent.
ack_waits : (log : Log) (item : Item) → LogInStep log
    → total one_ack (item ∷ log.received) ≤ settings_count log.sent
    → one_ack item ≡ 1 → settings_wait log ≡ true
ack_waits log item is awaited one =
    lt-ltb _ _ (omega (arith, is.awaited, awaited, one, total_one one_ack item log.received))

-- The events of an item tell of an acknowledgment, by its verdict.
verdict_acks : (log : Log) (decoded : Option Decoded) (item : Item) (verdict : Verdict)
    → ((code : Code) → verdict ≡ ConnectionFault code → ⊥)
    → (one_ack item ≡ 1 → settings_wait log ≡ true) → SaysAcks log decoded item verdict
    → reported_total one_acked (events_of (log_view log) decoded verdict item) ≡ one_ack item
unfolding events_of one_acked reported_total
verdict_acks log decoded item (ConnectionFault code) none waits says = absurd (none code refl)
verdict_acks log decoded item (StreamFault code) none waits says = sym says
verdict_acks log decoded item NoEvent none waits says = sym (says waits)
verdict_acks log decoded item Reported none waits says = says

-- A block that is no fault of the connection was seen.
verdict_sees : (decoded : Option Decoded) (item : Item) (verdict : Verdict)
    → ((code : Code) → verdict ≡ ConnectionFault code → ⊥)
    → Says (IsSeen decoded item) (IsSeen decoded item) (IsSeen decoded item) verdict
    → IsSeen decoded item
verdict_sees decoded item (ConnectionFault code) none says = absurd (none code refl)
verdict_sees decoded item verdict none says = says

-- So an item that is read keeps it.
read_in_step : (log : Log) (decoded : Option Decoded) (item : Item) (verdict : Verdict) (more : ℕ)
    → verdict_of (log_view log) decoded item ≡ verdict
    → ((code : Code) → verdict ≡ ConnectionFault code → ⊥)
    → total one_ack (with_item log decoded item verdict more).received ≤ settings_count log.sent
    → IsDecodedIn log decoded (completes item) → LogInStep log
    → LogInStep (with_item log decoded item verdict more)
read_in_step log decoded item verdict more same none awaited sees is =
    let start = read log decoded item in
    let sent = with_sent start (replies_to verdict item) in
    let writes = stays_by_calls.failures.writes in
    let events = events_of (log_view log) decoded verdict item in
    let here = rw (has_item log decoded item verdict more).received at awaited in
    let seen = verdict_sees decoded item verdict none
    (rw same at (says_of _ _ _ log decoded item (rules_see log decoded item))) in
    let acks = verdict_acks log decoded item verdict none (ack_waits log item is here)
    (rw same at (says_of _ _ _ log decoded item (rules_ack log decoded item))) in
    reported_in_step (with_unreturned more sent) events
    (stays_in_step events start _ (holds_sent_unreturned Stays writes start _ more) here
    (item_in_step log decoded item events sees seen acks is))

-- After what a frame makes of the block that has begun.
step_in_step : (log : Log) (decoded : Option Decoded) (step : FrameStep) → HasAwaited log
    → IsDecodedIn log decoded step → LogInStep log
    → total one_ack (with_step log decoded step).received ≤ settings_count log.sent
    → LogInStep (with_step log decoded step)
step_in_step log decoded step before sees is =
    kept_by_step (λ new. total one_ack new.received ≤ settings_count log.sent → LogInStep new)
    log decoded step (record {
      failed = λ begun code last fails awaited. stays_in_step [] (record log { begun = begun }) _
          (holds_failure Stays stays_by_calls.failures code last (record log { begun = begun }))
          before is;
      begun = λ begun same awaited. is;
      read = λ item verdict more completed same none awaited.
          read_in_step (record log { begun = None }) decoded item verdict more same none awaited
          (rw completed at sees) is;
    })

-- A stream that is reported as unprocessed is no acknowledgment.
unprocessed_in_step : (log : Log) (id : ℕ) → LogInStep log
    → PendingInStep (UnprocessedEvent id ∷ []) log
unfolding one_acked reported_total
unprocessed_in_step log id is =
    record { awaited = omega (arith, is.awaited); read = is.read; decode = is.decode }

-- After a step that is no call.
pub log_in_step : (log : Log) (step : MachineStep) → IsNoCall step → MayStep log step
    → HasAwaited log
    → total one_ack (log_after log step).received ≤ settings_count log.sent → LogInStep log
    → LogInStep (log_after log step)
unfolding MayStep log_after used with_frame frame_step
log_in_step log (uses_part octets unparsed) none may before awaited is = is
log_in_step log (ends_frame octets frame decoded) none (takes, here, sees) before awaited is =
    step_in_step (record (used log octets []) { frames = log.frames ++ frame ∷ [] }) decoded
    (frame_step (log_view (used log octets [])) frame) before sees is awaited
log_in_step log (meets_fault octets fault) none may before awaited is =
    stays_in_step [] _ _ (holds_failure Stays stays_by_calls.failures _ _ _) before is
log_in_step log (runs_out_of_memory octets) none may before awaited is =
    stays_in_step [] _ _ (holds_failure Stays stays_by_calls.failures InternalError _ _) before is
log_in_step log reports_unprocessed none may before awaited is =
    let id = next_unprocessed log in
    let events : List Event = UnprocessedEvent id ∷ [] in
    reported_in_step (with_unreturned _ log) events
    (stays_in_step events log _ (holds_unreturned Stays stays_by_calls.failures.writes _ log)
    before (unprocessed_in_step log id is))
log_in_step log (is_called act answer) none may before awaited is = absurd (none act answer refl)

-- After a call.
pub call_in_step : (log : Log) (act : Act) (answer : Answer) → HasAwaited log → LogInStep log
    → LogInStep (with_call log act answer)
call_in_step log act answer before is =
    stays_in_step [] (called log act answer) _ (holds_call Stays stays_by_calls log act answer)
    before (record { awaited = is.awaited; read = is.read; decode = is.decode })

-- A new log has read nothing.
pub opened_in_step : (role : Role) (values : Values) → LogInStep (opened role values)
unfolding opened with_sent reported_total total
opened_in_step role values = record { awaited = refl; read = []; decode = (refl, refl) }
