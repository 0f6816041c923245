-- Every log that hasn't failed has what is asked of it, with the events that are still to be
-- reported of it.
use Rattle.h2_laws_machine.proofs.Names
use Names.{◌≡◌, both_ways, one_acked, StreamFault, replies_to, verdict_of, least_block, grows_wrote}
use Names.{◌≢◌, ◌≤◌, max, [], ◌∷◌, sym, ap, ◌∙◌, Code, Item, Log, read, Role}
use Names.{ℕ, true, List, ◌++◌, None, refl, Some, alone, block, total, Event, IsLog, Client, Server}
use Names.{Bool, list_any, log_view, one_pong, is_server, with_sent, events_of, answer_of, items_of}
use Names.{false, stream_of_item, greatest_block, reported_total, ConnectionFault, verdict_by_rules}
use Names.{if◌then◌else◌, WindowUpdate, processed_by, settings_count, active_parts, active_before}
use Names.{Option, arith, or_left, eq-eqb, ne_eqb, resets, Values, Verdict, Decoded, opened, called}
use Names.{is_block_on, UnprocessedEvent, greatest_processed, reports_unprocessed, next_unprocessed}
use Rattle.h2_spec_log.specs.States.{lesser_number}
use Rattle.h2_spec_log.specs.ItemRules.{over_limits}
use Rattle.h2_laws_log.proofs.FrameSizes.{within_limits}
use Rattle.h2_laws_log.proofs.LogInduction.{IsPendingInvariant, pending_by_logs}
use Rattle.h2_laws_log.proofs.NextStreams.{lesser_low}
use Rattle.h2_laws_machine.proofs.UpInvariant.{IsUpLog, IsUpLogBy, up_log_grown, up_log_more}
use Rattle.h2_laws_machine.proofs.UpInvariant.{up_log_read, openings_server}
use Rattle.h2_laws_machine.proofs.UpInvariantReads.{item_reads}

-- The same of a log of which these events are still to be reported.
abbrev PendingUp : List Event → Log → Type 0
PendingUp events log = IsUpLogBy log.role log.received log.sent (events ++ log.reported)

-- A verdict after the limits that is no fault of the connection is that before them.
pub rules_is : (log : Log) (decoded : Option Decoded) (item : Item) (v : Verdict)
    → verdict_of (log_view log) decoded item ≡ v → ((code : Code) → v ≡ ConnectionFault code → ⊥)
    → verdict_by_rules (log_view log) decoded item ≡ v
unfolding verdict_of over_limits
rules_is log decoded item v is none = within_limits _ _ v is none

-- A stream that is reset in reply was reset.
reply_resets : (log : Log) (decoded : Option Decoded) (item : Item) (v : Verdict) (code : Code)
    → v ≡ StreamFault code
    → list_any (resets (stream_of_item item))
    (with_sent (read log decoded item) (replies_to v item)).sent ≡ true
unfolding replies_to with_sent resets
reply_resets log decoded item (StreamFault other) code is =
    or_left _ _ (eq-eqb (stream_of_item item) (stream_of_item item) refl)
reply_resets log decoded item another code is = cc

-- An item that is read, with a verdict that is no fault of the connection, keeps this.
replied_up_log : (log : Log) (decoded : Option Decoded) (item : Item) (v : Verdict)
    → verdict_of (log_view log) decoded item ≡ v
    → ((code : Code) → v ≡ ConnectionFault code → ⊥) → IsUpLog log
    → PendingUp (events_of (log_view log) decoded v item)
    (with_sent (read log decoded item) (replies_to v item))
replied_up_log log decoded item v is none f =
    let first = with_sent (read log decoded item) (replies_to v item) in
    let g = grows_wrote (read log decoded item) (replies_to v item) in
    let reads = item_reads log decoded v item g.items first.sent
    (rules_is log decoded item v is none) g.sent none (reply_resets log decoded item v) f in
    rw (g.role, g.received, g.reported) (up_log_read log.role log.received g.items log.sent
    first.sent log.reported (events_of (log_view log) decoded v item) item g.sent f reads)

-- The least number that passes is no greater than the greatest.
least_low : (test : ℕ → Bool) (items : List Item) → least_block test items ≤ greatest_block items
unfolding least_block greatest_block
least_low test [] = omega arith
least_low test (alone frame ∷ items) = least_low test items
least_low test (block stream end octets ∷ items) =
    by (test stream) (least_low test items)
  where
    by : (b : Bool) → least_block test items ≤ greatest_block items
        → (if b then lesser_number stream (least_block test items) else least_block test items)
        ≤ max stream (greatest_block items)
    by true low = omega (arith, lesser_low stream (least_block test items))
    by false low = omega arith

-- A stream that is reported as unprocessed was used, at a client.
unprocessed_low : (role : Role) (test : ℕ → Bool) (sent : List Item)
    → (if is_server role then 0 else least_block test sent) ≤ greatest_block sent
unprocessed_low Client test sent = least_low test sent
unprocessed_low Server test sent = omega arith

-- The next stream to be reported as unprocessed was used.
next_low : (log : Log) → next_unprocessed log ≤ greatest_block log.sent
unfolding next_unprocessed
next_low log = unprocessed_low log.role _ log.sent

-- A stream that is reported as unprocessed keeps this.
unprocessed_up_log : (role : Role) (received sent : List Item) (reported : List Event) (n : ℕ)
    → n ≤ greatest_block sent → IsUpLogBy role received sent reported
    → IsUpLogBy role received sent (UnprocessedEvent n ∷ reported)
unfolding reported_total one_acked one_pong greatest_processed processed_by reports_unprocessed
unprocessed_up_log role received sent reported n low f = record {
  acks = omega (arith, f.acks);
  pongs = omega (arith, f.pongs);
  processed = λ server none i active_is.
      let was = f.processed server none i
      (active_before role i [] [] received sent (UnprocessedEvent n ∷ []) reported active_is
      (active_parts role i received sent (UnprocessedEvent n ∷ reported) active_is).opened) in
      omega (arith, was);
  clear = λ client i above.
      let before = f.clear client i above in
      let apart : n ≢ i = λ same. omega arith in
      let unnamed : list_any (reports_unprocessed i) (UnprocessedEvent n ∷ reported) ≡ false =
      rw (ne_eqb n i apart) before.unnamed in
      assumption (unnamed, before);
}

-- A new end's log has it.
begins_up_log : (role : Role) (values : Values) → IsUpLog (opened role values)
unfolding opened with_sent reported_total total settings_count resets greatest_block
    reports_unprocessed
begins_up_log role values = record {
  acks = omega arith;
  pongs = omega arith;
  processed = λ server none i active_is. absurd (both_ways false refl
      ((ap (list_any (is_block_on i)) (sym (openings_server role [] _ server)))
      ∙ (active_parts role i [] _ [] active_is).opened));
  clear = λ client i above. assumption;
}

module _ (role : Role) (values : Values) where
  -- Each change of a log keeps it, as long as the connection is up.
  up_kept : IsPendingInvariant role values (λ events log. log.failed ≡ None → PendingUp events log)
  unfolding with_sent
  up_kept = record {
    opening = λ in_range up. begins_up_log role values;
    used = λ log octets unparsed f. f;
    framed = λ log frames f. f;
    begun = λ log begun begins f. f;
    complete = λ log f. f;
    replied = λ log decoded item v replies f up. replied_up_log log decoded item v replies.is
        replies.up (f ((grows_wrote (read log decoded item) _).up up));
    named = λ log is was some f up. unprocessed_up_log log.role log.received log.sent log.reported
        (next_unprocessed log) (next_low log) (f up);
    reported = λ log event events may f. f;
    unreturned = λ events log count f. f;
    returned = λ events log returns f up. up_log_more log.role log.received
        (alone (WindowUpdate 0 log.unreturned) ∷ []) log.sent (events ++ log.reported) (f up);
    failed = λ log code last names f up. let wrong : Some code ≡ None = up in cc;
    sent = λ log act accepted f up.
        let base = called log act (answer_of (log_view log) act) in
        let g = grows_wrote base (items_of (log_view log) act (answer_of (log_view log) act)) in
        up_log_grown base _ g (f (g.up up));
    called = λ log act answer is none f. f;
    given = λ log more f. f;
  }

  -- A log that hasn't failed is such a log.
  pub up_log_of : (log : Log) → IsLog role values log → log.failed ≡ None → IsUpLog log
  up_log_of = pending_by_logs role values (λ events log. log.failed ≡ None → PendingUp events log)
      (up_kept)
