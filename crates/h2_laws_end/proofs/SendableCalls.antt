-- What an end has written can be sent: calls, and so every log.
use Rattle.h2_laws_end.proofs.Names
use Names.{◌≡◌, AllByRecursion, stream_is_active, pending_by_logs, comes_as_before, greatest_number}
use Names.{Widen, greatest_window}
use Names.{ℕ, [], inr, Act, Log, Fail}
use Names.{suc, ◌^◌, ◌≤◌, ◌<◌, true, List, ◌∷◌, None, refl, inl, Item, Role, Open, ◌||◌, used, Good}
use Names.{◌==◌, ResetStream, most_between, active_parts, unreleased_is, processed_by, refuse_fault}
use Names.{nat_lt, Client, Server, Values, Release, block_of, owed_on, max_list, items_of, next_odd}
use Names.{Bool, data_items, IsSendable, history_of, none_holds, AreInRange, unreleased, conditions}
use Names.{false, max_payload_sent_by, max_frame_size_sent, written_is_allowed, written_by_payloads}
use Names.{if◌then◌else◌, both_ways, ChangeSettings, AllowedHistory, last_processed, log_represents}
use Names.{arith, Field, Reset, alone, block, Refuse, PutOut, active, called, IsLog, total, opened}
use Names.{list_any, or_parts, or_cases, eqb-true, SendData, SendPing, openings, ended_in, log_view}
use Names.{ltb-false, is_server, answer_of, IsFitItem, comes_fit, with_sent, owed_there, none_since}
use Names.{WindowUpdate, UnprocessedEvent, max_payload_sent, IsPendingInvariant, greatest_processed}
use Names.{SendFields, SendGoAway, refusal_of, AreSendable, is_block_on, next_number, active_some}
use Rattle.hpack.specs.Lists.{list_size}
use Rattle.h2_spec_log.specs.Acts.{IsTypedAct}
use Rattle.h2_laws_log.proofs.BlockSizes.{block_is_gathered}
use Rattle.h2_laws_log.proofs.LogInvariant.{Represents}
use Rattle.h2_laws_log.proofs.CallConditions.{and_other}
use Rattle.h2_laws_log.proofs.InvariantCalls.{no_fault}
use Rattle.h2_laws_log.proofs.PayloadOrigins.{payloads_between}
use Rattle.h2_laws_end.proofs.SendableItems.{IsPayload, reset_sendable, update_sendable}
use Rattle.h2_laws_end.proofs.SendableItems.{goaway_sendable, ping_sendable, opening_sendable}
use Rattle.h2_laws_end.proofs.SendableItems.{change_sendable, data_items_sendable, all_sendable}
use Rattle.h2_laws_end.proofs.Sendable.{LogIsFit, LogIsAllowed, PendingFit, wrote_keeps, last_low}
use Rattle.h2_laws_end.proofs.Sendable.{failure_keeps, returned_fit, replied_fit, allowed_before}
use Rattle.h2_laws_end.proofs.Sendable.{opened_by_low}
use Rattle.h2_laws_log.proofs.LogInduction.{of_fault, processed, NamesLast}
use Rattle.h2_laws_log.proofs.InvariantSends.{client_number}
use Rattle.h2_laws_log.proofs.ReleasedCredit.{owes_active, owes_one}
use Rattle.h2_laws_end.proofs.ReadingRules.{some_above}

-- The number of a block among items that can be sent has 31 bits.
sent_low : (i : ℕ) (payloads : List ℕ) (items : List Item) → AreSendable payloads items
    → list_any (is_block_on i) items ≡ true → i < 2 ^ 31
unfolding is_block_on
sent_low i [] [] all some = absurd (both_ways false refl some)
sent_low i [] (item ∷ items) all some = absurd all
sent_low i (most ∷ payloads) [] all some = absurd all
sent_low i (most ∷ payloads) (alone frame ∷ items) all some = sent_low i payloads items all.1 some
sent_low i (most ∷ payloads) (block stream end octets ∷ items) all some =
    elim (or_cases (stream == i) (list_any (is_block_on i) items) some) [
      | inl same ↦ omega (arith, eqb-true stream i same, (all.0).1)
      | inr after ↦ sent_low i payloads items all.1 after
    ]

-- So has that of one among items that are fit.
received_low : (i : ℕ) (items : List Item) → AllByRecursion IsFitItem items
    → list_any (is_block_on i) items ≡ true → i < 2 ^ 31
unfolding is_block_on
received_low i [] all some = absurd (both_ways false refl some)
received_low i (alone frame ∷ items) all some = received_low i items all.1 some
received_low i (block stream end octets ∷ items) all some =
    elim (or_cases (stream == i) (list_any (is_block_on i) items) some) [
      | inl same ↦ omega (arith, eqb-true stream i same, all.0)
      | inr after ↦ received_low i items all.1 after
    ]

opened_low : (role : Role) (i : ℕ) (payloads : List ℕ) (received sent : List Item)
    → AllByRecursion IsFitItem received → AreSendable payloads sent
    → list_any (is_block_on i) (openings role received sent) ≡ true → i < 2 ^ 31
opened_low Client i payloads received sent fit sendable some = sent_low _ _ sent sendable some
opened_low Server i payloads received sent fit sendable some = received_low i received fit some

-- So has that of an active stream.
active_low : (log : Log) (i : ℕ) → LogIsFit log → active log i ≡ true → i < 2 ^ 31
active_low log i are alive =
    opened_low _ _ _ _ _ are.received_all are.sent_all (active_parts _ _ _ _ _ alive).opened

-- An active stream's number is above nothing.
active_above : (log : Log) (i : ℕ) → active log i ≡ true → 1 ≤ i
active_above log i alive = some_above i (active_some log i alive)

-- The number of a client's next stream.
number_low : (log : Log) → AllowedHistory log.role log.received log.sent
    → (is_server log.role || nat_lt greatest_number (log_view log).next_number) ≡ false
    → (1 ≤ (log_view log).next_number) × ((log_view log).next_number < 2 ^ 31)
number_low log with_sent none =
    let server = or_parts _ _ none in
    let is = client_number (is_server log.role) (next_number log) server.0 in
    let next = next_odd log with_sent in (
      omega (arith, next.1, is),
      omega (arith, ltb-false greatest_number (log_view log).next_number server.1),
    )

-- What opening a stream writes.
open_sendable : (log : Log) (fields : List Field) (end : Bool)
    → AllowedHistory log.role log.received log.sent
    → refusal_of (log_view log) (Open fields end) ≡ None
    → IsSendable (max_payload_sent log) (block (log_view log).next_number end
    (block_of log.encoder fields))
unfolding conditions
open_sendable log fields end with_sent none =
    let holds = none_holds _ none in
    let number = number_low log with_sent holds.1.1.0 in (
      number.0,
      number.1,
      block_is_gathered _ _ (ltb-false max_list (list_size fields) holds.1.1.1.1.1.0),
    )

-- What further fields write.
fields_sendable : (log : Log) (id : ℕ) (fields : List Field) (end : Bool) → LogIsFit log
    → refusal_of (log_view log) (SendFields id fields end) ≡ None
    → IsSendable (max_payload_sent log) (block id end (block_of log.encoder fields))
unfolding conditions
fields_sendable log id fields end are none =
    let holds = none_holds _ none in
    let alive = stream_is_active log id holds.1.0 in (
      active_above log id alive,
      active_low log id are alive,
      block_is_gathered log.encoder fields (ltb-false max_list (list_size fields) holds.1.1.1.1.0),
    )

-- What a body writes.
data_call_sendable : (log : Log) (id : ℕ) (octets : List ℕ) (end : Bool) (count : ℕ)
    → LogIsFit log → refusal_of (log_view log) (SendData id octets end) ≡ None
    → AllByRecursion (IsSendable (max_payload_sent log)) (data_items
    (max_payload_sent log) id octets end count)
unfolding conditions
data_call_sendable log id octets end count are none =
    let holds = none_holds _ none in
    let alive = stream_is_active log id holds.1.0 in
    data_items_sendable (max_payload_sent log) id octets end count (most_between log.received)
    (active_above log id alive) (active_low log id are alive)

-- What is owed on an active stream is no more than the greatest window.
owed_low : (log : Log) (i : ℕ) → Good (history_of log) → LogIsFit log → active log i ≡ true
    → unreleased log i ≤ greatest_window
owed_low log i good are alive =
    omega (
      arith,
      good.whole (suc i),
      good.wide,
      owes_one (history_of log) i,
      owes_active (history_of log) i alive,
      unreleased_is log i,
      are.credit,
    )

-- The updates of a release, by the test whether the peer has ended the stream.
updates_by : (most id count : ℕ) (ended : Bool) → IsPayload most → id < 2 ^ 31 → count < 2 ^ 31
    → AllByRecursion (IsSendable most) (alone (WindowUpdate 0 count) ∷
    (if ended then [] else alone
    (WindowUpdate id count) ∷ []))
updates_by most id count true may low small = (update_sendable _ 0 _ may (omega arith) small, tt)
updates_by most id count false may low small = (
  update_sendable most 0 count may (omega arith) small,
  (update_sendable most id count may low small, tt),
)

-- What a release writes.
release_sendable : (role : Role) (log : Log) (id count : ℕ) → Represents role (history_of log)
    → LogIsFit log → refusal_of (log_view log) (Release id count) ≡ None
    → AllByRecursion (IsSendable (max_payload_sent log)) (alone (WindowUpdate 0 count) ∷
    (if ended_in ((log_view log).stream
    id) then [] else alone (WindowUpdate id count) ∷ []))
unfolding conditions
release_sendable role log id count represents are none =
    let holds = none_holds _ none in
    let up = none_since log.failed holds.0 in
    let alive = stream_is_active log id holds.1.0 in
    let owing = or_parts (count == 0) _ holds.1.1.1.0 in
    updates_by (max_payload_sent log) id count (ended_in ((log_view log).stream id))
    (most_between log.received) (active_low log id are alive) (omega (
      arith,
      ltb-false (owed_on ((log_view log).stream id)) count owing.1,
      owed_there log id alive,
      owed_low log id (represents.good up) are alive,
    ))

-- What resetting a stream writes.
reset_call_sendable : (log : Log) (id code : ℕ) → LogIsFit log → active log id ≡ true
    → code < 2 ^ 32
    → AllByRecursion (IsSendable (max_payload_sent log)) (alone (Reset id code) ∷ [])
reset_call_sendable log id code are alive typed = (
  reset_sendable (max_payload_sent log) id code (most_between log.received)
      (active_above log id alive) (active_low log id are alive) typed,
  tt,
)

-- the stream of a call that isn't refused
reset_is_active : (log : Log) (id code : ℕ)
    → refusal_of (log_view log) (ResetStream id code) ≡ None → active log id ≡ true
unfolding conditions
reset_is_active log id code none =
    let holds = none_holds _ none in
    stream_is_active log id holds.1.0

-- What a call writes that is accepted can be sent.
accepted_sendable : (role : Role) (log : Log) (act : Act) → Represents role (history_of log)
    → IsTypedAct act → refusal_of (log_view log) act ≡ None
    → ((id code : ℕ) → act ≡ Refuse id code → refuse_fault (log_view log) code ≡ None)
    → LogIsFit log
    → AllByRecursion (IsSendable (max_payload_sent log))
    (items_of (log_view log) act (answer_of (log_view log) act))
unfolding items_of IsTypedAct conditions refuse_fault
accepted_sendable role log (Open fields end) represents typed none up are =
    (open_sendable log fields end represents.with_sent none, tt)
accepted_sendable role log (SendFields id fields end) represents typed none up are =
    (fields_sendable log id fields end are none, tt)
accepted_sendable role log (SendData id octets end) represents typed none up are =
    data_call_sendable log id octets end _ are none
accepted_sendable role log (Release id count) represents typed none up are =
    release_sendable role log id count represents are none
accepted_sendable role log (ResetStream id code) represents typed none up are =
    reset_call_sendable log id code are (reset_is_active log id code none) typed.1
accepted_sendable role log (Refuse id code) represents typed none up are =
    let both = (none_holds _ none).1.0 in
    let alive = stream_is_active log id
    (and_other (code == 2) _ both (no_fault (code == 2) _ (up id code refl))) in
    reset_call_sendable log id code are alive typed.1
accepted_sendable role log (SendPing octets) represents typed none up are =
    (ping_sendable (max_payload_sent log) false octets (most_between log.received) typed.0, tt)
accepted_sendable role log SendGoAway represents typed none up are = (
  goaway_sendable (max_payload_sent log) (last_processed log) 0 (most_between log.received)
      (last_low log are) (omega arith),
  tt,
)
accepted_sendable role log (Fail code) represents typed none up are = tt
accepted_sendable role log (PutOut count) represents typed none up are = tt
accepted_sendable role log (ChangeSettings values) represents typed none up are = (
  change_sendable (max_payload_sent log) log.role _ values (most_between log.received) typed,
  tt,
)
accepted_sendable role log (Widen count) represents typed none up are =
    let narrow = or_parts (count == 0) _ (none_holds _ none).1.1.0 in
    let low = ltb-false greatest_window _ narrow.1 in (
      update_sendable (max_payload_sent log) 0 count (most_between log.received) (omega arith)
          (omega (arith, low)),
      tt,
    )

-- A new log.
begins_fit : (role : Role) (values : Values) → AreInRange values → LogIsFit (opened role values)
unfolding opened with_sent total greatest_processed
begins_fit role values ok = record {
  sent_all = (opening_sendable (max_payload_sent_by []) role values (most_between []) ok, tt);
  received_all = tt;
  processed = omega arith;
  credit = omega arith;
}

-- A stream that is reported as unprocessed.
named_fit : (log : Log) (id : ℕ) → LogIsFit log → PendingFit (UnprocessedEvent id ∷ []) log
unfolding greatest_processed processed_by
named_fit log id are = record {
  sent_all = are.sent_all;
  received_all = are.received_all;
  processed = omega (arith, are.processed);
  credit = are.credit;
}

module _ (role : Role) (values : Values) where
  -- The last stream of a failure's GOAWAY.
  names_low : (log : Log) (last : ℕ) → NamesLast role values log last → LogIsFit log → last < 2 ^ 31
  names_low log _ processed are = last_low log are
  names_low log _ (of_fault decoded item code comes is) are = omega (
    arith,
    last_low log are,
    opened_by_low (log_view log) decoded item (comes_fit role values log decoded item comes),
  )

  -- Each change keeps it, as long as what was written was allowed.
  fit_kept : IsPendingInvariant role values (λ events log. LogIsAllowed role log → PendingFit events
      log)
  unfolding used with_sent
  fit_kept = record {
    opening = λ in_range allowed. begins_fit role values in_range;
    used = λ log octets unparsed are. are;
    framed = λ log frames are. are;
    begun = λ log begun begins are. are;
    complete = λ log are. are;
    replied = λ log decoded item verdict replies are allowed. replied_fit role values log decoded
        item verdict replies (are (comes_as_before replies.comes (LogIsAllowed role)
        (written_is_allowed role values replies.comes.before replies.comes.is)));
    named = λ log is up some are allowed. named_fit log _ (are allowed);
    reported = λ log event events may are. are;
    unreturned = λ events log count are. are;
    returned = λ events log returns. returned_fit role events log;
    failed = λ log code last names are allowed.
        let before = are (allowed_before role log.received _ _ log.sent allowed refl
        (λ pairs wrong. cc)) in
        failure_keeps code last log (names_low log last names before) before;
    sent = λ log act accepted are allowed.
        let represents = log_represents role values log accepted.is in
        let before = are (written_is_allowed role values log accepted.is) in
        wrote_keeps [] (called log act (answer_of (log_view log) act)) _
        (accepted_sendable role log act represents accepted.typed accepted.none accepted.up
        before) before;
    called = λ log act answer is none are. are;
    given = λ log more are. are;
  }

  -- Every log.
  log_fit : (log : Log) → IsLog role values log → LogIsFit log
  log_fit log is =
      pending_by_logs role values (λ events log. LogIsAllowed role log → PendingFit events log)
      (fit_kept) log is (written_is_allowed role values log is)

  -- So each item that was written can be sent, with its own greatest payload.
  pub written_sendable_by : (log : Log) → IsLog role values log → AreSendable log.payloads log.sent
  written_sendable_by log is = (log_fit log is).sent_all

  -- The greatest payloads of what was written are those that may be in force.
  pub payloads_may : (log : Log) → IsLog role values log → AllByRecursion IsPayload log.payloads
  payloads_may log is = payloads_between log.received log.sent log.payloads
      (written_by_payloads role values log is).history

  -- So each item can be sent with the greatest of all.
  pub written_sendable : (log : Log) → IsLog role values log
      → AllByRecursion (IsSendable max_frame_size_sent) log.sent
  written_sendable log is = all_sendable log.payloads log.sent (payloads_may log is)
      (written_sendable_by log is)
