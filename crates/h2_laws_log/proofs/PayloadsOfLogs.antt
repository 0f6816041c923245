-- Each item that an end writes has the greatest payload that is in force then.
use Rattle.std.proofs.Common.{map as each, append-nil, append_assoc}
use Rattle.h2_laws_log.specs.Payloads.{WrittenByPayloads, starts, reads, writes}
use Rattle.h2_laws_log.proofs.Names
use Names.{ap, subst, Code, code_number, Settings, Ping, GoAway, WindowUpdate, Item, alone, Role}
use Names.{encoding_of_item, encoding_of_items, total, Values, Act, SendData, Release, one_ack}
use Names.{one_settings, settings_count, Log, max_payload_sent_by, log_view, View, ended_in}
use Names.{Verdict, ConnectionFault, StreamFault, NoEvent, Reported, replies_to, answer_of}
use Names.{items_of, read, with_sent, opened, called, IsLog, encoding_by, ◌≡◌, ◌≤◌, ◌⊎◌, ◌+◌, ℕ}
use Names.{Bool, true, false, if◌then◌else◌, List, [], ◌∷◌, ◌++◌, length, refl, sym, ◌∙◌, inl, inr}
use Names.{arith, PayloadHistory, rules}
use Rattle.h2_laws_log.proofs.DataOfCalls.{data_ack, none_of_items}
use Rattle.h2_laws_log.proofs.InvariantReads.{Fits, Resets, Reports, verdict_fits}
use Rattle.h2_laws_log.proofs.LogInduction.{IsLogInvariant, kept_by_logs}
use Rattle.h2_laws_log.proofs.SettingsLists.{count_next, count_none}
use Rattle.h2_laws_log.proofs.WindowsOfTwoEnds.{total-append}

-- More items with one greatest payload stand after what was written.
pub encoding_more : (most : ℕ) (items sent : List Item) (payloads : List ℕ)
    → encoding_by (each (λ one. most) items ++ payloads) (items ++ sent)
    ≡ encoding_by payloads sent ++ encoding_of_items most items
unfolding encoding_of_items
encoding_more most [] sent payloads = sym (append-nil (encoding_by payloads sent))
encoding_more most (item ∷ items) sent payloads =
    ap (λ (octets : List ℕ). octets ++ encoding_of_item most item)
    (encoding_more most items sent payloads) ∙ append_assoc _ _ (encoding_of_item most item)

-- So it is of all that was written, after a client's preface.
pub written_more : (preface : List ℕ) (most : ℕ) (items sent : List Item)
    (payloads written : List ℕ) → written ≡ preface ++ encoding_by payloads sent
    → written ++ encoding_of_items most items
    ≡ preface ++ encoding_by (each (λ one. most) items ++ payloads) (items ++ sent)
written_more preface most items sent payloads written is =
    search (rules, append_assoc, encoding_more)

-- What a log has written, where all SETTINGS that were read are acknowledged.
record IsCounted (log : Log) : Type 0 where
  pub acknowledged : total one_ack log.sent ≡ settings_count log.received
  pub by_payloads : WrittenByPayloads log

-- More items are written, with the greatest payload in force: an acknowledgment alone, or ones that
-- acknowledge nothing.
history_more : (received items sent : List Item) (payloads : List ℕ)
    → total one_ack items + total one_ack sent ≡ settings_count received
    → (length items ≤ 1) ⊎ (total one_ack items ≡ 0)
    → PayloadHistory received sent payloads
    → PayloadHistory received (items ++ sent)
    (each (λ one. max_payload_sent_by received) items ++ payloads)
unfolding total
history_more received [] sent payloads all alike is = is
history_more received (item ∷ []) sent payloads all alike is = writes item is (omega (arith, all))
history_more received (item ∷ next ∷ items) sent payloads all (inl few) is = absurd (omega arith)
history_more received (item ∷ next ∷ items) sent payloads all (inr none) is =
    writes item
    (history_more received (next ∷ items) sent payloads (omega arith) (inr (omega arith)) is)
    (omega (arith, total-append one_ack (next ∷ items) sent))

-- So it is in a log, where all SETTINGS are acknowledged then.
sent_in_force : (log : Log) (items : List Item)
    → total one_ack items + total one_ack log.sent ≡ settings_count log.received
    → (length items ≤ 1) ⊎ (total one_ack items ≡ 0)
    → WrittenByPayloads log → IsCounted (with_sent log items)
unfolding with_sent total
sent_in_force log [] all alike is = record { acknowledged = omega arith; by_payloads = is }
sent_in_force log (item ∷ items) all alike is =
    search (rules, total-append, history_more, written_more)

-- What may be reported is no SETTINGS that ask for an acknowledgment.
reported_asks : (log : Log) (item : Item) → Reports log item → one_settings item ≡ 0
unfolding one_settings
reported_asks log (alone (Settings true pairs)) may = refl
reported_asks log (alone (Settings false pairs)) may = absurd (cc)
reported_asks log item may = refl

-- The reply to SETTINGS that have no event acknowledges them, and no other such reply acknowledges.
silent_acknowledges : (item : Item) → total one_ack (replies_to NoEvent item) ≡ one_settings item
unfolding replies_to total one_ack one_settings
silent_acknowledges (alone (Settings false pairs)) = refl
silent_acknowledges (alone (Ping false octets)) = refl
silent_acknowledges item = refl

-- Replies acknowledge just the item that is replied to.
replies_acknowledge : (log : Log) (verdict : Verdict) (item : Item)
    → ((code : Code) → verdict ≡ ConnectionFault code → ⊥)
    → Fits (Resets log item) (Reports log item) verdict
    → total one_ack (replies_to verdict item) ≡ one_settings item
unfolding replies_to total one_ack
replies_acknowledge log (ConnectionFault code) item up fits = absurd (up code refl)
replies_acknowledge log (StreamFault code) item up fits = sym fits.acks
replies_acknowledge log NoEvent item up fits = silent_acknowledges item
replies_acknowledge log Reported item up fits = sym (reported_asks log item fits)

-- There is one reply at most.
replies_few : (verdict : Verdict) (item : Item) → length (replies_to verdict item) ≤ 1
unfolding replies_to
replies_few NoEvent (alone (Settings false pairs)) = omega arith
replies_few NoEvent (alone (Ping false octets)) = omega arith
replies_few verdict item = omega arith

-- A release acknowledges nothing, whether or not the peer has ended the stream.
release_acknowledges : (i count : ℕ) (ended : Bool)
    → total one_ack (alone (WindowUpdate 0 count)
    ∷ (if ended then [] else alone (WindowUpdate i count) ∷ [])) ≡ 0
unfolding total one_ack
release_acknowledges i count true = refl
release_acknowledges i count false = refl

-- No call acknowledges.
calls_acknowledge : (view : View) (act : Act)
    → total one_ack (items_of view act (answer_of view act)) ≡ 0
unfolding items_of total one_ack
calls_acknowledge view (SendData id octets end) =
    none_of_items one_ack data_ack view.max_payload id octets end _
calls_acknowledge view (Release id count) =
    release_acknowledges id count (ended_in (view.stream id))
calls_acknowledge view act = refl

-- Nothing else reads or writes.
by_payloads : (role : Role) (values : Values) → IsLogInvariant role values IsCounted
unfolding opened with_sent total one_ack encoding_of_items
by_payloads role values = record {
  opening = λ in_range. record {
    acknowledged = sym count_none;
    by_payloads = record { history = writes _ starts (sym count_none); written = refl };
  };
  used = λ log octets unparsed is. assumption is;
  framed = λ log frames is. assumption is;
  begun = λ log begun is. assumption is;
  replied = λ log decoded item verdict replies is.
      let next = read log decoded item in
      let few = replies_acknowledge log verdict item replies.up
      (subst (Fits (Resets log item) (Reports log item)) replies.is
      (verdict_fits log decoded item)) in
      sent_in_force next (replies_to verdict item) (omega (arith, count_next))
      (inl (replies_few verdict item)) (record {
        history = reads item is.by_payloads.history;
        written = is.by_payloads.written;
      });
  reported = λ log event events may is. assumption is;
  unreturned = λ log count is. assumption is;
  returned = λ log returns is. sent_in_force (record log { unreturned = 0 })
      (alone (WindowUpdate 0 log.unreturned) ∷ []) (omega (arith, is.acknowledged)) (inr refl)
      (assumption is);
  failed = λ log code last names is.
      let goaway = alone (GoAway last (code_number code) []) ∷ [] in
      assumption (sent_in_force log goaway (omega arith) (inr refl) is.by_payloads);
  sent = λ log act accepted is.
      let next = called log act (answer_of (log_view log) act) in
      sent_in_force next (items_of (log_view log) act (answer_of (log_view log) act))
      (omega (arith, is.acknowledged, calls_acknowledge (log_view log) act))
      (inr (calls_acknowledge (log_view log) act)) (assumption is);
  called = λ log act answer is_log none is. assumption is;
  given = λ log more is. assumption is;
}

-- The greatest payloads of all that an end has written.
pub written_by_payloads : (role : Role) (values : Values) (log : Log) → IsLog role values log
    → WrittenByPayloads log
written_by_payloads role values log is =
    (kept_by_logs role values IsCounted (by_payloads role values) log is).by_payloads
