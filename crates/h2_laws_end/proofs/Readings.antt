-- What every log has read, and what was reported of it.
use Rattle.h2_laws_end.proofs.Names
use Names.{◌≡◌, ℕ, ◌<◌, true, false, List, [], ◌∷◌, ◌++◌, Option, Some, None, refl, sym, ap, ◌∙◌}
use Names.{inl, inr, arith, append_assoc, subst, list_any, both_ways, or_parts, or_left, lt-ltb}
use Names.{Code, code_number, GoAway, Item, alone, block, Role, Server, is_goaway, Event}
use Names.{UnprocessedEvent, Log, log_view, Verdict, ConnectionFault, Decoded, replies_to}
use Names.{completes, events_of, read, with_failure, IsDecodedIn, Values, any_after}
use Names.{comes_as_before, any_either, Replies, fault_codes, comes_fit, opens_from}
use Names.{is_goaway_below, processed_by, greatest_processed, with_sent, used, ItemRead, its_pong}
use Names.{AreEventsOf, items_read, events_read, events_of_items, replies_owed, replies_among}
use Rattle.hpack.specs.Tables.{Entries}
use Rattle.h2_spec_log.specs.ItemEffects.{table_after}
use Rattle.h2_laws_log.proofs.ItemsThatCome.{comes_up, comes_decoded}
use Rattle.h2_laws_log.proofs.NoGoAways.{replies_none}
use Rattle.h2_laws_end.specs.Readings.{IsEventOf, DecodesTo, AreDecoded, AreReadings}
use Rattle.h2_laws_end.proofs.FaultCodes.{HasCode, verdict_coded}
use Rattle.h2_laws_end.proofs.GoAwaysRead.{IsTypedGoAway, item_typed}
use Rattle.h2_laws_end.proofs.Replies.{replies_of_logs}
use Rattle.h2_laws_end.proofs.ReadVerdicts.{Says, says_of, says_one}
use Rattle.h2_laws_end.proofs.ReadingRules.{IsUnreported, reading_of, events_said, processed_low}
use Rattle.h2_laws_end.proofs.ReadingRules.{IsLow, IsFaulty, IsSaid, IsSeen, rules_say, rules_see}

-- What HasReadings says, by the parts of a log; and, as long as the connection hasn't failed, that
-- at a server unused numbers are above those processed.
pub record AreRead (role : Role) (received sent : List Item) (reported : List Event)
    (table : Entries) (failed : Option Code) : Type 0 where
  pub readings : List ItemRead
  pub items : items_read readings ≡ received
  pub events : events_read readings ≡ events_of_items reported
  pub each : AreReadings role sent reported readings
  pub decoded_in : AreDecoded readings table
  pub low : failed ≡ None → IsLow role received sent reported

-- The same of a log of which these events are still to be reported.
abbrev pub PendingRead : List Event → Log → Type 0
PendingRead events log =
    AreRead log.role log.received log.sent (events ++ log.reported) log.table log.failed

-- The same of a log.
abbrev pub LogIsRead : Log → Type 0
LogIsRead log = PendingRead [] log

-- Nothing, or unprocessed streams, after unprocessed streams.
none_later : events_of_items [] ≡ []
unfolding events_of_items
none_later = refl

none_more : (events later : List Event) → events_of_items events ≡ [] → events_of_items later ≡ []
    → events_of_items (events ++ later) ≡ []
unfolding events_of_items
none_more [] later none after = after
none_more (UnprocessedEvent id ∷ events) later none after = none_more events later none after
none_more (event ∷ events) later none after = cc

-- Readings still stand where more was written, and unprocessed streams were reported.
readings_more : (role : Role) (items sent : List Item) (events reported : List Event)
    (readings : List ItemRead) → events_of_items events ≡ []
    → AreReadings role sent reported readings
    → AreReadings role (items ++ sent) (events ++ reported) readings
readings_more role items sent events reported [] none are = none_more events reported none are
readings_more role items sent events reported (reading ∷ readings) none are =
    let stands = are.0 in (
      record {
        sent_later = items ++ stands.sent_later;
        reported_later = events ++ stands.reported_later;
        sent_is = ap (λ (line : List Item). items ++ line) stands.sent_is
            ∙ sym (append_assoc items stands.sent_later reading.sent);
        reported_is = ap (λ (line : List Event). events ++ line) stands.reported_is
            ∙ sym (append_assoc events stands.reported_later (reading.events ++ reading.reported));
        unprocessed_alone = none_more events stands.reported_later none stands.unprocessed_alone;
        replied = stands.replied;
        events = stands.events;
      },
      are.1,
    )

-- Items that are written keep this, if no GOAWAY is among them.
wrote : (role : Role) (received items sent : List Item) (reported : List Event) (table : Entries)
    (failed : Option Code) → list_any is_goaway items ≡ false
    → AreRead role received sent reported table failed
    → AreRead role received (items ++ sent) reported table failed
wrote role received items sent reported table failed none are = record {
  readings = are.readings;
  items = are.items;
  events = are.events;
  each = readings_more role items sent [] reported are.readings none_later are.each;
  decoded_in = are.decoded_in;
  low = λ up server i some unused.
      let old = are.low up server i some unused in (
        old.0,
        λ goaway. elim (any_either is_goaway items sent goaway) [
          | inl here ↦ absurd (both_ways _ none here)
          | inr before ↦ any_after (is_goaway_below i) items sent (old.1 before)
        ],
      );
}

-- The GOAWAY of a failure keeps it.
wrote_failure : (role : Role) (received items sent : List Item) (reported : List Event)
    (table : Entries) (failed : Option Code) (code : Code)
    → AreRead role received sent reported table failed
    → AreRead role received (items ++ sent) reported table (Some code)
wrote_failure role received items sent reported table failed code are = record {
  readings = are.readings;
  items = are.items;
  events = are.events;
  each = readings_more role items sent [] reported are.readings none_later are.each;
  decoded_in = are.decoded_in;
  low = λ up. absurd (cc);
}

-- GOAWAY's last stream is below what is above it.
goaway_here : (i last code : ℕ) (sent : List Item) → last < i
    → list_any (is_goaway_below i) (alone (GoAway last code []) ∷ sent) ≡ true
unfolding is_goaway_below
goaway_here i last code sent below = or_left _ _ (lt-ltb last i below)

-- So does a GOAWAY with the greatest stream that was processed.
pub wrote_goaway : (role : Role) (received sent : List Item) (reported : List Event)
    (table : Entries) (failed : Option Code) (last : ℕ) → (role ≡ Server → last
    ≡ greatest_processed reported)
    → AreRead role received sent reported table failed
    → AreRead role received (alone (GoAway last 0 []) ∷ sent) reported table failed
wrote_goaway role received sent reported table failed last is are = record {
  readings = are.readings;
  items = are.items;
  events = are.events;
  each = readings_more role (alone (GoAway last 0 []) ∷ []) sent [] reported are.readings
      none_later are.each;
  decoded_in = are.decoded_in;
  low = λ up server i some unused.
      let old = are.low up server i some unused in
      (old.0, λ goaway. goaway_here i last 0 sent (omega (arith, old.0, is server)));
}

-- A stream that is reported as unprocessed keeps it.
pub named : (role : Role) (received sent : List Item) (reported : List Event) (table : Entries)
    (failed : Option Code) (id : ℕ) → AreRead role received sent reported table failed
    → AreRead role received sent (UnprocessedEvent id ∷ reported) table failed
unfolding events_of_items greatest_processed processed_by
named role received sent reported table failed id are = record {
  readings = are.readings;
  items = are.items;
  events = are.events;
  each = readings_more role [] sent (UnprocessedEvent id ∷ []) reported are.readings
      refl are.each;
  decoded_in = are.decoded_in;
  low = λ up server i some unused.
      let old = are.low up server i some unused in (omega (arith, old.0), old.1);
}

-- An event of an item is none of those that follow a GOAWAY.
event_stays : (received : List Item) (item : Item) (decoded : Option Decoded) (event : Event)
    (reported : List Event) → IsEventOf received item decoded event
    → events_of_items (event ∷ reported) ≡ event ∷ events_of_items reported
unfolding events_of_items
event_stays received _ _ _ reported (its_pong octets) = refl
event_stays received _ _ _ reported is = refl

events_stay : (role : Role) (received : List Item) (reading : ItemRead)
    (events reported : List Event) → AreEventsOf role received reading events
    → events_of_items (events ++ reported) ≡ events ++ events_of_items reported
events_stay role received reading [] reported are = refl
events_stay role received reading (event ∷ []) reported are = event_stays _ _ _ _ reported are
events_stay role received reading (event ∷ (other ∷ events)) reported are = absurd are

-- The greatest number of two lists of events.
pub processed_append : (events reported : List Event) (i : ℕ) → greatest_processed events < i
    → greatest_processed reported < i → greatest_processed (events ++ reported) < i
unfolding greatest_processed
processed_append [] reported i low below = below
processed_append (event ∷ events) reported i low below =
    omega (arith, processed_append events reported i (omega (arith, low)) below, low)

-- What a block decodes to, and the table after it.
decodes : (log : Log) (decoded : Option Decoded) (item : Item) (verdict : Verdict)
    → IsDecodedIn log decoded (completes item) → IsSeen decoded item
    → DecodesTo log.table item (reading_of log decoded item verdict)
    (table_after log.table decoded item)
decodes log decoded (alone frame) verdict sees seen = (sees, refl)
decodes log None (block stream end octets) verdict sees seen = absurd seen
decodes log (Some decoded) (block stream end octets) verdict sees seen = (decoded, refl, sees, refl)

-- An item that is read keeps it, by its verdict.
item_read : (log : Log) (decoded : Option Decoded) (item : Item) (verdict : Verdict)
    → ((code : Code) → verdict ≡ ConnectionFault code → ⊥)
    → IsDecodedIn log decoded (completes item) → HasCode (fault_codes item) verdict
    → IsTypedGoAway item → replies_among log.sent ≡ replies_owed log.received
    → Says (IsSeen decoded item) (IsSeen decoded item) (IsSeen decoded item) verdict
    → Says (IsFaulty log item) (IsUnreported log item) (IsSaid log item) verdict
    → LogIsRead log
    → PendingRead (events_of (log_view log) decoded verdict item) (read log decoded item)
unfolding items_read events_read
item_read log decoded item verdict none sees coded typed replied seen says are =
    let is_seen = says_one verdict none seen in
    let said = events_said log decoded item verdict none sees is_seen coded typed says in
    let reading = reading_of log decoded item verdict in
    record {
      readings = reading ∷ are.readings;
      items = ap (λ (line : List Item). item ∷ line) are.items;
      events = ap (λ (line : List Event). reading.events ++ line) are.events
          ∙ sym (events_stay log.role log.received reading reading.events log.reported said);
      each = (
        record {
          sent_later = [];
          reported_later = [];
          sent_is = refl;
          reported_is = refl;
          unprocessed_alone = none_later;
          replied = replied ∙ ap replies_owed (sym are.items);
          events = rw are.items said;
        },
        are.each,
      );
      decoded_in = (log.table, are.decoded_in, decodes log decoded item verdict sees is_seen);
      low = λ up server i some unused.
          let before = or_parts (opens_from i item) (list_any (opens_from i) log.received) unused in
          let old = are.low up server i some before.1 in (
            processed_append reading.events log.reported i
                (processed_low log decoded item verdict i server some unused says) old.0,
            old.1,
          );
    }

-- Items that are written.
pub wrote_keeps : (events : List Event) (log : Log) (items : List Item)
    → list_any is_goaway items ≡ false → PendingRead events log
    → PendingRead events (with_sent log items)
unfolding with_sent
wrote_keeps events log [] none are = are
wrote_keeps events log (item ∷ items) none are =
    wrote log.role log.received (item ∷ items) log.sent (events ++ log.reported) log.table
    log.failed none are

-- A failure.
pub failure_keeps : (code : Code) (last : ℕ) (log : Log) → LogIsRead log
    → LogIsRead (with_failure code last log)
unfolding with_sent
failure_keeps code last log are =
    wrote_failure log.role log.received (alone (GoAway last (code_number code) []) ∷ []) log.sent
    log.reported log.table log.failed code are

-- What Readings says of an item holds where the item comes and is no fault of the connection.
pub replied_read : (role : Role) (values : Values) (log : Log) (decoded : Option Decoded)
    (item : Item) (verdict : Verdict) → Replies role values log decoded item verdict
    → LogIsRead log
    → PendingRead (events_of (log_view log) decoded verdict item)
    (with_sent (read log decoded item) (replies_to verdict item))
unfolding used
replied_read role values log decoded item verdict replies are =
    let comes = replies.comes in
    let typed = item_typed item (comes_fit role values log decoded item comes) in
    let replied = comes_as_before comes (λ next. replies_among next.sent
    ≡ replies_owed next.received) (replies_of_logs role values comes.before comes.is) in
    let up = comes_up comes in
    wrote_keeps _ (read log decoded item) (replies_to verdict item) (replies_none verdict item)
    (item_read log decoded item verdict replies.up (comes_decoded comes)
    (subst (HasCode (fault_codes item)) replies.is (verdict_coded (log_view log) decoded item))
    typed replied (subst (Says (IsSeen _ _) (IsSeen decoded item) (IsSeen decoded item)) replies.is
    (says_of _ _ _ log decoded item (rules_see log decoded item)))
    (subst (Says (IsFaulty log item) (IsUnreported log item) (IsSaid log item)) replies.is
    (says_of _ _ _ log decoded item (rules_say log decoded item (are.low up)))) are)
