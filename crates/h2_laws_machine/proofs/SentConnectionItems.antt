-- What PING, GOAWAY, SETTINGS and the connection's WINDOW_UPDATE that are sent make of an end.
use Rattle.h2_laws_machine.proofs.Names
use Names.{◌≡◌, ◌≢◌, ℕ, ◌+◌, ◌≤◌, nat_lt, Bool, true, false, List, [], ◌∷◌, Some, refl, sym, ◌∙◌}
use Names.{arith, lt-ltb, le-ltb, false_from_ne_true, both_ways, ne_eqb, list_any, Settings, Ping}
use Names.{GoAway, WindowUpdate, Code, code_number, Item, alone, Role, Client, Server, data_on}
use Names.{data_of, increment_on, is_block_on, ends, resets, is_goaway, is_goaway_below, one_ping}
use Names.{one_reset, total, greatest_block, one_pong, reported_total, Values, is_server}
use Names.{value_read, value_after, one_settings, settings_count, own_value, openings, is_above}
use Names.{first_window, granted_on, Log, newest_ping, with_sent, with_failure, Streams}
use Names.{OwnSettings, RepresentsOwn, goaway_sent_last, own_next, own_of_all, settings_one}
use Names.{value_changed, value_named, active_parts, active_before, total_one, changed_pairs}
use Rattle.h2_laws_log.proofs.AllowedHistories.{changed_window}
use Rattle.h2_laws_log.proofs.InvariantSteps.{update_here}
use Rattle.h2_laws_log.proofs.SettingsLists.{changed_frame}
use Rattle.h2_laws_machine.proofs.ItemsApart.{ping_apart, settings_apart, update_apart}
use Rattle.h2_laws_machine.proofs.LogCore.{Core, core, CoreFacts, Advances, StreamsOf, confirmed}
use Rattle.h2_laws_machine.proofs.LogCore.{active_by_items}
use Rattle.h2_laws_machine.proofs.OneItemMore.{total_quiet, own_quiet}
use Rattle.h2_laws_machine.proofs.SentQuietItems.{sends, active_like, used_wrote, LeavesStreams}
use Rattle.h2_laws_machine.proofs.SentQuietItems.{streams_sent, windows_sent, own_sent}
use Rattle.h2_laws_machine.proofs.SentQuietItems.{goaways_sent, ping_sent, IsQuietOut, quiet_wrote}
use Rattle.h2_laws_machine.proofs.StreamsSame.{streams_same}

-- opens what computes
unfoldable pub computing : Unit {0}
unfolding data_on data_of increment_on is_block_on ends resets is_goaway is_goaway_below one_ping
    one_reset greatest_block one_settings goaway_sent_last newest_ping
computing = tt

-- PING says nothing of streams.
pub ping_leaves : (ack : Bool) (octets : List ℕ) → LeavesStreams (alone (Ping ack octets))
unfolding computing
ping_leaves ack octets = assumption (ping_apart ack octets)

-- Nor do SETTINGS.
pub settings_leave : (ack : Bool) (pairs : List (ℕ × ℕ))
    → LeavesStreams (alone (Settings ack pairs))
unfolding computing
settings_leave ack pairs = assumption (settings_apart ack pairs)

-- Nor does WINDOW_UPDATE, save for receive windows; and it changes nothing else.
pub update_quiet : (i increment : ℕ) → IsQuietOut (alone (WindowUpdate i increment))
unfolding computing
update_quiet i increment = assumption (update_apart i increment)

-- An update gives nothing to other numbers.
pub update_other : (j i increment : ℕ) → j ≢ i
    → increment_on j (alone (WindowUpdate i increment)) ≡ 0
unfolding increment_on
update_other j i increment other = rw (ne_eqb i j (λ same. other (sym same))) refl

-- The peer may send more on the connection.
pub widened_advances : (h : CoreFacts) (c : Core) (count : ℕ) → Advances h c
    → Advances (record h { windows = record h.windows { recv = h.windows.recv + count } })
    (sends c (alone (WindowUpdate 0 count)))
widened_advances h c count g =
    quiet_wrote h c (alone (WindowUpdate 0 count)) (h.windows.recv + count) (update_quiet 0 count)
    (λ j some. update_other j 0 count some) (omega (arith, update_here count)) g

-- A PING was sent, where none awaits its answer.
pub ping_advances : (h : CoreFacts) (c : Core) (octets : List ℕ)
    → reported_total one_pong c.reported ≤ total one_ping c.sent → Advances h c
    → Advances (record h { ping = Some octets }) (sends c (alone (Ping false octets)))
unfolding computing
ping_advances h c octets enough g =
    let item : Item = alone (Ping false octets) in
    let waits : nat_lt (reported_total one_pong c.reported) (total one_ping (item ∷ c.sent)) ≡ true
    = lt-ltb _ _ (omega (arith, total_one one_ping item c.sent)) in
    record {
      reading = g.reading;
      encoder = g.encoder;
      streams = streams_sent h.streams c item (ping_leaves false octets) (λ j some. refl)
          (own_quiet 4 first_window (confirmed c) item c.sent refl) g.streams;
      windows = windows_sent _ _ _ _ _ _ h.windows.recv refl (omega arith) g.windows;
      peer = g.peer;
      own = own_sent h.own c.role (confirmed c) c.sent item refl g.own;
      goaway = goaways_sent h.goaway c.received c.sent item refl refl g.goaway;
      ping = rw waits refl;
    }

-- the values of SETTINGS that change them, but for the initial window and the greatest frame
changed_values : (role : Role) (written : ℕ) (values : Values) (a b : ℕ)
    → (value_after 1 a (changed_pairs role written values) ≡ values.table_limit)
    × (is_server role ≡ true
    → value_after 3 b (changed_pairs role written values) ≡ values.max_streams)
unfolding value_after changed_pairs
changed_values Client written values a b = (value_named 1 _ _ values.max_frame [], λ server. cc)
changed_values Server written values a b = (
  value_named 1 values.table_limit written values.max_frame [],
  λ server. value_named 3 values.max_streams written values.max_frame [],
)

-- a value that was changed, once all SETTINGS are acknowledged
changed_value : (id first : ℕ) (pairs : List (ℕ × ℕ)) (items : List Item)
    → own_value id first (settings_count (alone (Settings false pairs) ∷ items))
    (alone (Settings false pairs) ∷ items)
    ≡ value_after id (value_read id first items) pairs
changed_value id first pairs items = own_of_all _ _ _ _ (omega arith) ∙ value_changed _ _ _ _

-- a value that is in force stays so where SETTINGS are written
value_stays : (id first count : ℕ) (pairs : List (ℕ × ℕ)) (items : List Item)
    → count ≤ settings_count items
    → own_value id first count (alone (Settings false pairs) ∷ items) ≡ own_value id first count
    items
value_stays id first count pairs items enough = own_next _ _ _ _ items (λ one. enough)

-- The values, where SETTINGS are sent, all before being acknowledged.
own_changed : (own : OwnSettings) (role : Role) (count : ℕ) (sent : List Item) (values : Values)
    → count ≤ settings_count sent → 1 ≤ settings_count sent → RepresentsOwn own role count sent
    → RepresentsOwn (record own { awaited = Some values }) role count
    (alone (Settings false (changed_pairs role (value_read 5 16384 sent) values)) ∷ sent)
unfolding settings_count
own_changed own role count sent values enough some g =
    let written = value_read 5 16384 sent in
    let pairs = changed_pairs role written values in
    let w = g.in_force in
    let set = changed_values _ _ _ _ _ in
    record {
      in_force = record {
        table_limit = w.table_limit ∙ sym (value_stays 1 4096 _ _ _ enough);
        initial_window = w.initial_window ∙ sym (value_stays 4 first_window _ _ _ enough);
        max_streams = λ server. w.max_streams server ∙ sym (value_stays 3 100 _ _ _ (omega arith));
        max_frame = w.max_frame ∙ sym (value_stays 5 16384 _ _ _ enough);
      };
      awaits = sym (lt-ltb _ _ (omega (arith, settings_one pairs)));
      awaited = λ others is.
          let same : values ≡ others = cc in
          rw (← same) (record {
            table_limit = changed_value 1 4096 _ _ ∙ set.0;
            initial_window = changed_value 4 first_window _ _ ∙ changed_window _ _ _ _;
            max_streams = λ server. changed_value 3 100 pairs sent ∙ set.1 server;
            max_frame = changed_value 5 16384 _ _ ∙ changed_frame _ _ _;
          });
    }

-- SETTINGS were sent, all before being acknowledged.
pub settings_advance : (h : CoreFacts) (c : Core) (values : Values)
    → confirmed c ≤ settings_count c.sent → 1 ≤ settings_count c.sent → Advances h c
    → Advances (record h { own = record h.own { awaited = Some values } })
    (sends c (alone (Settings false (changed_pairs c.role (value_read 5 16384 c.sent) values))))
unfolding computing
settings_advance h c values enough some g =
    let pairs = changed_pairs c.role (value_read 5 16384 c.sent) values in
    let item : Item = alone (Settings false pairs) in
    record {
      reading = g.reading;
      encoder = g.encoder;
      streams = streams_sent h.streams c item (settings_leave false pairs) (λ j some. refl)
          (value_stays 4 first_window (confirmed c) pairs c.sent enough) g.streams;
      windows = windows_sent _ _ _ _ _ _ h.windows.recv refl (omega arith) g.windows;
      peer = g.peer;
      own = own_changed h.own c.role (confirmed c) c.sent values enough some g.own;
      goaway = goaways_sent h.goaway c.received c.sent item refl refl g.goaway;
      ping = ping_sent h.ping c item refl refl g.ping;
    }

-- GOAWAY opens nothing.
goaway_blocks : (role : Role) (i last code : ℕ) (received sent : List Item)
    → list_any (is_block_on i) (openings role received (alone (GoAway last code []) ∷ sent))
    ≡ list_any (is_block_on i) (openings role received sent)
unfolding is_block_on
goaway_blocks Client i last code received sent = refl
goaway_blocks Server i last code received sent = refl

-- an active stream isn't above the last one of a GOAWAY
above_goaway : (role : Role) (i last code : ℕ) (sent : List Item)
    → (is_server role ≡ true → nat_lt last i ≡ false)
    → is_above role i (alone (GoAway last code []) ∷ sent) ≡ is_above role i sent
unfolding is_above is_goaway_below
above_goaway Client i last code sent low = refl
above_goaway Server i last code sent low = rw (low refl) refl

-- the same streams are active after a GOAWAY, by whether the stream was
active_goaway : (c : Core) (i last code : ℕ) (b : Bool) → active_by_items c i ≡ b
    → (is_server c.role ≡ true → active_by_items c i ≡ true → i ≤ last)
    → active_by_items (sends c (alone (GoAway last code []))) i ≡ active_by_items c i
unfolding computing
active_goaway c i last code true is low =
    active_like _ _ _ _ _ c.reported (goaway_blocks c.role i last code c.received c.sent)
    (above_goaway c.role i last code c.sent (λ server. le-ltb last i (low server is))) refl refl
active_goaway c i last code false is low =
    false_from_ne_true _ (λ active_is. both_ways (active_by_items c i) is
    (active_before c.role i [] (alone (GoAway last code []) ∷ []) c.received c.sent [] c.reported
    active_is (sym (goaway_blocks c.role i last code c.received c.sent)
    ∙ (active_parts c.role i c.received _ c.reported active_is).opened))) ∙ sym is

-- The streams are the same after a GOAWAY with a last stream that no active one is above.
goaway_streams : (s : Streams) (c : Core) (last code : ℕ)
    → (is_server c.role ≡ true → (i : ℕ) → active_by_items c i ≡ true → i ≤ last)
    → StreamsOf s c → StreamsOf s (sends c (alone (GoAway last code [])))
unfolding computing granted_on
goaway_streams s c last code low g =
    let item : Item = alone (GoAway last code []) in
    streams_same s c (sends c item) (λ i. record {
      active = active_goaway c i last code (active_by_items c i) refl (λ server. low server i);
      was_reset = refl;
      stream = λ alive. rw (
        own_quiet 4 first_window (confirmed c) item c.sent refl,
        total_quiet (data_on i) item c.sent refl,
        total_quiet (increment_on i) item c.sent refl,
      ) refl;
    }) (used_wrote c.role item c.received c.sent (λ items. refl)) refl
    (total_quiet one_reset item c.sent refl) g

-- They are the same after the GOAWAY of a failure.
pub failing_streams : (s : Streams) (log : Log) (code : Code) (last : ℕ)
    → (is_server log.role ≡ true → (i : ℕ) → active_by_items (core log) i ≡ true → i ≤ last)
    → StreamsOf s (core log) → StreamsOf s (core (with_failure code last log))
unfolding with_sent
failing_streams s log code last low g = goaway_streams s (core log) last (code_number code) low g

-- GOAWAY was sent, with a last stream that no active one is above.
pub goaway_advances : (h : CoreFacts) (c : Core) (last code : ℕ)
    → (is_server c.role ≡ true → (i : ℕ) → active_by_items c i ≡ true → i ≤ last) → Advances h c
    → Advances (record h { goaway = record h.goaway { sent = Some last } })
    (sends c (alone (GoAway last code [])))
unfolding computing
goaway_advances h c last code low g =
    let item : Item = alone (GoAway last code []) in
    record {
      reading = g.reading;
      encoder = g.encoder;
      streams = goaway_streams h.streams c last code low g.streams;
      windows = windows_sent _ _ _ _ _ _ h.windows.recv refl (omega arith) g.windows;
      peer = g.peer;
      own = own_sent h.own c.role (confirmed c) c.sent item refl g.own;
      goaway = record { last_sent = refl; least_received = g.goaway.least_received };
      ping = ping_sent h.ping c item refl refl g.ping;
    }
