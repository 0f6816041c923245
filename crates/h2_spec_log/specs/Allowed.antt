-- What an end may write, by what it has read and written before; and the lists that come about so.
-- They say nothing of octets and calls: each call that is accepted, and each reply, keeps to this.
-- contract: h2_laws_log::what_is_written_is_allowed
use Rattle.std.specs.Prelude.{◌≡◌, ◌≢◌, ◌⊎◌, ℕ, ◌+◌, ◌%◌, ◌≤◌, ◌<◌, Bool, true, false, List, []}
use Rattle.std.specs.Prelude.{◌∷◌, ◌++◌, length}
use Rattle.std.specs.List.{list_any}
use Rattle.h2_frame.specs.Frames.{Data, Headers, Priority, Reset, Settings, Ping, GoAway}
use Rattle.h2_frame.specs.Frames.{WindowUpdate, Continuation, Unknown}
use Rattle.h2_frame.specs.Encoding.{payload_of}
use Rattle.h2_block.specs.Grouping.{Item, alone, block, max_block_octets}
use Rattle.h2_spec_log.specs.declared.role.Role.{Role}
use Rattle.h2_spec_log.specs.declared.role.Role.TheVariants.{Client}
use Rattle.h2_spec_log.specs.Items.{data_on, data_of, increment_on, ends, resets, one_ping}
use Rattle.h2_spec_log.specs.Items.{one_answer, is_goaway, is_goaway_below, stream_of_item, total}
use Rattle.h2_spec_log.specs.Items.{greatest_block}
use Rattle.h2_spec_log.specs.Acts.{Values, AreInRange}
use Rattle.h2_spec_log.specs.Settings.{peer_of, value_read, settings_count, one_ack}
use Rattle.h2_spec_log.specs.Events.{reports_unprocessed}
use Rattle.h2_spec_log.specs.States.{is_active, is_used, count_below, greatest_number}
use Rattle.h2_spec_log.specs.Windows.{given_on, given_on_connection, granted_on_connection}
use Rattle.h2_spec_log.specs.Windows.{greatest_window}
use Rattle.h2_spec_log.specs.Log.{Log, acked, allowed_by, least_goaway, max_payload_sent_by}
use Rattle.h2_spec_log.specs.CallRules.{opening_pairs, changed_pairs}

-- Whether a stream is active, by what was read and written alone. Naming streams unprocessed makes
-- fewer of them active.
abbrev pub active_by_items : Role → ℕ → List Item → List Item → Bool
active_by_items role i received sent = is_active role i received sent []

-- All SETTINGS that were read have been acknowledged.
-- rule: 6.5.3 SETTINGS are acknowledged before anything else is sent
abbrev pub HasAcknowledged : List Item → List Item → Type 0
HasAcknowledged received sent = total one_ack sent ≡ settings_count received

-- A stream on which this end goes on: it is active, and this end hasn't ended it.
-- rule: 5.1 Each frame is sent only in states that allow it
pub record MayContinue (role : Role) (i : ℕ) (received sent : List Item) : Type 0 where
  pub active : active_by_items role i received sent ≡ true
  pub goes : list_any (ends i) sent ≡ false

-- A stream may be opened by a client, with an odd number of 31 bits above all before it, while
-- fewer are active than the server allows, and no GOAWAY was written or read (RFC 9113, sections
-- 5.1.1, 5.1.2 and 6.8).
-- rule: 5.1.1 A client opens odd numbers, each above all before it
pub record MayOpen (role : Role) (i : ℕ) (received sent : List Item) : Type 0 where
  pub client : role ≡ Client
  pub odd : i % 2 ≡ 1
  pub rises : greatest_block sent < i
  pub low : i ≤ greatest_number
  pub few : count_below (greatest_block sent + 1)
      (λ j. active_by_items role j received sent) < allowed_by received
  pub stays : list_any is_goaway sent ≡ false
  pub reported_to_stay : list_any is_goaway received ≡ false

-- DATA may be written on a stream on which this end goes on, with no more octets than the peer
-- reads in a frame, and 65,536 at most (own; section 4.2), and within both windows; of no octets
-- always (section 6.9.1).
-- rule: 6.9.1 DATA is sent within both windows
pub record MaySendData (role : Role) (i count : ℕ) (received sent : List Item) : Type 0 where
  pub goes_on : MayContinue role i received sent
  pub short : count ≤ max_payload_sent_by received
  pub fits : count ≢ 0 → total (data_on i) sent + count ≤ given_on i received
  pub fits_connection : count ≢ 0 → total data_of sent + count ≤ given_on_connection received

-- WINDOW_UPDATE is never of nothing. On a stream no more is returned than was read (section 6.9),
-- and on the connection the window is at most the greatest (section 6.9.1).
-- rule: 5.1 Each frame is sent only in states that allow it
pub record MayUpdateWindow (role : Role) (i increment : ℕ)
    (received sent : List Item) : Type 0 where
  pub some : increment ≢ 0
  pub active : i ≢ 0 → active_by_items role i received sent ≡ true
  pub read : i ≢ 0 → total (increment_on i) sent + increment ≤ total (data_on i) received
  pub within : i ≡ 0 → granted_on_connection sent + increment
      ≤ greatest_window + total data_of received

-- The stream was active before the item that was read last, which is one of its own: with that item
-- the peer may have ended it.
-- rule: 5.1 Each frame is sent only in states that allow it
pub record WasActive (role : Role) (i : ℕ) (received sent : List Item) : Type 0 where
  pub last : Item
  pub older : List Item
  pub read : received ≡ last ∷ older
  pub its_own : stream_of_item last ≡ i
  pub active : active_by_items role i older sent ≡ true

-- A stream may be reset, once, that is active, or was so up to the item with which the peer has
-- ended it (section 5.1: on a closed stream nothing is sent but PRIORITY).
-- rule: 5.1 Each frame is sent only in states that allow it
-- rule: 5.4.2 RST_STREAM is not answered by RST_STREAM, nor sent twice
-- rule: 6.4 (own) An end resets a stream on request, and counts it
pub record MayReset (role : Role) (i : ℕ) (received sent : List Item) : Type 0 where
  pub used : is_used role i received sent ≡ true
  pub once : list_any (resets i) sent ≡ false
  pub active : (active_by_items role i received sent ≡ true) ⊎ WasActive role i received sent

-- Settings may be changed to values within their bounds, once those before were acknowledged (own;
-- section 6.5.3).
-- rule: 6.5.3 (own) Own SETTINGS are changed once those before are acknowledged
pub record MayChangeSettings (role : Role) (pairs : List (ℕ
    × ℕ)) (received sent : List Item) : Type 0 where
  pub values : Values
  pub in_range : AreInRange values
  pub changed : pairs ≡ changed_pairs role (value_read 5 16384 sent) values
  pub none_waits : settings_count sent ≤ total one_ack received

-- The last stream of GOAWAY doesn't grow (section 6.8).
-- rule: 6.8 An own GOAWAY is sent once, with the greatest stream processed
pub record MaySendGoAway (last : ℕ) (sent : List Item) : Type 0 where
  pub no_greater : last ≤ least_goaway sent

-- What may be written next. All but an acknowledgment stands after those of all SETTINGS that were
-- read (section 6.5.3: at once).
-- rule (law): 4.3 A block that may be sent is one that may be gathered
-- rule: 5.1 Each frame is sent only in states that allow it
abbrev pub Allowed : Role → List Item → List Item → Item → Type 0
Allowed role received sent (block i end octets) = HasAcknowledged received sent
    × (MayOpen role i received sent ⊎ MayContinue role i received sent)
    × (length octets ≤ max_block_octets)
Allowed role received sent (alone (Data i end octets pad)) = HasAcknowledged received sent
    × MaySendData role i (length (payload_of (Data i end octets pad))) received sent
Allowed role received sent (alone (Headers i end whole fragment pad priority)) = ⊥
Allowed role received sent (alone (Priority i octets)) = ⊥
Allowed role received sent (alone (Reset i code)) = HasAcknowledged received sent
    × MayReset role i received sent
Allowed role received sent (alone (Settings false pairs)) = HasAcknowledged received sent
    × MayChangeSettings role pairs received sent
Allowed role received sent (alone (Settings true pairs)) = (total one_ack sent + 1
    ≡ settings_count received) × (pairs ≡ [])
Allowed role received sent (alone (Ping false octets)) = HasAcknowledged received sent
    × (total one_ping sent ≤ total one_answer received)
Allowed role received sent (alone (Ping true octets)) = HasAcknowledged received sent
    × (total one_answer sent + 1 ≡ total one_ping received)
Allowed role received sent (alone (GoAway last code debug)) = HasAcknowledged received sent
    × MaySendGoAway last sent
Allowed role received sent (alone (WindowUpdate i increment)) = HasAcknowledged received sent
    × MayUpdateWindow role i increment received sent
Allowed role received sent (alone (Continuation i whole fragment)) = ⊥
Allowed role received sent (alone (Unknown kind flags i payload)) = ⊥

-- The lists of what an end has read and written: at first its opening, and then one item more, read
-- or written.
pub data AllowedHistory (role : Role) : List Item → List Item → Type 0 where
  starts : (values : Values) → AreInRange values
      → AllowedHistory role [] (alone (Settings false (opening_pairs role values)) ∷ [])
  reads : {received sent : List Item} (item : Item) → AllowedHistory role received sent
      → AllowedHistory role (item ∷ received) sent
  writes : {received sent : List Item} (item : Item) → AllowedHistory role received sent
      → Allowed role received sent item → AllowedHistory role received (item ∷ sent)

-- Where an item that was written comes from: a front of what was read, at which writing it was
-- allowed; or it is the opening.
pub record Origin (role : Role) (received before : List Item) (item : Item) : Type 0 where
  pub unread : List Item
  pub read : List Item
  pub front : received ≡ unread ++ read
  pub with_sent : AllowedHistory role read before
  pub allowed : Allowed role read before item

-- The first item, which stands before all others, is the opening.
pub record IsOpening (role : Role) (before : List Item) (item : Item) : Type 0 where
  pub values : Values
  pub in_range : AreInRange values
  pub first : before ≡ []
  pub opening : item ≡ alone (Settings false (opening_pairs role values))

-- The log is that of the other end, which has read just what this end has written, and has written
-- what this end has read, and perhaps more, newest first. Each acknowledgment that it read was
-- awaited; the streams that it named unprocessed, at a client, are above the last stream of a
-- GOAWAY that it read.
pub record IsReader (role : Role) (received sent unread : List Item) (log : Log) : Type 0 where
  pub other : log.role ≡ peer_of role
  pub read : log.received ≡ sent
  pub written : log.sent ≡ unread ++ received
  pub with_sent : AllowedHistory log.role log.received log.sent
  pub awaited : acked log ≡ total one_ack log.received
  pub named : (i : ℕ) → list_any (reports_unprocessed i) log.reported ≡ true → (log.role
      ≡ Client) × (list_any (is_goaway_below i) log.received ≡ true)
