-- What an end has made of the items that it read, one after another: what their blocks decode to,
-- and which events were reported of them (RFC 9113, sections 4.3, 5.1, 6 and 8.1). Lists have the
-- newest first.
use Rattle.std.specs.Prelude.{◌≡◌, ◌≢◌, ℕ, Bool, true, false, List, [], ◌∷◌, ◌++◌, length}
use Rattle.std.specs.Prelude.{nat_lt, Option, Some, None}
use Rattle.std.specs.List.{Contains}
use Rattle.hpack.specs.Blocks.{Block}
use Rattle.hpack.specs.Tables.{Entries}
use Rattle.hpack.specs.Lists.{empty_table}
use Rattle.h2_frame.specs.declared.code.Code.{Code}
use Rattle.h2_frame.specs.declared.code.Code.TheVariants.{ProtocolError, FlowControlError}
use Rattle.h2_frame.specs.declared.code.Code.TheVariants.{StreamClosed, RefusedStream}
use Rattle.h2_frame.specs.declared.code.Code.TheVariants.{EnhanceYourCalm}
use Rattle.h2_frame.specs.Codes.{code_number}
use Rattle.h2_frame.specs.Frames.{Data, Reset, Settings, Ping, GoAway, WindowUpdate}
use Rattle.h2_frame.specs.Encoding.{payload_of}
use Rattle.h2_block.specs.Grouping.{Item, alone, block}
use Rattle.h2_spec_log.specs.declared.role.Role.{Role}
use Rattle.h2_spec_log.specs.Items.{stream_of_item, one_ping, total}
use Rattle.h2_spec_log.specs.Events.{Event, FieldsEvent, DataEvent, ResetEvent, GoAwayEvent}
use Rattle.h2_spec_log.specs.Events.{UnprocessedEvent, AckedEvent, PongEvent, one_acked, one_pong}
use Rattle.h2_spec_log.specs.Events.{reported_total}
use Rattle.h2_spec_log.specs.ItemRules.{Decoded, is_awaited_ping}
use Rattle.h2_spec_log.specs.Settings.{own_value, settings_count}
use Rattle.h2_spec_log.specs.States.{is_active, is_closed_by_us, when}
use Rattle.h2_spec_log.specs.Log.{Log, newest_ping, least_goaway}
use Rattle.h2_laws_end.specs.Replies.{replies_owed, replies_among}

-- an item that was read; what had been written and reported by then; what its block decodes to; and
-- what was reported of it
pub record ItemRead : Type 0 where
  pub item : Item
  pub sent : List Item
  pub reported : List Event
  pub decoded : Option Decoded
  pub events : List Event

-- the codes with which the stream of an item may be at fault (sections 5.1, 5.1.2, 6.9 and 10.5.1)
-- rule: 5.4.2 A stream error is answered by RST_STREAM with its code, and reported
unfoldable pub fault_codes : Item → List Code
fault_codes (block stream end octets) = StreamClosed ∷ RefusedStream ∷ EnhanceYourCalm ∷ []
fault_codes (alone (Data stream end octets pad)) = StreamClosed ∷ []
fault_codes (alone (WindowUpdate stream increment)) = ProtocolError ∷ FlowControlError ∷ []
fault_codes (alone _) = []

-- The event is what the item says. A stream's fault is an own reset of the item's stream. GOAWAY is
-- reported with the least last stream so far. `received`: the items that were read before this one.
-- rule: 5.4.2 A stream error is answered by RST_STREAM with its code, and reported
-- rule: 6.8 The last stream of GOAWAY never grows: the least so far is reported
pub data IsEventOf (received : List Item) : Item → Option Decoded → Event → Type 0 where
  its_fields : (stream : ℕ) (end : Bool) (octets : List ℕ) (decoded : Decoded)
      → IsEventOf received (block stream end octets) (Some decoded)
      (FieldsEvent stream decoded.fields end)
  its_octets : (stream : ℕ) (end : Bool) (octets : List ℕ) (pad : Option ℕ)
      → IsEventOf received (alone (Data stream end octets pad)) None
      (DataEvent stream octets (length (payload_of (Data stream end octets pad))) end)
  its_reset : (stream code : ℕ)
      → IsEventOf received (alone (Reset stream code)) None (ResetEvent stream code false)
  its_fault : (item : Item) (decoded : Option Decoded) (code : Code) → stream_of_item item ≢ 0
      → Contains (fault_codes item) code
      → IsEventOf received item decoded (ResetEvent (stream_of_item item) (code_number code) true)
  its_goaway : (last code : ℕ) (debug : List ℕ)
      → IsEventOf received (alone (GoAway last code debug)) None
      (GoAwayEvent (least_goaway (alone (GoAway last code debug) ∷ received)) code)
  its_acknowledgment : (pairs : List (ℕ × ℕ))
      → IsEventOf received (alone (Settings true pairs)) None AckedEvent
  its_pong : (octets : List ℕ)
      → IsEventOf received (alone (Ping true octets)) None (PongEvent octets)

-- Items of which nothing need be reported, by what had been read, written and reported by then:
-- field blocks and DATA of a stream that this end has closed; RST_STREAM of a stream that isn't
-- active; replies that aren't awaited; and whatever isn't GOAWAY.
-- rule: 6.2 A field block on an idle odd number opens the stream at a server
abbrev pub MayBeSilent : Role → (received sent : List Item) → List Event → Item → Type 0
MayBeSilent role received sent reported (block stream end octets) =
    is_closed_by_us role stream sent ≡ true
MayBeSilent role received sent reported (alone (Data stream end octets pad)) =
    is_closed_by_us role stream sent ≡ true
MayBeSilent role received sent reported (alone (Reset stream code)) =
    is_active role stream received sent reported ≡ false
MayBeSilent role received sent reported (alone (Settings true pairs)) =
    nat_lt (reported_total one_acked reported) (settings_count sent) ≡ false
MayBeSilent role received sent reported (alone (Ping true octets)) =
    is_awaited_ping octets (when (nat_lt (reported_total one_pong reported) (total one_ping sent))
    (newest_ping sent)) ≡ false
MayBeSilent role received sent reported (alone (GoAway last code debug)) = ⊥
MayBeSilent role received sent reported (alone frame) = Unit {0}

-- At most one event is reported of an item, and it is what the item says. `received`: the items
-- that were read before it.
abbrev pub AreEventsOf : Role → (received : List Item) → ItemRead → List Event → Type 0
AreEventsOf role received reading [] =
    MayBeSilent role received reading.sent reading.reported reading.item
AreEventsOf role received reading (event ∷ []) =
    IsEventOf received reading.item reading.decoded event
AreEventsOf role received reading (event ∷ other ∷ events) = ⊥

-- A block decodes at the table after all blocks before it, with the table limit that was in force;
-- other items change no table.
-- rule: 4.3 Each received block is decoded, also one that is ignored
abbrev pub DecodesTo : Entries → Item → ItemRead → Entries → Type 0
DecodesTo before (alone frame) reading after = (reading.decoded ≡ None) × (after ≡ before)
DecodesTo before (block stream end octets) reading after =
    (decoded : Decoded) × (reading.decoded ≡ Some decoded)
    × Block before (own_value 1 4096 (reported_total one_acked reading.reported) reading.sent)
    octets decoded.fields decoded.after
    × (after ≡ decoded.after)

-- The items decode one after another, from the first table on.
-- rule: 4.3 Each received block is decoded, also one that is ignored
abbrev pub AreDecoded : List ItemRead → Entries → Type 0
AreDecoded [] after = after ≡ empty_table 4096
AreDecoded (reading ∷ readings) after =
    (before : Entries) × AreDecoded readings before × DecodesTo before reading.item reading after

-- the items of readings, and their events
unfoldable pub items_read : List ItemRead → List Item
items_read [] = []
items_read (reading ∷ readings) = reading.item ∷ items_read readings

unfoldable pub events_read : List ItemRead → List Event
events_read [] = []
events_read (reading ∷ readings) = reading.events ++ events_read readings

-- events without the streams that were reported as unprocessed, which follow a GOAWAY
unfoldable pub events_of_items : List Event → List Event
events_of_items [] = []
events_of_items (UnprocessedEvent id ∷ events) = events_of_items events
events_of_items (event ∷ events) = event ∷ events_of_items events

-- A reading stands in the log where it was made: after its events, and before those of the next
-- one, only unprocessed streams were reported; and what had been written by then has the replies to
-- the items before it, and no other. `before`: the readings before this one.
pub record IsPlacedIn (role : Role) (sent : List Item) (reported : List Event) (reading : ItemRead)
    (before : List ItemRead) : Type 0 where
  pub sent_later : List Item
  pub reported_later : List Event
  pub sent_is : sent ≡ sent_later ++ reading.sent
  pub reported_is : reported ≡ reported_later ++ (reading.events ++ reading.reported)
  pub unprocessed_alone : events_of_items reported_later ≡ []
  pub replied : replies_among reading.sent ≡ replies_owed (items_read before)
  pub events : AreEventsOf role (items_read before) reading reading.events

-- Each reading stands so, up to what the next one found; before the first, only unprocessed streams
-- were reported.
abbrev pub AreReadings : Role → (sent : List Item) → (reported : List Event) → List ItemRead
    → Type 0
AreReadings role sent reported [] = events_of_items reported ≡ []
AreReadings role sent reported (reading ∷ readings) =
    IsPlacedIn role sent reported reading readings
    × AreReadings role reading.sent reading.reported readings

-- What a log has read, and what it has made of it.
pub record HasReadings (log : Log) : Type 0 where
  pub readings : List ItemRead
  pub items : items_read readings ≡ log.received
  pub events : events_read readings ≡ events_of_items log.reported
  pub each : AreReadings log.role log.sent log.reported readings
  pub decoded : AreDecoded readings log.table
