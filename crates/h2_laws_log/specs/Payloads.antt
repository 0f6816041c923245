-- What an end has written, by the greatest payload that was in force as it wrote each item.
use Rattle.std.specs.Prelude.{◌≡◌, ℕ, not, List, [], ◌∷◌, ◌++◌}
use Rattle.h2_wire.specs.Streams.{expected_preface}
use Rattle.h2_block.specs.Grouping.{Item}
use Rattle.h2_spec_log.specs.Items.{encoding_of_item, total}
use Rattle.h2_spec_log.specs.Settings.{is_server, one_ack, settings_count}
use Rattle.h2_spec_log.specs.Log.{Log, max_payload_sent_by}

-- The octets of items, the oldest first, each with its own greatest payload. Items and payloads
-- have the newest first.
abbrev pub encoding_by : List ℕ → List Item → List ℕ
encoding_by (most ∷ payloads) (item ∷ items) =
    encoding_by payloads items ++ encoding_of_item most item
encoding_by payloads items = []

-- How an end read and wrote its items: each that it wrote has the greatest payload that was in
-- force by all that it had read before. What it had read before has just the SETTINGS that this
-- item and those before it acknowledge.
-- rule (law): 4.2 (own) Each item is written with the greatest payload in force then
pub data PayloadHistory : (received sent : List Item) (payloads : List ℕ) → Type 0 where
  starts : PayloadHistory [] [] []
  reads : (item : Item) {received sent : List Item} {payloads : List ℕ}
      → PayloadHistory received sent payloads → PayloadHistory (item ∷ received) sent payloads
  writes : (item : Item) {received sent : List Item} {payloads : List ℕ}
      → PayloadHistory received sent payloads
      → total one_ack (item ∷ sent) ≡ settings_count received
      → PayloadHistory received (item ∷ sent) (max_payload_sent_by received ∷ payloads)

-- All that a log has written is a client's preface and its items, each with its greatest payload.
-- rule (law): 4.2 (own) Each item is written with the greatest payload in force then
pub record WrittenByPayloads (log : Log) : Type 0 where
  pub history : PayloadHistory log.received log.sent log.payloads
  pub written : log.written ≡ expected_preface (not (is_server log.role))
      ++ encoding_by log.payloads log.sent
