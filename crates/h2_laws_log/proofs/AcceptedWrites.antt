-- What an end may write is no fault for its reader: all of it at once.
use Rattle.h2_laws_log.specs.Accepting.{IsDecodable}
use Rattle.h2_laws_log.proofs.Names
use Names.{list_size, Data, Reset, Settings, Ping, GoAway, WindowUpdate, Item, alone, block, Role}
use Names.{Log, is_fault, log_view, Decoded, verdict_by_rules, max_list, HasAcknowledged}
use Names.{MayContinue, MayOpen, MayUpdateWindow, Allowed, AllowedHistory, IsReader, ◌≡◌, ◌⊎◌, ℕ}
use Names.{zero, suc, ◌≤◌, Bool, true, false, List, Option, None, Some, inl, inr, arith, rules}
use Rattle.h2_laws_log.proofs.AcceptedItems.{ping_lem, goaway_lem, reset_lem, acknowledgment_sound}
use Rattle.h2_laws_log.proofs.AcceptedItems.{block_lem, data_lem, update_lem, connection_update_lem}
use Rattle.h2_laws_log.proofs.AcceptedSettings.{settings_lem}
use Rattle.h2_laws_log.proofs.AcceptedOpenings.{opening_lem}

-- what is seen is nothing, and it is no fault of the item
decoded_none : (log : Log) (decoded : Option Decoded) (item : Item) → decoded ≡ None
    → is_fault (verdict_by_rules (log_view log) None item) ≡ false
    → is_fault (verdict_by_rules (log_view log) decoded item) ≡ false
decoded_none log decoded item none sound = rw none sound

module _ (role : Role) (received sent unread : List Item) (log : Log) where
  -- a field block that may be written is no fault
  any_block_lem : (i : ℕ) (end : Bool) (octets : List ℕ) (decoded : Decoded)
      → AllowedHistory role received sent → HasAcknowledged received sent
      → MayOpen role i received sent ⊎ MayContinue role i received sent
      → IsReader role received sent unread log → list_size decoded.fields ≤ max_list
      → is_fault (verdict_by_rules (log_view log) (Some decoded) (block i end octets)) ≡ false
  any_block_lem i end octets decoded with_sent returned
      (inl may) reader small = search (rules, opening_lem)
  any_block_lem i end octets decoded with_sent returned (inr goes) reader small =
      block_lem role received sent unread log i end octets decoded with_sent goes reader small

  -- a WINDOW_UPDATE that may be written is no fault
  any_update_lem : (i increment : ℕ) → AllowedHistory role received sent
      → MayUpdateWindow role i increment received sent → IsReader role received sent unread log
      → is_fault (verdict_by_rules (log_view log) None (alone (WindowUpdate i increment))) ≡ false
  any_update_lem zero increment with_sent may reader =
      connection_update_lem role received sent unread log increment with_sent may reader
  any_update_lem (suc i) increment with_sent may reader =
      update_lem role received sent unread log (suc i) increment with_sent
      (λ none. omega arith) may reader

  -- What an end may write is no fault for an end that has read just what was written before it.
  pub written_lem : (decoded : Option Decoded) (item : Item) → AllowedHistory role received sent
      → Allowed role received sent item → IsReader role received sent unread log
      → IsDecodable decoded item → is_fault (verdict_by_rules (log_view log) decoded item) ≡ false
  written_lem None (block i end octets) with_sent allowed reader fair = absurd fair
  written_lem (Some decoded) (block i end octets) with_sent allowed reader fair =
      any_block_lem i end octets decoded with_sent allowed.0 allowed.1 reader fair
  written_lem decoded (alone (Data i end octets pad)) with_sent allowed reader fair =
      decoded_none log decoded (alone (Data i end octets pad)) fair
      (data_lem role received sent unread log i end octets pad with_sent allowed.0 allowed.1 reader)
  written_lem decoded (alone (Reset i code)) with_sent allowed reader fair =
      decoded_none log decoded (alone (Reset i code)) fair
      (reset_lem role received sent unread log i code with_sent allowed.1 reader)
  written_lem decoded (alone (Settings false pairs)) with_sent allowed reader fair =
      decoded_none log decoded (alone (Settings false pairs)) fair
      (settings_lem role received sent unread log pairs with_sent allowed.1 reader)
  written_lem decoded (alone (Settings true pairs)) with_sent allowed reader fair =
      decoded_none log decoded (alone (Settings true pairs)) fair (acknowledgment_sound log pairs)
  written_lem decoded (alone (Ping ack octets)) with_sent allowed reader fair =
      decoded_none log decoded (alone (Ping ack octets)) fair (ping_lem log ack octets)
  written_lem decoded (alone (GoAway last code debug)) with_sent allowed reader fair =
      decoded_none log decoded (alone (GoAway last code debug)) fair
      (goaway_lem log last code debug)
  written_lem decoded (alone (WindowUpdate i increment)) with_sent allowed reader fair =
      decoded_none log decoded (alone (WindowUpdate i increment)) fair
      (any_update_lem i increment with_sent allowed.1 reader)
  written_lem decoded (alone frame) with_sent allowed reader fair = absurd allowed
