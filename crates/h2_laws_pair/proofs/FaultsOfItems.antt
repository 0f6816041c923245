-- An item that comes next of those that the other end has written is no fault: its blocks decode,
-- and what may be written is no fault for its reader.
use Rattle.std.proofs.lemmas.List.Elements.{Contains-append_left, Contains-push}
use Rattle.h2_spec_log.specs.Events.{reports_unprocessed}
use Rattle.h2_spec_log.specs.Allowed.{IsOpening}
use Rattle.h2_laws_log.specs.Accepting.{IsDecodable}
use Rattle.h2_laws_log.proofs.AcceptedSettings.{first_settings_lem}
use Rattle.h2_laws_log.proofs.AcceptedWrites.{written_lem}
use Rattle.h2_laws_log.proofs.AllowedHistories.{origin_lem}
use Rattle.h2_laws_log.proofs.InvariantSends.{client_since}
use Rattle.h2_laws_pair.proofs.Names
use Names.{◌≡◌, inl, inr, ℕ, ◌≤◌, Bool, true, false, List, [], ◌∷◌, ◌++◌, Option, Some, None, refl}
use Names.{ap, append_assoc, Contains, list_any, Field, list_size, one_block_lem, Code, Item, alone}
use Names.{block, Role, Client, total, is_goaway_below, max_list, one_ack, peer_of, Log, acked}
use Names.{log_view, is_fault, Decoded, completes, verdict_by_rules, IsDecoded, IsDecodedIn}
use Names.{table_limit, AllowedHistory, lists_accepted, HeaderTablesInStep, verdict_of_fault}
use Rattle.h2_laws_pair.proofs.NamedUnprocessed.{IsNamed}
use Rattle.h2_laws_pair.proofs.HeardLists.{OldestList, oldest_list}

-- What was seen of a block that decodes is its fields, and these are small.
block_decodable : (log : Log) (stream : ℕ) (end : Bool) (octets : List ℕ)
    (lists : List (List Field)) (decoded : Option Decoded)
    → ((fields : List Field) → Contains lists fields → list_size fields ≤ max_list)
    → OldestList log.table (table_limit log) octets lists → IsDecoded log octets decoded
    → IsDecodable decoded (block stream end octets)
block_decodable log stream end octets lists None small found sees =
    sees found.fields found.after found.decodes
block_decodable log stream end octets lists (Some decoded) small found sees =
    let one = one_block_lem _ _ found.after _ _ decoded.fields found.fields sees found.decodes in
    rw one.0 (small found.fields (rw found.are (Contains-push found.newer found.fields)))

-- Of what comes next under way something is decoded, or it is no block.
pub item_decodable : (writer reader : Log) (newer : List Item) (item : Item)
    (decoded : Option Decoded)
    → ((fields : List Field) → Contains (lists_accepted writer.calls) fields
    → list_size fields ≤ max_list) → HeaderTablesInStep writer reader (newer ++ item ∷ [])
    → IsDecodedIn reader decoded (completes item) → IsDecodable decoded item
item_decodable writer reader newer (alone frame) decoded small tables none = none
item_decodable writer reader newer (block stream end octets) decoded small tables sees =
    let found = oldest_list newer stream end octets reader.sent (acked reader) reader.table
    tables.under_way writer.encoder.table tables.decode in
    block_decodable reader stream end octets tables.under_way decoded
    (λ fields here. small fields (rw tables.accepted (Contains-append_left tables.under_way
    tables.read fields here))) found sees

-- The opening of the other end is no fault.
opening_sound : (role : Role) (reader : Log) (item : Item) (decoded : Option Decoded)
    → IsOpening role reader.received item → IsDecodable decoded item
    → is_fault (verdict_by_rules (log_view reader) decoded item) ≡ false
unfolding verdict_by_rules
opening_sound role reader item decoded opening decodable =
    rw opening.opening (ap (λ (fault : Option Code). is_fault (verdict_of_fault fault))
    (first_settings_lem role opening.values reader opening.in_range opening.first))

-- What was named unprocessed was named at a client.
named_here : (log : Log) → IsNamed log → (i : ℕ)
    → list_any (reports_unprocessed i) log.reported ≡ true
    → (log.role ≡ Client) × (list_any (is_goaway_below i) log.received ≡ true)
named_here log named i here = (client_since log.role (named i here).0, (named i here).1)

-- What comes next is no fault.
pub item_sound : (role : Role) (writer reader : Log) (newer back : List Item) (item : Item)
    (decoded : Option Decoded) → AllowedHistory role writer.received writer.sent
    → writer.sent ≡ newer ++ item ∷ reader.received → reader.sent ≡ back ++ writer.received
    → reader.role ≡ peer_of role → AllowedHistory reader.role reader.received reader.sent
    → acked reader ≡ total one_ack reader.received → IsNamed reader → IsDecodable decoded item
    → is_fault (verdict_by_rules (log_view reader) decoded item) ≡ false
item_sound role writer reader newer back item decoded history line returned other with_sent awaited
    named decodable =
    elim (origin_lem role writer.received writer.sent newer reader.received item history line) [
      | inl origin ↦ written_lem role origin.read reader.received (back ++ origin.unread) reader
          decoded item origin.with_sent origin.allowed (record {
            other = other;
            read = refl;
            written = rw (returned, origin.front, append_assoc) refl;
            with_sent = with_sent;
            awaited = awaited;
            named = named_here reader named;
          }) decodable
      | inr opening ↦ opening_sound role reader item decoded opening decodable
    ]
