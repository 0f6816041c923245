-- Blocks with which a client may open streams are no fault for its server.
use Rattle.h2_laws_log.proofs.Names
use Names.{ap, list_any, cases_eq, le-ltb, lt-leb, eq-eqb, ne_eqb, and_right, or_from, list_size}
use Names.{Item, alone, block, Role, Client, Server, ends, opens_from, greatest_block, Event}
use Names.{is_server, settings_count, value_read, own_value, State, Idle, is_used, is_active}
use Names.{stream_state, count_below, Log, acked, state, goaway_written, max_streams, active_count}
use Names.{allowed_by, is_fault, block_verdict, opening_verdict, Decoded, verdict_by_rules}
use Names.{log_view, max_list, HasAcknowledged, MayOpen, AllowedHistory, IsReader, active_by_items}
use Names.{◌≡◌, ℕ, ◌+◌, ◌%◌, ◌≤◌, ◌<◌, ◌==◌, ◌&&◌, nat_lt, nat_le, max, Bool, true, false}
use Names.{if◌then◌else◌, List, [], ◌∷◌, ◌++◌, Some, refl, sym, ◌∙◌, inl, inr, arith, peer_opens}
use Names.{is_at_capacity}
use Rattle.h2_laws_log.proofs.LogViewLemmas.{block_by_items}
use Rattle.h2_laws_log.proofs.ItemLists.{count_below_more}
use Rattle.h2_laws_log.proofs.ReaderStates.{active_back}
use Rattle.h2_laws_log.proofs.SettingsLists.{count_none, acked_all, limits_lem}
use Rattle.h2_laws_log.proofs.AllowedHistories.{wrote_front, streams_named, first_streams}

-- a number above all blocks isn't used
unopened : (i : ℕ) (items : List Item) → greatest_block items < i → list_any (opens_from i) items
    ≡ false
unfolding opens_from greatest_block
unopened i [] above = refl
unopened i (alone frame ∷ items) above = unopened i items above
unopened i (block stream end octets ∷ items) above =
    or_from (stream % 2 == 1 && nat_le i stream) (list_any (opens_from i) items)
    (and_right (stream % 2 == 1) (nat_le i stream) (lt-leb i stream (omega arith)))
    (unopened i items (omega arith))

-- a stream above all that its client has opened is idle at the server
opens_idle : (i : ℕ) (received sent : List Item) (reported : List Event)
    → greatest_block received < i → stream_state Server i received sent reported ≡ Idle
unfolding is_used
opens_idle i received sent reported above = rw (and_right (i % 2 == 1) (list_any
    (opens_from i) received) (unopened i received above)) refl

-- what a client may open, where it has read no SETTINGS
allowed_unread : (received : List Item) → settings_count received ≡ 0 → allowed_by received ≡ 100
unfolding allowed_by
allowed_unread received none = rw none refl

-- what a client may open at most, where it has read SETTINGS
allowed_read : (received : List Item) → (settings_count received ≡ 0 → ⊥)
    → allowed_by received ≤ value_read 3 1000 received
unfolding allowed_by
allowed_read received some = rw (ne_eqb (settings_count received) 0 some) (omega arith)

-- what a server takes, where none of its SETTINGS was acknowledged
streams_at_first : (log : Log) → acked log ≡ 0 → max_streams log ≡ own_value 3 100 1 log.sent
unfolding max_streams
streams_at_first log none = rw none refl

-- what a server takes, where some of its SETTINGS were acknowledged
streams_later : (log : Log) → (acked log ≡ 0 → ⊥) → max_streams log
    ≡ own_value 3 100 (acked log) log.sent
unfolding max_streams
streams_later log some =
    let same : max 1 (acked log) ≡ acked log = omega arith in
    rw same refl

-- what was read of a server's names a number of streams, whatever the first value
streams_read : (received sent unread : List Item) (first other : ℕ)
    → AllowedHistory Server sent (unread ++ received) → (settings_count received ≡ 0 → ⊥)
    → value_read 3 first received ≡ value_read 3 other received
streams_read received sent unread first other with_sent some = elim
    (wrote_front Server sent unread received (unread ++ received) with_sent refl) [
      | inl none ↦ absurd (some (rw none count_none))
      | inr (read, front) ↦ streams_named first other read received front
    ]

-- a server takes as many streams as its client may open, or more
streams_enough : (received sent unread : List Item) (log : Log) → HasAcknowledged received sent
    → IsReader Client received sent unread log
    → allowed_by received ≤ max_streams log
streams_enough received sent unread log returned reader =
    let all = acked_all Client received sent unread log returned reader in
    let with_sent : AllowedHistory Server sent (unread ++ received) = rw
    (reader.other, reader.read, reader.written) at reader.with_sent in
    elim (cases_eq _ 0) [
      | inl none ↦ rw (
        allowed_unread received none,
        streams_at_first log (all ∙ none),
        reader.written,
      ) (first_streams sent (unread ++ received) with_sent)
      | inr some ↦
          let agreed = limits_lem 3 100 Client received sent unread log returned reader in
          let named = streams_read received sent unread 1000 100 with_sent some in
          rw (
            streams_later log (λ none. some (sym all ∙ none)),
            agreed,
            ← named,
          ) (allowed_read received some)
    ]

-- no more streams are active at a server than at its client
fewer_active : (received sent unread : List Item) (log : Log)
    → IsReader Client received sent unread log
    → active_count log ≤ count_below (greatest_block sent + 1)
    (λ j. active_by_items Client j received sent)
unfolding active_count
fewer_active received sent unread log reader =
    rw (reader.other, reader.read, reader.written)
    (count_below_more (greatest_block sent + 1) (λ j. is_active Server j sent (unread
    ++ received) log.reported) (λ j. active_by_items Client j received sent)
    (λ j alive. active_back j received sent unread log.reported alive))

-- a block that opens a stream on an idle number, where not too many are active and its list isn't
-- too large, is no fault
opening_sound : (state : State) (opens left full ended large : Bool) → state ≡ Idle → opens
    ≡ true → full ≡ false → large ≡ false
    → is_fault (block_verdict state opens left full ended large) ≡ false
unfolding block_verdict opening_verdict
opening_sound state opens true full ended large idle may few small = rw (idle, may) refl
opening_sound state opens false full ended large idle may few small = rw
    (idle, may, few, small) refl

-- how many streams a server takes
capacity_of_server : (role : Role) (most count : ℕ) → role ≡ Server
    → nat_le (if is_server role then most else 0) count ≡ nat_le most count
capacity_of_server Server most count is = refl
capacity_of_server Client most count is = absurd (cc)

-- A block that opens a stream is no fault, at a client.
opening_of_client : (received sent unread : List Item) (log : Log) (i : ℕ) (end : Bool)
    (octets : List ℕ) (decoded : Decoded)
    → HasAcknowledged received sent → MayOpen Client i received sent
    → IsReader Client received sent unread log → list_size decoded.fields ≤ max_list
    → is_fault (verdict_by_rules (log_view log) (Some decoded) (block i end octets)) ≡ false
opening_of_client received sent unread log i end octets decoded returned may reader small =
    ap is_fault (block_by_items log decoded i end octets)
    ∙ opening_sound (state log i) (peer_opens (log_view log) i) (goaway_written log)
    (is_at_capacity (log_view log)) (list_any (ends i) log.received)
    (nat_lt max_list (list_size decoded.fields))
    (rw (reader.other, reader.read) (opens_idle i sent log.sent log.reported may.rises))
    (rw reader.other (eq-eqb (i % 2) 1 may.odd))
    (capacity_of_server log.role (max_streams log) (active_count log) reader.other
    ∙ lt-leb (max_streams log) (active_count log)
    (omega (arith, fewer_active, streams_enough received sent unread log returned reader)))
    (le-ltb max_list (list_size decoded.fields) small)

-- A block that opens a stream is no fault.
pub opening_lem : (role : Role) (received sent unread : List Item) (log : Log) (i : ℕ)
    (end : Bool) (octets : List ℕ) (decoded : Decoded) → AllowedHistory role received sent
    → HasAcknowledged received sent → MayOpen role i received sent
    → IsReader role received sent unread log → list_size decoded.fields ≤ max_list
    → is_fault (verdict_by_rules (log_view log) (Some decoded) (block i end octets)) ≡ false
opening_lem Client received sent unread log i end octets decoded with_sent returned may reader
    small =
    opening_of_client received sent unread log i end octets decoded returned may reader small
opening_lem Server received sent unread log i end octets decoded with_sent returned may reader
    small = let client : Server ≡ Client = may.client in absurd (cc)
