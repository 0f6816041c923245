-- PING, GOAWAY, RST_STREAM, acknowledgments, later blocks, DATA and WINDOW_UPDATE that an end may
-- write are no fault for its reader.
use Rattle.h2_laws_log.proofs.Names
use Names.{ap, lt-ltb, le-ltb, ne_eqb, and_left, and_right, list_size, Data, Reset, Settings, Ping}
use Names.{GoAway, WindowUpdate, payload_of, Item, alone, block, Role, ends, total, data_of}
use Names.{data_on, increment_on, settings_count, one_ack, value_read, own_value, State, Idle}
use Names.{Active, ClosedByUs, Closed, is_used, is_active, is_closed_by_us, Log, acked, state}
use Names.{settings_wait, goaway_written, log_view, Reported, NoEvent, is_fault, reset_verdict}
use Names.{block_verdict, data_verdict, update_verdict, connection_update_verdict, Decoded}
use Names.{verdict_by_rules, max_list, HasAcknowledged, MayContinue, MaySendData, MayReset}
use Names.{MayUpdateWindow, AllowedHistory, IsReader, list_any, ◌≡◌, ◌⊎◌, ◌≢◌, ℕ, zero, suc, ◌+◌}
use Names.{◌≤◌, nat_lt, Bool, true, false, if◌then◌else◌, List, [], ◌++◌, length, Option, None}
use Names.{Some, refl, ◌∙◌, inl, inr, arith, first_window, greatest_window, given_on}
use Names.{given_on_connection, granted_on, granted_on_connection, passes, is_above_greatest}
use Names.{peer_opens, rules}
use Rattle.h2_laws_log.proofs.LogViewLemmas.{data_by_sums, update_by_sums, block_by_items}
use Rattle.h2_laws_log.proofs.ItemLists.{settings_after, total_after}
use Rattle.h2_laws_log.proofs.ReaderStates.{active_used, used_after, not_idle, goes_on_state}
use Rattle.h2_laws_log.proofs.SettingsLists.{limits_lem}
use Rattle.h2_laws_log.proofs.AllowedHistories.{window_written}

-- a verdict that reports or ignores is no fault
reported_or_ignored : (b : Bool) → is_fault (if b then Reported else NoEvent) ≡ false
reported_or_ignored true = refl
reported_or_ignored false = refl

-- PING and its answer are no fault.
pub ping_lem : (log : Log) (ack : Bool) (octets : List ℕ)
    → is_fault (verdict_by_rules (log_view log) None (alone (Ping ack octets))) ≡ false
unfolding verdict_by_rules
ping_lem log true octets = reported_or_ignored _
ping_lem log false octets = refl

-- GOAWAY is no fault.
pub goaway_lem : (log : Log) (last code : ℕ) (debug : List ℕ)
    → is_fault (verdict_by_rules (log_view log) None (alone (GoAway last code debug))) ≡ false
unfolding verdict_by_rules
goaway_lem log last code debug = refl

-- a stream that the writer uses isn't idle at the reader
used_not_idle : (role : Role) (received sent unread : List Item) (log : Log) (i : ℕ)
    → is_used role i received sent ≡ true
    → IsReader role received sent unread log → state log i ≡ Idle → ⊥
used_not_idle role received sent unread log i used reader =
    not_idle (is_used log.role i log.received log.sent)
    (is_active log.role i log.received log.sent log.reported) (is_closed_by_us log.role i log.sent)
    (rw (reader.other, reader.read, reader.written) (used_after role i received sent unread used))

-- RST_STREAM of a stream that isn't idle is no fault
reset_sound : (state : State) → (state ≡ Idle → ⊥) → is_fault (reset_verdict state) ≡ false
unfolding reset_verdict
reset_sound Idle used = absurd (used refl)
reset_sound other used = refl

-- RST_STREAM is no fault.
pub reset_lem : (role : Role) (received sent unread : List Item) (log : Log) (i code : ℕ)
    → AllowedHistory role received sent → MayReset role i received sent
    → IsReader role received sent unread log → is_fault (verdict_by_rules (log_view log) None
    (alone (Reset i code))) ≡ false
unfolding verdict_by_rules
reset_lem role received sent unread log i code with_sent may reader = reset_sound (state log i)
    (used_not_idle role received sent unread log i may.used reader)

-- An acknowledgment is awaited.
pub acknowledgment_lem : (role : Role) (received sent unread : List Item) (log : Log)
    → total one_ack sent + 1 ≡ settings_count received
    → IsReader role received sent unread log → verdict_by_rules (log_view log) None (alone
    (Settings true [])) ≡ Reported
unfolding verdict_by_rules
acknowledgment_lem role received sent unread log waits reader =
    search (rules, settings_after, lt-ltb)

-- An acknowledgment is no fault, whether it is awaited or not.
pub acknowledgment_sound : (log : Log) (pairs : List (ℕ × ℕ))
    → is_fault (verdict_by_rules (log_view log) None (alone (Settings true pairs))) ≡ false
unfolding verdict_by_rules
acknowledgment_sound log pairs = reported_or_ignored (settings_wait log)

-- the state at the reader of a stream on which the writer goes on
reader_state : (role : Role) (received sent unread : List Item) (log : Log) (i : ℕ)
    → MayContinue role i received sent → IsReader role received sent unread log
    → (state log i ≡ Active) ⊎ (state log i ≡ ClosedByUs)
reader_state role received sent unread log i goes reader =
    rw (reader.other, reader.read, reader.written)
    (goes_on_state role i received sent unread log.reported goes (λ with_reported. rw
    (reader.other, reader.read) at (reader.named i with_reported)))

-- the writer has not ended a stream on which it goes on
reader_open : (role : Role) (received sent unread : List Item) (log : Log) (i : ℕ)
    → MayContinue role i received sent → IsReader role received sent unread log
    → list_any (ends i) log.received ≡ false
reader_open role received sent unread log i goes reader = rw reader.read goes.goes

-- a block on a stream that is active or closed by this end, and not ended, is no fault
block_sound : (state : State) (opens left full ended large : Bool) → (state ≡ Active) ⊎ (state
    ≡ ClosedByUs) → ended ≡ false → large ≡ false
    → is_fault (block_verdict state opens left full ended large) ≡ false
unfolding block_verdict
block_sound state opens left full ended large (inl active) goes small = rw
    (active, goes, small) refl
block_sound state opens left full ended large (inr closed_by_us) goes small = rw closed_by_us refl

-- A later block is no fault.
pub block_lem : (role : Role) (received sent unread : List Item) (log : Log) (i : ℕ) (end : Bool)
    (octets : List ℕ) (decoded : Decoded) → AllowedHistory role received sent
    → MayContinue role i received sent → IsReader role received sent unread log
    → list_size decoded.fields ≤ max_list
    → is_fault (verdict_by_rules (log_view log) (Some decoded) (block i end octets)) ≡ false
block_lem role received sent unread log i end octets decoded with_sent goes reader small =
    ap is_fault (block_by_items log decoded i end octets)
    ∙ block_sound (state log i) (peer_opens (log_view log) i) (goaway_written log) _ (list_any
    (ends i) log.received) (nat_lt max_list (list_size decoded.fields))
    (reader_state role received sent unread log i goes reader)
    (reader_open role received sent unread log i goes reader)
    (le-ltb max_list (list_size decoded.fields) small)

-- octets within what was given pass nothing
passes_none : (count given last_processed : ℕ) → (count ≢ 0 → last_processed + count ≤ given)
    → passes count given last_processed ≡ false
passes_none zero given last_processed fits = and_left (nat_lt 0 0) (nat_lt given
    (last_processed + 0)) (le-ltb 0 0 (omega arith))
passes_none (suc count) given last_processed fits =
    and_right (nat_lt 0 (suc count)) (nat_lt given (last_processed + suc count)) (le-ltb given
    (last_processed + suc count) (fits (λ none. omega arith)))

-- what the writer may send on the connection the reader lets it send
connection_fits : (received sent unread : List Item) (count : ℕ) → (count ≢ 0
    → total data_of sent + count ≤ given_on_connection received)
    → count ≢ 0 → total data_of sent + count ≤ granted_on_connection (unread ++ received)
unfolding given_on_connection granted_on_connection
connection_fits received sent unread count fits some = omega (arith, fits, total_after)

-- what the writer may send on a stream the reader lets it send
stream_fits : (received sent unread : List Item) (i count acks : ℕ)
    → own_value 4 first_window acks (unread ++ received) ≡ value_read 4 first_window received
    → (count ≢ 0 → total (data_on i) sent + count ≤ given_on i received) → count ≢ 0
    → total (data_on i) sent + count ≤ granted_on i acks (unread ++ received)
unfolding given_on granted_on
stream_fits received sent unread i count acks agreed fits some = omega
    (arith, agreed, fits some, total_after (increment_on i) unread received)

-- DATA on a stream that is active or closed by this end, and not ended, which passes no window, is
-- no fault
data_sound : (state : State) (passes_connection ended passes_stream : Bool) → (state
    ≡ Active) ⊎ (state ≡ ClosedByUs) → passes_connection ≡ false
    → ended ≡ false → passes_stream ≡ false → is_fault
    (data_verdict state passes_connection ended passes_stream) ≡ false
unfolding data_verdict
data_sound state passes_connection ended passes_stream (inl active) within goes within_stream = rw
    (active, within, goes, within_stream) refl
data_sound state passes_connection ended passes_stream
    (inr closed_by_us) within goes within_stream = rw (closed_by_us, within) refl

-- DATA is no fault.
pub data_lem : (role : Role) (received sent unread : List Item) (log : Log) (i : ℕ) (end : Bool)
    (octets : List ℕ) (pad : Option ℕ) → AllowedHistory role received sent
    → HasAcknowledged received sent → MaySendData role i (length (payload_of
    (Data i end octets pad))) received sent → IsReader role received sent unread log
    → is_fault (verdict_by_rules (log_view log) None (alone (Data i end octets pad))) ≡ false
data_lem role received sent unread log i end octets pad with_sent returned may reader =
    let count : ℕ = length (payload_of (Data i end octets pad)) in
    let agreed = limits_lem 4 first_window role received sent unread log returned reader in
    ap is_fault (data_by_sums log None i end octets pad)
    ∙ data_sound (state log i) _ (list_any (ends i) log.received) _
    (reader_state role received sent unread log i may.goes_on reader)
    (rw (reader.read, reader.written)
    (passes_none count (granted_on_connection (unread ++ received)) (total data_of sent)
    (connection_fits received sent unread count may.fits_connection)))
    (reader_open role received sent unread log i may.goes_on reader)
    (rw (reader.read, reader.written)
    (passes_none count (granted_on i (acked log) (unread ++ received)) (total (data_on i) sent)
    (stream_fits received sent unread i count (acked log) (rw reader.written at agreed) may.fits)))

-- WINDOW_UPDATE of a stream that isn't idle, of some octets, with no window above the greatest, is
-- no fault
update_sound : (state : State) (increment : ℕ) (above : Bool) → (state ≡ Idle → ⊥)
    → increment ≢ 0 → above ≡ false
    → is_fault (update_verdict state increment above) ≡ false
unfolding update_verdict
update_sound Idle increment above used some within = absurd (used refl)
update_sound Active increment above used some within = rw (ne_eqb increment 0 some, within) refl
update_sound ClosedByUs increment above used some within = refl
update_sound Closed increment above used some within = refl

-- WINDOW_UPDATE of the connection, of some octets, with no window above the greatest, is no fault
connection_update_sound : (increment : ℕ) (above : Bool) → increment ≢ 0 → above ≡ false
    → is_fault (connection_update_verdict increment above) ≡ false
unfolding connection_update_verdict
connection_update_sound increment above some within = rw (ne_eqb increment 0 some, within) refl

-- what is returned brings no stream's window above the greatest
within_stream : (received sent unread : List Item) (i increment : ℕ)
    → value_read 4 first_window sent ≤ greatest_window
    → total (increment_on i) sent + increment ≤ total (data_on i) received
    → is_above_greatest (given_on i sent + increment) (total (data_on i) (unread ++ received))
    ≡ false
unfolding given_on
within_stream received sent unread i increment within read =
    le-ltb (greatest_window + total (data_on i) (unread ++ received))
    (value_read 4 first_window sent + total (increment_on i) sent + increment)
    (omega (arith, total_after (data_on i) unread received))

-- what is returned doesn't bring the connection's window above the greatest
within_connection : (received sent unread : List Item) (increment : ℕ)
    → granted_on_connection sent + increment ≤ greatest_window + total data_of received
    → is_above_greatest (given_on_connection sent + increment) (total data_of (unread
    ++ received)) ≡ false
unfolding given_on_connection granted_on_connection
within_connection received sent unread increment within =
    le-ltb (greatest_window + total data_of (unread ++ received)) (first_window + total
    (increment_on 0) sent + increment) (omega (arith, total_after data_of unread received))

-- WINDOW_UPDATE of a stream is no fault.
pub update_lem : (role : Role) (received sent unread : List Item) (log : Log) (i increment : ℕ)
    → AllowedHistory role received sent → i ≢ 0
    → MayUpdateWindow role i increment received sent → IsReader role received sent unread log
    → is_fault (verdict_by_rules (log_view log) None (alone (WindowUpdate i increment))) ≡ false
update_lem role received sent unread log i increment with_sent stream may reader =
    ap is_fault (update_by_sums log None i increment)
    ∙ rw (ne_eqb i 0 stream) (update_sound (state log i) increment _
    (used_not_idle role received sent unread log i (active_used role i received sent []
    (may.active stream)) reader) may.some
    (rw (reader.read, reader.written) (within_stream received sent unread i increment
    (window_written role received sent with_sent) (may.read stream))))

-- WINDOW_UPDATE of the connection is no fault.
pub connection_update_lem : (role : Role) (received sent unread : List Item) (log : Log)
    (increment : ℕ) → AllowedHistory role received sent
    → MayUpdateWindow role 0 increment received sent → IsReader role received sent unread log
    → is_fault (verdict_by_rules (log_view log) None (alone (WindowUpdate 0 increment))) ≡ false
connection_update_lem role received sent unread log increment with_sent may reader =
    ap is_fault (update_by_sums log None 0 increment)
    ∙ connection_update_sound increment _ may.some
    (rw (reader.read, reader.written) (within_connection received sent unread increment
    (may.within refl)))
