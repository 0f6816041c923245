-- SETTINGS that an end may write are no fault for its reader.
use Rattle.h2_spec_log.specs.Limits.{least_max_frame, most_max_frame}
use Rattle.h2_laws_log.proofs.Names
use Names.{cases_Bool, le-ltb, and_left, and_right, or_from, Code, Settings, Item, alone, block}
use Names.{Role, Client, Server, Values, AreInRange, total, data_on, increment_on, peer_of}
use Names.{value_fault, any_block, openings, Log, active, is_fault, max_list, verdict_by_rules}
use Names.{settings_fault, verdict_of_fault, overflows, log_view, opening_pairs, changed_pairs}
use Names.{with_max_frame, MayChangeSettings, AllowedHistory, IsReader, ◌≡◌, ◌≢◌, ℕ, ◌+◌, ◌≤◌, ◌==◌}
use Names.{◌&&◌, Bool, true, false, if◌then◌else◌, List, [], ◌∷◌, Option, None, refl, inl, inr}
use Names.{arith, greatest_window, is_above_greatest, rules}
use Rattle.h2_laws_log.proofs.InvariantCalls.{active_some}
use Rattle.h2_laws_log.proofs.ItemLists.{total_after}
use Rattle.h2_laws_log.proofs.AllowedHistories.{increments_read}

-- no block passes a test that nothing passes
any_block_none : (test : ℕ → Bool) (items : List Item) → ((j : ℕ) → test j ≡ false)
    → any_block test items ≡ false
unfolding any_block
any_block_none test [] none = refl
any_block_none test (block stream end octets ∷ items) none =
    or_from (test stream) (any_block test items) (none stream) (any_block_none test items none)
any_block_none test (alone frame ∷ items) none = any_block_none test items none

-- an initial window within its bounds brings no stream's above the greatest, where no more was
-- returned than was read
no_overflow : (log : Log) (initial : ℕ) → initial ≤ greatest_window
    → ((j : ℕ) → j ≢ 0 → total (increment_on j) log.received ≤ total (data_on j) log.sent)
    → overflows log initial ≡ false
unfolding overflows
no_overflow log initial within fewer = any_block_none _ (openings log.role log.received log.sent)
    (λ j. elim (cases_Bool (active log j)) [
      | inl alive ↦
          and_right (active log j) (is_above_greatest (initial + total
          (increment_on j) log.received) (total (data_on j) log.sent))
          (le-ltb (greatest_window + total (data_on j) log.sent) (initial + total
          (increment_on j) log.received) (omega (arith, fewer j (active_some log j alive))))
      | inr over ↦ and_left (active log j) (is_above_greatest (initial + total
          (increment_on j) log.received) (total (data_on j) log.sent)) over
    ])

-- a pair without fault leaves the fault of those after it
pair_sound : (log : Log) (id value : ℕ) (pairs : List (ℕ × ℕ))
    → value_fault (peer_of log.role) (id, value) ≡ None
    → (id == 4 && overflows log value) ≡ false → settings_fault (log_view log) pairs ≡ None
    → settings_fault (log_view log) ((id, value) ∷ pairs) ≡ None
unfolding settings_fault
pair_sound log id value pairs sound within after = rw (sound, within) after

-- no pairs have no fault
none_sound : (log : Log) → settings_fault (log_view log) [] ≡ None
unfolding settings_fault
none_sound log = refl

-- an initial window within its bounds leaves the fault of the pairs after it
window_sound : (log : Log) (values : Values) (pairs : List (ℕ × ℕ)) → AreInRange values
    → overflows log values.initial_window ≡ false → settings_fault (log_view log) pairs ≡ None
    → settings_fault (log_view log) ((4, values.initial_window) ∷ pairs) ≡ None
unfolding value_fault
window_sound log values pairs ok within =
    pair_sound log 4 values.initial_window pairs
    (rw (le-ltb greatest_window values.initial_window ok.initial_window) refl) within

-- that no push is taken has no fault
push_value : (from : Role) → value_fault from (2, 0) ≡ None
unfolding value_fault
push_value Client = refl
push_value Server = refl

-- a greatest frame within its bounds has no fault
frame_value : (from : Role) (value : ℕ) → least_max_frame ≤ value → value ≤ most_max_frame
    → value_fault from (5, value) ≡ None
unfolding value_fault
frame_value from value least within = search rules

-- pairs without fault have none with a greatest frame, by the test whether it was written
named_sound_by : (log : Log) (max_frame : ℕ) (pairs : List (ℕ × ℕ)) (same : Bool)
    → value_fault (peer_of log.role) (5, max_frame) ≡ None
    → settings_fault (log_view log) pairs ≡ None
    → settings_fault (log_view log) (if same then pairs else (5, max_frame) ∷ pairs) ≡ None
named_sound_by log max_frame pairs true sound after = after
named_sound_by log max_frame pairs false sound after = pair_sound log 5 max_frame pairs sound refl
    after

-- pairs without fault have none with a greatest frame within its bounds
named_sound : (log : Log) (written : ℕ) (values : Values) (pairs : List (ℕ × ℕ))
    → AreInRange values → settings_fault (log_view log) pairs ≡ None
    → settings_fault (log_view log) (with_max_frame written values.max_frame pairs) ≡ None
unfolding with_max_frame
named_sound log written values pairs ok after =
    named_sound_by log values.max_frame pairs (values.max_frame == written)
    (frame_value (peer_of log.role) values.max_frame ok.least_frame ok.max_frame) after

-- the pairs of an opening have no fault, where its window brings none above the greatest
opened_sound : (role : Role) (values : Values) (log : Log) → AreInRange values
    → overflows log values.initial_window ≡ false
    → settings_fault (log_view log) (opening_pairs role values) ≡ None
unfolding opening_pairs value_fault
opened_sound Client values log ok within =
    pair_sound log 1 values.table_limit _ refl refl
    (pair_sound log 2 0 _ (push_value (peer_of log.role)) refl (window_sound log values _ ok within
    (named_sound log 16384 values _ ok (pair_sound log 6 max_list [] refl refl (none_sound log)))))
opened_sound Server values log ok within =
    pair_sound log 1 values.table_limit _ refl refl
    (pair_sound log 3 values.max_streams _ refl refl (window_sound log values _ ok within
    (named_sound log 16384 values _ ok (pair_sound log 6 max_list [] refl refl (none_sound log)))))

-- the pairs of a change have no fault, where its window brings none above the greatest
changed_sound : (role : Role) (written : ℕ) (values : Values) (log : Log) → AreInRange values
    → overflows log values.initial_window ≡ false
    → settings_fault (log_view log) (changed_pairs role written values) ≡ None
unfolding changed_pairs value_fault
changed_sound Client written values log ok within =
    pair_sound log 1 values.table_limit _ refl refl
    (window_sound log values _ ok within (named_sound log written values [] ok (none_sound log)))
changed_sound Server written values log ok within =
    pair_sound log 1 values.table_limit _ refl refl (pair_sound log 3 values.max_streams _ refl refl
    (window_sound log values _ ok within (named_sound log written values [] ok (none_sound log))))

-- nothing was returned in what wasn't read
nothing_given : (j : ℕ) (sent : List Item) → total (increment_on j) [] ≤ total (data_on j) sent
unfolding total
nothing_given j sent = omega arith

-- The SETTINGS that an end opens with are no fault.
pub first_settings_lem : (role : Role) (values : Values) (log : Log) → AreInRange values
    → log.received ≡ []
    → settings_fault (log_view log) (opening_pairs role values) ≡ None
first_settings_lem role values log ok nothing =
    opened_sound role values log ok (no_overflow log values.initial_window ok.initial_window
    (λ j some. rw nothing (nothing_given j log.sent)))

-- no fault is ignored
fault_none : (fault : Option Code) → fault ≡ None → is_fault (verdict_of_fault fault) ≡ false
fault_none fault none = rw none refl

-- Changed SETTINGS are no fault.
pub settings_lem : (role : Role) (received sent unread : List Item) (log : Log) (pairs : List (ℕ
    × ℕ)) → AllowedHistory role received sent
    → MayChangeSettings role pairs received sent → IsReader role received sent unread log
    → is_fault (verdict_by_rules (log_view log) None (alone (Settings false pairs))) ≡ false
unfolding verdict_by_rules
settings_lem role received sent unread log pairs with_sent may reader =
    search (rules, fault_none, changed_sound, no_overflow, increments_read, total_after)
