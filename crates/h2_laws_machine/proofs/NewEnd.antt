-- A new machine represents the log of a new end.
use Rattle.h2_laws_machine.proofs.Names
use Names.{◌≡◌, ℕ, ◌%◌, ◌==◌, true, false, [], ◌∷◌, Some, refl, sym, ◌∙◌, arith, nat_cmp, and_left}
use Names.{widened}
use Names.{and_right, Settings, alone, Role, Client, Server, data_on, data_of, increment_on}
use Names.{is_block_on, ends, resets, is_goaway, one_ping, one_reset, total, greatest_block}
use Names.{one_acked, one_pong, reported_total, greatest_processed, Values, AreInRange, is_server}
use Names.{value_after, value_read, one_settings, settings_count, openings, is_active, count_below}
use Names.{first_window, given_on_connection, granted_on_connection, active, active_count}
use Names.{last_processed, max_streams, allowed_by, output, max_payload_sent_by, max_list}
use Names.{with_sent, opened, begins, new_end, owed_sum, Represents, RepresentsWhileUp}
use Names.{AwaitsValues, goaway_sent_last, value_named, opening_pairs}
use Rattle.std.specs.FinMap.{get-empty}
use Rattle.h2_spec_log.specs.Settings.{settings_of, value_after_all}
use Rattle.h2_spec_log.specs.CallRules.{with_max_frame}
use Rattle.h2_laws_log.proofs.AllowedHistories.{opening_window}
use Rattle.h2_laws_log.proofs.SettingsLists.{opening_frame}
use Rattle.h2_laws_machine.proofs.ConservedBySteps.{new_holds, is_whole}
use Rattle.h2_laws_machine.proofs.LogCore.{core, StreamsOf}

-- opens what computes
unfoldable pub computing : Unit {0}
unfolding data_on data_of increment_on is_block_on ends resets is_goaway one_ping one_reset total
    greatest_block one_acked one_pong reported_total greatest_processed value_read one_settings
    settings_count settings_of value_after_all is_active count_below given_on_connection
    granted_on_connection active_count last_processed max_streams allowed_by output with_sent
    opening_pairs opened new_end owed_sum goaway_sent_last
computing = tt

-- No stream is active where there is none.
pub new_is_active : (role : Role) (values : Values) (i : ℕ) → active (opened role values) i ≡ false
unfolding computing
new_is_active Client values i =
    and_left _ _ (and_left _ _ (and_left _ _ (and_right (i % 2 == 1) _ refl)))
new_is_active Server values i =
    and_left _ _ (and_left _ _ (and_left _ _ (and_right (i % 2 == 1) _ refl)))

-- No stream is counted.
new_active_count : (role : Role) (values : Values) → active_count (opened role values) ≡ 0
unfolding active_count count_below greatest_block opened with_sent
new_active_count Client values = rw (new_is_active Client values 0) refl
new_active_count Server values = rw (new_is_active Server values 0) refl

-- No number was used.
new_used : (role : Role) (values : Values)
    → greatest_block (openings role [] (alone (Settings false (opening_pairs role values)) ∷ []))
    ≡ 0
unfolding computing
new_used Client values = refl
new_used Server values = refl

-- A value that the opening names before the greatest frame is the one that it names.
opening_value : (id value : ℕ) (values : Values) → (5 == id) ≡ false → (6 == id) ≡ false
    → value_after id value (with_max_frame 16384 values.max_frame ((6, max_list) ∷ [])) ≡ value
unfolding value_after
opening_value id value values no_frame no_list =
    value_named id value 16384 values.max_frame ((6, max_list) ∷ []) ∙ rw (no_frame, no_list) refl

-- A server allows as many streams as its opening says.
new_max_streams : (role : Role) (values : Values) → is_server role ≡ true
    → values.max_streams ≡ max_streams (opened role values)
unfolding computing value_after
new_max_streams Client values server = cc
new_max_streams Server values server = sym (opening_value 3 values.max_streams values refl refl)

-- No stream was processed.
new_last_processed : (role : Role) (values : Values) → 0 ≡ last_processed (opened role values)
unfolding computing
new_last_processed Client values = refl
new_last_processed Server values = refl

-- What will be in force is what the opening says.
new_awaited : (role : Role) (values others : Values) → Some values ≡ Some others
    → AwaitsValues role (opened role values).sent others
unfolding computing value_after
new_awaited Client values others same =
    let equal : values ≡ others = cc in
    rw (← equal) (record {
      table_limit = opening_value 1 values.table_limit values refl refl;
      initial_window = opening_window Client values first_window;
      max_streams = λ server. cc;
      max_frame = opening_frame Client values;
    })
new_awaited Server values others same =
    let equal : values ≡ others = cc in
    rw (← equal) (record {
      table_limit = opening_value 1 values.table_limit values refl refl;
      initial_window = opening_window Server values first_window;
      max_streams = λ server. opening_value 3 values.max_streams values refl refl;
      max_frame = opening_frame Server values;
    })

-- The streams of a new machine are those of a new log: none.
new_streams : (role : Role) (values : Values)
    → StreamsOf (new_end role values).streams (core (opened role values))
unfolding computing
new_streams role values = record {
  entries = λ i. rw (new_is_active role values i) (get-empty nat_cmp i);
  active_count = sym (new_active_count role values);
  highest = sym (new_used role values);
  last_processed = new_last_processed role values;
  resets = refl;
}

-- The values of a new machine are those of a new log.
new_running : (role : Role) (values : Values)
    → RepresentsWhileUp (new_end role values) (opened role values)
unfolding computing widened
new_running role values = assumption (new_max_streams role values, new_awaited role values)

-- A new machine represents a new log.
pub new_represents : (role : Role) (values : Values) → AreInRange values
    → Represents values (new_end role values) (opened role values)
unfolding computing max_payload_sent_by
new_represents role values in_range = record {
  came = begins in_range;
  role = refl;
  failed = refl;
  output = record { waiting = refl; given = omega arith };
  streams = new_streams role values;
  running = λ up. new_running role values;
  whole = (is_whole (new_end role values) (new_holds role values)).whole;
  used = λ i above. get-empty nat_cmp i;
}
