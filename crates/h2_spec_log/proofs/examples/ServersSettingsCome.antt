-- The logs of the examples' servers that settings change come about: each step is a frame in its
-- encoding, or a call with its answer.
use Rattle.h2_spec_log.proofs.Names.{None, [], false, refl, true, ◌∷◌, empty_table, Data, Settings}
use Rattle.h2_spec_log.proofs.Names.{ChangeSettings, Done, SendFields, IsLog, begins, opened}
use Rattle.h2_spec_log.proofs.Names.{with_call, takes, Server, Log}
use Rattle.h2_spec_log.proofs.examples.Bodies.{after_the_acknowledgment, before_the_acknowledgment}
use Rattle.h2_spec_log.proofs.examples.Bodies.{no_octets_after_it, one_octet_after_it}
use Rattle.h2_spec_log.proofs.examples.Bodies.{server_with_small_window}
use Rattle.h2_spec_log.proofs.examples.Coming.{ServerComes, block_comes, calls_come, comes, coming}
use Rattle.h2_spec_log.proofs.examples.Coming.{fields_are, settings_come, short_block, values_are}
use Rattle.h2_frame.proofs.EncodingLemmas.{below_test as below}
use Rattle.h2_spec_log.proofs.examples.Ends.{new_server}
use Rattle.h2_spec_log.proofs.examples.Settings.{acknowledged_server, changed_server, many_values}
use Rattle.h2_spec_log.proofs.examples.Settings.{remembered_answer, server_of_fewer, server_of_many}
use Rattle.h2_spec_log.proofs.examples.Settings.{server_with_limits, server_with_one_answer}
use Rattle.h2_spec_log.proofs.examples.Settings.{server_with_table_again, server_with_two}
use Rattle.h2_spec_log.proofs.examples.Settings.{server_with_two_answers, server_without_table}
use Rattle.h2_spec_log.proofs.examples.Words.{default_values, eleven, get_block, short_answer}
use Rattle.h2_spec_log.proofs.examples.Words.{short_request, small_values}
use Rattle.h2_spec_log.proofs.examples.ServersCome.{new_server_comes, active_server_comes}

-- Servers that read SETTINGS, and change their own.
changed_servers_come :
    ServerComes (takes new_server (Settings false ((240, 7) ∷ [])))
    × ServerComes acknowledged_server × ServerComes (takes acknowledged_server (Settings true []))
    × ServerComes changed_server × ServerComes (takes changed_server (Settings true []))
unfolding coming
changed_servers_come =
    let acknowledged = comes active_server_comes (Settings true []) tt refl refl in
    let changed = calls_come acknowledged (ChangeSettings small_values)
    (values_are small_values refl refl refl refl refl refl refl) refl in (
      settings_come new_server_comes ((240, 7) ∷ []) refl refl refl,
      acknowledged,
      comes acknowledged (Settings true []) tt refl refl,
      changed,
      comes changed (Settings true []) tt refl refl,
    )

pub server_with_two_comes : ServerComes server_with_two
unfolding coming
server_with_two_comes =
    block_comes active_server_comes 3 false get_block short_request (empty_table 4096) refl
    short_block

-- Servers whose client limits the table of fields.
servers_by_their_table_come :
    ServerComes server_with_one_answer × ServerComes server_without_table
    × ServerComes server_with_two_answers
    × ServerComes (takes server_with_two_answers (Settings false ((1, 4096) ∷ (4, 65535) ∷ [])))
    × ServerComes server_with_table_again × ServerComes server_with_limits
    × ServerComes (with_call server_with_limits (SendFields 1 short_answer false) Done)
unfolding coming
servers_by_their_table_come =
    let remembered = fields_are remembered_answer refl in
    let short = fields_are short_answer refl in
    let one = calls_come server_with_two_comes (SendFields 1 remembered_answer false)
    (below _ _ refl, remembered) refl in
    let without = settings_come one ((1, 0) ∷ (4, 65535) ∷ []) refl refl refl in
    let two = calls_come without (SendFields 3 remembered_answer false)
    (below _ _ refl, remembered) refl in
    let allowed = settings_come two ((1, 4096) ∷ (4, 65535) ∷ []) refl refl refl in
    let limits = settings_come server_with_two_comes ((1, 0) ∷ (1, 4096) ∷ []) refl refl refl in (
      one,
      without,
      two,
      allowed,
      calls_come allowed (SendFields 1 short_answer true) (below _ _ refl, short) refl,
      limits,
      calls_come limits (SendFields 1 short_answer false) (below _ _ refl, short) refl,
    )

-- The log of a server with a small initial window comes about.
abbrev SmallServerComes : Log → Type 0
SmallServerComes log = IsLog Server small_values log

-- Servers with a small initial window, before and after its acknowledgment.
small_servers_come :
    SmallServerComes (opened Server small_values)
    × SmallServerComes (takes (opened Server small_values) (Settings false []))
    × SmallServerComes server_with_small_window × SmallServerComes before_the_acknowledgment
    × SmallServerComes after_the_acknowledgment × SmallServerComes no_octets_after_it
    × SmallServerComes one_octet_after_it
unfolding coming
small_servers_come =
    let new : IsLog Server small_values (opened Server small_values) =
    begins (values_are small_values refl refl refl refl refl refl refl) in
    let settled = comes new (Settings false []) tt refl refl in
    let active = block_comes settled 1 false get_block short_request (empty_table 4096) refl
    short_block in
    let before = comes active (Data 1 false eleven None) tt refl refl in
    let after = comes before (Settings true []) tt refl refl in
    let none = comes after (Data 1 false [] None) tt refl refl in
    let one = comes none (Data 1 false (0x61 ∷ []) None) tt refl refl in
    (new, settled, active, before, after, none, one)

-- That of one that allows many streams comes about.
abbrev LargeServerComes : Log → Type 0
LargeServerComes log = IsLog Server many_values log

-- Servers that allow many streams, and then fewer.
servers_of_many_come :
    LargeServerComes (opened Server many_values) × LargeServerComes server_of_many
    × LargeServerComes (takes server_of_many (Settings true [])) × LargeServerComes server_of_fewer
    × LargeServerComes (takes server_of_fewer (Settings true []))
unfolding coming
servers_of_many_come =
    let new : IsLog Server many_values (opened Server many_values) =
    begins (values_are many_values refl refl refl refl refl refl refl) in
    let settled = comes new (Settings false []) tt refl refl in
    let acknowledged = comes settled (Settings true []) tt refl refl in
    let fewer = calls_come acknowledged (ChangeSettings default_values)
    (values_are default_values refl refl refl refl refl refl refl) refl in
    (new, settled, acknowledged, fewer, comes fewer (Settings true []) tt refl refl)
