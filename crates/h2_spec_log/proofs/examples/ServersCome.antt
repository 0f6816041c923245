-- The logs of the examples' servers come about: each step is a frame in its encoding, or a call
-- with its answer.
use Rattle.h2_spec_log.proofs.Names.{None, Some, [], codes, false, refl, true, ◌∷◌, empty_table}
use Rattle.h2_spec_log.proofs.Names.{Continuation, Data, Headers, Ping, Settings, WindowUpdate}
use Rattle.h2_spec_log.proofs.Names.{Release, ResetStream, begins, takes}
use Rattle.h2_spec_log.proofs.examples.Blocks.{begun_server, longer_server, resetting_server}
use Rattle.h2_spec_log.proofs.examples.Blocks.{server_with_block_after_the_end, server_with_third}
use Rattle.h2_spec_log.proofs.examples.Blocks.{server_with_three_frames}
use Rattle.h2_spec_log.proofs.examples.Bodies.{server_with_body_after_the_end, server_with_padding}
use Rattle.h2_spec_log.proofs.examples.Coming.{ServerComes, block_comes, calls_come, comes, coming}
use Rattle.h2_spec_log.proofs.examples.Coming.{frame_comes, later_block, long_block, settings_come}
use Rattle.h2_spec_log.proofs.examples.Coming.{short_block, values_are}
use Rattle.h2_frame.proofs.EncodingLemmas.{below_test as below}
use Rattle.h2_spec_log.proofs.examples.Ends.{active_server, new_server, server_with_body}
use Rattle.h2_spec_log.proofs.examples.Ends.{server_with_release, server_with_request}
use Rattle.h2_spec_log.proofs.examples.Ends.{settled_server}
use Rattle.h2_spec_log.proofs.examples.Octets.{octets}
use Rattle.h2_spec_log.proofs.examples.Pings.{server_with_ping}
use Rattle.h2_spec_log.proofs.examples.Updates.{server_above_the_greatest, server_with_send_window}
use Rattle.h2_spec_log.proofs.examples.Words.{abcd, default_values, get_block, one_to_eight}
use Rattle.h2_spec_log.proofs.examples.Words.{request, request_block, short_request}
use Rattle.h2_spec_log.proofs.examples.Words.{table_with_authority}

pub new_server_comes : ServerComes new_server
unfolding coming
new_server_comes = begins (values_are default_values refl refl refl refl refl refl refl)

pub settled_server_comes : ServerComes settled_server
unfolding coming
settled_server_comes = comes new_server_comes (Settings false []) tt refl refl

pub active_server_comes : ServerComes active_server
unfolding coming
active_server_comes =
    block_comes settled_server_comes 1 false get_block short_request (empty_table 4096) refl
    short_block

pub server_with_body_false_comes : ServerComes (server_with_body false)
unfolding coming
server_with_body_false_comes = comes active_server_comes (Data 1 false abcd None) tt refl refl

pub resetting_server_comes : ServerComes resetting_server
unfolding coming
resetting_server_comes =
    calls_come active_server_comes (ResetStream 1 8) (below _ _ refl, below _ _ refl) refl

-- Servers that read a body, and release it.
servers_with_a_body_come :
    ServerComes (server_with_release false) × ServerComes (server_with_body true)
    × ServerComes (server_with_release true) × ServerComes server_with_body_after_the_end
    × ServerComes server_with_padding
    × ServerComes (takes active_server (Data 5 false (0 ∷ []) None))
unfolding coming
servers_with_a_body_come =
    let ended = comes active_server_comes (Data 1 true abcd None) tt refl refl in (
      calls_come server_with_body_false_comes (Release 1 4) (below _ _ refl, below _ _ refl) refl,
      ended,
      calls_come ended (Release 1 4) (below _ _ refl, below _ _ refl) refl,
      comes ended (Data 1 false (0x61 ∷ []) None) tt refl refl,
      comes active_server_comes (Data 1 false [] (Some 4)) (below _ _ refl) refl refl,
      comes active_server_comes (Data 5 false (0 ∷ []) None) tt refl refl,
    )

-- Servers that read a request with an authority, and then PING or a block after the end.
servers_with_a_request_come :
    ServerComes
    (takes new_server (Settings false ((1, 4096) ∷ (2, 0) ∷ (4, 65535) ∷ (6, 65536) ∷ [])))
    × ServerComes server_with_request × ServerComes server_with_ping
    × ServerComes server_with_block_after_the_end
unfolding coming
servers_with_a_request_come =
    let greeted = settings_come new_server_comes
    ((1, 4096) ∷ (2, 0) ∷ (4, 65535) ∷ (6, 65536) ∷ []) refl refl refl in
    let asked = block_comes greeted 1 true request_block request table_with_authority refl
    long_block in (
      greeted,
      asked,
      comes asked (Ping false one_to_eight) refl refl refl,
      block_comes asked 1 true get_block short_request table_with_authority refl later_block,
    )

-- Servers that read a block in several frames, or a part of it.
servers_with_a_block_come :
    ServerComes begun_server × ServerComes longer_server × ServerComes server_with_three_frames
    × ServerComes (takes begun_server (Ping false one_to_eight))
    × ServerComes (takes settled_server (Continuation 1 true get_block))
    × ServerComes server_with_third
    × ServerComes (takes server_with_third (Data 1 false (0x61 ∷ []) None))
unfolding coming
servers_with_a_block_come =
    let begun = comes settled_server_comes
    (Headers 1 true false (octets (codes "82")) None None) (tt, tt) refl refl in
    let longer = comes begun (Continuation 1 false (octets (codes "86"))) tt refl refl in
    let third = block_comes settled_server_comes 3 false get_block short_request
    (empty_table 4096) refl short_block in (
      begun,
      longer,
      frame_comes longer (Continuation 1 true (octets (codes "84")))
          (Some (record { fields = short_request; after = empty_table 4096 })) tt refl short_block,
      comes begun (Ping false one_to_eight) refl refl refl,
      comes settled_server_comes (Continuation 1 true get_block) tt refl refl,
      third,
      comes third (Data 1 false (0x61 ∷ []) None) tt refl refl,
    )

-- Servers that read WINDOW_UPDATE.
servers_with_an_update_come :
    ServerComes (takes active_server (WindowUpdate 1 0))
    × ServerComes (takes active_server (WindowUpdate 0 0))
    × ServerComes (takes active_server (WindowUpdate 1 2147483647))
    × ServerComes (takes settled_server (WindowUpdate 0 2147483647))
    × ServerComes server_with_send_window × ServerComes server_above_the_greatest
unfolding coming
servers_with_an_update_come =
    let window = comes active_server_comes (WindowUpdate 1 2147418112) tt refl refl in (
      comes active_server_comes (WindowUpdate 1 0) tt refl refl,
      comes active_server_comes (WindowUpdate 0 0) tt refl refl,
      comes active_server_comes (WindowUpdate 1 2147483647) tt refl refl,
      comes settled_server_comes (WindowUpdate 0 2147483647) tt refl refl,
      window,
      settings_come window ((4, 65536) ∷ []) refl refl refl,
    )
