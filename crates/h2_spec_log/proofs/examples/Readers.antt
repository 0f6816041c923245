-- What an end answers of itself, before a failure and after it.
use Rattle.h2_spec_log.proofs.Names.{None, Some, [], codes, false, map, negsuc, pos, refl, ◌∷◌, ◌≡◌}
use Rattle.h2_spec_log.proofs.Names.{NoError, Count, Done, PutOut, Refuse, Release, Log, waiting}
use Rattle.h2_spec_log.proofs.Names.{with_call, log_view}
use Rattle.h2_spec_log.specs.CallRules.{reader_due, reader_owed, reader_room}
use Rattle.h2_spec_log.specs.Log.{reader_held, reader_next_live, reader_block_stream}
use Rattle.h2_spec_log.specs.LogSteps.{took_part}
use Rattle.h2_spec_log.proofs.Computing.{computing}
use Rattle.h2_spec_log.proofs.examples.Blocks.{resetting_server, begun_server, longer_server}
use Rattle.h2_spec_log.proofs.examples.Blocks.{server_with_three_frames}
use Rattle.h2_spec_log.proofs.examples.Credit.{emptied_client, held_client}
use Rattle.h2_spec_log.proofs.examples.Ends.{client_with_two, server_with_body}
use Rattle.h2_spec_log.proofs.examples.Octets.{octets}
use Rattle.h2_spec_log.proofs.examples.Resets.{server_with_reset}
use Rattle.h2_spec_log.proofs.examples.Updates.{client_with_hundred, lowered_client}
use Rattle.h2_spec_log.proofs.examples.Words.{answers}

-- a server that holds a part of a frame
abbrev pub server_with_part : Log
server_with_part =
    took_part (server_with_body false) (octets (codes "000004 03")) (octets (codes "000004 03"))

-- its connection fails
abbrev pub failed_server : Log
failed_server = with_call server_with_part (Refuse 1 2) Done

-- `held` answers the octets of a partial frame, and 0 after a failure.
octets_held :
    map reader_held (server_with_body false ∷ server_with_part ∷ failed_server ∷ [])
    ≡ 0 ∷ 4 ∷ 0 ∷ []
unfolding computing
octets_held = refl

-- `block_stream` answers the stream of a block from the frame that begins it to the one that ends
-- it, and nothing after a failure.
open_blocks_seen :
    map reader_block_stream (server_with_part ∷ begun_server ∷ longer_server
    ∷ server_with_three_frames ∷ with_call longer_server (Refuse 1 2) Done ∷ [])
    ≡ None ∷ Some 1 ∷ Some 1 ∷ None ∷ None ∷ []
unfolding computing
open_blocks_seen = refl

-- `room` answers the window of the connection, or that of an active stream; nothing after a
-- failure.
windows_read :
    (map (reader_room (log_view server_with_part)) (0 ∷ 1 ∷ 3 ∷ [])
    ≡ Some (pos 65535) ∷ Some (pos 65535) ∷ None ∷ [])
    × (map (reader_room (log_view client_with_hundred)) (0 ∷ 1 ∷ [])
    ≡ Some (pos 65435) ∷ Some (pos 65435) ∷ [])
    × (map (reader_room (log_view lowered_client)) (0 ∷ 1 ∷ [])
    ≡ Some (pos 65435) ∷ Some (negsuc 89) ∷ [])
    × (map (reader_room (log_view failed_server)) (0 ∷ 1 ∷ 3 ∷ []) ≡ None ∷ None ∷ None ∷ [])
unfolding computing
windows_read = (refl, refl, refl, refl)

-- `owed` answers what wasn't released of an active stream, and 0 after a failure.
-- rule: calls (own) An end answers of its state, and of little once it has failed
octets_owed :
    (map (reader_owed (log_view server_with_part)) (0 ∷ 1 ∷ 3 ∷ []) ≡ 0 ∷ 4 ∷ 0 ∷ [])
    × (reader_owed (log_view (with_call (server_with_body false) (Release 1 3) Done)) 1 ≡ 1)
    × (reader_owed (log_view server_with_reset) 1 ≡ 0)
    × (reader_owed (log_view failed_server) 1 ≡ 0)
unfolding computing
octets_owed = (refl, refl, refl, refl)

-- `due` answers what is still to be returned, and 0 after a failure.
octets_due :
    (map (λ log. reader_due (log_view log)) (server_with_part ∷ held_client ∷ emptied_client ∷ [])
    ≡ 0 ∷ 4 ∷ 0 ∷ [])
    × (reader_due (record (log_view held_client) { failed = Some NoError }) ≡ 0)
unfolding computing
octets_due = (refl, refl)

-- `next_active` answers the least active stream above a number, and none after a failure.
next_active_streams :
    (map (reader_next_live client_with_two) (0 ∷ 1 ∷ 2 ∷ 3 ∷ [])
    ≡ Some 1 ∷ Some 3 ∷ Some 3 ∷ None ∷ [])
    × (map (reader_next_live failed_server) (0 ∷ 1 ∷ []) ≡ None ∷ None ∷ [])
    × (reader_next_live resetting_server 0 ≡ None)
unfolding computing
next_active_streams = (refl, refl, refl)

-- `waiting` goes on after a failure, and with it putting output out: GOAWAY follows what waits (RFC
-- 9113, section 5.4.1).
waiting_after_a_failure :
    (map waiting (server_with_part ∷ failed_server ∷ []) ≡ 42 ∷ 59 ∷ [])
    × (answers (log_view failed_server) (PutOut 100 ∷ []) ≡ Count 59 ∷ [])
    × (waiting (with_call failed_server (PutOut 50) (Count 50)) ≡ 9)
unfolding computing
waiting_after_a_failure = (refl, refl, refl)
