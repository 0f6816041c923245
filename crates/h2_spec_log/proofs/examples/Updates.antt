-- WINDOW_UPDATE, and windows that SETTINGS change.
use Rattle.h2_spec_log.proofs.Names
use Names.{List, None, Some, [], codes, false, negsuc, pos, refl, replicate, true, ℕ, ◌++◌, ◌∷◌}
use Names.{◌≡◌, Settings, WindowUpdate, FlowControlError, ProtocolError, Item, alone, Count}
use Names.{SendData, FieldsEvent, ResetEvent, settings_fault, Log, output, send_window, with_call}
use Names.{log_view, ConnectionFault, NoEvent, StreamFault, takes}
use Rattle.h2_spec_log.proofs.Computing.{computing}
use Rattle.h2_spec_log.proofs.examples.Blocks.{resetting_server, server_with_third}
use Rattle.h2_spec_log.proofs.examples.Ends.{active_octets, active_output, active_server}
use Rattle.h2_spec_log.proofs.examples.Ends.{active_view, asked_output, asking_client, asking_view}
use Rattle.h2_spec_log.proofs.examples.Ends.{settled_server}
use Rattle.h2_spec_log.proofs.examples.Octets.{octets}
use Rattle.h2_spec_log.proofs.examples.Words.{acknowledgment, answered, answers, come_to}
use Rattle.h2_spec_log.proofs.examples.Words.{empty_settings, goaway_frame, increment_frame}
use Rattle.h2_spec_log.proofs.examples.Words.{last_empty_frame, outcome, preface_octets}
use Rattle.h2_spec_log.proofs.examples.Words.{reset_frame, short_request, verdicts}

-- WINDOW_UPDATE of none, of as many as bring a first window to the greatest, and of one more
abbrev pub updates : ℕ → List Item
updates =
    λ stream. alone (WindowUpdate stream 0) ∷ alone (WindowUpdate stream 2147418112)
    ∷ alone (WindowUpdate stream 2147418113) ∷ []

-- Faults of the connection's window end the connection; those of a stream's reset it (RFC 9113,
-- sections 6.9 and 6.9.1).
-- rule: 6.9 An increment of 0 on the connection is PROTOCOL_ERROR
-- rule: 6.9 An increment of 0 on a stream is a stream error PROTOCOL_ERROR
-- rule: 6.9.1 The connection's window above 2^31-1 is FLOW_CONTROL_ERROR
-- rule: 6.9.1 A stream's window above 2^31-1 is a stream error FLOW_CONTROL_ERROR
updates_of_windows :
    (verdicts active_view (updates 0)
    ≡ ConnectionFault ProtocolError ∷ NoEvent ∷ ConnectionFault FlowControlError ∷ [])
    × (verdicts active_view (updates 1)
    ≡ StreamFault ProtocolError ∷ NoEvent ∷ StreamFault FlowControlError ∷ [])
unfolding computing
updates_of_windows = (refl, refl)

-- None at the greatest window is a PROTOCOL_ERROR all the same.
update_of_none_at_the_greatest :
    verdicts (record active_view { send_window = pos 2147483647 }) (alone (WindowUpdate 0 0) ∷ [])
    ≡ ConnectionFault ProtocolError ∷ []
unfolding computing
update_of_none_at_the_greatest = refl

-- On an idle stream an update ends the connection; on a closed one, and on one that this end has
-- reset, it is ignored (section 5.1).
-- rule: 5.1 On an idle stream any but HEADERS or PRIORITY is PROTOCOL_ERROR
-- rule: 6.9 WINDOW_UPDATE on a closed stream is ignored
-- rule: 6.9 WINDOW_UPDATE on an idle stream is PROTOCOL_ERROR
updates_by_state :
    (verdicts active_view (updates 2 ++ updates 3) ≡ replicate 6 (ConnectionFault ProtocolError))
    × (verdicts (log_view server_with_third) (updates 1) ≡ replicate 3 NoEvent)
    × (verdicts (log_view resetting_server) (updates 1) ≡ replicate 3 NoEvent)
unfolding computing
updates_by_state = (refl, refl, refl)

-- WINDOW_UPDATE of none on a stream.
-- rule: 6.9 An increment of 0 on a stream is a stream error PROTOCOL_ERROR
-- rule: 5.4.2 A stream error is answered by RST_STREAM with its code, and reported
update_of_none_on_a_stream :
    outcome (takes active_server (WindowUpdate 1 0))
    ≡ come_to (active_octets ++ increment_frame 1 0)
    (FieldsEvent 1 short_request false ∷ ResetEvent 1 1 true ∷ []) (active_output
    ++ reset_frame 1 1) None
unfolding computing
update_of_none_on_a_stream = refl

-- The same on the connection.
-- rule: 6.9 An increment of 0 on the connection is PROTOCOL_ERROR
update_of_none_on_the_connection :
    outcome (takes active_server (WindowUpdate 0 0))
    ≡ come_to (active_octets ++ increment_frame 0 0)
    (FieldsEvent 1 short_request false ∷ []) (active_output ++ goaway_frame 1 1)
    (Some ProtocolError)
unfolding computing
update_of_none_on_the_connection = refl

-- A stream's window above 2^31 - 1.
-- rule: 6.9.1 A stream's window above 2^31-1 is a stream error FLOW_CONTROL_ERROR
-- rule: 5.4.2 A stream error is answered by RST_STREAM with its code, and reported
update_too_far_on_a_stream :
    outcome (takes active_server (WindowUpdate 1 2147483647)) ≡ come_to
    (active_octets ++ octets (codes "000004 08 00 00000001 7fffffff"))
    (FieldsEvent 1 short_request false ∷ ResetEvent 1 3 true ∷ []) (active_output
    ++ reset_frame 1 3) None
unfolding computing
update_too_far_on_a_stream = refl

-- The connection's.
-- rule: 6.9.1 The connection's window above 2^31-1 is FLOW_CONTROL_ERROR
update_too_far_on_the_connection :
    outcome (takes settled_server (WindowUpdate 0 2147483647)) ≡ come_to
    (preface_octets ++ empty_settings ++ octets (codes "000004 08 00 00000000 7fffffff")) []
    (active_output ++ goaway_frame 0 3) (Some FlowControlError)
unfolding computing
update_too_far_on_the_connection = refl

-- the stream's window grows to the greatest
abbrev pub server_with_send_window : Log
server_with_send_window = takes active_server (WindowUpdate 1 2147418112)

-- and the peer's initial window grows by one
abbrev pub server_above_the_greatest : Log
server_above_the_greatest = takes server_with_send_window (Settings false ((4, 65536) ∷ []))

-- An initial window that brings a stream's above 2^31 - 1 ends the connection (section 6.9.2).
-- rule: 5.4.1 A connection error is answered by GOAWAY, and nothing is sent after
-- rule: 6.9.2 A shift of a window above 2^31-1 is FLOW_CONTROL_ERROR
raises_a_window_too_far :
    (send_window server_with_send_window 1 ≡ pos 2147483647)
    × (outcome server_above_the_greatest ≡ come_to (active_octets ++ octets
    (codes "000004 08 00 00000001 7fff0000 000006 04 00 00000000 000400010000"))
    (FieldsEvent 1 short_request false ∷ []) (active_output ++ goaway_frame 1 3)
    (Some FlowControlError))
    × (settings_fault (log_view server_with_send_window) ((4, 65535) ∷ []) ≡ None)
unfolding computing
raises_a_window_too_far = (refl, refl, refl)

-- the client has sent a hundred octets on stream 1
abbrev pub client_with_hundred : Log
client_with_hundred = with_call asking_client (SendData 1 (replicate 100 0) false) (Count 100)

-- and the server lowers the initial window to 10
abbrev pub lowered_client : Log
lowered_client = takes client_with_hundred (Settings false ((4, 10) ∷ []))

-- it sends none with END_STREAM
abbrev pub ended_client : Log
ended_client = with_call lowered_client (SendData 1 [] true) (Count 0)

-- what it has written before
abbrev pub lowered_output : List ℕ
lowered_output =
    asked_output ++ octets (codes "000064 00 00 00000001") ++ replicate 100 0 ++ acknowledgment

-- A lower initial window can make a stream's window negative: then no octets go, but an empty DATA
-- with END_STREAM does (sections 6.9.1 and 6.9.2).
-- rule: 6.9.2 INITIAL_WINDOW_SIZE shifts the window of each stream
lowers_a_window :
    (answered asking_view (SendData 1 (replicate 100 0) false) ≡ Count 100)
    × (outcome lowered_client
    ≡ come_to (empty_settings ++ octets (codes "000006 04 00 00000000 00040000000a")) []
    lowered_output None)
    × (send_window lowered_client 1 ≡ negsuc 89)
    × (answers (log_view lowered_client)
    (SendData 1 (0 ∷ []) false ∷ SendData 1 (0 ∷ []) true ∷ SendData 1 [] true ∷ [])
    ≡ replicate 3 (Count 0))
    × (output (with_call lowered_client (SendData 1 (0 ∷ []) true) (Count 0)) ≡ lowered_output)
    × (output ended_client ≡ lowered_output ++ last_empty_frame)
unfolding computing
lowers_a_window = (refl, refl, refl, refl, refl, refl)
