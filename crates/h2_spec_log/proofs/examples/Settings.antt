-- SETTINGS: faults of values, and how they change what an end does.
use Rattle.h2_spec_log.specs.Settings.{own_value}
use Rattle.h2_spec_log.proofs.Names
use Names.{List, None, Some, [], codes, false, map, pos, refl, true, ℕ, ◌++◌, ◌∷◌, ◌≡◌, empty_table}
use Names.{Field, Ping, Settings, Item, alone, FlowControlError, ProtocolError, ChangeSettings}
use Names.{Done, Refused, SendFields, Values, FieldsEvent, settings_fault, Log, output, recv_window}
use Names.{opened, with_call, log_view, takes, takes_block, Server, EncoderState, AckedEvent}
use Names.{encoder_after_settings, max_streams, settings_of, SettingsWait}
use Rattle.h2_spec_log.proofs.Computing.{computing}
use Rattle.h2_spec_log.proofs.examples.Ends.{active_octets, active_output, active_server}
use Rattle.h2_spec_log.proofs.examples.Ends.{active_view, asked_output, asking_client, new_client}
use Rattle.h2_spec_log.proofs.examples.Ends.{new_server}
use Rattle.h2_spec_log.proofs.examples.Octets.{octets}
use Rattle.h2_spec_log.proofs.examples.Updates.{server_with_send_window}
use Rattle.h2_spec_log.proofs.examples.Words.{acknowledgment, answered, client_settings, come_to}
use Rattle.h2_spec_log.proofs.examples.Words.{default_values, get_block, goaway_frame, outcome}
use Rattle.h2_spec_log.proofs.examples.Words.{plain, preface_octets, server_settings, short_answer}
use Rattle.h2_spec_log.proofs.examples.Words.{short_request, small_values}

-- ENABLE_PUSH is 0 or 1, and 0 from a server (RFC 9113, section 6.5.2).
-- rule: 6.5.2 ENABLE_PUSH above 1 is PROTOCOL_ERROR
values_of_push :
    (map (settings_fault (log_view new_client)) (((2, 0) ∷ []) ∷ ((2, 1) ∷ []) ∷ ((2, 2) ∷ []) ∷ [])
    ≡ None ∷ Some ProtocolError ∷ Some ProtocolError ∷ [])
    × (map (settings_fault (log_view new_server)) (((2, 0) ∷ []) ∷ ((2, 1) ∷ []) ∷ ((2, 2) ∷ []) ∷
    [])
    ≡ None ∷ None ∷ Some ProtocolError ∷ [])
unfolding computing
values_of_push = (refl, refl)

-- An initial window is at most 2^31 - 1, a frame size from 16,384 to 2^24 - 1.
-- rule: 6.5.2 INITIAL_WINDOW_SIZE above 2^31-1 is FLOW_CONTROL_ERROR
-- rule: 6.5.2 MAX_FRAME_SIZE below 16,384 or above 2^24-1 is PROTOCOL_ERROR
values_of_windows_and_frames :
    (map (settings_fault (log_view new_server))
    (((4, 2147483647) ∷ []) ∷ ((4, 2147483648) ∷ []) ∷ [])
    ≡ None ∷ Some FlowControlError ∷ [])
    × (map (settings_fault (log_view new_server))
    (((5, 16383) ∷ []) ∷ ((5, 16384) ∷ []) ∷ ((5, 16777215) ∷ []) ∷ ((5, 16777216) ∷ []) ∷ [])
    ≡ Some ProtocolError ∷ None ∷ None ∷ Some ProtocolError ∷ [])
unfolding computing
values_of_windows_and_frames = (refl, refl)

-- Other identifiers have no fault, known or unknown.
other_values : settings_fault active_view ((1, 4294967295) ∷ (3, 0) ∷ (6, 0) ∷ (240, 7) ∷ []) ≡ None
unfolding computing
other_values = refl

-- The first pair that is at fault decides (section 6.5.3).
-- rule: 6.5.3 Settings apply in order: the first fault decides, the last value counts
first_fault_of_several :
    (settings_fault active_view ((1, 0) ∷ (5, 0) ∷ (4, 2147483648) ∷ []) ≡ Some ProtocolError)
    × (settings_fault active_view ((4, 2147483648) ∷ (5, 0) ∷ []) ≡ Some FlowControlError)
    × (settings_fault (log_view server_with_send_window) ((5, 0) ∷ (4, 65536) ∷ [])
    ≡ Some ProtocolError)
    × (settings_fault (log_view server_with_send_window) ((4, 65536) ∷ (5, 0) ∷ [])
    ≡ Some FlowControlError)
unfolding computing
first_fault_of_several = (refl, refl, refl, refl)

-- A fault ends the connection without an acknowledgment.
-- rule: 6.5.2 ENABLE_PUSH of 1 from a server is PROTOCOL_ERROR
push_from_a_server :
    outcome (takes new_client (Settings false ((2, 1) ∷ [])))
    ≡ come_to (octets (codes "000006 04 00 00000000 000200000001")) []
    (preface_octets ++ client_settings ++ goaway_frame 0 1) (Some ProtocolError)
unfolding computing
push_from_a_server = refl

-- An unknown identifier is ignored, and the frame acknowledged.
-- rule: 6.5.2 Settings of other identifiers are ignored
unknown_identifier :
    outcome (takes new_server (Settings false ((240, 7) ∷ []))) ≡ come_to
    (preface_octets ++ octets (codes "000006 04 00 00000000 00f000000007")) []
    (server_settings ++ acknowledgment) None
unfolding computing
unknown_identifier = refl

-- the client acknowledges the server's SETTINGS
abbrev pub acknowledged_server : Log
acknowledged_server = takes active_server (Settings true [])

-- An acknowledgment that is awaited is reported, another one ignored (section 6.5.3).
-- rule: 6.5.3 An acknowledgment that is awaited is reported, others are ignored
acknowledgments :
    (outcome acknowledged_server ≡ come_to (active_octets ++ acknowledgment)
    (FieldsEvent 1 short_request false ∷ AckedEvent ∷ []) active_output None)
    × (outcome (takes acknowledged_server (Settings true [])) ≡ come_to
    (active_octets ++ acknowledgment ++ acknowledgment)
    (FieldsEvent 1 short_request false ∷ AckedEvent ∷ []) active_output None)
unfolding computing
acknowledgments = (refl, refl)

-- a server with two active streams
abbrev pub server_with_two : Log
server_with_two = takes_block active_server 3 false get_block short_request (empty_table 4096)

-- the fields of an answer of which one joins the table
abbrev pub remembered_answer : List Field
remembered_answer = plain (codes ":status") (codes "200") ∷ plain (codes "x") (codes "y") ∷ []

-- the server answers the first stream
abbrev pub server_with_one_answer : Log
server_with_one_answer = with_call server_with_two (SendFields 1 remembered_answer false) Done

-- the client allows no table
abbrev pub server_without_table : Log
server_without_table = takes server_with_one_answer (Settings false ((1, 0) ∷ (4, 65535) ∷ []))

-- the server answers the other stream
abbrev pub server_with_two_answers : Log
server_with_two_answers = with_call server_without_table (SendFields 3 remembered_answer false) Done

-- the client allows a table again, and the server ends the first stream
abbrev pub server_with_table_again : Log
server_with_table_again =
    with_call (takes server_with_two_answers (Settings false ((1, 4096) ∷ (4, 65535) ∷ [])))
    (SendFields 1 short_answer true) Done

-- what the server has written by the second answer
abbrev pub two_answers : List ℕ
two_answers =
    active_output ++ octets (codes "000006 01 04 00000001 884081f381f5") ++ acknowledgment
    ++ octets (codes "000007 01 04 00000003 20880081f381f5")

-- The limit of the peer's table holds from the next block on, which begins with a size update
-- (section 4.3.1; RFC 7541, sections 4.2 and 6.3).
-- rule: 4.3.1 The encoder follows each HEADER_TABLE_SIZE, up to 4,096 (own)
follows_the_table_limit :
    (output server_with_two_answers ≡ two_answers)
    × (output server_with_table_again
    ≡ two_answers ++ acknowledgment ++ octets (codes "000004 01 05 00000001 3fe11f88"))
unfolding computing
follows_the_table_limit = (refl, refl)

-- SETTINGS with several limits of the table
abbrev pub server_with_limits : Log
server_with_limits = takes server_with_two (Settings false ((1, 0) ∷ (1, 4096) ∷ []))

-- Each of them counts: the next block has an update to the least of them, and one to the last.
-- rule: 4.3.1 The encoder follows each HEADER_TABLE_SIZE, up to 4,096 (own)
-- rule: 6.5.3 Settings apply in order: the first fault decides, the last value counts
follows_each_table_limit :
    output (with_call server_with_limits (SendFields 1 short_answer false) Done)
    ≡ active_output ++ acknowledgment ++ octets (codes "000005 01 04 00000001 203fe11f88")
unfolding computing
follows_each_table_limit = refl

-- an encoder with these limits
abbrev pub encoder_with : (least limit : ℕ) → EncoderState
encoder_with = λ least limit. record { table = empty_table 4096; least = least; limit = limit }

-- The own encoder's table has at most 4,096 octets (own).
-- rule: 4.3.1 The encoder follows each HEADER_TABLE_SIZE, up to 4,096 (own)
encoder_limits :
    (encoder_after_settings (encoder_with 4096 4096) ((1, 8192) ∷ []) ≡ encoder_with 4096 4096)
    × (encoder_after_settings (encoder_with 4096 4096) ((1, 100) ∷ (3, 50) ∷ (1, 200) ∷ [])
    ≡ encoder_with 100 200)
unfolding computing
encoder_limits = (refl, refl)

-- the server changes its settings
abbrev pub changed_server : Log
changed_server = with_call acknowledged_server (ChangeSettings small_values) Done

-- Own SETTINGS are changed one at a time: those before, the first included, are acknowledged before
-- that (section 6.5.3).
-- rule: 6.5.3 (own) Own SETTINGS are changed once those before are acknowledged
-- rule: 6.9.3 Until a lower own window is acknowledged the one before it holds
changes_its_settings :
    (answered active_view (ChangeSettings small_values) ≡ Refused SettingsWait)
    × (answered (log_view acknowledged_server) (ChangeSettings small_values) ≡ Done)
    × (answered (log_view changed_server) (ChangeSettings small_values) ≡ Refused SettingsWait)
    × (output changed_server ≡ active_output
    ++ octets (codes "000012 04 00 00000000 000100001000 000300000064 00040000000a"))
    × (recv_window changed_server 1 ≡ pos 65535)
    × (recv_window (takes changed_server (Settings true [])) 1 ≡ pos 10)
unfolding computing
changes_its_settings = (refl, refl, refl, refl, refl, refl)

-- two SETTINGS among other items, the newest first, of which one acknowledges the peer's
abbrev pub two_settings : List Item
two_settings =
    alone (Settings false ((4, 20) ∷ (1, 0) ∷ (4, 30) ∷ [])) ∷ alone (Settings true [])
    ∷ alone (Ping false (0 ∷ 0 ∷ 0 ∷ 0 ∷ 0 ∷ 0 ∷ 0 ∷ 0 ∷ []))
    ∷ alone (Settings false ((4, 10) ∷ [])) ∷ []

-- The SETTINGS among items have the oldest first, and acknowledgments are none of them.
settings_among_items :
    settings_of two_settings ≡ ((4, 10) ∷ []) ∷ ((4, 20) ∷ (1, 0) ∷ (4, 30) ∷ []) ∷ []
unfolding computing
settings_among_items = refl

-- An own value with none, one and both of them acknowledged (section 6.5.3).
own_values :
    (map (λ count. own_value 4 65535 count two_settings) (0 ∷ 1 ∷ 2 ∷ []) ≡ 65535 ∷ 10 ∷ 30 ∷ [])
    × (map (λ count. own_value 1 4096 count two_settings) (0 ∷ 1 ∷ 2 ∷ []) ≡ 4096 ∷ 4096 ∷ 0 ∷ [])
unfolding computing
own_values = (refl, refl)

-- a client without a table
abbrev pub tableless_values : Values
tableless_values =
    record { table_limit = 0; initial_window = 65535; max_streams = 100; max_frame = 16384 }

-- a client whose SETTINGS are acknowledged changes them
abbrev pub changed_client : Log
changed_client =
    with_call (takes asking_client (Settings true [])) (ChangeSettings tableless_values) Done

-- A client's don't name a number of streams.
-- rule: 6.5.3 (own) Own SETTINGS are changed once those before are acknowledged
client_changes_its_settings :
    output changed_client
    ≡ asked_output ++ octets (codes "00000c 04 00 00000000 000100000000 00040000ffff")
unfolding computing
client_changes_its_settings = refl

-- a server that allows 200 streams
abbrev pub many_values : Values
many_values =
    record { table_limit = 4096; initial_window = 65535; max_streams = 200; max_frame = 16384 }

abbrev pub server_of_many : Log
server_of_many = takes (opened Server many_values) (Settings false [])

-- and, its SETTINGS acknowledged, 100
abbrev pub server_of_fewer : Log
server_of_fewer =
    with_call (takes server_of_many (Settings true [])) (ChangeSettings default_values) Done

-- A server's number of streams is that of its first SETTINGS, and a later one holds once it is
-- acknowledged (section 6.5.3; own).
-- rule: 6.5.3 Own SETTINGS hold once they are acknowledged, and not before
streams_of_a_server :
    map (λ log. (log_view log).max_streams)
    (server_of_many ∷ server_of_fewer ∷ takes server_of_fewer (Settings true []) ∷ [])
    ≡ 200 ∷ 200 ∷ 100 ∷ []
unfolding computing
streams_of_a_server = refl

-- A client may have 100 streams before a server's SETTINGS, then as many as those name, and 1,000
-- at most (section 5.1.2; own).
-- rule: 5.1.2 A client has at most as many active streams as the server allows
streams_of_a_client :
    map (λ log. (log_view log).streams_allowed)
    (new_client ∷ asking_client ∷ takes new_client (Settings false ((3, 5) ∷ []))
    ∷ takes new_client (Settings false ((3, 2000) ∷ [])) ∷ []) ≡ 100 ∷ 1000 ∷ 5 ∷ 1000 ∷ []
unfolding computing
streams_of_a_client = refl

-- An end sends as many octets in a payload as its peer reads, and at most 65,536 (own; section
-- 4.2).
payloads :
    map (λ log. (log_view log).max_payload)
    (new_client ∷ takes new_client (Settings false ((5, 65536) ∷ [])) ∷ []) ≡ 16384 ∷ 65536 ∷ []
unfolding computing
payloads = refl
