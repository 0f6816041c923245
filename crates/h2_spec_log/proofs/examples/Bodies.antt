-- DATA: the verdicts on it, and what it takes of windows.
use Rattle.std.specs.Prelude.{Bool}
use Rattle.h2_wire.specs.declared.fault.WireFault.TheVariants.{HeadFault, PayloadFault}
use Rattle.h2_spec_log.proofs.Names
use Names.{arith, List, None, Some, [], codes, false, negsuc, pos, refl, replicate, true, ℕ, ◌++◌}
use Names.{◌∷◌, ◌≡◌, empty_table, Data, Settings, FlowControlError, ProtocolError, Item, alone}
use Names.{DataEvent, FieldsEvent, ResetEvent, Log, recv_window, send_window, opened, log_view}
use Names.{ConnectionFault, NoEvent, Reported, StreamFault, takes, takes_block, Server, ℤ}
use Names.{WrongLength, StreamClosed, WireFaultAt, AckedEvent, StreamView}
use Rattle.h2_spec_log.proofs.Computing.{computing}
use Rattle.h2_spec_log.proofs.examples.Blocks.{resetting_server, server_with_third}
use Rattle.h2_spec_log.proofs.examples.Ends.{active_octets, active_output, active_server}
use Rattle.h2_spec_log.proofs.examples.Ends.{active_view, server_with_body}
use Rattle.h2_spec_log.proofs.examples.Octets.{octets}
use Rattle.h2_spec_log.proofs.examples.Words.{abcd, acknowledgment, come_to, eleven, eleven_frame}
use Rattle.h2_spec_log.proofs.examples.Words.{empty_frame, empty_settings, get_block, goaway_frame}
use Rattle.h2_spec_log.proofs.examples.Words.{increment_frame, outcome, preface_octets, reset_frame}
use Rattle.h2_spec_log.proofs.examples.Words.{short_request, small_settings, small_values, verdicts}

-- an active stream with this window for the peer
abbrev pub stream_with : ℤ → Bool → StreamView
stream_with =
    λ window ended. record {
      send_window = pos 65535;
      recv_window = window;
      owed = 0;
      ended_in = ended;
      ended_out = false;
    }

-- DATA of no octets, of one, of four and of five, on a stream
abbrev pub bodies : ℕ → List Item
bodies =
    λ stream. alone (Data stream false [] None) ∷ alone (Data stream false (0x61 ∷ []) None)
    ∷ alone (Data stream false abcd None) ∷ alone (Data stream false (0x60 ∷ abcd) None) ∷ []

-- DATA of one octet more than the connection's window ends the connection; DATA of no octets never
-- does (RFC 9113, section 6.9.1).
-- rule: 6.9.1 DATA above the connection's window is FLOW_CONTROL_ERROR
-- rule (best): 6.9.1 DATA of no octets is within any window
connection_windows :
    (verdicts (record active_view { recv_window = pos 4 }) (bodies 1)
    ≡ Reported ∷ Reported ∷ Reported ∷ ConnectionFault FlowControlError ∷ [])
    × (verdicts (record active_view { recv_window = pos 0 }) (bodies 1)
    ≡ Reported ∷ replicate 3 (ConnectionFault FlowControlError))
unfolding computing
connection_windows = (refl, refl)

-- So does DATA of one octet more than the stream's window, which can be negative (sections 6.9.1
-- and 6.9.2; own).
-- rule: 6.9.1 DATA above its stream's window is FLOW_CONTROL_ERROR (scope: own)
-- rule: 6.9.1 DATA of no octets is within any window
stream_windows :
    (verdicts (record active_view { stream = λ i. Some (stream_with (pos 4) false) }) (bodies 1)
    ≡ Reported ∷ Reported ∷ Reported ∷ ConnectionFault FlowControlError ∷ [])
    × (verdicts (record active_view { stream = λ i. Some (stream_with (negsuc 0) false) })
    (bodies 1)
    ≡ Reported ∷ replicate 3 (ConnectionFault FlowControlError))
unfolding computing
stream_windows = (refl, refl)

-- Padding counts, and so does its length (section 6.9.1).
-- rule: 6.1 The complete payload of DATA, padding included, counts for windows
padding_and_windows :
    verdicts (record active_view { recv_window = pos 4 })
    (alone (Data 1 false [] (Some 3)) ∷ alone (Data 1 false [] (Some 4)) ∷ [])
    ≡ Reported ∷ ConnectionFault FlowControlError ∷ []
unfolding computing
padding_and_windows = refl

-- After the peer's END_STREAM, DATA is a STREAM_CLOSED of the stream, whatever the stream's window;
-- the connection's window comes first (section 6.1).
-- rule: 5.1 After the peer has ended a stream DATA is STREAM_CLOSED
bodies_after_the_end :
    (verdicts (record active_view {
      stream = λ i. Some (stream_with
          (pos 4) true);
      recv_window = pos 4;
    })
    (bodies 1)
    ≡ StreamFault StreamClosed ∷ StreamFault StreamClosed ∷ StreamFault StreamClosed
    ∷ ConnectionFault FlowControlError ∷ [])
    × (verdicts (record active_view { stream = λ i. Some (stream_with (pos 4) true) }) (bodies 1)
    ≡ replicate 4 (StreamFault StreamClosed))
unfolding computing
bodies_after_the_end = (refl, refl)

-- DATA on an idle stream is a PROTOCOL_ERROR, on a closed one a STREAM_CLOSED, both of the
-- connection, whatever the windows. On one that this end has reset it is ignored as far as the
-- connection's window goes (sections 5.1 and 6.9).
-- rule: 5.1 On a closed stream DATA is STREAM_CLOSED (its scope: own)
bodies_by_state :
    (verdicts (record active_view { recv_window = pos 4 }) (bodies 2 ++ bodies 3)
    ≡ replicate 8 (ConnectionFault ProtocolError))
    × (verdicts (record (log_view server_with_third) { recv_window = pos 4 }) (bodies 1)
    ≡ replicate 4 (ConnectionFault StreamClosed))
    × (verdicts (record (log_view resetting_server) { recv_window = pos 4 }) (bodies 1)
    ≡ NoEvent ∷ NoEvent ∷ NoEvent ∷ ConnectionFault FlowControlError ∷ [])
unfolding computing
bodies_by_state = (refl, refl, refl)

-- DATA on an idle stream.
body_on_an_idle_stream :
    outcome (takes active_server (Data 5 false (0 ∷ []) None)) ≡ come_to
    (active_octets ++ octets (codes "000001 00 00 00000005 00"))
    (FieldsEvent 1 short_request false ∷ [])
    (active_output ++ goaway_frame 1 1) (Some ProtocolError)
unfolding computing
body_on_an_idle_stream = refl

-- DATA on a closed stream.
-- rule: 5.1 On a closed stream DATA is STREAM_CLOSED (its scope: own)
-- rule: 5.1.1 A stream that is opened closes all lower idle ones
body_on_a_closed_stream :
    outcome (takes server_with_third (Data 1 false (0x61 ∷ []) None)) ≡ come_to
    (preface_octets ++ empty_settings
    ++ octets (codes "000003 01 04 00000003 828684 000001 00 00 00000001 61"))
    (FieldsEvent 3 short_request false ∷ []) (active_output ++ goaway_frame 3 5) (Some StreamClosed)
unfolding computing
body_on_a_closed_stream = refl

-- DATA of one octet after DATA of four that ended the stream
abbrev pub server_with_body_after_the_end : Log
server_with_body_after_the_end = takes (server_with_body true) (Data 1 false (0x61 ∷ []) None)

-- DATA after the peer's END_STREAM resets the stream; its octet, and the four that weren't
-- released, go back to the connection (sections 5.1 and 6.9).
-- rule: 5.1 After the peer has ended a stream DATA is STREAM_CLOSED
-- rule: 6.1 END_STREAM of DATA ends the stream of the sender
body_after_the_end :
    outcome server_with_body_after_the_end ≡ come_to
    (active_octets ++ octets (codes "000004 00 01 00000001 61626364 000001 00 00 00000001 61"))
    (FieldsEvent 1 short_request false ∷ DataEvent 1 abcd 4 true ∷ ResetEvent 1 5 true ∷ [])
    (active_output ++ reset_frame 1 5 ++ increment_frame 0 5) None
unfolding computing
body_after_the_end = refl

-- DATA of a pad length and four octets of padding
abbrev pub server_with_padding : Log
server_with_padding = takes active_server (Data 1 false [] (Some 4))

-- It is reported with no octets and a flow of five, which it takes of both windows (sections 6.1
-- and 6.9.1).
-- rule: 6.1 The complete payload of DATA, padding included, counts for windows
padding_alone :
    (outcome server_with_padding ≡ come_to
    (active_octets ++ octets (codes "000005 00 08 00000001 04 00000000"))
    (FieldsEvent 1 short_request false ∷ DataEvent 1 [] 5 false ∷ []) active_output None)
    × ((log_view server_with_padding).recv_window ≡ pos 65530)
    × (recv_window server_with_padding 1 ≡ pos 65530)
unfolding computing
padding_alone = (refl, refl, refl)

-- A stream of frames at fault: a pad length that isn't less than the payload's length is a
-- PROTOCOL_ERROR, known at the last octet; padded DATA without a pad length is a FRAME_SIZE_ERROR,
-- known at the ninth (sections 4.2 and 6.1).
abbrev pub long_pad : List ℕ
long_pad = octets (codes "000005 00 08 00000001 05 00000000")

abbrev pub no_pad_length : List ℕ
no_pad_length = octets (codes "000000 00 08 00000001")

-- rule: 6.1 A fault of a payload is known at its last octet
-- rule: 6.1 Padding as long as the payload of DATA, or longer, is PROTOCOL_ERROR
faults_of_padding :
    WireFaultAt false (λ place. 16384) long_pad [] 14 (PayloadFault ProtocolError)
    × WireFaultAt false (λ place. 16384) no_pad_length [] 9 (HeadFault WrongLength)
unfolding computing
faults_of_padding = (
  record {
    within = omega arith;
    made = record {
      part = [];
      last = long_pad;
      joined = refl;
      sound = record { body = []; opened = refl; framed = refl };
      complete = refl;
      sound_head = refl;
      faulty = refl;
    };
  },
  record {
    within = omega arith;
    made = record {
      part = [];
      last = no_pad_length;
      joined = refl;
      sound = record { body = []; opened = refl; framed = refl };
      nine = refl;
      faulty = refl;
    };
  },
)

-- a server with an initial window of 10, and with an active stream
abbrev pub server_with_small_window : Log
server_with_small_window =
    takes_block (takes (opened Server small_values) (Settings false
    [])) 1 false get_block short_request (empty_table 4096)

-- eleven octets come before its SETTINGS are acknowledged
abbrev pub before_the_acknowledgment : Log
before_the_acknowledgment = takes server_with_small_window (Data 1 false eleven None)

-- the acknowledgment comes
abbrev pub after_the_acknowledgment : Log
after_the_acknowledgment = takes before_the_acknowledgment (Settings true [])

-- DATA of no octets follows it, and DATA of one
abbrev pub no_octets_after_it : Log
no_octets_after_it = takes after_the_acknowledgment (Data 1 false [] None)

-- the latter
abbrev pub one_octet_after_it : Log
one_octet_after_it = takes no_octets_after_it (Data 1 false (0x61 ∷ []) None)

-- The own initial window is in force once the peer has acknowledged it, also for what came before
-- (sections 6.5.3 and 6.9.2).
-- rule: 6.5.3 Own SETTINGS hold once they are acknowledged, and not before
own_window_from_the_acknowledgment_on :
    (outcome before_the_acknowledgment ≡ come_to (active_octets ++ eleven_frame)
    (FieldsEvent 1 short_request false ∷ DataEvent 1 eleven 11 false ∷ [])
    (small_settings ++ acknowledgment) None)
    × (recv_window before_the_acknowledgment 1 ≡ pos 65524)
    × (recv_window after_the_acknowledgment 1 ≡ negsuc 0)
    × (outcome one_octet_after_it ≡ come_to
    (active_octets ++ eleven_frame ++ acknowledgment ++ empty_frame
    ++ octets (codes "000001 00 00 00000001 61"))
    (FieldsEvent 1 short_request false ∷ DataEvent 1 eleven 11 false ∷ AckedEvent
    ∷ DataEvent 1 [] 0 false ∷ [])
    (small_settings ++ acknowledgment ++ goaway_frame 1 3) (Some FlowControlError))
unfolding computing
own_window_from_the_acknowledgment_on = (refl, refl, refl, refl)

-- With it acknowledged, ten octets are within it and eleven aren't.
-- rule: 6.9.1 DATA above its stream's window is FLOW_CONTROL_ERROR (scope: own)
ten_octets_and_eleven :
    verdicts (log_view (takes server_with_small_window (Settings true [])))
    (alone (Data 1 false (octets (codes "6162636465666768696a")) None)
    ∷ alone (Data 1 false eleven None) ∷ []) ≡ Reported ∷ ConnectionFault FlowControlError ∷ []
unfolding computing
ten_octets_and_eleven = refl
