-- How connections open.
use Rattle.h2_spec_log.specs.LogSteps.{took_fault}
use Rattle.h2_spec_log.proofs.Names.{arith, List, None, Some, [], codes, false, map, refl, true, ℕ}
use Rattle.h2_spec_log.proofs.Names.{◌++◌, ◌∷◌, ◌≡◌, Continuation, Headers, Ping, Settings}
use Rattle.h2_spec_log.proofs.Names.{ProtocolError, alone, Number, Open, FieldsEvent, completes}
use Rattle.h2_spec_log.proofs.Names.{fails_with, frame_step, Log, state, with_call, log_view}
use Rattle.h2_spec_log.proofs.Names.{Active, Idle, takes, Limits, WireFaultAt, BadPreface}
use Rattle.h2_spec_log.proofs.Computing.{computing}
use Rattle.h2_spec_log.proofs.examples.Ends.{active_octets, active_output, active_server}
use Rattle.h2_spec_log.proofs.examples.Ends.{new_client, new_server, server_with_request}
use Rattle.h2_spec_log.proofs.examples.Ends.{settled_server}
use Rattle.h2_spec_log.proofs.examples.Octets.{octets}
use Rattle.h2_spec_log.proofs.examples.Words.{acknowledgment, answered, client_settings, come_to}
use Rattle.h2_spec_log.proofs.examples.Words.{get_block, goaway_frame, outcome, preface_octets}
use Rattle.h2_spec_log.proofs.examples.Words.{request, request_octets, server_settings}
use Rattle.h2_spec_log.proofs.examples.Words.{short_request}

-- A new client's output is the preface and its SETTINGS, a new server's its SETTINGS (RFC 9113,
-- sections 3.4 and 6.5).
-- rule: 3.4 Both ends begin with SETTINGS
opens_with_settings :
    (outcome new_client ≡ come_to [] [] (preface_octets ++ client_settings) None)
    × (outcome new_server ≡ come_to [] [] server_settings None)
unfolding computing
opens_with_settings = (refl, refl)

-- a client that opens a stream with the request
abbrev pub client_with_request : Log
client_with_request = with_call new_client (Open request true) (Number 1)

-- A client's first stream is stream 1; its block follows the SETTINGS (section 5.1.1).
-- rule: 5.1.1 A client opens odd numbers, each above all before it
opens_stream_1 :
    (answered (log_view new_client) (Open request true) ≡ Number 1)
    × (outcome client_with_request
    ≡ come_to [] [] (preface_octets ++ client_settings ++ request_octets) None)
unfolding computing
opens_stream_1 = (refl, refl)

-- A server acknowledges the client's SETTINGS, and reports the request, which ends its stream
-- (sections 6.5.3 and 8.1).
-- rule (best): 6.5.3 SETTINGS are acknowledged before anything else is sent
reports_a_request :
    outcome server_with_request ≡ come_to (preface_octets ++ client_settings ++ request_octets)
    (FieldsEvent 1 request true ∷ []) (server_settings ++ acknowledgment) None
unfolding computing
reports_a_request = refl

-- A request that doesn't end its stream leaves it active (section 5.1).
-- rule: 5.1 A stream has one state, by what was received and sent
-- rule: 6.2 A field block on an idle odd number opens the stream at a server
reports_the_start_of_a_request :
    (outcome active_server
    ≡ come_to active_octets (FieldsEvent 1 short_request false ∷ []) active_output None)
    × (state active_server 1 ≡ Active)
    × (state active_server 3 ≡ Idle)
    × (state active_server 2 ≡ Idle)
unfolding computing
reports_the_start_of_a_request = (refl, refl, refl, refl)

-- The first frame must be SETTINGS that are no acknowledgment: PING with any octets, and an
-- acknowledgment, end the connection (section 3.4).
server_refuses_a_first_ping : (a b c d e f g h : ℕ)
    → outcome (takes new_server (Ping false (a ∷ b ∷ c ∷ d ∷ e ∷ f ∷ g ∷ h ∷ [])))
    ≡ come_to
    (preface_octets ++ octets (codes "000008 06 00 00000000") ++ a ∷ b ∷ c ∷ d ∷ e ∷ f ∷ g ∷ h ∷
    []) []
    (server_settings ++ goaway_frame 0 1) (Some ProtocolError)
unfolding computing
server_refuses_a_first_ping a b c d e f g h = refl

-- rule: 3.4 A first frame other than SETTINGS without ACK is PROTOCOL_ERROR
client_refuses_a_first_ping : (a b c d e f g h : ℕ)
    → outcome (takes new_client (Ping false (a ∷ b ∷ c ∷ d ∷ e ∷ f ∷ g ∷ h ∷ [])))
    ≡ come_to (octets (codes "000008 06 00 00000000") ++ a ∷ b ∷ c ∷ d ∷ e ∷ f ∷ g ∷ h ∷ []) []
    (preface_octets ++ client_settings ++ goaway_frame 0 1) (Some ProtocolError)
unfolding computing
client_refuses_a_first_ping a b c d e f g h = refl

-- An acknowledgment is no first frame either.
refuse_a_first_acknowledgment :
    (outcome (takes new_server (Settings true [])) ≡ come_to (preface_octets ++ acknowledgment) []
    (server_settings ++ goaway_frame 0 1) (Some ProtocolError))
    × (outcome (takes new_client (Settings true [])) ≡ come_to acknowledgment []
    (preface_octets ++ client_settings ++ goaway_frame 0 1) (Some ProtocolError))
unfolding computing
refuse_a_first_acknowledgment = (refl, refl)

-- HEADERS are none, whole or not; SETTINGS are one, and after them others may come.
what_may_come_first :
    (map (frame_step (log_view new_server))
    (Headers 1 true true get_block None None ∷ Continuation 1 true get_block ∷ Settings false [] ∷
    [])
    ≡ fails_with ProtocolError ∷ fails_with ProtocolError ∷ completes (alone (Settings false []))
    ∷ [])
    × (frame_step (log_view settled_server) (Settings true [])
    ≡ completes (alone (Settings true [])))
unfolding computing
what_may_come_first = (refl, refl)

-- the first octets of a preface, of which the fifth is wrong
abbrev pub wrong_octets : List ℕ
wrong_octets = octets (codes "505249202b")

-- a server to which they come
abbrev pub server_at_a_wrong_preface : Log
server_at_a_wrong_preface = took_fault new_server wrong_octets BadPreface

-- A wrong octet of the preface ends the connection at once (section 3.4).
-- rule: 3.4 The first octet that differs from the preface is PROTOCOL_ERROR, there
refuses_a_wrong_preface :
    outcome server_at_a_wrong_preface
    ≡ come_to wrong_octets [] (server_settings ++ goaway_frame 0 1) (Some ProtocolError)
unfolding computing
refuses_a_wrong_preface = refl

-- It is the fault that the frames of these octets have, whatever the limits of payloads.
pub fault_of_the_preface : (limits : Limits) → WireFaultAt true limits wrong_octets [] 5 BadPreface
unfolding computing
fault_of_the_preface limits = record {
  within = omega arith;
  made = record {
    none = refl;
    prefix = octets (codes "50524920");
    right = 0x2a;
    missing = _;
    wrong = 0x2b;
    opens = refl;
    reads = refl;
    differs = λ e. absurd (omega arith);
  };
}
