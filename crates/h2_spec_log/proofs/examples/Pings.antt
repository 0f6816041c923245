-- PING.
use Rattle.h2_spec_log.specs.Events.{PongEvent}
use Rattle.h2_spec_log.proofs.Names.{List, None, [], codes, false, refl, true, ℕ, ◌++◌, ◌∷◌, ◌≡◌}
use Rattle.h2_spec_log.proofs.Names.{Ping, Done, Refused, SendPing, FieldsEvent, Log, output}
use Rattle.h2_spec_log.proofs.Names.{with_call, log_view, takes, PingWaits}
use Rattle.h2_spec_log.proofs.Computing.{computing}
use Rattle.h2_spec_log.proofs.examples.Ends.{asked_output, asking_client, asking_view}
use Rattle.h2_spec_log.proofs.examples.Ends.{server_with_request}
use Rattle.h2_spec_log.proofs.examples.Octets.{octets}
use Rattle.h2_spec_log.proofs.examples.Words.{acknowledgment, answered, client_settings, come_to}
use Rattle.h2_spec_log.proofs.examples.Words.{empty_settings, one_to_eight, outcome, preface_octets}
use Rattle.h2_spec_log.proofs.examples.Words.{request, request_octets, server_settings}

-- PING, and its answer
abbrev pub ping_frame : List ℕ
ping_frame = octets (codes "000008 06 00 00000000 0102030405060708")

-- the answer
abbrev pub ping_answer : List ℕ
ping_answer = octets (codes "000008 06 01 00000000 0102030405060708")

-- a server that reads it
abbrev pub server_with_ping : Log
server_with_ping = takes server_with_request (Ping false one_to_eight)

-- A PING is answered with the same octets, and nothing is reported (RFC 9113, section 6.7).
-- rule: 6.7 PING is answered with its octets and ACK, and an answer is not answered
answers_a_ping :
    outcome server_with_ping
    ≡ come_to (preface_octets ++ client_settings ++ request_octets ++ ping_frame)
    (FieldsEvent 1 request true ∷ []) (server_settings ++ acknowledgment ++ ping_answer) None
unfolding computing
answers_a_ping = refl

-- a client that sends one
abbrev pub pinging_client : Log
pinging_client = with_call asking_client (SendPing one_to_eight) Done

-- and reads its answer
abbrev pub answered_client : Log
answered_client = takes pinging_client (Ping true one_to_eight)

-- The answer is reported, and then another PING may be sent.
-- rule (best): 6.7 A PING's answer that is awaited is reported, others are ignored
reports_a_pong :
    (answered asking_view (SendPing one_to_eight) ≡ Done)
    × (output pinging_client ≡ asked_output ++ ping_frame)
    × (outcome answered_client
    ≡ come_to (empty_settings ++ ping_answer) (PongEvent one_to_eight ∷ [])
    (asked_output ++ ping_frame) None)
    × (answered (log_view answered_client) (SendPing one_to_eight) ≡ Done)
unfolding computing
reports_a_pong = (refl, refl, refl, refl)

-- A second one is refused as long as its answer is awaited.
-- rule: 6.7 (own) One own PING at a time awaits its answer
one_ping_at_a_time : (octets : List ℕ) → answered (log_view pinging_client) (SendPing octets)
    ≡ Refused PingWaits
unfolding computing
one_ping_at_a_time octets = refl

-- An answer with other octets is ignored, and so is one that nobody awaits.
-- rule: 6.7 A PING's answer that is awaited is reported, others are ignored
-- rule: 6.7 PING is answered with its octets and ACK, and an answer is not answered
unawaited_answers :
    (outcome (takes pinging_client (Ping true (octets (codes "0102030405060709")))) ≡ come_to
    (empty_settings ++ octets (codes "000008 06 01 00000000 0102030405060709")) []
    (asked_output ++ ping_frame) None)
    × (outcome (takes asking_client (Ping true one_to_eight))
    ≡ come_to (empty_settings ++ ping_answer) [] asked_output None)
    × (outcome (takes answered_client (Ping true one_to_eight)) ≡ come_to
    (empty_settings ++ ping_answer ++ ping_answer) (PongEvent one_to_eight ∷ [])
    (asked_output ++ ping_frame) None)
unfolding computing
unawaited_answers = (refl, refl, refl)
