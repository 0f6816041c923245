-- GOAWAY of either end.
use Rattle.h2_spec_log.specs.declared.refusal.Refusal.TheVariants as refusals
use Rattle.h2_spec_log.proofs.Names
use Names.{None, Some, [], codes, false, map, refl, replicate, true, ◌++◌, ◌∷◌, ◌≡◌, empty_table}
use Names.{Data, EnhanceYourCalm, Fail, GoAway, NoError, ProtocolError, PutOut, Refuse}
use Names.{may_fail_for_memory, may_lack_memory}
use Names.{Count, Done, Number, Open, Refused, SendData, SendGoAway, FieldsEvent, Log}
use Names.{next_unprocessed, state, with_call, took_none, log_view, Active, Closed, ClosedByUs}
use Names.{Idle, takes, takes_block, GoAwayEvent, UnprocessedEvent, lesser_number, GoingAway}
use Rattle.h2_spec_log.proofs.Computing.{computing}
use Rattle.h2_spec_log.proofs.examples.Ends.{active_octets, active_output, active_server}
use Rattle.h2_spec_log.proofs.examples.Ends.{asked_output, asking_client, asking_view}
use Rattle.h2_spec_log.proofs.examples.Ends.{client_with_two, two_asked_output}
use Rattle.h2_spec_log.proofs.examples.Octets.{octets}
use Rattle.h2_spec_log.proofs.examples.Words.{abcd, answered, answers, come_to, empty_settings}
use Rattle.h2_spec_log.proofs.examples.Words.{get_block, goaway_frame, increment_frame}
use Rattle.h2_spec_log.proofs.examples.Words.{last_empty_frame, outcome, short_answer}
use Rattle.h2_spec_log.proofs.examples.Words.{short_request}

-- the server processes no stream above stream 1
abbrev pub client_at_goaway : Log
client_at_goaway = takes client_with_two (GoAway 1 0 [])

-- the client reports the stream that isn't processed
abbrev pub client_after_goaway : Log
client_after_goaway = took_none client_at_goaway

-- it ends stream 1
abbrev pub client_with_end : Log
client_with_end = with_call client_after_goaway (SendData 1 [] true) (Count 0)

-- and the server answers it
abbrev pub client_with_answer : Log
client_with_answer =
    takes_block client_with_end 1 true (octets (codes "88")) short_answer (empty_table 4096)

-- A client reports a GOAWAY, and then each active stream above its last one as unprocessed. Streams
-- up to it may end, and none is opened (RFC 9113, section 6.8).
-- rule: 6.8 No stream is opened after GOAWAY was received
-- rule: 6.8 Own streams above GOAWAY's last are reported as unprocessed
ends_after_a_goaway :
    (answered asking_view (Open short_request false) ≡ Number 3)
    × (map next_unprocessed (client_with_two ∷ client_at_goaway ∷ client_after_goaway ∷ [])
    ≡ 0 ∷ 3 ∷ 0 ∷ [])
    × (outcome client_at_goaway
    ≡ come_to (empty_settings ++ goaway_frame 1 0) (GoAwayEvent 1 0 ∷ []) two_asked_output None)
    × (map (state client_after_goaway) (1 ∷ 3 ∷ []) ≡ Active ∷ Closed ∷ [])
    × (answered (log_view client_after_goaway) (Open short_request true) ≡ Refused GoingAway)
    × (outcome client_with_answer ≡ come_to
    (empty_settings ++ goaway_frame 1 0 ++ octets (codes "000001 01 05 00000001 88"))
    (GoAwayEvent 1 0 ∷ UnprocessedEvent 3 ∷ FieldsEvent 1 short_answer true ∷ [])
    (two_asked_output ++ last_empty_frame) None)
    × (state client_with_answer 1 ≡ Closed)
unfolding computing
ends_after_a_goaway = (refl, refl, refl, refl, refl, refl, refl)

-- The last stream doesn't grow (section 6.8).
-- rule: 6.8 The last stream of GOAWAY never grows: the least so far is reported
goaway_does_not_grow :
    outcome (takes client_after_goaway (GoAway 5 0 [])) ≡ come_to
    (empty_settings ++ goaway_frame 1 0 ++ goaway_frame 5 0)
    (GoAwayEvent 1 0 ∷ UnprocessedEvent 3 ∷ GoAwayEvent 1 0 ∷ []) two_asked_output None
unfolding computing
goaway_does_not_grow = refl

-- the server processes no stream at all
abbrev pub client_with_nothing : Log
client_with_nothing = takes client_with_two (GoAway 0 11 abcd)

-- It may be lowered; streams are reported from the least on, with the code of the frame.
-- rule: 6.8 Own streams above GOAWAY's last are reported as unprocessed
-- rule: 6.8 The last stream of GOAWAY never grows: the least so far is reported
goaway_of_all :
    (next_unprocessed (takes client_after_goaway (GoAway 0 0 [])) ≡ 1)
    × (map next_unprocessed (client_with_nothing ∷ took_none client_with_nothing ∷ []) ≡ 1 ∷ 3 ∷ [])
    × (outcome (took_none (took_none client_with_nothing)) ≡ come_to
    (empty_settings ++ octets (codes "00000c 07 00 00000000 00000000 0000000b 61626364"))
    (GoAwayEvent 0 11 ∷ UnprocessedEvent 1 ∷ UnprocessedEvent 3 ∷ []) two_asked_output None)
unfolding computing
goaway_of_all = (refl, refl, refl)

-- Of two numbers of streams the lesser one comes first, and 0 is none.
lesser_numbers : map (lesser_number 3) (0 ∷ 1 ∷ 3 ∷ 5 ∷ []) ≡ 3 ∷ 1 ∷ 3 ∷ 3 ∷ []
unfolding computing
lesser_numbers = refl

-- Streams of a server's peer aren't named by the peer's GOAWAY.
goaway_at_a_server :
    (outcome (takes active_server (GoAway 0 0 [])) ≡ come_to (active_octets ++ goaway_frame 0 0)
    (FieldsEvent 1 short_request false ∷ GoAwayEvent 0 0 ∷ []) active_output None)
    × (next_unprocessed (takes active_server (GoAway 0 0 [])) ≡ 0)
unfolding computing
goaway_at_a_server = (refl, refl)

-- a client that sends GOAWAY
abbrev pub leaving_client : Log
leaving_client = with_call asking_client SendGoAway Done

-- It names no stream, since a server opens none; a second one is refused, and so is opening a
-- stream.
client_sends_goaway :
    (answered asking_view SendGoAway ≡ Done)
    × (outcome leaving_client ≡ come_to empty_settings [] (asked_output ++ goaway_frame 0 0) None)
    × (answers (log_view leaving_client) (SendGoAway ∷ Open short_request true ∷ [])
    ≡ Refused GoingAway ∷ Refused GoingAway ∷ [])
unfolding computing
client_sends_goaway = (refl, refl, refl)

-- a server that sends GOAWAY
abbrev pub leaving_server : Log
leaving_server = with_call active_server SendGoAway Done

-- a block comes on the next stream
abbrev pub leaving_server_with_block : Log
leaving_server_with_block =
    takes_block leaving_server 3 false get_block short_request (empty_table 4096)

-- and DATA
abbrev pub leaving_server_with_body : Log
leaving_server_with_body = takes leaving_server_with_block (Data 3 false abcd None)

-- It names the last stream that was processed, which goes on. A later one is ignored: nothing of it
-- is reported, and what its DATA took of the connection's window is returned (section 6.8).
-- rule: 6.8 An own GOAWAY is sent once, with the greatest stream processed
-- rule: 6.8 Streams above the last of an own GOAWAY are ignored
server_sends_goaway :
    (outcome leaving_server
    ≡ come_to active_octets (FieldsEvent 1 short_request false ∷ []) (active_output
    ++ goaway_frame 1 0) None)
    × (map (state leaving_server) (1 ∷ 3 ∷ []) ≡ Active ∷ Idle ∷ [])
    × (map (state leaving_server_with_block) (1 ∷ 3 ∷ []) ≡ Active ∷ ClosedByUs ∷ [])
    × (outcome leaving_server_with_body ≡ come_to (active_octets ++ octets
    (codes "000003 01 04 00000003 828684 000004 00 00 00000003 61626364"))
    (FieldsEvent 1 short_request false ∷ []) (active_output ++ goaway_frame 1 0
    ++ increment_frame 0 4) None)
unfolding computing
server_sends_goaway = (refl, refl, refl, refl)

-- a server that ends the connection with ENHANCE_YOUR_CALM
abbrev pub ended_server : Log
ended_server = with_call active_server (Fail EnhanceYourCalm) Done

-- Its GOAWAY has the code of the call and names the last stream that was processed. Every call is
-- refused from then on but output.
-- rule (best): calls (own) The layer above ends the connection with a code of its own
server_ends_the_connection :
    (outcome ended_server ≡ come_to active_octets (FieldsEvent 1 short_request false ∷ [])
    (active_output ++ goaway_frame 1 11) (Some EnhanceYourCalm))
    × (answers (log_view ended_server) (Fail NoError ∷ SendGoAway ∷ SendData 1 abcd true
    ∷ Refuse 1 2 ∷ PutOut 10 ∷ [])
    ≡ replicate 4 (Refused refusals.Closed) ++ Count 10 ∷ [])
unfolding computing
server_ends_the_connection = (refl, refl)

-- Only a failed connection refuses it: no GOAWAY that was sent, nor full output, nor memory.
-- rule: calls (own) The layer above ends the connection with a code of its own
nothing_else_refuses_the_end :
    (answered (record asking_view { goaway_sent = true; waiting = 262144 }) (Fail NoError) ≡ Done)
    × (may_lack_memory asking_view (Fail NoError) ≡ false)
    × (may_fail_for_memory asking_view (Fail NoError) ≡ false)
    × (outcome (with_call leaving_server (Fail ProtocolError) Done)
    ≡ come_to active_octets (FieldsEvent 1 short_request false ∷ []) (active_output
    ++ goaway_frame 1 0 ++ goaway_frame 1 1) (Some ProtocolError))
unfolding computing
nothing_else_refuses_the_end = (refl, refl, refl, refl)
