-- RST_STREAM of either end, and streams that the layer above refuses.
use Rattle.h2_spec_log.proofs.Names
use Names.{List, None, Some, [], codes, false, map, refl, replicate, true, ◌++◌, ◌∷◌, ◌≡◌, Data}
use Names.{Reset, EnhanceYourCalm, InternalError, ProtocolError, Item, alone, Done, Refuse, Refused}
use Names.{ResetStream, DataEvent, FieldsEvent, ResetEvent, Log, output, state, waiting, with_call}
use Names.{log_view, Closed, ClosedByUs, ConnectionFault, NoEvent, Reported, takes, refuse_fault}
use Names.{NoSuchStream}
use Rattle.h2_spec_log.proofs.Computing.{computing}
use Rattle.h2_spec_log.proofs.examples.Blocks.{resetting_server, server_with_third}
use Rattle.h2_spec_log.proofs.examples.Ends.{active_octets, active_output, active_view}
use Rattle.h2_spec_log.proofs.examples.Ends.{server_with_body}
use Rattle.h2_spec_log.proofs.examples.Octets.{octets}
use Rattle.h2_spec_log.proofs.examples.Words.{abcd, answers, body_frame, come_to, goaway_frame}
use Rattle.h2_spec_log.proofs.examples.Words.{increment_frame, outcome, reset_frame, short_request}
use Rattle.h2_spec_log.proofs.examples.Words.{verdicts}

-- RST_STREAM on streams 1, 2 and 3
abbrev pub three_resets : List Item
three_resets = alone (Reset 1 8) ∷ alone (Reset 2 8) ∷ alone (Reset 3 8) ∷ []

-- RST_STREAM closes an active stream; on an idle one it ends the connection; otherwise it is
-- ignored (RFC 9113, sections 5.1 and 6.4).
-- rule: 6.4 RST_STREAM on an idle stream is PROTOCOL_ERROR
-- rule: 5.1 On an idle stream any but HEADERS or PRIORITY is PROTOCOL_ERROR
-- rule (best): 5.4.2 RST_STREAM is not answered by RST_STREAM, nor sent twice
-- rule (best): 6.4 RST_STREAM on a closed stream is ignored
resets_by_state :
    (verdicts active_view three_resets
    ≡ Reported ∷ ConnectionFault ProtocolError ∷ ConnectionFault ProtocolError ∷ [])
    × (verdicts (log_view resetting_server) (alone (Reset 1 8) ∷ []) ≡ NoEvent ∷ [])
    × (verdicts (log_view server_with_third) (alone (Reset 1 8) ∷ []) ≡ NoEvent ∷ [])
unfolding computing
resets_by_state = (refl, refl, refl)

-- the peer resets the stream of a body
abbrev pub server_with_reset : Log
server_with_reset = takes (server_with_body false) (Reset 1 8)

-- What it still owes goes back to the connection (section 6.9).
-- rule: 5.1 A stream has one state, by what was received and sent
-- rule: 6.4 RST_STREAM closes an active stream and is reported
reset_by_the_peer :
    (outcome server_with_reset ≡ come_to (active_octets ++ body_frame ++ reset_frame 1 8)
    (FieldsEvent 1 short_request false ∷ DataEvent 1 abcd 4 false ∷ ResetEvent 1 8 false ∷ [])
    (active_output ++ increment_frame 0 4) None)
    × (state server_with_reset 1 ≡ Closed)
unfolding computing
reset_by_the_peer = (refl, refl)

-- A stream that this end resets is closed by it, and nothing is reported.
-- rule: 5.1 A stream has one state, by what was received and sent
reset_by_this_end :
    (outcome resetting_server
    ≡ come_to active_octets (FieldsEvent 1 short_request false ∷ []) (active_output
    ++ reset_frame 1 8) None)
    × (state resetting_server 1 ≡ ClosedByUs)
unfolding computing
reset_by_this_end = (refl, refl)

-- it resets the stream of a body
abbrev pub server_resetting_a_body : Log
server_resetting_a_body = with_call (server_with_body false) (ResetStream 1 8) Done

-- DATA comes on a stream that it has reset
abbrev pub server_with_late_body : Log
server_with_late_body =
    takes (takes resetting_server (Data 1 false (replicate 16384 0) None))
    (Data 1 true (replicate 3616 0) None)

-- It is ignored, and what it took of the connection's window is returned, as is what the stream
-- owed (sections 5.1 and 6.9).
-- rule (best): 5.1 DATA on a stream that this end has reset counts for the connection
credit_of_a_reset_stream :
    (output server_resetting_a_body ≡ active_output ++ reset_frame 1 8 ++ increment_frame 0 4)
    × (outcome server_with_late_body ≡ come_to
    (active_octets ++ octets (codes "004000 00 00 00000001") ++ replicate 16384 0
    ++ octets (codes "000e20 00 01 00000001") ++ replicate 3616 0)
    (FieldsEvent 1 short_request false ∷ [])
    (active_output ++ reset_frame 1 8
    ++ octets (codes "000004 08 00 00000000 00004000 000004 08 00 00000000 00000e20")) None)
unfolding computing
credit_of_a_reset_stream = (refl, refl)

-- the layer above refuses the stream of a body
abbrev pub server_with_refusal : Log
server_with_refusal = with_call (server_with_body false) (Refuse 1 1) Done

-- It is reset, and what it owed is returned; nothing is reported (section 5.4.2).
-- rule: calls (own) A stream that the layer above refuses is reset
refuses_a_stream :
    outcome server_with_refusal ≡ come_to (active_octets ++ body_frame)
    (FieldsEvent 1 short_request false ∷ DataEvent 1 abcd 4 false ∷ []) (active_output
    ++ reset_frame 1 1 ++ increment_frame 0 4) None
unfolding computing
refuses_a_stream = refl

-- the layer above is out of memory
abbrev pub server_refusing_for_memory : Log
server_refusing_for_memory = with_call (server_with_body false) (Refuse 1 2) Done

-- With INTERNAL_ERROR the connection fails, whatever the stream.
refuses_for_memory :
    (outcome server_refusing_for_memory ≡ come_to (active_octets ++ body_frame)
    (FieldsEvent 1 short_request false ∷ DataEvent 1 abcd 4 false ∷ []) (active_output
    ++ goaway_frame 1 2) (Some InternalError))
    × (answers active_view (Refuse 3 2 ∷ Refuse 3 1 ∷ [])
    ≡ Done ∷ Refused NoSuchStream ∷ [])
unfolding computing
refuses_for_memory = (refl, refl)

-- The connection fails with ENHANCE_YOUR_CALM where 1,000 streams were reset, or RST_STREAM would
-- bring the waiting output above 262,144 octets (own; section 10.5).
-- rule: 10.5 (own) An end that resets 1,001 streams ends with ENHANCE_YOUR_CALM
refuses_at_the_limits :
    (map (λ view. refuse_fault view 1)
    (record active_view { resets = 999 } ∷ record active_view { resets = 1000 }
    ∷ record active_view { waiting = 262131 } ∷ record active_view { waiting = 262132 } ∷ [])
    ≡ None ∷ Some EnhanceYourCalm ∷ None ∷ Some EnhanceYourCalm ∷ [])
    × (refuse_fault (record active_view { resets = 1000 }) 2 ≡ Some InternalError)
unfolding computing
refuses_at_the_limits = (refl, refl)
