-- Credit: what is released, and what is returned for octets that nobody will release.
use Rattle.h2_spec_log.proofs.Names
use Names.{None, [], codes, false, map, refl, true, ◌++◌, ◌∷◌, ◌≡◌, Data, GoAway, Reset, Count}
use Names.{Some, NoError, pos, Done, PutOut, Refused, Release, DataEvent, FieldsEvent, Log, output}
use Names.{waiting, with_call}
use Names.{took_none, log_view, takes, NotOwed, GoAwayEvent, UnprocessedEvent}
use Rattle.h2_spec_log.specs.Acts.{Widen}
use Rattle.h2_spec_log.specs.CallRules.{reader_granted}
use Rattle.h2_spec_log.specs.declared.refusal.Refusal.TheVariants.{WindowTooLarge}
use Rattle.h2_spec_log.proofs.Computing.{computing}
use Rattle.h2_spec_log.proofs.examples.Ends.{active_octets, active_output, client_with_two}
use Rattle.h2_spec_log.proofs.examples.Ends.{server_with_body, server_with_release}
use Rattle.h2_spec_log.proofs.examples.Ends.{two_asked_output}
use Rattle.h2_spec_log.proofs.examples.LongBodies.{client_with_body, first_body_output}
use Rattle.h2_spec_log.proofs.examples.Octets.{octets}
use Rattle.h2_spec_log.proofs.examples.Words.{abcd, answered, answers, body_frame, come_to}
use Rattle.h2_spec_log.proofs.examples.Words.{empty_settings, goaway_frame, increment_frame}
use Rattle.h2_spec_log.proofs.examples.Words.{outcome, short_request}

-- DATA is reported with the octets that it took of the windows. No more of these are released than
-- were reported, and not none. What is released goes back to the stream, and to the connection (RFC
-- 9113, sections 6.9 and 6.9.1).
-- rule: 6.9 Nothing of the window of the connection is lost
-- rule: 6.9 What a stream owes is returned when it is released or over
releases_a_body :
    (outcome (server_with_body false)
    ≡ come_to (active_octets ++ body_frame) (FieldsEvent 1 short_request false
    ∷ DataEvent 1 abcd 4 false ∷ []) active_output None)
    × (answers (log_view (server_with_body false)) (Release 1 0 ∷ Release 1 4 ∷ Release 1 5 ∷ [])
    ≡ Refused NotOwed ∷ Done ∷ Refused NotOwed ∷ [])
    × (outcome (server_with_release false)
    ≡ come_to (active_octets ++ body_frame) (FieldsEvent 1 short_request false
    ∷ DataEvent 1 abcd 4 false ∷ [])
    (active_output ++ increment_frame 1 4 ++ increment_frame 0 4) None)
    × (answered (log_view (server_with_release false)) (Release 1 1) ≡ Refused NotOwed)
unfolding computing
releases_a_body = (refl, refl, refl, refl)

-- In part, the others stay owed.
releases_in_part :
    (output (with_call (server_with_body false) (Release 1 3) Done)
    ≡ active_output ++ increment_frame 1 3 ++ increment_frame 0 3)
    × (answers (log_view (with_call (server_with_body false) (Release 1 3) Done))
    (Release 1 1 ∷ Release 1 2 ∷ []) ≡ Done ∷ Refused NotOwed ∷ [])
unfolding computing
releases_in_part = (refl, refl)

-- Where the peer has ended the stream it goes back to the connection alone.
-- rule: 6.9 Nothing of the window of the connection is lost
releases_a_last_body : output (server_with_release true) ≡ active_output ++ increment_frame 0 4
unfolding computing
releases_a_last_body = refl

-- the server after its window was widened twice, by 200 and by 1
abbrev pub wide_server : Log
wide_server = with_call (with_call (server_with_body false) (Widen 200) Done) (Widen 1) Done

-- To widen the connection's window sends WINDOW_UPDATE on stream 0, and none on a stream. The peer
-- may send so much more, which is granted for good: what is released comes on top of it (RFC 9113,
-- sections 6.9 and 6.9.2).
-- rule: 6.9.2 (own) The window of the connection is widened by a call, for good
-- rule: 6.9 Nothing of the window of the connection is lost
widens_the_window :
    (output wide_server ≡ active_output ++ increment_frame 0 200 ++ increment_frame 0 1)
    × (map (λ log. (log_view log).recv_window)
    (server_with_body false ∷ wide_server ∷ with_call wide_server (Release 1 4) Done ∷ [])
    ≡ pos 65531 ∷ pos 65732 ∷ pos 65736 ∷ [])
    × (map (λ log. (log_view log).granted)
    (server_with_body false ∷ wide_server ∷ with_call wide_server (Release 1 4) Done ∷ [])
    ≡ 65535 ∷ 65736 ∷ 65736 ∷ [])
    × ((log_view (with_call wide_server (Widen 1) (Refused WindowTooLarge))).granted ≡ 65736)
    × (map (λ failed. reader_granted (record (log_view wide_server) { failed = failed }))
    (None ∷ Some NoError ∷ []) ≡ 65736 ∷ 0 ∷ [])
unfolding computing
widens_the_window = (refl, refl, refl, refl, refl)

-- DATA on a stream that a GOAWAY then leaves out
abbrev pub client_with_unprocessed_body : Log
client_with_unprocessed_body =
    takes (takes client_with_two (Data 3 false abcd None)) (GoAway 1 0 [])

-- A stream that is reported as unprocessed is closed, and what it owed is returned.
credit_of_an_unprocessed_stream :
    outcome (took_none client_with_unprocessed_body) ≡ come_to
    (empty_settings ++ octets (codes "000004 00 00 00000003 61626364") ++ goaway_frame 1 0)
    (DataEvent 3 abcd 4 false ∷ GoAwayEvent 1 0 ∷ UnprocessedEvent 3 ∷ [])
    (two_asked_output ++ increment_frame 0 4) None
unfolding computing
credit_of_an_unprocessed_stream = refl

-- while 65,649 octets wait, DATA of four octets comes, and its stream is reset
abbrev pub held_client : Log
held_client = takes (takes client_with_body (Data 1 false abcd None)) (Reset 1 8)

-- 113 octets are put out, so that 65,536 wait, and one more
abbrev pub fuller_client : Log
fuller_client = with_call held_client (PutOut 113) (Count 113)

-- the latter
abbrev pub less_full_client : Log
less_full_client = with_call fuller_client (PutOut 1) (Count 1)

-- and all
abbrev pub emptied_client : Log
emptied_client = with_call less_full_client (PutOut 100000) (Count 65548)

-- Credit isn't returned as long as 65,536 octets or more wait; a call of `put_out` that finds fewer
-- returns it first, where its octets count (own).
-- rule (best): 6.9 Nothing of the window of the connection is lost
credit_held_back :
    (map waiting (held_client ∷ fuller_client ∷ less_full_client ∷ emptied_client ∷ [])
    ≡ 65649 ∷ 65536 ∷ 65535 ∷ 0 ∷ [])
    × (map (λ log. (log_view log).unreturned)
    (held_client ∷ fuller_client ∷ less_full_client ∷ emptied_client ∷ []) ≡ 4 ∷ 4 ∷ 4 ∷ 0 ∷ [])
    × (answers (log_view fuller_client) (PutOut 100000 ∷ []) ≡ Count 65536 ∷ [])
    × (answers (log_view less_full_client) (PutOut 100000 ∷ PutOut 0 ∷ [])
    ≡ Count 65548 ∷ Count 0 ∷ [])
    × (output less_full_client ≡ first_body_output)
    × (output emptied_client ≡ first_body_output ++ increment_frame 0 4)
unfolding computing
credit_held_back = (refl, refl, refl, refl, refl, refl)
