-- A request and its answer, from two new ends to a quiet pair, octet for octet.
use Rattle.h2_spec_log.proofs.examples.Words.{client_settings, preface_octets, request_octets}
use Rattle.h2_laws_pair.proofs.Names
use Names.{map, codes, arith, refl, empty_table, Settings, alone, block, Open, SendFields, PutOut}
use Names.{Number, Count, Done, FieldsEvent, AckedEvent, owed, waiting, computing, octets}
use Names.{acknowledgment, default_values, request, request_block, server_settings, short_answer}
use Names.{table_with_authority, AreUnderWay, IsQuiet, ◌≡◌, ℕ, true, false, List, [], ◌∷◌, ◌++◌}
use Names.{length, FieldsToken, EndToken, tokens_sent, tokens_heard, tokens_of_call}
use Names.{tokens_of_event, end_tokens}
use Rattle.h2_laws_pair.proofs.examples.Steps.{Pair, new_pair, client_calls, server_calls}
use Rattle.h2_laws_pair.proofs.examples.Steps.{client_takes, server_takes, client_takes_block}
use Rattle.h2_laws_pair.proofs.examples.Steps.{server_takes_block, either_zero}

-- the pairs of the first SETTINGS of a client and of a server, with default values
abbrev pub client_opening : List (ℕ × ℕ)
client_opening = (1, 4096) ∷ (2, 0) ∷ (4, 65535) ∷ (6, 65536) ∷ []

abbrev pub server_opening : List (ℕ × ℕ)
server_opening = (1, 4096) ∷ (3, 100) ∷ (4, 65535) ∷ (6, 65536) ∷ []

-- the client asks
abbrev pub asked_pair : Pair
asked_pair = client_calls (new_pair default_values default_values) (Open request true)

-- its output is put out
abbrev pub request_on_pipe : Pair
request_on_pipe = client_calls asked_pair (PutOut 83)

-- and delivered: SETTINGS, and the request
abbrev pub settings_delivered : Pair
settings_delivered = server_takes request_on_pipe (Settings false client_opening)

abbrev pub request_delivered : Pair
request_delivered =
    server_takes_block settings_delivered 1 true request_block request table_with_authority

-- the server answers
abbrev pub answered_pair : Pair
answered_pair = server_calls request_delivered (SendFields 1 short_answer true)

-- its output is put out
abbrev pub answer_on_pipe : Pair
answer_on_pipe = server_calls answered_pair (PutOut 52)

-- and delivered: SETTINGS, the acknowledgment, and the answer
abbrev pub answer_delivered : Pair
answer_delivered =
    client_takes_block (client_takes (client_takes answer_on_pipe (Settings false server_opening))
    (Settings true [])) 1 true (octets (codes "88")) short_answer (empty_table 4096)

-- the client's acknowledgment is put out
abbrev pub acknowledgment_on_pipe : Pair
acknowledgment_on_pipe = client_calls answer_delivered (PutOut 9)

-- and delivered
abbrev pub quiet_pair : Pair
quiet_pair = server_takes acknowledgment_on_pipe (Settings true [])

-- how many octets wait at the client, lie on the pipe to the server, on that to the client, and
-- wait at the server
abbrev pub places : Pair → List ℕ
places pair =
    waiting pair.client.log ∷ length pair.server.incoming ∷ length pair.client.incoming
    ∷ waiting pair.server.log ∷ []

-- Each octet is at one of four places.
counts :
    map places (new_pair default_values default_values ∷ asked_pair ∷ request_on_pipe
    ∷ request_delivered ∷ answered_pair ∷ answer_on_pipe ∷ answer_delivered
    ∷ acknowledgment_on_pipe ∷ quiet_pair ∷ [])
    ≡ (57 ∷ 0 ∷ 0 ∷ 33 ∷ []) ∷ (83 ∷ 0 ∷ 0 ∷ 33 ∷ []) ∷ (0 ∷ 83 ∷ 0 ∷ 33 ∷ [])
    ∷ (0 ∷ 0 ∷ 0 ∷ 42 ∷ []) ∷ (0 ∷ 0 ∷ 0 ∷ 52 ∷ []) ∷ (0 ∷ 0 ∷ 52 ∷ 0 ∷ [])
    ∷ (9 ∷ 0 ∷ 0 ∷ 0 ∷ []) ∷ (0 ∷ 9 ∷ 0 ∷ 0 ∷ []) ∷ (0 ∷ 0 ∷ 0 ∷ 0 ∷ []) ∷ []
unfolding computing
counts = refl

-- The pipes hold what was put out: of the request 83 octets, of the answer 52 (RFC 9113, sections
-- 3.4, 6.2 and 6.5).
on_the_pipes :
    (request_on_pipe.server.incoming ≡ preface_octets ++ client_settings ++ request_octets)
    × (answer_on_pipe.client.incoming
    ≡ server_settings ++ acknowledgment ++ octets (codes "000001 01 05 00000001 88"))
    × (acknowledgment_on_pipe.server.incoming ≡ acknowledgment)
unfolding computing
on_the_pipes = (refl, refl, refl)

-- What is under way at each step, and what has arrived.
under_way :
    AreUnderWay request_on_pipe.client.log request_on_pipe.server.log
    (block 1 true request_block ∷ alone (Settings false client_opening) ∷ [])
    × AreUnderWay settings_delivered.client.log settings_delivered.server.log
    (block 1 true request_block ∷ [])
    × AreUnderWay request_delivered.client.log request_delivered.server.log []
    × AreUnderWay request_delivered.server.log request_delivered.client.log
    (alone (Settings true []) ∷ alone (Settings false server_opening) ∷ [])
    × AreUnderWay answer_on_pipe.server.log answer_on_pipe.client.log
    (block 1 true (octets (codes "88")) ∷ alone (Settings true [])
    ∷ alone (Settings false server_opening) ∷ [])
    × AreUnderWay answer_delivered.client.log answer_delivered.server.log
    (alone (Settings true []) ∷ [])
    × AreUnderWay quiet_pair.client.log quiet_pair.server.log []
    × AreUnderWay quiet_pair.server.log quiet_pair.client.log []
unfolding computing
under_way = (refl, refl, refl, refl, refl, refl, refl, refl)

-- What each end was asked, and answered; and what it reported, newest first.
calls_and_events :
    (quiet_pair.client.log.calls ≡ (PutOut 9, Count 9) ∷ (PutOut 83, Count 83)
    ∷ (Open request true, Number 1) ∷ [])
    × (quiet_pair.server.log.calls ≡ (PutOut 52, Count 52) ∷ (SendFields 1 short_answer true, Done)
    ∷ [])
    × (quiet_pair.client.log.reported ≡ FieldsEvent 1 short_answer true ∷ AckedEvent ∷ [])
    × (quiet_pair.server.log.reported ≡ AckedEvent ∷ FieldsEvent 1 request true ∷ [])
unfolding computing
calls_and_events = (refl, refl, refl, refl)

-- On stream 1 all that was sent was heard, both ways.
all_heard :
    (tokens_sent 1 quiet_pair.client.log.calls ≡ FieldsToken request true ∷ EndToken ∷ [])
    × (tokens_heard 1 quiet_pair.server.log.reported ≡ FieldsToken request true ∷ EndToken ∷ [])
    × (tokens_sent 1 quiet_pair.server.log.calls ≡ FieldsToken short_answer true ∷ EndToken ∷ [])
    × (tokens_heard 1 quiet_pair.client.log.reported
    ≡ FieldsToken short_answer true ∷ EndToken ∷ [])
unfolding computing tokens_sent tokens_heard tokens_of_call tokens_of_event end_tokens
all_heard = (refl, refl, refl, refl)

-- As long as the client's acknowledgment waits, the pair isn't quiet.
waits_for_the_acknowledgment :
    IsQuiet answer_delivered.client answer_delivered.server → ⊥
unfolding computing
waits_for_the_acknowledgment quiet = omega (arith, quiet.to_server.given)

-- Without DATA nothing is owed.
nothing_owed : (i : ℕ) → (owed quiet_pair.client.log i ≡ 0) × (owed quiet_pair.server.log i ≡ 0)
unfolding computing
nothing_owed i = (either_zero _, either_zero _)

-- Once it has come, the pair is quiet.
is_quiet : IsQuiet quiet_pair.client quiet_pair.server
unfolding computing
is_quiet = record {
  to_server = record {
    given = refl;
    delivered = refl;
    none_owed = λ i. (nothing_owed i).1;
    none_unreturned = refl;
  };
  to_client = record {
    given = refl;
    delivered = refl;
    none_owed = λ i. (nothing_owed i).0;
    none_unreturned = refl;
  };
  all_reported = refl;
}
