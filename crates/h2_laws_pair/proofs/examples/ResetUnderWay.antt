-- A server that resets a stream whose DATA is under way: the DATA is dropped, its octets go back to
-- the connection's window, and the other stream's body is heard whole (RFC 9113, sections 5.1,
-- 5.4.2 and 6.9).
use Rattle.h2_spec_log.proofs.examples.Words.{reset_frame}
use Rattle.h2_laws_pair.proofs.Names
use Names.{map, replicate, codes, empty_table, Data, Reset, Settings, WindowUpdate, Open, SendData}
use Names.{ResetStream, Release, PutOut, computing, octets, acknowledgment, default_values}
use Names.{get_block, server_settings, short_request, sum_below, ◌≡◌, true, false, List, [], ◌∷◌}
use Names.{◌++◌, None, pos, refl, length, FieldsToken, OctetToken, EndToken, tokens_sent}
use Names.{tokens_heard, tokens_of_call, tokens_of_event, end_tokens}
use Rattle.h2_laws_pair.proofs.examples.Steps.{Pair, new_pair}
use Rattle.h2_laws_pair.proofs.examples.SmallPair.{client_opening, server_opening}
use Rattle.h2_laws_pair.proofs.examples.Moves.{Move, client_call, server_call, to_client, to_server}
use Rattle.h2_laws_pair.proofs.examples.Moves.{block_to_server, after_move, after_moves}
use Rattle.h2_laws_pair.proofs.examples.Terms.{Terms, terms, sum, terms_after_each}

-- the client opens streams 1 and 3, and sends a body of 20,000 octets on the first, and of one of
-- 65,535 on the other as much as goes; that is put out, and up to the openings delivered
abbrev pub openings : List Move
openings =
    client_call (Open short_request false) ∷ client_call (Open short_request false)
    ∷ client_call (SendData 1 (replicate 20000 1) true)
    ∷ client_call (SendData 3 (replicate 65535 3) true) ∷ client_call (PutOut 100000)
    ∷ to_server (Settings false client_opening)
    ∷ block_to_server 1 false get_block short_request (empty_table 4096)
    ∷ block_to_server 3 false get_block short_request (empty_table 4096) ∷ []

-- the server resets stream 1, and the DATA of this stream is delivered
abbrev pub drops : List Move
drops =
    server_call (ResetStream 1 8) ∷ to_server (Data 1 false (replicate 16384 1) None)
    ∷ to_server (Data 1 true (replicate 3616 1) None) ∷ []

-- that of stream 3 is delivered and released, and the server's output put out
abbrev pub releases : List Move
releases =
    to_server (Data 3 false (replicate 16384 3) None)
    ∷ to_server (Data 3 false (replicate 16384 3) None)
    ∷ to_server (Data 3 false (replicate 12767 3) None) ∷ server_call (Release 3 45535)
    ∷ server_call (PutOut 100000) ∷ []

-- it is delivered
abbrev pub increments : List Move
increments =
    to_client (Settings false server_opening) ∷ to_client (Settings true [])
    ∷ to_client (Reset 1 8) ∷ to_client (WindowUpdate 0 16384) ∷ to_client (WindowUpdate 0 3616)
    ∷ to_client (WindowUpdate 3 45535) ∷ to_client (WindowUpdate 0 45535) ∷ []

-- the client sends the others, which are delivered and released
abbrev pub others : List Move
others =
    client_call (SendData 3 (replicate 20000 3) true) ∷ client_call (PutOut 100000)
    ∷ to_server (Settings true []) ∷ to_server (Data 3 false (replicate 16384 3) None)
    ∷ to_server (Data 3 true (replicate 3616 3) None) ∷ server_call (Release 3 20000)
    ∷ server_call (PutOut 13) ∷ to_client (WindowUpdate 0 20000) ∷ []

abbrev pub started : Pair
started = new_pair default_values default_values

-- the terms of the connection and of stream 3 after each step
abbrev pub all_terms : List (Terms × Terms)
all_terms =
    -- the client opens the streams
    (terms (pos 65535) 0 0 0, terms (pos 65535) 0 0 0)
    ∷ (terms (pos 65535) 0 0 0, terms (pos 65535) 0 0 0)
    -- its bodies go, and its output is delivered up to the openings
    ∷ (terms (pos 45535) 20000 0 0, terms (pos 65535) 0 0 0)
    ∷ (terms (pos 0) 65535 0 0, terms (pos 20000) 45535 0 0)
    ∷ (terms (pos 0) 65535 0 0, terms (pos 20000) 45535 0 0)
    ∷ (terms (pos 0) 65535 0 0, terms (pos 20000) 45535 0 0)
    ∷ (terms (pos 0) 65535 0 0, terms (pos 20000) 45535 0 0)
    ∷ (terms (pos 0) 65535 0 0, terms (pos 20000) 45535 0 0)
    -- stream 1 is reset, and its DATA dropped
    ∷ (terms (pos 0) 65535 0 0, terms (pos 20000) 45535 0 0)
    ∷ (terms (pos 0) 49151 16384 0, terms (pos 20000) 45535 0 0)
    ∷ (terms (pos 0) 45535 20000 0, terms (pos 20000) 45535 0 0)
    -- the DATA of stream 3 comes, and is released
    ∷ (terms (pos 0) 29151 20000 16384, terms (pos 20000) 29151 0 16384)
    ∷ (terms (pos 0) 12767 20000 32768, terms (pos 20000) 12767 0 32768)
    ∷ (terms (pos 0) 0 20000 45535, terms (pos 20000) 0 0 45535)
    ∷ (terms (pos 0) 0 65535 0, terms (pos 20000) 0 45535 0)
    ∷ (terms (pos 0) 0 65535 0, terms (pos 20000) 0 45535 0)
    -- SETTINGS, the acknowledgment, the reset and the increments come
    ∷ (terms (pos 0) 0 65535 0, terms (pos 20000) 0 45535 0)
    ∷ (terms (pos 0) 0 65535 0, terms (pos 20000) 0 45535 0)
    ∷ (terms (pos 0) 0 65535 0, terms (pos 20000) 0 45535 0)
    ∷ (terms (pos 16384) 0 49151 0, terms (pos 20000) 0 45535 0)
    ∷ (terms (pos 20000) 0 45535 0, terms (pos 20000) 0 45535 0)
    ∷ (terms (pos 20000) 0 45535 0, terms (pos 65535) 0 0 0)
    ∷ (terms (pos 65535) 0 0 0, terms (pos 65535) 0 0 0)
    -- the others go, and are delivered
    ∷ (terms (pos 45535) 20000 0 0, terms (pos 45535) 20000 0 0)
    ∷ (terms (pos 45535) 20000 0 0, terms (pos 45535) 20000 0 0)
    ∷ (terms (pos 45535) 20000 0 0, terms (pos 45535) 20000 0 0)
    ∷ (terms (pos 45535) 3616 0 16384, terms (pos 45535) 3616 0 16384)
    ∷ (terms (pos 45535) 0 0 20000, terms (pos 45535) 0 0 20000)
    -- they are released to the connection alone, since the stream has ended
    ∷ (terms (pos 45535) 0 20000 0, terms (pos 45535) 0 0 0)
    ∷ (terms (pos 45535) 0 20000 0, terms (pos 45535) 0 0 0)
    ∷ (terms (pos 65535) 0 0 0, terms (pos 45535) 0 0 0) ∷ []

-- They are so, whatever is under way.
windows_after_each :
    terms_after_each 3 started (openings ++ drops ++ releases ++ increments ++ others) ≡ all_terms
unfolding computing after_move terms_after_each sum_below
windows_after_each = refl

-- The connection's are 65,535 octets.
connection_is_conserved : map (λ both. sum both.0) all_terms ≡ replicate 31 (pos 65535)
connection_is_conserved = refl

-- the pair when the output of the server is on the pipe, and at the end
abbrev pub credit_on_pipe : Pair
credit_on_pipe = after_moves started (openings ++ drops ++ releases)

abbrev pub quiet_pair : Pair
quiet_pair = after_moves started (openings ++ drops ++ releases ++ increments ++ others)

-- What is dropped is returned by WINDOW_UPDATE on stream 0, of 0x4000 and of 0xe20 octets.
returns_what_is_dropped :
    credit_on_pipe.client.incoming
    ≡ server_settings ++ acknowledgment ++ reset_frame 1 8
    ++ octets (codes "000004 08 00 00000000 00004000 000004 08 00 00000000 00000e20")
    ++ octets (codes "000004 08 00 00000003 0000b1df 000004 08 00 00000000 0000b1df")
unfolding computing after_move after_moves
returns_what_is_dropped = refl

-- On stream 3 all that was sent was heard.
heard_whole :
    (tokens_heard 3 quiet_pair.server.log.reported ≡ FieldsToken short_request false
    ∷ map OctetToken (replicate 65535 3) ++ EndToken ∷ [])
    × (tokens_sent 3 quiet_pair.client.log.calls ≡ FieldsToken short_request false
    ∷ map OctetToken (replicate 65535 3) ++ EndToken ∷ [])
unfolding computing after_move after_moves tokens_heard tokens_sent tokens_of_call tokens_of_event
    end_tokens
heard_whole = (refl, refl)

-- On stream 1 the fields were heard, of the fields, 20,000 octets and the end that were sent.
heard_in_part :
    (tokens_heard 1 quiet_pair.server.log.reported ≡ FieldsToken short_request false ∷ [])
    × (length (tokens_sent 1 quiet_pair.client.log.calls) ≡ 20002)
unfolding computing after_move after_moves tokens_heard tokens_sent tokens_of_call tokens_of_event
    end_tokens
heard_in_part = (refl, refl)
