-- A server that changes its initial window while a body is under way: the client's window becomes
-- negative, and grows again by what is released (RFC 9113, section 6.9.2).
use Rattle.std.specs.Prelude.{negsuc}
use Rattle.h2_spec_log.specs.Log.{recv_window}
use Rattle.h2_spec_log.specs.declared.refusal.Refusal.TheVariants.{SettingsWait}
use Rattle.h2_spec_log.proofs.examples.Words.{small_values}
use Rattle.h2_laws_pair.proofs.Names
use Names.{map, replicate, codes, empty_table, Data, Settings, WindowUpdate, Open, SendData}
use Names.{Release, ChangeSettings, PutOut, Count, Done, Refused, send_window, log_view, computing}
use Names.{octets, answered, default_values, get_block, short_request, sum_below, ◌≡◌, true, false}
use Names.{List, [], ◌∷◌, ◌++◌, None, pos, refl}
use Rattle.h2_laws_pair.proofs.examples.Steps.{Pair, new_pair}
use Rattle.h2_laws_pair.proofs.examples.SmallPair.{client_opening, server_opening}
use Rattle.h2_laws_pair.proofs.examples.Moves.{Move, client_call, server_call, to_client, to_server}
use Rattle.h2_laws_pair.proofs.examples.Moves.{block_to_server, after_move, after_moves}
use Rattle.h2_laws_pair.proofs.examples.Terms.{Terms, terms, sum, terms_after_each}

-- the client opens stream 1, and all is delivered, both ways
abbrev pub settled_pair : Pair
settled_pair =
    after_moves (new_pair default_values default_values) (client_call (Open short_request false)
    ∷ client_call (PutOut 69) ∷ to_server (Settings false client_opening)
    ∷ block_to_server 1 false get_block short_request (empty_table 4096)
    ∷ server_call (PutOut 42) ∷ to_client (Settings false server_opening)
    ∷ to_client (Settings true []) ∷ client_call (PutOut 9) ∷ to_server (Settings true []) ∷ [])

-- the client sends as much of 70,000 octets as goes, and the server makes its initial window 10
abbrev pub changes : List Move
changes =
    client_call (SendData 1 (replicate 70000 0) true) ∷ server_call (ChangeSettings small_values)
    ∷ server_call (PutOut 27) ∷ client_call (PutOut 100000) ∷ []

-- all of that is delivered, and the acknowledgment
abbrev pub deliveries : List Move
deliveries =
    to_server (Data 1 false (replicate 16384 0) None)
    ∷ to_server (Data 1 false (replicate 16384 0) None)
    ∷ to_server (Data 1 false (replicate 16384 0) None)
    ∷ to_server (Data 1 false (replicate 16383 0) None)
    ∷ to_client (Settings false ((1, 4096) ∷ (3, 100) ∷ (4, 10) ∷ [])) ∷ client_call (PutOut 9)
    ∷ to_server (Settings true []) ∷ []

-- the server releases the octets, and that is delivered
abbrev pub releases : List Move
releases =
    server_call (Release 1 65535) ∷ server_call (PutOut 26) ∷ to_client (WindowUpdate 1 65535)
    ∷ to_client (WindowUpdate 0 65535) ∷ []

-- the client sends of the others what goes
abbrev pub others : List Move
others = client_call (SendData 1 (replicate 4465 0) true) ∷ client_call (PutOut 19) ∷ []

-- the pair after these steps
abbrev pub changed_pair : Pair
changed_pair = after_moves settled_pair changes

abbrev pub delivered_pair : Pair
delivered_pair = after_moves settled_pair (changes ++ deliveries)

abbrev pub released_pair : Pair
released_pair = after_moves settled_pair (changes ++ deliveries ++ releases)

abbrev pub others_on_pipe : Pair
others_on_pipe = after_moves settled_pair (changes ++ deliveries ++ releases ++ others)

-- 65,535 octets go at first. A second change is refused, as the first awaits its acknowledgment.
changes_its_window :
    (answered (log_view settled_pair.client.log) (SendData 1 (replicate 70000 0) true)
    ≡ Count 65535)
    × (answered (log_view settled_pair.server.log) (ChangeSettings small_values) ≡ Done)
    × (changed_pair.client.incoming
    ≡ octets (codes "000012 04 00 00000000 000100001000 000300000064 00040000000a"))
    × (answered (log_view changed_pair.server.log) (ChangeSettings small_values)
    ≡ Refused SettingsWait)
unfolding computing after_move after_moves
changes_its_window = (refl, refl, refl, refl)

-- The client's window of the stream is 10 less 65,535, and both ends are up.
negative_window :
    (send_window delivered_pair.client.log 1 ≡ negsuc 65524)
    × (recv_window delivered_pair.server.log 1 ≡ negsuc 65524)
    × (delivered_pair.client.log.failed ≡ None) × (delivered_pair.server.log.failed ≡ None)
unfolding computing after_move after_moves
negative_window = (refl, refl, refl, refl)

-- Once all was released it is 10, and as many octets go, without END_STREAM.
window_after_release :
    (send_window released_pair.client.log 1 ≡ pos 10)
    × (answered (log_view released_pair.client.log) (SendData 1 (replicate 4465 0) true)
    ≡ Count 10)
    × (others_on_pipe.server.incoming ≡ octets (codes "00000a 00 00 00000001") ++ replicate 10 0)
unfolding computing after_move after_moves
window_after_release = (refl, refl, refl)

-- the terms of the connection and of stream 1 after each step
abbrev pub all_terms : List (Terms × Terms)
all_terms =
    -- the body goes, and the settings change
    (terms (pos 0) 65535 0 0, terms (pos 0) 65535 0 0)
    ∷ (terms (pos 0) 65535 0 0, terms (pos 0) 65535 0 0)
    ∷ (terms (pos 0) 65535 0 0, terms (pos 0) 65535 0 0)
    ∷ (terms (pos 0) 65535 0 0, terms (pos 0) 65535 0 0)
    -- the body is delivered
    ∷ (terms (pos 0) 49151 0 16384, terms (pos 0) 49151 0 16384)
    ∷ (terms (pos 0) 32767 0 32768, terms (pos 0) 32767 0 32768)
    ∷ (terms (pos 0) 16383 0 49152, terms (pos 0) 16383 0 49152)
    ∷ (terms (pos 0) 0 0 65535, terms (pos 0) 0 0 65535)
    -- the settings are delivered, and acknowledged
    ∷ (terms (pos 0) 0 0 65535, terms (negsuc 65524) 0 0 65535)
    ∷ (terms (pos 0) 0 0 65535, terms (negsuc 65524) 0 0 65535)
    ∷ (terms (pos 0) 0 0 65535, terms (negsuc 65524) 0 0 65535)
    -- the body is released
    ∷ (terms (pos 0) 0 65535 0, terms (negsuc 65524) 0 65535 0)
    ∷ (terms (pos 0) 0 65535 0, terms (negsuc 65524) 0 65535 0)
    ∷ (terms (pos 0) 0 65535 0, terms (pos 10) 0 0 0)
    ∷ (terms (pos 65535) 0 0 0, terms (pos 10) 0 0 0)
    -- ten octets go
    ∷ (terms (pos 65525) 10 0 0, terms (pos 0) 10 0 0)
    ∷ (terms (pos 65525) 10 0 0, terms (pos 0) 10 0 0) ∷ []

windows_after_each :
    terms_after_each 1 settled_pair (changes ++ deliveries ++ releases ++ others) ≡ all_terms
unfolding computing after_move after_moves terms_after_each sum_below
windows_after_each = refl

-- The connection's are 65,535 octets; the stream's are the initial window that the client has read
-- last, which is 65,535 at first and then 10.
windows_are_conserved :
    (map (λ both. sum both.0) all_terms ≡ replicate 17 (pos 65535))
    × (map (λ both. sum both.1) all_terms ≡ replicate 8 (pos 65535) ++ replicate 9 (pos 10))
windows_are_conserved = (refl, refl)
