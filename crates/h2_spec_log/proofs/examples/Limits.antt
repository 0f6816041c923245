-- The limits on replies and on resets.
use Rattle.h2_spec_log.proofs.Names
use Names.{List, None, Some, [], false, map, refl, true, ℕ, ◌*◌, ◌++◌, ◌+◌, ◌-◌, ◌∷◌, ◌≡◌, Data}
use Names.{Ping, Priority, Settings, WindowUpdate, EnhanceYourCalm, ProtocolError, alone, block}
use Names.{replies_to, waiting, ConnectionFault, NoEvent, Reported, StreamFault, View, length}
use Names.{encoding_of_items, max_frame_size_sent, with_verdict}
use Rattle.h2_spec_log.proofs.Computing.{computing}
use Rattle.h2_spec_log.proofs.examples.Blocks.{decoded_request}
use Rattle.h2_spec_log.proofs.examples.Ends.{active_output, active_view, settled_server}
use Rattle.h2_spec_log.proofs.examples.Words.{abcd, come_to, empty_settings, get_block}
use Rattle.h2_spec_log.proofs.examples.Words.{goaway_frame, one_to_eight, outcome, preface_octets}
use Rattle.h2_spec_log.proofs.examples.Words.{verdicts}

-- The answer to PING has 17 octets, an acknowledgment 9 and RST_STREAM 13.
size_of_a_pong : (a b c d e f g h : ℕ) → length (encoding_of_items max_frame_size_sent
    (replies_to NoEvent (alone (Ping false (a ∷ b ∷ c ∷ d ∷ e ∷ f ∷ g ∷ h ∷ []))))) ≡ 17
unfolding computing
size_of_a_pong a b c d e f g h = refl

size_of_an_acknowledgment : (pairs : List (ℕ × ℕ))
    → length (encoding_of_items max_frame_size_sent
    (replies_to NoEvent (alone (Settings false pairs)))) ≡ 9
unfolding computing
size_of_an_acknowledgment pairs = refl

size_of_a_reset : (stream increment : ℕ) → length (encoding_of_items max_frame_size_sent
    (replies_to (StreamFault ProtocolError) (alone (WindowUpdate stream increment)))) ≡ 13
unfolding computing
size_of_a_reset stream increment = refl

-- a server on which this much output waits
abbrev pub view_with : ℕ → View
view_with = λ count. record active_view { waiting = count }

-- A reply may bring the waiting output to 262,144 octets and no further (own; RFC 9113, section
-- 10.5).
-- rule: 10.5 (own) Replies above 262,144 waiting octets are ENHANCE_YOUR_CALM
replies_at_the_limit :
    (map (λ count. verdicts (view_with count) (alone (Ping false one_to_eight) ∷ []))
    (262127 ∷ 262128 ∷ []) ≡ (NoEvent ∷ []) ∷ (ConnectionFault EnhanceYourCalm ∷ []) ∷ [])
    × (map (λ count. verdicts (view_with count) (alone (Settings false []) ∷ []))
    (262135 ∷ 262136 ∷ []) ≡ (NoEvent ∷ []) ∷ (ConnectionFault EnhanceYourCalm ∷ []) ∷ [])
    × (map (λ count. verdicts (view_with count) (alone (WindowUpdate 1 0) ∷ []))
    (262131 ∷ 262132 ∷ [])
    ≡ (StreamFault ProtocolError ∷ []) ∷ (ConnectionFault EnhanceYourCalm ∷ []) ∷ [])
unfolding computing
replies_at_the_limit = (refl, refl, refl)

-- What isn't replied to has no limit, and a fault of the connection keeps its code.
no_reply_at_the_limit :
    verdicts (record (view_with 300000) { resets = 1000 })
    (alone (Data 1 false abcd None) ∷ alone (Priority 1 []) ∷ alone (WindowUpdate 0 0) ∷ [])
    ≡ Reported ∷ NoEvent ∷ ConnectionFault ProtocolError ∷ []
unfolding computing
no_reply_at_the_limit = refl

-- The 1,001st reset ends the connection instead (own; section 10.5).
-- rule: 10.5 (own) An end that resets 1,001 streams ends with ENHANCE_YOUR_CALM
resets_at_the_limit :
    (map (λ count. verdicts (record active_view { resets = count }) (alone (WindowUpdate 1 0) ∷ []))
    (999 ∷ 1000 ∷ [])
    ≡ (StreamFault ProtocolError ∷ []) ∷ (ConnectionFault EnhanceYourCalm ∷ []) ∷ [])
    × (verdicts (record active_view { resets = 1000 }) (alone (Ping false one_to_eight) ∷ [])
    ≡ NoEvent ∷ [])
unfolding computing
resets_at_the_limit = (refl, refl)

-- A flood of PINGs after one SETTINGS: 262,131 octets wait after 15,417 answers, and one more is
-- too many.
-- rule: 10.5 (own) Replies above 262,144 waiting octets are ENHANCE_YOUR_CALM
flood_of_pings :
    (33 + 9 + 15417 * 17 ≡ 262131)
    × (verdicts (view_with (262131 - 17)) (alone (Ping false one_to_eight) ∷ []) ≡ NoEvent ∷ [])
    × (verdicts (view_with 262131) (alone (Ping false one_to_eight) ∷ [])
    ≡ ConnectionFault EnhanceYourCalm ∷ [])
unfolding computing
flood_of_pings = (refl, refl, refl)

-- Where a block opens a stream and its reply is over a limit, GOAWAY names that stream (section
-- 5.4.1).
stream_of_a_failure :
    map (λ decoded. outcome (with_verdict settled_server decoded (block 1 true get_block)
    (ConnectionFault EnhanceYourCalm))) (decoded_request ∷ None ∷ [])
    ≡ come_to (preface_octets ++ empty_settings) [] (active_output ++ goaway_frame 1 11)
    (Some EnhanceYourCalm) ∷ come_to (preface_octets ++ empty_settings) []
    (active_output ++ goaway_frame 0 11) (Some EnhanceYourCalm) ∷ []
unfolding computing
stream_of_a_failure = refl
