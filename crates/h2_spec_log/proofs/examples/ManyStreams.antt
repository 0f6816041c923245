-- As many streams as a server allows, and one more.
use Rattle.h2_spec_log.proofs.Names.{List, None, [], codes, false, map, refl, true, ℕ, ◌*◌, ◌++◌}
use Rattle.h2_spec_log.proofs.Names.{◌+◌, ◌∷◌, ◌≡◌, empty_table, Data, Event, FieldsEvent}
use Rattle.h2_spec_log.proofs.Names.{ResetEvent, Log, active_count, takes, takes_block}
use Rattle.std.specs.Prelude.{suc, zero}
use Rattle.h2_spec_log.proofs.Computing.{computing}
use Rattle.h2_spec_log.proofs.examples.Ends.{active_output, settled_server}
use Rattle.h2_spec_log.proofs.examples.Octets.{octets}
use Rattle.h2_spec_log.proofs.examples.Words.{abcd, come_to, empty_settings, get_block}
use Rattle.h2_spec_log.proofs.examples.Words.{increment_frame, outcome, preface_octets, reset_frame}
use Rattle.h2_spec_log.proofs.examples.Words.{short_request}

-- a server that has read so many short requests, on streams 1, 3, 5, ..
unfoldable pub server_with_streams : ℕ → Log
server_with_streams zero = settled_server
server_with_streams (suc count) =
    takes_block (server_with_streams count) (2 * count + 1) false get_block short_request
    (empty_table 4096)

-- what has come to it by then, as long as the last number is below 256
unfoldable pub requests_octets : ℕ → List ℕ
requests_octets zero = preface_octets ++ empty_settings
requests_octets (suc count) =
    requests_octets count ++ octets (codes "000003 01 04 000000") ++ (2 * count + 1) ∷ get_block

-- and what it has reported
unfoldable pub requests_events : ℕ → List Event
requests_events zero = []
requests_events (suc count) =
    requests_events count ++ FieldsEvent (2 * count + 1) short_request false ∷ []

-- a further request comes to a server with a hundred
abbrev pub server_with_one_too_many : Log
server_with_one_too_many =
    takes_block (server_with_streams 100) 201 false get_block short_request (empty_table 4096)

-- and DATA on its stream
abbrev pub server_with_refused_body : Log
server_with_refused_body = takes server_with_one_too_many (Data 201 false abcd None)

-- the octets of this request
abbrev pub request_on_201 : List ℕ
request_on_201 = octets (codes "000003 01 04 000000c9 828684")

-- As many streams are active as the server allows. A further one is refused, and its DATA ignored:
-- what that took of the connection's window is returned (RFC 9113, sections 5.1.2 and 6.9).
-- rule: 5.1.2 A stream above the limit of active ones is REFUSED_STREAM
refuses_a_stream_too_many :
    (outcome (server_with_streams 100)
    ≡ come_to (requests_octets 100) (requests_events 100) active_output None)
    × (map active_count (server_with_streams 100 ∷ server_with_one_too_many ∷ []) ≡ 100 ∷ 100 ∷ [])
    × (outcome server_with_one_too_many ≡ come_to (requests_octets 100 ++ request_on_201)
    (requests_events 100 ++ ResetEvent 201 7 true ∷ []) (active_output ++ reset_frame 201 7) None)
    × (outcome server_with_refused_body ≡ come_to
    (requests_octets 100 ++ request_on_201 ++ octets (codes "000004 00 00 000000c9 61626364"))
    (requests_events 100 ++ ResetEvent 201 7 true ∷ [])
    (active_output ++ reset_frame 201 7 ++ increment_frame 0 4) None)
unfolding computing server_with_streams requests_octets requests_events
refuses_a_stream_too_many = (refl, refl, refl, refl)
