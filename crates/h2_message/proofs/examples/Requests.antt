-- Requests that are to be sent, and the rule that each breaks.
use Rattle.h2_message.proofs.Names.{BadName, BadValue, PseudoPlace, PseudoUnknown, PseudoTwice}
use Rattle.h2_message.proofs.Names.{PseudoMissing, BadMethod, BadPath, ConnectionField, BadLength}
use Rattle.h2_message.proofs.Names.{broken_by_request}
use Rattle.std.specs.Prelude.{[], ◌∷◌, ◌++◌, map, replicate, Some, None, ◌≡◌, refl}
use Rattle.h2_message.proofs.examples.Words.{computing, field, with_body, with_trailers}
use Rattle.h2_message.proofs.examples.Words.{of_requests, r, asking}

-- M1 and M2 hold of regular fields and of pseudo-fields.
names_and_values :
    (of_requests (
    (r ++ field "Host" "x" ∷ []) ∷ (r ++ field "" "x" ∷ []) ∷ (r ++ field "a:" "x" ∷ [])
    ∷ (field ":Method" "GET" ∷ r) ∷ [])
    ≡ replicate 4 (Some BadName))
    × (of_requests (
    (r ++ field "a" " x" ∷ []) ∷ (r ++ field "a" "x " ∷ [])
    ∷ (field ":scheme" "http " ∷ []) ∷ [])
    ≡ replicate 3 (Some BadValue))
    × (of_requests (
    r ∷ (r ++ field "host" "x" ∷ []) ∷ (r ++ field "a" "" ∷ []) ∷ (r ++ field "a" "x y" ∷ [])
    ∷ [])
    ≡ replicate 4 None)
unfolding computing
names_and_values = (refl, refl, refl)

-- M3 to M6: where pseudo-fields stand, and which.
-- rule: 8.3 A pseudo-field after a regular one, or in trailers, breaks M3
-- rule: 8.3 A pseudo-field that its kind of message does not have breaks M4
-- rule: 8.3 A pseudo-field that stands twice breaks M5
-- rule: 8.3.1 A request without :method, :scheme or :path breaks M6
pseudo_fields :
    (of_requests (
    (field ":method" "GET" ∷ field ":scheme" "http" ∷ field "accept" "x" ∷ field ":path" "/"
    ∷ []) ∷ (field "a" "x" ∷ r) ∷ (r ++ field "a" "x" ∷ field ":protocol" "x" ∷ []) ∷ [])
    ≡ replicate 3 (Some PseudoPlace))
    × (of_requests (
    (r ++ field ":protocol" "x" ∷ field "a" "x" ∷ []) ∷ (r ++ field ":status" "200" ∷ [])
    ∷ (r ++ field ":" "x" ∷ []) ∷ (field ":authoritie" "x" ∷ r) ∷ [])
    ≡ replicate 4 (Some PseudoUnknown))
    × (of_requests (
    (r ++ field ":path" "/" ∷ []) ∷ (r ++ field ":method" "GET" ∷ [])
    ∷ (r ++ field ":scheme" "x" ∷ []) ∷ (r ++ field ":authority" "x" ∷ []) ∷ (r ++ r) ∷ [])
    ≡ replicate 5 (Some PseudoTwice))
    × (of_requests (
    [] ∷ (field ":method" "GET" ∷ field ":path" "/" ∷ field ":authority" "a" ∷ [])
    ∷ (field ":method" "CONNECT" ∷ field ":authority" "a:80" ∷ [])
    ∷ (field ":scheme" "http" ∷ field ":path" "/" ∷ [])
    ∷ (field ":method" "GET" ∷ field ":scheme" "http" ∷ field "path" "/" ∷ []) ∷ [])
    ≡ replicate 5 (Some PseudoMissing))
    × (of_requests (
    asking "GET" "/"
    ∷ (field ":path" "/" ∷ field ":scheme" "x" ∷ field ":method" "GET" ∷ []) ∷ [])
    ≡ replicate 2 None)
unfolding computing
pseudo_fields = (refl, refl, refl, refl, refl)

-- M7 and M8: the method, and the path that goes with it.
-- rule: 8.3.1 A method that is no token, or is CONNECT (own), breaks M7
-- rule: 8.3.1 A path without / at its begin, but * with OPTIONS, breaks M8
methods_and_paths :
    (of_requests (asking "CONNECT" "/" ∷ asking "" "/" ∷ asking "G T" "/" ∷ [])
    ≡ replicate 3 (Some BadMethod))
    × (of_requests (
    asking "GET" "*" ∷ asking "HEAD" "*" ∷ asking "GET" "" ∷ asking "OPTIONS" "**"
    ∷ asking "options" "*" ∷ asking "GET" "a" ∷ [])
    ≡ replicate 6 (Some BadPath))
    × (of_requests (
    asking "OPTIONS" "*" ∷ asking "OPTIONS" "/" ∷ asking "connect" "/" ∷ asking "GET" "/*" ∷ [])
    ≡ replicate 4 None)
unfolding computing
methods_and_paths = (refl, refl, refl)

-- M10: the five fields, and `te`, whose letters may be of any case.
-- rule: 8.2.2 A connection-specific field breaks M10
connection_fields :
    (of_requests (
    (r ++ field "connection" "close" ∷ []) ∷ (r ++ field "proxy-connection" "x" ∷ [])
    ∷ (r ++ field "keep-alive" "" ∷ []) ∷ (r ++ field "transfer-encoding" "chunked" ∷ [])
    ∷ (r ++ field "upgrade" "h2c" ∷ []) ∷ (r ++ field "te" "gzip" ∷ [])
    ∷ (r ++ field "te" "" ∷ []) ∷ (r ++ field "te" "trailers, x" ∷ [])
    ∷ (r ++ field "te" "gzip" ∷ field "te" "trailers" ∷ [])
    ∷ (r ++ field "te" "trailers" ∷ field "te" "gzip" ∷ []) ∷ [])
    ≡ replicate 10 (Some ConnectionField))
    × (of_requests (
    (r ++ field "te" "trailers" ∷ []) ∷ (r ++ field "te" "Trailers" ∷ [])
    ∷ (r ++ field "te" "TRAILERS" ∷ field "tee" "x" ∷ [])
    ∷ (r ++ field "connections" "x" ∷ field "upgrad" "x" ∷ []) ∷ [])
    ≡ replicate 4 None)
unfolding computing
connection_fields = (refl, refl)

-- M11: all texts are numbers and equal ones, and the body has so many octets.
-- rule: 8.1.1 A body to be sent that content-length denies breaks M11
lengths :
    (map broken_by_request (
    with_body (r ++ field "content-length" "5" ∷ []) 4
    ∷ with_body (r ++ field "content-length" "5" ∷ []) 6
    ∷ with_body (r ++ field "content-length" "5" ∷ field "content-length" "6" ∷ []) 5
    ∷ with_body (r ++ field "content-length" "5" ∷ field "content-length" "x" ∷ []) 5
    ∷ with_body (r ++ field "content-length" "x" ∷ field "content-length" "5" ∷ []) 5
    ∷ with_body (r ++ field "content-length" "" ∷ []) 0
    ∷ with_body (r ++ field "content-length" "+5" ∷ []) 5
    ∷ with_body (r ++ field "content-length" "00000000000000000005" ∷ []) 5 ∷ [])
    ≡ replicate 8 (Some BadLength))
    × (map broken_by_request (
    with_body r 3 ∷ with_body (r ++ field "content-length" "0" ∷ []) 0
    ∷ with_body (r ++ field "content-length" "5" ∷ field "content-length" "05" ∷ []) 5
    ∷ with_body (r ++ field "content-length" "0000000000000000005" ∷ []) 5
    ∷ with_body (r ++ field "content-lengths" "5" ∷ []) 4 ∷ [])
    ≡ replicate 5 None)
unfolding computing
lengths = (refl, refl)

-- Trailers: M1, M2, M3 and M10. They may be empty, and their `content-length` says nothing.
trailers :
    (map (λ fields. broken_by_request (with_trailers r fields)) (
    (field "X" "y" ∷ []) ∷ (field "x" "y " ∷ []) ∷ (field ":path" "/" ∷ [])
    ∷ (field "x" "y" ∷ field ":" "y" ∷ []) ∷ (field "connection" "close" ∷ [])
    ∷ (field "te" "gzip" ∷ []) ∷ [])
    ≡ Some BadName ∷ Some BadValue ∷ Some PseudoPlace ∷ Some PseudoPlace
    ∷ Some ConnectionField ∷ Some ConnectionField ∷ [])
    × (map (λ fields. broken_by_request (with_trailers r fields)) (
    [] ∷ (field "x" "y" ∷ []) ∷ (field "te" "trailers" ∷ [])
    ∷ (field "content-length" "x" ∷ []) ∷ [])
    ≡ replicate 4 None)
unfolding computing
trailers = (refl, refl)

-- Of two rules the least number counts, of the head and of the trailers together.
-- rule: 8.1.1 (own) A message to be sent is refused for the least of M1 to M11 it breaks
least_numbers :
    (of_requests (
    (r ++ field "a" " x" ∷ field "A" "x" ∷ []) ∷ (field "a" " x" ∷ r)
    ∷ (field "a" "x" ∷ field ":x" "y" ∷ r) ∷ (r ++ r ++ field ":x" "y" ∷ [])
    ∷ (field ":path" "" ∷ field ":path" "" ∷ []) ∷ (field ":method" "" ∷ []) ∷ asking "" ""
    ∷ (asking "GET" "*" ++ field "te" "x" ∷ [])
    ∷ (r ++ field "content-length" "x" ∷ field "te" "x" ∷ []) ∷ [])
    ≡ Some BadName ∷ Some BadValue ∷ Some PseudoPlace ∷ Some PseudoUnknown ∷ Some PseudoTwice
    ∷ Some PseudoMissing ∷ Some BadMethod ∷ Some BadPath ∷ Some ConnectionField ∷ [])
    × (map broken_by_request (
    with_trailers (r ++ field "a" " x" ∷ []) (field "A" "x" ∷ [])
    ∷ with_trailers [] (field "a" " x" ∷ []) ∷ with_trailers [] (field ":path" "/" ∷ [])
    ∷ with_trailers [] (field "te" "x" ∷ [])
    ∷ with_trailers (r ++ field "content-length" "1" ∷ []) (field "te" "x" ∷ []) ∷ [])
    ≡ Some BadName ∷ Some BadValue ∷ Some PseudoPlace ∷ Some PseudoMissing
    ∷ Some ConnectionField ∷ [])
unfolding computing
least_numbers = (refl, refl)
