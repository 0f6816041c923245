-- Responses that are to be sent, and the rule that each breaks.
use Rattle.h2_message.proofs.Names.{BadName, BadValue, PseudoPlace, PseudoUnknown, PseudoTwice}
use Rattle.h2_message.proofs.Names.{PseudoMissing, BadStatus, ConnectionField, BadLength}
use Rattle.h2_message.proofs.Names.{broken_by_response}
use Rattle.std.specs.Prelude.{true, false, [], ◌∷◌, ◌++◌, map, replicate, Some, None, ◌≡◌, refl}
use Rattle.h2_message.proofs.examples.Words.{computing, field, with_body, with_trailers}
use Rattle.h2_message.proofs.examples.Words.{of_responses, r, answering}

-- M1 to M6 and M10, each beside a response that doesn't break it.
-- rule: 8.3.2 A response without :status breaks M6
heads :
    (of_responses (
    (answering "200" ++ field "Server" "x" ∷ []) ∷ (answering "200" ++ field "a" "x " ∷ [])
    ∷ (field "a" "x" ∷ answering "200") ∷ (answering "200" ++ field ":path" "/" ∷ []) ∷ r
    ∷ (answering "200" ++ answering "200") ∷ [] ∷ (field "status" "200" ∷ [])
    ∷ (answering "200" ++ field "upgrade" "x" ∷ [])
    ∷ (answering "200" ++ field "te" "x" ∷ []) ∷ [])
    ≡ Some BadName ∷ Some BadValue ∷ Some PseudoPlace ∷ Some PseudoUnknown
    ∷ Some PseudoUnknown ∷ Some PseudoTwice ∷ Some PseudoMissing ∷ Some PseudoMissing
    ∷ Some ConnectionField ∷ Some ConnectionField ∷ [])
    × (of_responses (
    answering "200" ∷ (answering "200" ++ field "server" "x y" ∷ field "server" "x" ∷ [])
    ∷ (answering "200" ++ field "path" "/" ∷ field "status" "0" ∷ [])
    ∷ (answering "200" ++ field "te" "TRAILERS" ∷ []) ∷ [])
    ≡ replicate 4 None)
unfolding computing
heads = (refl, refl)

-- M9: no interim response is sent (own).
-- rule: 8.1 (own) No interim response is sent: a status 100 to 199 breaks M9
-- rule: 8.3.2 A status that is not three digits from 100 on breaks M9
statuses :
    (of_responses (
    answering "101" ∷ answering "099" ∷ answering "103" ∷ answering "100" ∷ answering "199"
    ∷ answering "" ∷ answering "20" ∷ answering "2000" ∷ answering "20x" ∷ [])
    ≡ replicate 9 (Some BadStatus))
    × (of_responses (
    answering "200" ∷ answering "204" ∷ answering "304" ∷ answering "600" ∷ answering "999"
    ∷ [])
    ≡ replicate 5 None)
unfolding computing
statuses = (refl, refl)

-- M11: the body of a response that has content.
bodies :
    (map (broken_by_response false) (
    with_body (answering "200" ++ field "content-length" "5" ∷ []) 4
    ∷ with_body (answering "200" ++ field "content-length" "5" ∷ []) 0
    ∷ with_body (answering "205" ++ field "content-length" "5" ∷ []) 6 ∷ [])
    ≡ replicate 3 (Some BadLength))
    × (map (broken_by_response false) (
    with_body (answering "200") 3
    ∷ with_body (answering "200" ++ field "content-length" "5" ∷ []) 5
    ∷ with_body (answering "303" ++ field "content-length" "1" ∷ []) 1
    ∷ with_body (answering "205") 1 ∷ [])
    ≡ replicate 4 None)
unfolding computing
bodies = (refl, refl)

-- M11: an answer to HEAD, 204 and 304 have no body, and their length isn't compared; its text is
-- looked at all the same.
-- rule: 8.1.1 A body of an own answer to HEAD, 204 or 304 breaks M11
without_content :
    (map (broken_by_response true) (
    with_body (answering "200") 0
    ∷ with_body (answering "200" ++ field "content-length" "5" ∷ []) 0
    ∷ with_trailers (answering "200" ++ field "content-length" "5" ∷ []) [] ∷ [])
    ≡ replicate 3 None)
    × (map (broken_by_response true) (
    with_body (answering "200") 1
    ∷ with_body (answering "200" ++ field "content-length" "5" ∷ []) 5
    ∷ with_body (answering "200" ++ field "content-length" "+5" ∷ []) 0 ∷ [])
    ≡ replicate 3 (Some BadLength))
    × (map (broken_by_response false) (
    with_body (answering "204") 0 ∷ with_body (answering "304") 0
    ∷ with_body (answering "204" ++ field "content-length" "5" ∷ []) 0
    ∷ with_body (answering "304" ++ field "content-length" "5" ∷ []) 0 ∷ [])
    ≡ replicate 4 None)
    × (map (broken_by_response false) (
    with_body (answering "204") 1 ∷ with_body (answering "304") 1
    ∷ with_body (answering "304" ++ field "content-length" "5" ∷ []) 5
    ∷ with_body (answering "204" ++ field "content-length" "x" ∷ []) 0 ∷ [])
    ≡ replicate 4 (Some BadLength))
unfolding computing
without_content = (refl, refl, refl, refl)

-- Trailers are those of a request; of two rules the least number counts.
trailers_and_order :
    (map (λ fields. broken_by_response false (with_trailers (answering "200") fields)) (
    [] ∷ (field "x" "y" ∷ []) ∷ (field "content-length" "x" ∷ []) ∷ [])
    ≡ replicate 3 None)
    × (map (λ fields. broken_by_response false (with_trailers (answering "200") fields)) (
    (field "x y" "z" ∷ []) ∷ (field "x" " y" ∷ []) ∷ answering "200"
    ∷ (field "keep-alive" "x" ∷ []) ∷ [])
    ≡ Some BadName ∷ Some BadValue ∷ Some PseudoPlace ∷ Some ConnectionField ∷ [])
    × (of_responses (
    (field "a" "x" ∷ field ":x" "y" ∷ []) ∷ (field ":x" "y" ∷ [])
    ∷ (answering "1" ++ answering "2") ∷ (field "te" "x" ∷ [])
    ∷ (answering "103" ++ field "te" "x" ∷ [])
    ∷ (answering "200" ++ field "content-length" "x" ∷ field "te" "x" ∷ []) ∷ [])
    ≡ Some PseudoPlace ∷ Some PseudoUnknown ∷ Some PseudoTwice ∷ Some PseudoMissing
    ∷ Some BadStatus ∷ Some ConnectionField ∷ [])
unfolding computing
trailers_and_order = (refl, refl, refl)
