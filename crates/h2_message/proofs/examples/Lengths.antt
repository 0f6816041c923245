-- Messages that are sent in parts: the rule that a head breaks, how long the body has to be, and
-- whether one of so many octets is.
use Rattle.h2_message.proofs.Names.{ℕ, Bool, true, false, List, [], ◌∷◌, ◌++◌, map, Option, None}
use Rattle.h2_message.proofs.Names.{Some, ◌≡◌, refl, Requests, Responses, BadName, BadValue}
use Rattle.h2_message.proofs.Names.{PseudoPlace, BadMethod, BadStatus, ConnectionField, BadLength}
use Rattle.h2_message.proofs.Names.{length_to_send, breaks_length, length_after}
use Rattle.h2_message.proofs.Names.{broken_by_head, broken_by_trailers}
use Rattle.std.specs.Prelude.{replicate}
use Rattle.h2_message.proofs.examples.Words.{computing, field, r, asking, answering}
use Rattle.h2_message.proofs.examples.Readings.{five, trailer}

-- The length that `content-length` says, of a request and of a response; it has to be 0 in an
-- answer to HEAD, in 204 and in 304, whatever `content-length` says (RFC 9110, section 6.4.1).
-- rule: 8.1.1 A body to be sent that content-length denies breaks M11
-- rule: 8.1.1 A body of an own answer to HEAD, 204 or 304 breaks M11
lengths_to_send :
    (map (length_to_send Requests) (
    r ∷ (r ++ five) ∷ (asking "HEAD" "/" ++ five)
    ∷ (r ++ five ++ field "content-length" "05" ∷ []) ∷ [])
    ≡ None ∷ replicate 3 (Some 5))
    × (map (length_to_send (Responses false)) (
    answering "200" ∷ answering "205" ∷ (answering "200" ++ five) ∷ (answering "205" ++ five)
    ∷ (answering "303" ++ five) ∷ [])
    ≡ None ∷ None ∷ replicate 3 (Some 5))
    × (map (length_to_send (Responses true)) (
    answering "200" ∷ (answering "200" ++ five) ∷ (answering "404" ++ five)
    ∷ (answering "304" ++ five) ∷ [])
    ≡ replicate 4 (Some 0))
    × (map (length_to_send (Responses false)) (
    answering "204" ∷ (answering "204" ++ five) ∷ answering "304" ∷ (answering "304" ++ five)
    ∷ [])
    ≡ replicate 4 (Some 0))
unfolding computing
lengths_to_send = (refl, refl, refl, refl)

-- the verdicts on so many octets, each without the end and with it
abbrev verdicts : Option ℕ → List ℕ → List (Bool × Bool)
verdicts number counts =
    map (λ count. (breaks_length number count false, breaks_length number count true)) counts

-- M11: one octet more is refused at once, one less at the end; nothing else is, and nothing at all
-- where no length is said.
-- rule: 8.1.1 A body to be sent that content-length denies breaks M11
broken_lengths :
    (verdicts (Some 5) (0 ∷ 3 ∷ 4 ∷ []) ≡ replicate 3 (false, true))
    × (verdicts (Some 5) (5 ∷ []) ≡ replicate 1 (false, false))
    × (verdicts (Some 5) (6 ∷ 10 ∷ []) ≡ replicate 2 (true, true))
    × (verdicts (Some 0) (0 ∷ 1 ∷ []) ≡ (false, false) ∷ (true, true) ∷ [])
    × (verdicts None (0 ∷ 3 ∷ []) ≡ replicate 2 (false, false))
unfolding computing
broken_lengths = (refl, refl, refl, refl, refl)

-- What is left of the length after some octets.
lengths_left :
    (map (length_after (Some 5)) (0 ∷ 3 ∷ 5 ∷ []) ≡ Some 5 ∷ Some 2 ∷ Some 0 ∷ [])
    × (length_after None 3 ≡ None)
unfolding computing
lengths_left = (refl, refl)

-- Trailers end a body that is whole; a short one breaks M11, and so does a longer one, whatever
-- `content-length` in the trailers says.
-- rule: 8.1 M1, M2, M3 and M10 hold of trailers
trailers_and_lengths :
    (broken_by_trailers (Some 5) 5 trailer ≡ None)
    × (broken_by_trailers (Some 0) 0 [] ≡ None) × (broken_by_trailers None 3 trailer ≡ None)
    × (broken_by_trailers (Some 5) 4 trailer ≡ Some BadLength)
    × (broken_by_trailers (Some 5) 0 [] ≡ Some BadLength)
    × (broken_by_trailers (Some 5) 6 trailer ≡ Some BadLength)
    × (broken_by_trailers (Some 5) 5 (field "content-length" "x" ∷ []) ≡ None)
unfolding computing
trailers_and_lengths = (refl, refl, refl, refl, refl, refl, refl)

-- A rule that their fields break counts before M11, and also where the body is whole.
-- rule: 8.1 M1, M2, M3 and M10 hold of trailers
-- rule: 8.1.1 (own) A message to be sent is refused for the least of M1 to M11 it breaks
trailers_before_lengths :
    (map (λ count. map (broken_by_trailers (Some 5) count) (
    (field "X" "y" ∷ []) ∷ (field "x" "y " ∷ []) ∷ (field ":path" "/" ∷ [])
    ∷ (field "connection" "close" ∷ []) ∷ [])) (4 ∷ 5 ∷ [])
    ≡ replicate 2 (
    Some BadName ∷ Some BadValue ∷ Some PseudoPlace ∷ Some ConnectionField ∷ []))
unfolding computing
trailers_before_lengths = refl

-- A head is checked before its body comes: its `content-length` has to be a number, which needs
-- not be 0. No interim response is sent (own).
-- rule: 8.1.1 (own) A message to be sent is refused for the least of M1 to M11 it breaks
-- rule: 8.1 (own) No interim response is sent: a status 100 to 199 breaks M9
heads_before_bodies :
    (map (broken_by_head Requests) (
    r ∷ (r ++ five) ∷ asking "" "/" ∷ (r ++ field "content-length" "x" ∷ [])
    ∷ (r ++ five ++ field "content-length" "6" ∷ []) ∷ [])
    ≡ None ∷ None ∷ Some BadMethod ∷ replicate 2 (Some BadLength))
    × (map (broken_by_head (Responses true)) (
    answering "200" ∷ (answering "200" ++ five) ∷ answering "103"
    ∷ (answering "204" ++ field "content-length" "x" ∷ []) ∷ [])
    ≡ None ∷ None ∷ Some BadStatus ∷ Some BadLength ∷ [])
unfolding computing
heads_before_bodies = (refl, refl)
