-- Which rule a part is said to break that is refused, after parts that were read.
use Rattle.h2_message.proofs.Names.{Malformed, BadName, BadValue, PseudoPlace, BadLength}
use Rattle.h2_message.proofs.Names.{BadStatus, BadMethod, ConnectionField, PseudoMissing}
use Rattle.h2_message.proofs.Names.{Reads, Requests, Responses, Part}
use Rattle.std.specs.Prelude.{Bool, true, false, List, [], ◌∷◌, ◌++◌, map, replicate, Option}
use Rattle.std.specs.Prelude.{Some, None, ◌≡◌, refl}
use Rattle.h2_message.specs.Broken.{broken_after}
use Rattle.h2_message.specs.declared.malformed.Malformed.TheVariants.{BadOrder}
use Rattle.h2_message.proofs.examples.Words.{computing, field, r, asking, answering}
use Rattle.h2_message.proofs.examples.Readings.{block, data_of, five, trailer}

-- the rules of each of these parts after the same parts
abbrev pub rules_after : Reads → List (Part × Bool) → List (Part × Bool) → List (Option Malformed)
rules_after reads parts each = map (λ part. broken_after reads parts part) each

-- A head: the rules of its fields in order (M1 before M2, M10 before M11), M11 where END_STREAM
-- comes before the octets that it declares, and none where it is taken. DATA before it breaks M12.
-- rule (best): 8.1.1 (own) A part that is refused breaks a rule, the least of which is named
of_heads : rules_after Requests [] (
    block r true ∷ block (r ++ five) false ∷ block (field "A" "\r" ∷ r) true
    ∷ block (field "a" "\r" ∷ r) true ∷ block (asking "CONNECT" "/") true
    ∷ block (r ++ field "connection" "x" ∷ field "content-length" "x" ∷ []) true
    ∷ block (r ++ field "content-length" "x" ∷ []) true ∷ block (r ++ five) true
    ∷ block (r ++ field "content-length" "0" ∷ []) true ∷ block [] true
    ∷ data_of 0 false ∷ data_of 1 true ∷ [])
    ≡ None ∷ None ∷ Some BadName ∷ Some BadValue ∷ Some BadMethod ∷ Some ConnectionField
    ∷ Some BadLength ∷ Some BadLength ∷ None ∷ Some PseudoMissing ∷ Some BadOrder ∷ Some BadOrder
    ∷ []
unfolding computing
of_heads = refl

-- After the head: a field block breaks the rules of trailers, then M11 where octets are missing at
-- END_STREAM, then M12 without it; DATA breaks M11.
of_bodies : rules_after Requests (block (r ++ five) false ∷ data_of 4 false ∷ []) (
    data_of 1 true ∷ data_of 1 false ∷ data_of 0 false ∷ data_of 2 false ∷ data_of 2 true
    ∷ data_of 0 true ∷ block trailer true ∷ block trailer false ∷ block r true
    ∷ block (field "te" "x" ∷ []) false ∷ [])
    ≡ None ∷ None ∷ None ∷ Some BadLength ∷ Some BadLength ∷ Some BadLength ∷ Some BadLength
    ∷ Some BadOrder ∷ Some PseudoPlace ∷ Some ConnectionField ∷ []
unfolding computing
of_bodies = refl

of_trailers : rules_after Requests (block r false ∷ data_of 4 false ∷ []) (
    block trailer true ∷ block trailer false ∷ block (field "a" " x" ∷ []) true
    ∷ block (field "a" " x" ∷ []) false ∷ data_of 9 true ∷ [])
    ≡ None ∷ Some BadOrder ∷ Some BadValue ∷ Some BadValue ∷ None ∷ []
unfolding computing
of_trailers = refl

-- After the end any part breaks M12, whatever its fields are.
after_ends : rules_after Requests (block r true ∷ []) (
    block trailer true ∷ block (field "A" "" ∷ []) true ∷ data_of 0 true ∷ [])
    ≡ replicate 3 (Some BadOrder)
unfolding computing
after_ends = refl

-- The head of an interim response breaks M10 before M12, and not M9; one with the status 101, and a
-- final one after which the same comes, do.
of_responses : rules_after (Responses false) (block (answering "103") false ∷ []) (
    block (answering "100") false ∷ block (answering "100") true
    ∷ block (answering "100" ++ field "te" "x" ∷ []) true ∷ block (answering "101") false
    ∷ block (answering "1000") true ∷ block (answering "200" ++ five) true
    ∷ block (answering "204" ++ five) true ∷ data_of 0 false ∷ [])
    ≡ None ∷ Some BadOrder ∷ Some ConnectionField ∷ Some BadStatus ∷ Some BadStatus
    ∷ Some BadLength ∷ None ∷ Some BadOrder ∷ []
unfolding computing
of_responses = refl
