-- What a reading is after the parts of messages, in the order in which they come.
use Rattle.h2_message.proofs.Names.{Field, Reads, Requests, Responses, Phase, AtHead, InBody, AtEnd}
use Rattle.h2_message.proofs.Names.{Part, FieldsPart, OctetsPart, phase_after_all, place_after}
use Rattle.h2_message.proofs.Names.{asks_head_first, ends_message}
use Rattle.std.specs.Prelude.{ℕ, Bool, true, false, List, [], ◌∷◌, ◌++◌, map, replicate, Option}
use Rattle.std.specs.Prelude.{Some, None, ◌≡◌, refl}
use Rattle.h2_message.specs.declared.reading.Place.TheVariants as places
use Rattle.h2_message.proofs.examples.Words.{computing, field, r, asking, answering, body_of}

-- a field block and DATA of so many octets, with END_STREAM or not
abbrev pub block : List Field → Bool → Part × Bool
block list end = (FieldsPart list, end)

abbrev pub data_of : ℕ → Bool → Part × Bool
data_of count end = (OctetsPart (body_of count), end)

-- the phases after each of these lists of parts
abbrev pub phases : Reads → List (List (Part × Bool)) → List (Option Phase)
phases reads lists = map (λ parts. phase_after_all reads (Some AtHead) parts) lists

-- a `content-length` of 5, and a trailer
abbrev pub five : List Field
five = field "content-length" "5" ∷ []

abbrev pub trailer : List Field
trailer = field "x" "y" ∷ []

-- A request: its head, DATA, and a block with END_STREAM.
requests :
    (phases Requests (
    [] ∷ (block r true ∷ []) ∷ (block r false ∷ []) ∷ (block (r ++ five) false ∷ [])
    ∷ (block (r ++ field "content-length" "0" ∷ []) true ∷ [])
    ∷ (block r false ∷ data_of 3 false ∷ data_of 0 true ∷ [])
    ∷ (block r false ∷ data_of 3 false ∷ block trailer true ∷ [])
    ∷ (block r false ∷ block [] true ∷ []) ∷ [])
    ≡ Some AtHead ∷ Some AtEnd ∷ Some (InBody None) ∷ Some (InBody (Some 5)) ∷ Some AtEnd
    ∷ Some AtEnd ∷ Some AtEnd ∷ Some AtEnd ∷ [])
    × (phases Requests (
    (data_of 0 false ∷ []) ∷ (data_of 3 true ∷ [])
    ∷ (block r false ∷ block trailer false ∷ [])
    ∷ (block r true ∷ block [] true ∷ []) ∷ (block r true ∷ data_of 0 true ∷ [])
    ∷ (block r false ∷ block r true ∷ [])
    ∷ (block r false ∷ block (field "connection" "close" ∷ []) true ∷ [])
    ∷ (block (asking "CONNECT" "/") true ∷ []) ∷ (block (answering "200") true ∷ [])
    ∷ (block (answering "103") false ∷ []) ∷ [])
    ≡ replicate 10 None)
unfolding computing
requests = (refl, refl)

-- The sum of the lengths of DATA is the declared one (M11): one octet more is told at once, one
-- less at the end.
lengths :
    (phases Requests (
    (block (r ++ five) false ∷ data_of 4 false ∷ [])
    ∷ (block (r ++ five) false ∷ data_of 5 false ∷ data_of 0 false ∷ [])
    ∷ (block (r ++ five) false ∷ data_of 4 false ∷ data_of 1 true ∷ [])
    ∷ (block (r ++ five) false ∷ data_of 5 false ∷ block trailer true ∷ [])
    ∷ (block (r ++ five ++ field "content-length" "05" ∷ []) false ∷ data_of 5 true ∷ []) ∷ [])
    ≡ Some (InBody (Some 1)) ∷ Some (InBody (Some 0)) ∷ Some AtEnd ∷ Some AtEnd ∷ Some AtEnd
    ∷ [])
    × (phases Requests (
    (block (r ++ five) true ∷ []) ∷ (block (r ++ five) false ∷ data_of 4 true ∷ [])
    ∷ (block (r ++ five) false ∷ data_of 6 false ∷ [])
    ∷ (block (r ++ five) false ∷ data_of 5 false ∷ data_of 1 false ∷ [])
    ∷ (block (r ++ five) false ∷ data_of 4 false ∷ block trailer true ∷ [])
    ∷ (block (r ++ field "content-length" "0" ∷ []) false ∷ data_of 1 true ∷ [])
    ∷ (block (r ++ field "content-length" "x" ∷ []) false ∷ [])
    ∷ (block (r ++ five ++ field "content-length" "6" ∷ []) false ∷ []) ∷ [])
    ≡ replicate 8 None)
unfolding computing
lengths = (refl, refl)

-- Interim responses come before the final one, without END_STREAM (M12); their `content-length`
-- says nothing.
-- rule: 8.1 Interim responses come before the final head, without END_STREAM
interim_responses :
    (phases (Responses false) (
    (block (answering "103") false ∷ []) ∷ (block (answering "100" ++ five) false ∷ [])
    ∷ (block (answering "103" ++ field "content-length" "x" ∷ []) false ∷ [])
    ∷ (block (answering "103") false ∷ block (answering "199") false
    ∷ block (answering "200") true ∷ []) ∷ [])
    ≡ Some AtHead ∷ Some AtHead ∷ Some AtHead ∷ Some AtEnd ∷ [])
    × (phases (Responses false) (
    (block (answering "103") true ∷ []) ∷ (block (answering "101") false ∷ [])
    ∷ (block (answering "1000") false ∷ []) ∷ (block (answering "1") false ∷ [])
    ∷ (block (answering "103") false ∷ data_of 0 false ∷ [])
    ∷ (block (answering "103" ++ field "A" "x" ∷ []) false ∷ [])
    ∷ (block (answering "103" ++ field "te" "x" ∷ []) false ∷ [])
    ∷ (block (answering "103" ++ field ":path" "/" ∷ []) false ∷ [])
    ∷ (block (answering "103" ++ answering "103") false ∷ [])
    ∷ (block (answering "200") false ∷ block (answering "103") false ∷ []) ∷ [])
    ≡ replicate 10 None)
unfolding computing
interim_responses = (refl, refl)

-- In an answer to HEAD, in 204 and in 304 the length isn't compared, and its text is looked at.
without_content :
    (phases (Responses true) (
    (block (answering "200" ++ five) true ∷ [])
    ∷ (block (answering "200" ++ five) false ∷ data_of 6 true ∷ []) ∷ [])
    ≡ replicate 2 (Some AtEnd))
    × (phases (Responses false) (
    (block (answering "204" ++ five) true ∷ []) ∷ (block (answering "304" ++ five) true ∷ [])
    ∷ (block (answering "304" ++ five) false ∷ data_of 6 true ∷ []) ∷ [])
    ≡ replicate 3 (Some AtEnd))
    × (phases (Responses false) (
    (block (answering "200" ++ five) true ∷ []) ∷ (block (answering "205" ++ five) true ∷ [])
    ∷ (block (answering "204" ++ field "content-length" "x" ∷ []) true ∷ []) ∷ [])
    ≡ replicate 3 None)
unfolding computing
without_content = (refl, refl, refl)

-- Which part of a message a field block is.
parts_of_messages :
    (place_after Requests [] r ≡ places.Head)
    × (place_after Requests (block r false ∷ data_of 3 false ∷ []) trailer ≡ places.Trailers)
    × (place_after (Responses false) [] (answering "103") ≡ places.Interim)
    × (place_after (Responses false) [] (answering "200") ≡ places.Head)
    × (place_after (Responses true) (block (answering "103") false ∷ []) (answering "100")
    ≡ places.Interim)
    × (place_after (Responses false) (block (answering "200") false ∷ []) trailer
    ≡ places.Trailers)
unfolding computing
parts_of_messages = (refl, refl, refl, refl, refl, refl)

-- A request asks with HEAD by its head alone, and is over with END_STREAM.
heads_and_ends :
    (map asks_head_first (
    (block (asking "HEAD" "/") true ∷ []) ∷ (block (asking "HEAD" "/") false ∷ data_of 1 true ∷ [])
    ∷ [])
    ≡ replicate 2 true)
    × (map asks_head_first (
    [] ∷ (block (asking "GET" "/") true ∷ []) ∷ (block (asking "head" "/") true ∷ [])
    ∷ (block (asking "GET" "/") false ∷ block (asking "HEAD" "/") true ∷ []) ∷ [])
    ≡ replicate 4 false)
    × (map ends_message (
    [] ∷ (block r false ∷ []) ∷ (block r true ∷ []) ∷ (block r false ∷ data_of 1 true ∷ [])
    ∷ (block r false ∷ data_of 1 false ∷ []) ∷ [])
    ≡ false ∷ false ∷ true ∷ true ∷ false ∷ [])
unfolding computing
heads_and_ends = (refl, refl, refl)
