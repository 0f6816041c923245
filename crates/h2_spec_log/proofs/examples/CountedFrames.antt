-- Frames that are counted, each beside one that just isn't.
use Rattle.h2_spec_log.specs.Counted.{resets_among, empty_among, pings_among}
use Rattle.h2_spec_log.specs.Counted.{settings_among, counted}
use Rattle.h2_spec_log.proofs.Names
use Names.{None, Some, [], false, map, refl, true, ◌∷◌, ◌≡◌, List, ℕ, Frame, Data, Headers, Reset}
use Names.{Continuation, Ping, Priority, Settings}

-- RST_STREAM, with whatever code, and no other frame.
-- rule: 10.5 (own) Frames that cost a peer little are counted
resets_are_counted :
    resets_among (Reset 1 8 ∷ Data 1 false [] None ∷ Reset 3 0 ∷ Ping false [] ∷ Reset 1 8 ∷ [])
    ≡ 3
resets_are_counted = refl

-- DATA, HEADERS and CONTINUATION with nothing but padding and a priority, on which something still
-- follows; not those with an octet, with END_STREAM of DATA or with END_HEADERS of a block.
-- rule (best): 10.5 (own) Frames that cost a peer little are counted
empty_frames_are_counted :
    (empty_among (Data 1 false [] None ∷ Data 1 false [] (Some 255)
    ∷ Headers 1 false false [] None None ∷ Headers 1 true false [] (Some 4) (Some [])
    ∷ Continuation 1 false [] ∷ [])
    ≡ 5)
    × (empty_among (Data 1 true [] None ∷ Data 1 false (0 ∷ []) None
    ∷ Headers 1 false true [] None None ∷ Headers 1 false false (130 ∷ []) None None
    ∷ Continuation 1 true [] ∷ Continuation 1 false (130 ∷ []) ∷ Settings false [] ∷ Reset 1 8
    ∷ [])
    ≡ 0)
empty_frames_are_counted = (refl, refl)

-- PING and SETTINGS that are to be answered, with whatever they say, and no answers.
-- rule: 10.5 (own) Frames that cost a peer little are counted
frames_to_answer_are_counted :
    let frames : List Frame = Settings false [] ∷ Ping false [] ∷ Settings true [] ∷ Ping true []
    ∷ Settings false [] ∷ Ping false [] ∷ Ping false [] ∷ Reset 1 8 ∷ [] in
    (pings_among frames ≡ 3) × (settings_among frames ≡ 2)
frames_to_answer_are_counted = (refl, refl)

-- The greatest number of 32 bits isn't passed.
counted_to_the_greatest :
    map counted (0 ∷ 4294967294 ∷ 4294967295 ∷ 4294967296 ∷ [])
    ≡ 0 ∷ 4294967294 ∷ 4294967295 ∷ 4294967295 ∷ []
counted_to_the_greatest = refl
