-- How the greatest payload decides what is written of an item.
use Rattle.std.specs.Prelude.{length, take, drop}
use Rattle.std.proofs.Common.{refl}
use Rattle.h2_block.specs.Spread.{encoding_of_frames}
use Rattle.h2_block.proofs.SpreadLemmas.{continuations-few, spread_frames-few, spread_frames-more}
use Rattle.h2_spec_log.proofs.Names
use Names.{◌≡◌, ℕ, true, false, List, [], ◌∷◌, ◌++◌, None, codes, ap, ◌∙◌, arith, Frame, Data}
use Names.{Headers, Settings, Continuation, encoding_of, Item, alone, block, Client, Server, Values}
use Names.{data_frames, payload_limit, output, opened, append-nil, length-drop, continuations}
use Names.{opening_pairs, changed_pairs, encoding_of_item, max_payload_sent_by}
use Rattle.h2_spec_log.proofs.Computing.{computing}
use Rattle.h2_spec_log.proofs.DataFrames.{frames_last}
use Rattle.h2_spec_log.proofs.examples.Octets.{octets}
use Rattle.h2_spec_log.proofs.examples.Words.{default_values}

-- what follows HEADERS
continuations_of : (octets : List ℕ) → length octets ≡ 20016
    → continuations 16384 (length octets) 1 (drop 16384 octets)
    ≡ Continuation 1 true (drop 16384 octets) ∷ []
continuations_of octets long =
    rw long (continuations-few 16384 20015 1 (drop 16384 octets)
    (omega (arith, long, length-drop 16384 octets)))

-- Where the greatest payload has 16,384 octets, a block of 20,016 octets is two frames (RFC 9113,
-- section 4.3).
-- rule: 4.3 A block is sent as contiguous HEADERS and CONTINUATION, each full but one
block_in_two : (octets : List ℕ) → length octets ≡ 20016
    → encoding_of_item 16384 (block 1 false octets)
    ≡ encoding_of (Headers 1 false false (take 16384 octets) None None)
    ++ encoding_of (Continuation 1 true (drop 16384 octets))
unfolding encoding_of_item
block_in_two octets long =
    ap encoding_of_frames (spread_frames-more 16384 1 false octets (omega (arith, long)))
    ∙ ap (λ (frames : List Frame). encoding_of_frames
    (Headers 1 false false (take 16384 octets) None None ∷ frames)) (continuations_of octets long)
    ∙ ap (λ (other : List ℕ). encoding_of (Headers 1 false false (take 16384 octets) None None)
    ++ other) (append-nil (encoding_of (Continuation 1 true (drop 16384 octets))))

-- Where it has 65,536, the block is one.
block_in_one : (octets : List ℕ) → length octets ≡ 20016
    → encoding_of_item 65536 (block 1 false octets)
    ≡ encoding_of (Headers 1 false true octets None None)
unfolding encoding_of_item
block_in_one octets long =
    ap encoding_of_frames (spread_frames-few 65536 1 false octets (omega (arith, long)))
    ∙ append-nil (encoding_of (Headers 1 false true octets None None))

-- So are 65,535 octets of a body.
body_in_one : (octets : List ℕ) → length octets ≡ 65535
    → data_frames 65536 65536 1 octets false ≡ alone (Data 1 false octets None) ∷ []
body_in_one octets long = frames_last 65535 65536 1 octets false (omega (arith, long))

-- A peer that reads more than 16,384 octets is sent as many, and 65,536 at most (RFC 9113, section
-- 4.2).
-- rule: 4.2 (own) Payloads of at most 65,536 octets are sent, where the peer reads them
peer_reads_more :
    (max_payload_sent_by [] ≡ 16384)
    × (max_payload_sent_by (alone (Settings false ((5, 16385) ∷ [])) ∷ []) ≡ 16385)
    × (max_payload_sent_by (alone (Settings false ((5, 65536) ∷ [])) ∷ []) ≡ 65536)
    × (max_payload_sent_by (alone (Settings false ((5, 65537) ∷ [])) ∷ []) ≡ 65536)
unfolding computing
peer_reads_more = (refl, refl, refl, refl)

-- The last value that was read counts.
peer_reads_less_again :
    max_payload_sent_by (alone (Settings false ((5, 20000) ∷ []))
    ∷ alone (Settings false ((5, 65536) ∷ [])) ∷ []) ≡ 20000
unfolding computing
peer_reads_less_again = refl

-- a server that reads frames of 1,048,576 octets
abbrev large_values : Values
large_values =
    record { table_limit = 4096; initial_window = 65535; max_streams = 100; max_frame = 1048576 }

-- It says so between its initial window and its greatest list.
-- rule: 6.5.2 (own) MAX_FRAME_SIZE is sent where it differs from the value sent last
opening_names_it :
    output (opened Server large_values)
    ≡ octets (codes "00001e 04 00 00000000 000100001000 000300000064 00040000ffff 000500100000" ++
    codes "000600010000")
unfolding computing
opening_names_it = refl

-- Where it stays what was written last it isn't named, also where that isn't the first value; where
-- it is another it is, also where that is the first value.
-- rule: 6.5.2 (own) MAX_FRAME_SIZE is sent where it differs from the value sent last
change_names_it :
    (changed_pairs Client 1048576 large_values ≡ (1, 4096) ∷ (4, 65535) ∷ [])
    × (changed_pairs Client 16384 large_values ≡ (1, 4096) ∷ (4, 65535) ∷ (5, 1048576) ∷ [])
    × (changed_pairs Client 1048576 default_values ≡ (1, 4096) ∷ (4, 65535) ∷ (5, 16384) ∷ [])
    × (changed_pairs Server 16384 default_values ≡ (1, 4096) ∷ (3, 100) ∷ (4, 65535) ∷ [])
unfolding computing
change_names_it = (refl, refl, refl, refl)

-- what was written: the opening, and then a change to the first value
abbrev large_opening : Item
large_opening = alone (Settings false (opening_pairs Server large_values))

abbrev smaller : Item
smaller = alone (Settings false (changed_pairs Server 1048576 default_values))

-- A greater value holds from the SETTINGS on, a lesser one once it is acknowledged (section 6.5.3).
-- rule: 4.2 The limit of an end is its greatest MAX_FRAME_SIZE of those in force
limit_in_force :
    (payload_limit 0 (large_opening ∷ []) ≡ 1048576)
    × (payload_limit 1 (large_opening ∷ []) ≡ 1048576)
    × (payload_limit 1 (smaller ∷ large_opening ∷ []) ≡ 1048576)
    × (payload_limit 2 (smaller ∷ large_opening ∷ []) ≡ 16384)
unfolding computing
limit_in_force = (refl, refl, refl, refl)

-- A change in mid-connection to a greater value, and one that names none.
-- rule: 4.2 The limit of an end is its greatest MAX_FRAME_SIZE of those in force
limit_after_changes :
    (payload_limit 1 (alone (Settings false (changed_pairs Server 16384 large_values))
    ∷ alone (Settings false (opening_pairs Server default_values)) ∷ []) ≡ 1048576)
    × (payload_limit 2 (alone (Settings false (changed_pairs Server 1048576 large_values))
    ∷ large_opening ∷ []) ≡ 1048576)
    × (payload_limit 0 (alone (Settings false (opening_pairs Client default_values)) ∷ [])
    ≡ 16384)
unfolding computing
limit_after_changes = (refl, refl, refl)
