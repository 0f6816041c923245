-- The definitions, computed on examples.
use Rattle.std.specs.Prelude.{◌≡◌, ℕ, true, false, List, [], ◌∷◌, length, take, drop, None, Some}
use Rattle.std.proofs.Common.{refl, ap, ◌∙◌, arith, length-drop}
use Rattle.h2_frame.specs.Frames.{Frame, Data, Headers, Ping, Continuation, Unknown}
use Rattle.h2_block.specs.declared.fault.BlockFault.TheVariants.{Interrupted, Stray, TooLong}
use Rattle.h2_block.specs.Grouping.{block, Begun, is_standalone, fault_outside, fault_inside}
use Rattle.h2_block.specs.Grouping.{next_fault, Groups}
use Rattle.h2_block.specs.Spread.{continuations, spread_frames}
use Rattle.h2_block.proofs.GroupLemmas.{Groups-step}
use Rattle.h2_block.proofs.SpreadLemmas.{continuations-few, spread_frames-more}

-- opens all that computes
unfoldable computing : Unit {0}
unfolding is_standalone fault_outside fault_inside continuations spread_frames
computing = tt

-- a block of stream 1 that has begun with the octet 82
begun_example : Begun
begun_example = record { stream = 1; end = false; octets = 0x82 ∷ [] }

-- an empty block is one empty HEADERS that ends it
spread_none : spread_frames 16384 1 true [] ≡ Headers 1 true true [] None None ∷ []
unfolding computing
spread_none = refl

-- a small one is one HEADERS with all of it
spread_small : spread_frames 16384 3 false (0x82 ∷ 0x86 ∷ [])
    ≡ Headers 3 false true (0x82 ∷ 0x86 ∷ []) None None ∷ []
unfolding computing
spread_small = refl

-- 20,016 octets are two frames where payloads of 16,384 octets are the greatest
spread_in_two : (octets : List ℕ) → length octets ≡ 20016
    → spread_frames 16384 1 false octets
    ≡ Headers 1 false false (take 16384 octets) None None
    ∷ Continuation 1 true (drop 16384 octets) ∷ []
spread_in_two octets long =
    spread_frames-more 16384 1 false octets (omega (arith, long))
    ∙ ap (λ (frames : List Frame). Headers 1 false false (take 16384 octets) None None ∷ frames)
    (rw long (continuations-few 16384 20015 1 (drop 16384 octets)
    (omega (arith, long, length-drop 16384 octets))))

-- and one where 65,536 octets are
spread_in_one : (octets : List ℕ) → length octets ≡ 20016
    → spread_frames 65536 1 false octets ≡ Headers 1 false true octets None None ∷ []
unfolding computing
spread_in_one octets long = rw long refl

-- HEADERS, and a CONTINUATION that ends the block
block_example : Groups (Headers 1 false false (0x82 ∷ []) None None
    ∷ Continuation 1 true (0x86 ∷ 0x84 ∷ []) ∷ [])
    (block 1 false (0x82 ∷ 0x86 ∷ 0x84 ∷ []) ∷ []) None
unfolding computing
block_example =
    let none : Groups [] [] None =
    record { complete = []; left = []; joined = refl; grouped = refl; unfinished = refl } in
    Groups-step _ _ (Some (record { stream = 1; end = false; octets = 0x82 ∷ [] }))
    (Continuation 1 true (0x86 ∷ 0x84 ∷ []))
    (Groups-step [] [] None (Headers 1 false false (0x82 ∷ []) None None) none refl) refl

-- a CONTINUATION outside blocks is stray
stray_example : next_fault None (Continuation 1 true []) ≡ Some Stray
unfolding computing
stray_example = refl

-- DATA outside blocks is no fault
data_example : next_fault None (Data 1 true (0x00 ∷ []) None) ≡ None
unfolding computing
data_example = refl

-- PING inside a block interrupts it
ping_example : next_fault (Some begun_example) (Ping false (0 ∷ 0 ∷ 0 ∷ 0 ∷ 0 ∷ 0 ∷ 0 ∷ 0 ∷ []))
    ≡ Some Interrupted
unfolding computing
ping_example = refl

-- so does a frame of an unknown kind
-- rule: 5.5 A frame of an unknown type inside a block is PROTOCOL_ERROR
unknown_example : next_fault (Some begun_example) (Unknown 0x42 0 1 []) ≡ Some Interrupted
unfolding computing
unknown_example = refl

-- and other HEADERS, of the same stream too
headers_example : next_fault (Some begun_example) (Headers 1 false true [] None None)
    ≡ Some Interrupted
unfolding computing
headers_example = refl

-- and a CONTINUATION of another stream
other_stream_example : next_fault (Some begun_example) (Continuation 3 true []) ≡ Some Interrupted
unfolding computing begun_example
other_stream_example = refl

-- a CONTINUATION of its stream is no fault
same_stream_example : next_fault (Some begun_example) (Continuation 1 false (0x86 ∷ [])) ≡ None
unfolding computing begun_example
same_stream_example = refl

-- 65,553 octets are too long, and 65,552 are not, in HEADERS and with a CONTINUATION
too_long_example : (fragment : List ℕ) → length fragment ≡ 65553
    → next_fault None (Headers 1 false true fragment None None) ≡ Some TooLong
unfolding computing
too_long_example fragment long = rw long refl

longest_example : (fragment : List ℕ) → length fragment ≡ 65552
    → next_fault None (Headers 1 false true fragment None None) ≡ None
unfolding computing
longest_example fragment long = rw long refl

too_long_after_example : (octets fragment : List ℕ) → length octets ≡ 65536 → length fragment ≡ 17
    → next_fault (Some (record { stream = 1; end = false; octets = octets }))
    (Continuation 1 true fragment) ≡ Some TooLong
unfolding computing
too_long_after_example octets fragment held long = rw (held, long) refl

longest_after_example : (octets fragment : List ℕ) → length octets ≡ 65536 → length fragment ≡ 16
    → next_fault (Some (record { stream = 1; end = false; octets = octets }))
    (Continuation 1 true fragment) ≡ None
unfolding computing
longest_after_example octets fragment held long = rw (held, long) refl
