-- Short frames that an end writes: they can be written, how long they are, and their octets as
-- those of an item.
use Rattle.h2_core.proofs.Names.{◌≡◌, ℕ, ◌<◌, ◌≤◌, ◌^◌, List, [], ◌∷◌, length, None, refl, Bool}
use Rattle.h2_core.proofs.Names.{true, arith, rules, nat_tests, Frame, Ping, WindowUpdate, alone}
use Rattle.h2_core.proofs.Names.{fits_stream, encoding_of, kind_of_frame, flags_of, stream_of}
use Rattle.h2_core.proofs.Names.{payload_of, has_good_values, refusal, encoding_of_item}
use Rattle.h2_core.proofs.Names.{encoding_of_items}
use Rattle.std.proofs.Common.{nat_lt}
use Rattle.h2_frame.specs.Frames.{Reset}
pub use Rattle.h2_output.proofs.EncodingLemmas.{length-update}

-- A frame as the one item has its octets.
pub one-item : (most : ℕ) (frame : Frame)
    → encoding_of_items most (alone frame ∷ []) ≡ encoding_of frame
unfolding encoding_of_items encoding_of_item
one-item most frame = refl

-- WINDOW_UPDATE.
pub update-written : (stream increment : ℕ) → stream < 2 ^ 31 → increment < 2 ^ 31
    → refusal (WindowUpdate stream increment) ≡ None
unfolding refusal kind_of_frame flags_of stream_of payload_of has_good_values fits_stream
update-written stream increment number small =
    let first : nat_lt stream (2 ^ 31) ≡ true = grind (arith, nat_tests) in
    let second : nat_lt increment (2 ^ 31) ≡ true = grind (arith, nat_tests) in
    rw (first, second) refl

-- RST_STREAM.
pub reset-written : (stream code : ℕ) → 1 ≤ stream → stream < 2 ^ 31
    → refusal (Reset stream code) ≡ None
unfolding refusal kind_of_frame flags_of stream_of payload_of has_good_values fits_stream
reset-written stream code positive number =
    let first : nat_lt stream (2 ^ 31) ≡ true = grind (arith, nat_tests) in
    let second : nat_lt 0 stream ≡ true = grind (arith, nat_tests) in
    rw first (search rules)

pub length-reset : (stream code : ℕ) → length (encoding_of (Reset stream code)) ≡ 13
unfolding encoding_of kind_of_frame flags_of stream_of payload_of
length-reset stream code = refl

-- PING.
pub ping-written : (ack : Bool) (octets : List ℕ) → length octets ≡ 8
    → refusal (Ping ack octets) ≡ None
unfolding refusal kind_of_frame flags_of stream_of payload_of has_good_values fits_stream
ping-written ack octets eight = rw eight refl

pub length-ping : (ack : Bool) (octets : List ℕ) → length octets ≡ 8
    → length (encoding_of (Ping ack octets)) ≡ 17
unfolding encoding_of kind_of_frame flags_of stream_of payload_of
length-ping ack octets eight = omega (arith, eight)
