-- The encodings of the frames that are written here without `write_ref`, or without a check.
use Rattle.std.proofs.Common.{◌≡◌, ℕ, ◌<◌, ◌^◌, Bool, true, false, List, [], ◌++◌, length, None}
use Rattle.std.proofs.Common.{refl, nat_lt, arith}
use Rattle.std.proofs.lemmas.Bool.Decides.{nat_tests}
use Rattle.std.specs.Int.{from_bool}
use Rattle.h2_frame.specs.declared.kind.Kind.TheVariants as kinds
use Rattle.h2_frame.specs.Frames.{Data, GoAway, WindowUpdate}
use Rattle.h2_frame.specs.Heads.{head_octets, fits_stream}
use Rattle.h2_frame.specs.Encoding.{encoding_of, kind_of_frame, flags_of, stream_of, payload_of}
use Rattle.h2_frame.specs.Encoding.{has_good_values, refusal}

-- GOAWAY without debug octets has 17 octets.
pub length-goaway : (last code : ℕ) → length (encoding_of (GoAway last code [])) ≡ 17
unfolding encoding_of kind_of_frame flags_of stream_of payload_of
length-goaway last code = refl

-- GOAWAY can be written where its stream's number has 31 bits.
pub goaway-written : (last code : ℕ) → last < 2 ^ 31 → refusal (GoAway last code []) ≡ None
unfolding refusal kind_of_frame flags_of stream_of payload_of has_good_values fits_stream
goaway-written last code number =
    let test : nat_lt last (2 ^ 31) ≡ true = grind (arith, nat_tests) in rw test refl

-- DATA without padding is its head, and then its octets.
pub data-head : (stream count : ℕ) (end : Bool) (octets : List ℕ) → length octets ≡ count
    → head_octets kinds.Data (from_bool end) stream count ++ octets
    ≡ encoding_of (Data stream end octets None)
unfolding encoding_of kind_of_frame flags_of stream_of payload_of
data-head stream count true octets same = rw (← same) refl
data-head stream count false octets same = rw (← same) refl

-- WINDOW_UPDATE is its head, and then its increment in four octets.
pub window-update : (stream increment : ℕ)
    → head_octets kinds.WindowUpdate 0 stream 4 ++ payload_of (WindowUpdate stream increment)
    ≡ encoding_of (WindowUpdate stream increment)
unfolding encoding_of kind_of_frame flags_of stream_of payload_of
window-update stream increment = refl

pub length-update : (stream increment : ℕ)
    → length (encoding_of (WindowUpdate stream increment)) ≡ 13
unfolding encoding_of kind_of_frame flags_of stream_of payload_of
length-update stream increment = refl
