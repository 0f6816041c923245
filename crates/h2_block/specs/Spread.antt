-- A field block spread over frames (RFC 9113, section 4.3), each full but the last. `most` is the
-- greatest payload in force as the block is written; it is at least 1.
use Rattle.std.specs.Prelude.{ℕ, zero, suc, nat_le, Bool, true, false, if◌then◌else◌, List, [], ◌∷◌}
use Rattle.std.specs.Prelude.{length, take, drop, flat_map, None}
use Rattle.h2_frame.specs.Frames.{Frame, Headers, Continuation}
use Rattle.h2_frame.specs.Encoding.{encoding_of}

-- The CONTINUATIONs of the octets: each is full but the last, which ends the block. `count` is how
-- many there may be; as many as octets, and one, are always enough.
-- rule: 4.3 Of the frames of a block that is sent the last has END_HEADERS
unfoldable pub continuations : (most count stream : ℕ) → List ℕ → List Frame
continuations most zero stream octets = []
continuations most (suc count) stream octets =
    if nat_le (length octets) most then Continuation stream true octets ∷ []
    else Continuation stream false (take most octets)
    ∷ continuations most count stream (drop most octets)

-- The frames of a block: HEADERS alone where the octets fit it, otherwise full HEADERS and
-- CONTINUATIONs. An empty block is one empty HEADERS.
-- rule: 4.3 A block is sent as contiguous HEADERS and CONTINUATION, each full but one
-- rule: 4.3 END_STREAM of a block is that of its HEADERS
-- rule: 4.3 Of the frames of a block that is sent the last has END_HEADERS
unfoldable pub spread_frames : (most stream : ℕ) → Bool → List ℕ → List Frame
spread_frames most stream end octets =
    if nat_le (length octets) most then Headers stream end true octets None None ∷ []
    else Headers stream end false (take most octets) None None
    ∷ continuations most (length octets) stream (drop most octets)

-- the octets of frames, one after another
-- rule: 4.3 (own) Room for all frames of a block is reserved before the first
abbrev pub encoding_of_frames : List Frame → List ℕ
encoding_of_frames frames = flat_map encoding_of frames
