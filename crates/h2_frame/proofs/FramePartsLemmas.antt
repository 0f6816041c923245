-- Frames as they are written: the octets of pairs, refusals, and the octets of parts.
use Rattle.std.proofs.Common.{◌≡◌, ℕ, zero, suc, ◌+◌, ◌*◌, ◌/◌, ◌%◌, ◌^◌, ◌<◌, ◌≤◌, true, false}
use Rattle.std.proofs.Common.{nat_lt, ◌&&◌, List, [], ◌∷◌, ◌++◌, length, get_or, take, drop}
use Rattle.std.proofs.Common.{flat_map, Some, None, Bor, refl, sym, ap, ◌∙◌, subst, arith}
use Rattle.std.proofs.Common.{length-drop}
use Rattle.std.proofs.Math.Seq.{take-add}
use Rattle.std.proofs.lemmas.Bool.Decides.{nat_tests}
use Rattle.std.proofs.lemmas.List.{get_or-drop, take_more}
use Rattle.byteorder.specs.Numbers.{big_from-lt}
use Rattle.h2_frame.specs.declared.owned.Unwritable.TheVariants.{TooLong, BadStream, BadValue}
use Rattle.h2_frame.specs.declared.frame_parts.Body.{Body}
use Rattle.h2_frame.specs.declared.frame_parts.Body.TheVariants.{Pairs}
use Rattle.h2_frame.specs.declared.frame_parts.FrameParts.{FrameParts}
use Rattle.h2_frame.specs.Heads.{fits_stream, head_octets}
use Rattle.h2_frame.specs.Frames.{Frame}
use Rattle.h2_frame.specs.Pairs.{first_pair, pairs_in, pairs_of}
use Rattle.h2_frame.specs.Encoding.{pair_octets, payload_of, stream_of, kind_of_frame}
use Rattle.h2_frame.specs.Encoding.{has_good_values, refusal, encoding_of}
use Rattle.h2_frame.specs.FrameParts.{ArePairs, body_octets, payload_octets, Describes}

-- each pair has six octets
pub length-pair_octets : (pairs : List (ℕ × ℕ))
    → length (flat_map pair_octets pairs) ≡ 6 * length pairs
length-pair_octets [] = refl
length-pair_octets (pair ∷ pairs) = let rest = length-pair_octets pairs in omega (arith, rest)

-- and so has each of a body
pub length-body_pairs : (body : Body) (pairs : Bor (List (ℕ × ℕ))) → body ≡ Pairs pairs
    → length (body_octets body) ≡ 6 * length pairs.now
length-body_pairs body pairs is = rw is (length-pair_octets pairs.now)

-- The octets of the pair that six octets encode are these six.
pair_octets-first : (octets : List ℕ) → 6 ≤ length octets → ((k : ℕ) → get_or octets k 0 < 256)
    → pair_octets (first_pair octets) ≡ take 6 octets
pair_octets-first [] enough small = absurd (omega arith)
pair_octets-first (a ∷ []) enough small = absurd (omega arith)
pair_octets-first (a ∷ b ∷ []) enough small = absurd (omega arith)
pair_octets-first (a ∷ b ∷ c ∷ []) enough small = absurd (omega arith)
pair_octets-first (a ∷ b ∷ c ∷ d ∷ []) enough small = absurd (omega arith)
pair_octets-first (a ∷ b ∷ c ∷ d ∷ e ∷ []) enough small = absurd (omega arith)
pair_octets-first (a ∷ b ∷ c ∷ d ∷ e ∷ f ∷ rest) enough small =
    let ha : a < 256 = small 0 in
    let hb : b < 256 = small 1 in
    let hc : c < 256 = small 2 in
    let hd : d < 256 = small 3 in
    let he : e < 256 = small 4 in
    let hf : f < 256 = small 5 in
    let e0 : (a * 256 + (b * 1 + 0)) / 256 % 256 ≡ a = omega arith in
    let e1 : (a * 256 + (b * 1 + 0)) % 256 ≡ b = omega arith in
    let e2 : (c * 16777216 + (d * 65536 + (e * 256 + (f * 1 + 0)))) / 16777216 % 256 ≡ c =
    omega arith in
    let e3 : (c * 16777216 + (d * 65536 + (e * 256 + (f * 1 + 0)))) / 65536 % 256 ≡ d =
    omega arith in
    let e4 : (c * 16777216 + (d * 65536 + (e * 256 + (f * 1 + 0)))) / 256 % 256 ≡ e = omega arith in
    let e5 : (c * 16777216 + (d * 65536 + (e * 256 + (f * 1 + 0)))) % 256 ≡ f = omega arith in
    rw (e0, e1, e2, e3, e4, e5) refl

-- The octets of the pairs that octets encode are these octets.
pair_octets-pairs_in : (count : ℕ) (octets : List ℕ) → 6 * count ≤ length octets
    → ((k : ℕ) → get_or octets k 0 < 256)
    → flat_map pair_octets (pairs_in count octets) ≡ take (6 * count) octets
unfolding pairs_in
pair_octets-pairs_in zero octets enough small = refl
pair_octets-pairs_in (suc count) octets enough small =
    let first = pair_octets-first octets (omega arith) small in
    let left : 6 * count ≤ length (drop 6 octets) = simp length-drop (omega arith) in
    let rest = pair_octets-pairs_in count (drop 6 octets) left
    (λ k. rw get_or-drop (small (6 + k))) in
    let split : 6 * suc count ≡ 6 + 6 * count = omega arith in
    ap (λ (xs : List ℕ). xs ++ flat_map pair_octets (pairs_in count (drop 6 octets))) first
    ∙ (ap (λ (xs : List ℕ). take 6 octets ++ xs) rest ∙ sym (take-add 6 (6 * count) octets)
    ∙ ap (λ (n : ℕ). take n octets) (sym split))

-- the same of all pairs
pub pair_octets-pairs_of : (octets : List ℕ) → ((k : ℕ) → get_or octets k 0 < 256)
    → take (length octets / 6 * 6) octets ≡ flat_map pair_octets (pairs_of octets)
pair_octets-pairs_of octets small =
    let swap : length octets / 6 * 6 ≡ 6 * (length octets / 6) = omega arith in
    rw swap (sym (pair_octets-pairs_in (length octets / 6) octets (omega arith) small))

-- The pairs that octets encode have 16 and 32 bits.
pub pairs_in-typed : (count : ℕ) (octets : List ℕ) → ((k : ℕ) → get_or octets k 0 < 256)
    → ArePairs (pairs_in count octets)
unfolding pairs_in
pairs_in-typed zero octets small = tt
pairs_in-typed (suc count) octets small = (
  (
    big_from-lt 0 2 octets small,
    big_from-lt 0 4 (drop 2 octets) (λ k. rw get_or-drop (small (2 + k))),
  ),
  pairs_in-typed count (drop 6 octets) (λ k. rw get_or-drop (small (6 + k))),
)

ArePairs-push : (pairs : List (ℕ × ℕ)) (pair : ℕ × ℕ) → ArePairs pairs → pair.0 < 2 ^ 16
    → pair.1 < 2 ^ 32 → ArePairs (pairs ++ pair ∷ [])
ArePairs-push [] pair are id value = ((id, value), tt)
ArePairs-push (first ∷ pairs) pair are id value = (are.0, ArePairs-push pairs pair are.1 id value)

-- one pair more that has them
pub ArePairs-more : (pairs : List (ℕ × ℕ)) (i : ℕ) → i < length pairs → ArePairs (take i pairs)
    → (get_or pairs i (0, 0)).0 < 2 ^ 16 → (get_or pairs i (0, 0)).1 < 2 ^ 32
    → ArePairs (take (i + 1) pairs)
ArePairs-more pairs i within are id value =
    subst ArePairs (sym (take_more pairs i (0, 0) within))
    (ArePairs-push (take i pairs) (get_or pairs i (0, 0)) are id value)

-- The first refusal of a frame, by its parts: a payload that is too long.
pub refusal-too_long : (parts : FrameParts) (frame : Frame) → Describes parts frame
    → 16777215 < length (payload_octets parts) → refusal frame ≡ Some TooLong
unfolding refusal
refusal-too_long parts frame described long =
    let counted : length (payload_octets parts) ≡ length (payload_of frame) =
    ap (λ (xs : List ℕ). length xs) described.payload in
    let test : nat_lt 16777215 (length (payload_of frame)) ≡ true = grind (arith, nat_tests) in
    rw test refl

-- Then a stream that isn't one for the kind, or is above 31 bits.
pub refusal-bad_stream : (parts : FrameParts) (frame : Frame) → Describes parts frame
    → length (payload_octets parts) ≤ 16777215
    → (nat_lt parts.stream (2 ^ 31) && fits_stream parts.kind parts.stream) ≡ false
    → refusal frame ≡ Some BadStream
unfolding refusal
refusal-bad_stream parts frame described short bad =
    let counted : length (payload_octets parts) ≡ length (payload_of frame) =
    ap (λ (xs : List ℕ). length xs) described.payload in
    let test : nat_lt 16777215 (length (payload_of frame)) ≡ false = grind (arith, nat_tests) in
    let moved : (nat_lt (stream_of frame) (2 ^ 31)
    && fits_stream (kind_of_frame frame) (stream_of frame))
    ≡ false = rw (described.stream, described.kind) at bad in
    rw (test, moved) refl

-- Then a value.
pub refusal-bad_value : (parts : FrameParts) (frame : Frame) → Describes parts frame
    → length (payload_octets parts) ≤ 16777215
    → (nat_lt parts.stream (2 ^ 31) && fits_stream parts.kind parts.stream) ≡ true
    → parts.has_good_values ≡ false → refusal frame ≡ Some BadValue
unfolding refusal
refusal-bad_value parts frame described short good bad =
    let counted : length (payload_octets parts) ≡ length (payload_of frame) =
    ap (λ (xs : List ℕ). length xs) described.payload in
    let test : nat_lt 16777215 (length (payload_of frame)) ≡ false = grind (arith, nat_tests) in
    let moved : (nat_lt (stream_of frame) (2 ^ 31)
    && fits_stream (kind_of_frame frame) (stream_of frame))
    ≡ true = rw (described.stream, described.kind) at good in
    let value : has_good_values frame ≡ false = sym described.values ∙ bad in
    rw (test, moved, value) refl

-- And else there is none.
pub refusal-none : (parts : FrameParts) (frame : Frame) → Describes parts frame
    → length (payload_octets parts) ≤ 16777215
    → (nat_lt parts.stream (2 ^ 31) && fits_stream parts.kind parts.stream) ≡ true
    → parts.has_good_values ≡ true → refusal frame ≡ None
unfolding refusal
refusal-none parts frame described short good values =
    let counted : length (payload_octets parts) ≡ length (payload_of frame) =
    ap (λ (xs : List ℕ). length xs) described.payload in
    let test : nat_lt 16777215 (length (payload_of frame)) ≡ false = grind (arith, nat_tests) in
    let moved : (nat_lt (stream_of frame) (2 ^ 31)
    && fits_stream (kind_of_frame frame) (stream_of frame))
    ≡ true = rw (described.stream, described.kind) at good in
    let value : has_good_values frame ≡ true = sym described.values ∙ values in
    rw (test, moved, value) refl

-- the octets of a head and of a payload, by the parts, are those that are written
pub encoding_of-parts : (parts : FrameParts) (frame : Frame) (count : ℕ) → Describes parts frame
    → count ≡ length (payload_octets parts)
    → head_octets parts.kind parts.flags parts.stream count ++ payload_octets parts
    ≡ encoding_of frame
unfolding encoding_of
encoding_of-parts parts frame count described counted =
    rw (counted, described.payload, described.kind, described.flags, described.stream) refl

-- a head has nine octets
pub length-encoding_of : (frame : Frame)
    → length (encoding_of frame) ≡ 9 + length (payload_of frame)
unfolding encoding_of
length-encoding_of frame = omega arith

-- how many octets are written of parts
pub length-encoding_of_parts : (parts : FrameParts) (frame : Frame) (count : ℕ)
    → Describes parts frame → count ≡ length (payload_octets parts)
    → length (encoding_of frame) ≡ 9 + count
length-encoding_of_parts parts frame count described counted =
    let same : length (payload_octets parts) ≡ length (payload_of frame) =
    ap (λ (xs : List ℕ). length xs) described.payload in
    omega (arith, length-encoding_of frame)
