-- What octets are hashed to. No public contract rests on it: nothing but the encoder's speed
-- depends on which numbers these are.
use Rattle.std.specs.Prelude.{ℕ, zero, suc, ◌+◌, ◌-◌, ◌*◌, ◌/◌, ◌%◌, ◌^◌, nat_lt, if◌then◌else◌}
use Rattle.std.specs.Prelude.{List, length, take, drop, fold}
use Rattle.std.specs.Prelude.{bit_xor}
use Rattle.std.specs.Int.{w32, w64, rotate_left, from_le_bytes}

-- a product of 64 bits, whose high half is mixed into the low one
abbrev pub folded : ℕ → ℕ
folded product = bit_xor product (product / 2 ^ 32)

-- a hash and one word more
unfoldable pub mixed : ℕ → ℕ → ℕ
mixed hash word = folded ((bit_xor hash word * 0xE085CD84E9EA6675) % 2 ^ 64)

-- a hash and words more, of eight octets each
unfoldable pub hash_words : ℕ → ℕ → List ℕ → ℕ
hash_words zero hash octets = hash
hash_words (suc count) hash octets =
    hash_words count (mixed hash (from_le_bytes w64 (take 8 octets))) (drop 8 octets)

-- the word of fewer than four octets
abbrev pub word_of : List ℕ → ℕ
word_of octets = fold (λ word octet. bit_xor (rotate_left w64 word 8) octet) 0 octets

-- The word of fewer than eight octets: the first four and the last four, or each of them.
unfoldable pub short_word : List ℕ → ℕ
short_word octets = if nat_lt (length octets) 4 then word_of octets
    else from_le_bytes w32 (take 4 octets)
    + from_le_bytes w32 (drop (length octets - 4) octets) * 2 ^ 32 % 2 ^ 64

-- a hash and octets more: their words from the beginning on, and then the last eight octets
unfoldable pub hash_from : ℕ → List ℕ → ℕ
hash_from hash octets =
    if nat_lt (length octets) 8 then mixed hash (short_word octets)
    else mixed (hash_words ((length octets - 1) / 8) hash octets)
    (from_le_bytes w64 (drop (length octets - 8) octets))

-- The bucket of a hash, among so many.
abbrev pub bucket_of : ℕ → ℕ → ℕ
bucket_of count hash = hash / 2 ^ 32 * count / 2 ^ 32
