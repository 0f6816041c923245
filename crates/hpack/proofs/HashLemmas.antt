-- What octets are hashed to.
use Rattle.hpack.proofs.Names.{◌≡◌, ℕ, suc, ◌+◌, ◌-◌, ◌*◌, ◌/◌, ◌%◌, ◌^◌, ◌<◌, ◌≤◌, if◌then◌else◌}
use Rattle.hpack.proofs.Names.{Bool, List, length, take, drop, sym, ap, ◌∙◌, arith, lt-ltb, le-ltb}
use Rattle.hpack.proofs.Names.{mixed, word_of, short_word, hash_words, hash_from}
use Rattle.std.specs.Int.{w32, w64, from_le_bytes}

-- One word more of eight octets.
pub hash_words_more : (hash next : ℕ) (octets word more : List ℕ) → 8 < length octets
    → word ≡ take 8 octets → more ≡ drop 8 octets → length more + 8 ≡ length octets
    → next ≡ mixed hash (from_le_bytes w64 word)
    → hash_words ((length more - 1) / 8) next more
    ≡ hash_words ((length octets - 1) / 8) hash octets
unfolding hash_words
hash_words_more hash next octets word more long is_word is_more count is =
    let more_words : (length octets - 1) / 8 ≡ suc ((length more - 1) / 8) = omega arith in
    let same : next ≡ mixed hash (from_le_bytes w64 (take 8 octets)) = is
    ∙ ap (λ (w : List ℕ). mixed hash (from_le_bytes w64 w)) is_word in
    ap (λ (n : ℕ). hash_words ((length more - 1) / 8) n more) same
    ∙ (ap (λ (os : List ℕ). hash_words ((length more - 1) / 8)
    (mixed hash (from_le_bytes w64 (take 8 octets))) os) is_more
    ∙ sym (ap (λ (n : ℕ). hash_words n hash octets) more_words))

-- No word is left.
pub hash_words_none : (hash : ℕ) (octets : List ℕ) → length octets ≤ 8
    → hash_words ((length octets - 1) / 8) hash octets ≡ hash
unfolding hash_words
hash_words_none hash octets short =
    let none : (length octets - 1) / 8 ≡ 0 = omega arith in
    ap (λ (n : ℕ). hash_words n hash octets) none

-- a text of eight octets at least
pub hash_long : (hash before : ℕ) (octets last : List ℕ) → 8 ≤ length octets
    → before ≡ hash_words ((length octets - 1) / 8) hash octets
    → last ≡ drop (length octets - 8) octets
    → mixed before (from_le_bytes w64 last) ≡ hash_from hash octets
unfolding hash_from
hash_long hash before octets last long words is =
    let all = hash_words ((length octets - 1) / 8) hash octets in
    let end = from_le_bytes w64 (drop (length octets - 8) octets) in
    ap (λ (os : List ℕ). mixed before (from_le_bytes w64 os)) is
    ∙ (ap (λ (n : ℕ). mixed n end) words
    ∙ sym (ap (λ (b : Bool). if b then mixed hash (short_word octets) else mixed all end)
    (le-ltb (length octets) 8 long)))

-- a text of fewer octets
pub hash_short : (hash word : ℕ) (octets : List ℕ) → length octets < 8
    → word ≡ short_word octets → mixed hash word ≡ hash_from hash octets
unfolding hash_from
hash_short hash word octets short is =
    let all = hash_words ((length octets - 1) / 8) hash octets in
    let end = from_le_bytes w64 (drop (length octets - 8) octets) in
    ap (λ (n : ℕ). mixed hash n) is
    ∙ sym (ap (λ (b : Bool). if b then mixed hash (short_word octets) else mixed all end)
    (lt-ltb (length octets) 8 short))

-- the word of fewer than four octets
pub word_tiny : (word : ℕ) (octets : List ℕ) → length octets < 4 → word ≡ word_of octets
    → word ≡ short_word octets
unfolding short_word
word_tiny word octets short is =
    let other = from_le_bytes w32 (take 4 octets)
    + from_le_bytes w32 (drop (length octets - 4) octets) * 2 ^ 32 % 2 ^ 64 in
    is ∙ sym (ap (λ (b : Bool). if b then word_of octets else other)
    (lt-ltb (length octets) 4 short))

-- the word of four octets or more
pub word_short : (octets first last : List ℕ) (low high : ℕ) → 4 ≤ length octets
    → first ≡ take 4 octets → last ≡ drop (length octets - 4) octets
    → low ≡ from_le_bytes w32 first → high ≡ from_le_bytes w32 last
    → low + high * 2 ^ 32 % 2 ^ 64 ≡ short_word octets
unfolding short_word
word_short octets first last low high long is_first is_last is_low is_high =
    let end = from_le_bytes w32 (drop (length octets - 4) octets) in
    let other = from_le_bytes w32 (take 4 octets) + end * 2 ^ 32 % 2 ^ 64 in
    ap (λ (n : ℕ). n + high * 2 ^ 32 % 2 ^ 64)
    (is_low ∙ ap (λ (os : List ℕ). from_le_bytes w32 os) is_first)
    ∙ (ap (λ (n : ℕ). from_le_bytes w32 (take 4 octets) + n * 2 ^ 32 % 2 ^ 64)
    (is_high ∙ ap (λ (os : List ℕ). from_le_bytes w32 os) is_last)
    ∙ sym (ap (λ (b : Bool). if b then word_of octets else other) (le-ltb (length octets) 4 long)))
