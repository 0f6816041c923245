-- Writing bits as octets: what was appended so far, and what is left.
use Rattle.hpack_text.proofs.Names.{◌≡◌, ℕ, zero, suc, ◌+◌, ◌-◌, ◌*◌, ◌/◌, ◌%◌, ◌^◌, ◌<◌, ◌≤◌, Bool}
use Rattle.hpack_text.proofs.Names.{true, List, [], ◌∷◌, ◌++◌, length, get_or, take, replicate}
use Rattle.hpack_text.proofs.Names.{Result, OnErr, refl, sym, ap, ◌∙◌, subst, arith, append_assoc}
use Rattle.hpack_text.proofs.Names.{append-nil, length-append, pow_pos, ap₂, rules, flat_map-append}
use Rattle.hpack_text.proofs.Names.{common_steps, take_all, AllByRecursion, IsOctet, bits_of, bits}
use Rattle.hpack_text.proofs.Names.{code, codes, huffman_bits, Appends, AppendsPadded}
use Rattle.std.specs.Int.{w32, to_be_bytes}
use Rattle.std.proofs.lemmas.Nat.{pow-add, shl_whole, shr_below, one_shl, mul-add-lt, mod_below}
use Rattle.hpack_text.proofs.BitLemmas.{bits_of-append, length-bits_of, length-bits, bits_of-joined}
use Rattle.hpack_text.proofs.BitLemmas.{bits_of-split, bits_of-ones}
use Rattle.hpack_text.proofs.CodeLemmas.{is_huffman_bits, length-huffman_bits}

-- What holds of each octet of two lists holds of each of both joined.
pub all_octets-append : (xs ys : List ℕ) → AllByRecursion IsOctet xs → AllByRecursion IsOctet ys
    → AllByRecursion IsOctet (xs ++ ys)
all_octets-append xs ys all more = grind (arith, common_steps)

-- Nothing was appended, so all bits are left.
pub Appends-none : (old : List ℕ) (bit_list : List Bool) → Appends old old bit_list bit_list
Appends-none old bit_list =
    record { added = []; joined = sym (append-nil old); octets = tt; encoded = refl }

-- An octet more takes eight bits of those that are left.
pub Appends-push : (old mid new : List ℕ) (octet : ℕ) (bit_list left following : List Bool)
    → octet < 256 → left ≡ bits_of 8 octet ++ following → Appends old mid bit_list left
    → new ≡ mid ++ octet ∷ [] → Appends old new bit_list following
Appends-push old mid new octet bit_list left following small split adds pushed =
    grind (arith, common_steps)

-- The same bits, however they are encoded.
pub Appends-same : (old new : List ℕ) (bit_list other left : List Bool) → bit_list ≡ other
    → Appends old new bit_list left → Appends old new other left
Appends-same old new bit_list other left same adds = subst (λ xs. Appends old new xs left) same adds

-- how many bits went into octets
pub Appends-length : (old new : List ℕ) (bit_list left : List Bool) → Appends old new bit_list left
    → 8 * length new + length left ≡ 8 * length old + length bit_list
Appends-length old new bit_list left adds = grind (arith, common_steps, length-append, length-bits)

-- a code after the bits that are left, as one number
pub record IsShiftedIn (count more value low whole : ℕ) : Type 0 where
  pub within : whole < 2 ^ (count + more)
  pub same : bits_of (count + more) whole ≡ bits_of count value ++ bits_of more low

-- A number that is shifted, with another one put in, is the bits of both.
pub shifted_in : (count more value low : ℕ) → count + more ≤ 64 → value < 2 ^ count → low < 2 ^ more
    → IsShiftedIn count more value low (value * 2 ^ more % 2 ^ 64 + low)
shifted_in count more value low fits within low_within =
    let whole : value * 2 ^ more % 2 ^ 64 ≡ value * 2 ^ more =
    shl_whole value count more 64 within fits in
    let bound : value * 2 ^ more + low < 2 ^ more * 2 ^ count =
    mul-add-lt value (2 ^ more) low (2 ^ count) within low_within in
    subst (λ n. IsShiftedIn count more value low (n + low)) (sym whole) (record {
      within = omega (arith, pow-add 2 count more);
      same = bits_of-joined count more value low low_within;
    })

-- the same of a number that is equal to the one put in
pub shifted_in_same : (count more value low put : ℕ) → count + more ≤ 64 → value < 2 ^ count
    → low < 2 ^ more → put ≡ low
    → IsShiftedIn count more value low (value * 2 ^ more % 2 ^ 64 + put)
shifted_in_same count more value low put fits within low_within same =
    subst (λ n. IsShiftedIn count more value low (value * 2 ^ more % 2 ^ 64 + n)) (sym same)
    (shifted_in count more value low fits within low_within)

-- the octet of the top eight bits, and the bits below
pub record IsTopOctet (count value octet following : ℕ) : Type 0 where
  pub small : octet < 256
  pub within : following < 2 ^ (count - 8)
  pub same : bits_of count value ≡ bits_of 8 octet ++ bits_of (count - 8) following

-- The top eight bits are an octet, and the others are below.
pub top_octet : (count value : ℕ) → 8 ≤ count → count < 72 → value < 2 ^ count
    → IsTopOctet count value (value / 2 ^ (count - 8)) (value % (1 * 2 ^ (count - 8) % 2 ^ 64))
top_octet count value least most within =
    let back : 8 + (count - 8) ≡ count = omega arith in
    subst (λ m. IsTopOctet count value (value / 2 ^ (count - 8)) (value % m))
    (sym (one_shl (count - 8) 64 (omega arith))) (record {
      small = shr_below value 8 (count - 8) (subst (λ n. value < 2 ^ n) (sym back) within);
      within = mod_below value (2 ^ (count - 8)) (pow_pos (count - 8));
      same = ap (λ n. bits_of n value) (sym back) ∙ bits_of-split 8 (count - 8) value;
    })

-- the word of the top 32 bits, and the bits below
pub record IsTopWord (count value word following : ℕ) : Type 0 where
  pub small : word < 2 ^ 32
  pub within : following < 2 ^ (count - 32)
  pub same : bits_of count value ≡ bits_of 32 word ++ bits_of (count - 32) following

-- The top 32 bits are a word, and the others are below.
pub top_word : (count value : ℕ) → 32 ≤ count → count < 96 → value < 2 ^ count
    → IsTopWord count value (value / 2 ^ (count - 32)) (value % (1 * 2 ^ (count - 32) % 2 ^ 64))
top_word count value least most within =
    let back : 32 + (count - 32) ≡ count = omega arith in
    subst (λ m. IsTopWord count value (value / 2 ^ (count - 32)) (value % m))
    (sym (one_shl (count - 32) 64 (omega arith))) (record {
      small = shr_below value 32 (count - 32) (subst (λ n. value < 2 ^ n) (sym back) within);
      within = mod_below value (2 ^ (count - 32)) (pow_pos (count - 32));
      same = ap (λ n. bits_of n value) (sym back) ∙ bits_of-split 32 (count - 32) value;
    })

-- the lowest eight bits of a number
low_octet : (value : ℕ) → bits_of 8 value ≡ bits_of 8 (value % 256)
unfolding bits_of
low_octet value = bits_of-split 0 8 value

-- The bits of a word's octets, the most significant one first, are those of the word.
pub word_bits : (word : ℕ) → bits (to_be_bytes w32 word) ≡ bits_of 32 word
word_bits word =
    let third : bits_of 16 word ≡ bits_of 8 (word / 2 ^ 8 % 256) ++ bits_of 8 (word % 256) =
    bits_of-append 8 8 word
    ∙ ap₂ (λ (xs : List Bool) (ys : List Bool). xs ++ ys) (low_octet (word / 2 ^ 8))
    (low_octet word) in
    let second : bits_of 24 word ≡ bits_of 8 (word / 2 ^ 16 % 256) ++ bits_of 16 word =
    bits_of-append 8 16 word
    ∙ ap (λ (xs : List Bool). xs ++ bits_of 16 word) (low_octet (word / 2 ^ 16)) in
    let first : bits_of 32 word ≡ bits_of 8 (word / 2 ^ 24 % 256) ++ bits_of 24 word =
    bits_of-append 8 24 word
    ∙ ap (λ (xs : List Bool). xs ++ bits_of 24 word) (low_octet (word / 2 ^ 24)) in
    sym (first
    ∙ ap (λ (xs : List Bool). bits_of 8 (word / 2 ^ 24 % 256) ++ xs) (second
    ∙ ap (λ (xs : List Bool). bits_of 8 (word / 2 ^ 16 % 256) ++ xs) (third
    ∙ ap (λ (xs : List Bool). bits_of 8 (word / 2 ^ 8 % 256) ++ xs)
    (sym (append-nil (bits_of 8 (word % 256)))))))

-- A word's octets are appended for its bits.
pub Appends-word : (old new : List ℕ) (word : ℕ) (bit_list following : List Bool)
    → bit_list ≡ bits_of 32 word ++ following → new ≡ old ++ to_be_bytes w32 word
    → Appends old new bit_list following
Appends-word old new word bit_list following split appended = search (rules, to_be_bytes, word_bits)

-- What was appended twice was appended.
pub Appends-join : (old mid new : List ℕ) (bit_list left following : List Bool)
    → Appends old mid bit_list left → Appends mid new left following
    → Appends old new bit_list following
Appends-join old mid new bit_list left following first second = grind (arith, common_steps)

-- the octet of the bits that are left, padded with ones
pub record IsPadded (count value octet : ℕ) : Type 0 where
  pub small : octet < 256
  pub same : bits_of 8 octet ≡ bits_of count value ++ replicate (8 - count) true

-- The bits that are left, shifted, and ones after them are an octet.
pub padded_octet : (count value : ℕ) → 0 < count → count < 8 → value < 2 ^ count
    → IsPadded count value (value * 2 ^ (8 - count) % 2 ^ 64 + (1 * 2 ^ (8 - count) % 2 ^ 64 - 1))
padded_octet count value some few within =
    let missing = 8 - count in
    let ones : 1 * 2 ^ (8 - count) % 2 ^ 64 ≡ 2 ^ (8 - count) =
    one_shl (8 - count) 64 (omega arith) in
    let back : count + (8 - count) ≡ 8 = omega arith in
    let shifted =
    shifted_in count (8 - count) value (2 ^ (8 - count) - 1) (omega arith) within
    (omega (arith, pow_pos (8 - count))) in
    subst (λ n. IsPadded count value (value * 2 ^ (8 - count) % 2 ^ 64 + (n - 1))) (sym ones)
    (record {
      small = subst (λ n. value * 2 ^ (8 - count) % 2 ^ 64 + (2 ^ (8 - count) - 1) < 2 ^ n) back
          shifted.within;
      same = ap (λ n. bits_of n (value * 2 ^ (8 - count) % 2 ^ 64 + (2 ^ (8 - count) - 1)))
          (sym back)
          ∙ (shifted.same ∙ ap (λ xs. bits_of count value ++ xs) (bits_of-ones (8 - count)));
    })

-- A padded octet encodes the bits that were left.
pub AppendsPadded-push : (old new : List ℕ) (count value octet : ℕ) → 0 < count
    → IsPadded count value octet → new ≡ old ++ octet ∷ []
    → AppendsPadded old new (bits_of count value)
AppendsPadded-push old new count value octet some padded pushed = search rules

module _ (old : List ℕ) where
  -- Where no bits were left, nothing is appended.
  pub AppendsPadded-none : (count value : ℕ) → count ≤ 0
      → AppendsPadded old old (bits_of count value)
  unfolding bits_of
  AppendsPadded-none zero value none =
      record {
        added = [];
        joined = sym (append-nil old);
        octets = tt;
        padding = 0;
        short = omega arith;
        encoded = refl;
      }
  AppendsPadded-none (suc count) value none = absurd (omega arith)

  -- The codes of a text, and the padding after them, are what is written for it.
  pub written_text : (mid new text : List ℕ) (left : List Bool) → Appends old mid (codes text) left
      → AppendsPadded mid new left → new ≡ old ++ huffman_bits text
  written_text mid new text left adds padded =
      let whole = adds.added ++ padded.added in
      let encoded : bits whole ≡ codes text ++ replicate padded.padding true =
      flat_map-append (bits_of 8) adds.added padded.added
      ∙ (ap (λ (xs : List Bool). bits adds.added ++ xs) padded.encoded
      ∙ (sym (append_assoc (bits adds.added) left (replicate padded.padding true))
      ∙ ap (λ (xs : List Bool). xs ++ replicate padded.padding true) (sym adds.encoded))) in
      let same : whole ≡ huffman_bits text = is_huffman_bits text whole padded.padding
      (all_octets-append adds.added padded.added adds.octets padded.octets) padded.short encoded in
      padded.joined ∙ (ap (λ (xs : List ℕ). xs ++ padded.added) adds.joined
      ∙ (append_assoc old adds.added padded.added ∙ ap (λ (xs : List ℕ). old ++ xs) same))

-- one more octet's code
pub codes-take-more : (text : List ℕ) (i : ℕ) → i < length text
    → codes (take (i + 1) text) ≡ codes (take i text) ++ code (get_or text i 0)
codes-take-more text i lt = grind (arith, common_steps)

-- the codes of a prefix are no longer than those of the text
pub length-codes-take : (text : List ℕ) (i : ℕ) → length (codes (take i text)) ≤ length (codes text)
length-codes-take text zero = omega arith
length-codes-take [] (suc i) = omega arith
length-codes-take (x ∷ text) (suc i) =
    omega (
      arith,
      length-append (code x) (codes (take i text)),
      length-append (code x) (codes text),
      length-codes-take text i,
    )

-- how many bits the codes of a prefix and of one octet more have
pub length-codes-more : (text : List ℕ) (i count value : ℕ) → i < length text
    → bits_of count value ≡ code (get_or text i 0)
    → length (codes (take (i + 1) text)) ≡ length (codes (take i text)) + count
length-codes-more text i count value lt same =
    grind (arith, common_steps, get_or, length-bits_of, codes-take-more, length-append)

-- A prefix of the text's codes, and the next code, are no longer than all codes.
next_code_within : (text : List ℕ) (i count value : ℕ) → i < length text
    → bits_of count value ≡ code (get_or text i 0)
    → length (codes (take i text)) + count ≤ length (codes text)
next_code_within text i count value lt same =
    omega (arith, length-codes-more text i count value lt same, length-codes-take text (i + 1))

-- Where a vector is full before the next eight bits, it has no room for all of the text.
pub no_room_between : (old mid text : List ℕ) (i pending bits_left count value capacity : ℕ)
    → Appends old mid (codes (take i text)) (bits_of pending bits_left)
    → i < length text → bits_of count value ≡ code (get_or text i 0)
    → 8 * capacity + 8 ≤ 8 * length mid + pending + count
    → capacity < length old + length (huffman_bits text)
no_room_between old mid text i pending bits_left count value capacity adds lt same full =
    omega (
      arith,
      next_code_within text i count value lt same,
      Appends-length old mid (codes (take i text)) (bits_of pending bits_left) adds,
      length-bits_of pending bits_left,
      length-huffman_bits text,
    )

-- Where a vector is full before the last bits, it has no room for all of the text.
pub no_room_after : (old mid text : List ℕ) (pending bits_left capacity : ℕ)
    → Appends old mid (codes text) (bits_of pending bits_left)
    → 8 * capacity + 1 ≤ 8 * length mid + pending
    → capacity < length old + length (huffman_bits text)
no_room_after old mid text pending bits_left capacity adds full =
    search (rules, Appends-length, bits_of, length-bits_of, length-huffman_bits)

-- At the end of a loop over the text, the codes of all of it were written.
pub Appends-all : (old mid text : List ℕ) (i : ℕ) (left : List Bool) → length text ≤ i
    → Appends old mid (codes (take i text)) left → Appends old mid (codes text) left
Appends-all old mid text i left past adds =
    subst (λ xs. Appends old mid (codes xs) left) (take_all i text past) adds

-- a fact of an error, whatever the result
pub OnErr-from : {T E P : Type 0} (result : Result T E) → P → OnErr result P
OnErr-from result p = search rules
