-- Numbers as bits: joined, split, and read back from octets.
use Rattle.hpack_text.proofs.Names.{◌≡◌, ℕ, zero, suc, ◌+◌, ◌-◌, ◌*◌, ◌/◌, ◌%◌, ◌^◌, ◌<◌, ◌≤◌, Bool}
use Rattle.hpack_text.proofs.Names.{true, false, if◌then◌else◌, List, [], ◌∷◌, ◌++◌, length}
use Rattle.hpack_text.proofs.Names.{replicate, refl, sym, ap, ◌∙◌, subst, arith, append_assoc}
use Rattle.hpack_text.proofs.Names.{append-nil, length-append, pow_pos, ap₂, take, drop, rules}
use Rattle.hpack_text.proofs.Names.{take-append-drop, length-take-le, AllByRecursion, IsOctet}
use Rattle.hpack_text.proofs.Names.{bits_of, bits, number_of_bits, octets_of_bits}
use Rattle.std.proofs.Common.{add-zero, div-one, add-suc, add-one, one-add}
use Rattle.std.proofs.lemmas.List.{replicate_more}
use Rattle.std.proofs.lemmas.Nat.{shr_split, shr_high}
use Rattle.std.proofs.Math.Nat.{div-div-eq-div-mul, pow-succ'}
use Rattle.std.proofs.lemmas.Bool.Decides.{nat_tests}
use Rattle.hpack_text.specs.Bits.{is_odd}

-- how many bits
pub length-bits_of : (n value : ℕ) → length (bits_of n value) ≡ n
unfolding bits_of
length-bits_of zero value = refl
length-bits_of (suc n) value =
    let shorter = length-bits_of n (value / 2) in
    simp length-append (omega (arith, shorter))

-- The top n bits are those of the quotient.
pub bits_of-append : (n k value : ℕ)
    → bits_of (n + k) value ≡ bits_of n (value / 2 ^ k) ++ bits_of k value
unfolding bits_of
bits_of-append n zero value = simp (add-zero, div-one, append-nil) refl
bits_of-append n (suc k) value =
    let halves : value / 2 ^ suc k ≡ value / 2 / 2 ^ k = ap (λ x. value / x) (pow-succ' 2 k)
    ∙ sym (div-div-eq-div-mul value 2 (2 ^ k)) in
    let shorter = bits_of-append n k (value / 2) in
    rw (add-suc, halves, shorter)
    (append_assoc (bits_of n (value / 2 / 2 ^ k)) (bits_of k (value / 2)) (is_odd value ∷ []))

-- Only the lowest bits of a number count.
pub bits_of-low : (k high low : ℕ) → bits_of k (high * 2 ^ k + low) ≡ bits_of k low
unfolding bits_of
bits_of-low zero high low = refl
bits_of-low (suc k) high low =
    let twice : high * 2 ^ suc k ≡ 2 * (high * 2 ^ k) =
    omega (arith, ap (λ (x : ℕ). high * x) (pow-succ' 2 k)) in
    let half : (high * 2 ^ suc k + low) / 2 ≡ high * 2 ^ k + low / 2 = omega (arith, twice) in
    let parity : (high * 2 ^ suc k + low) % 2 ≡ low % 2 = omega (arith, twice) in
    rw (half, parity, bits_of-low k high (low / 2)) refl

-- A number shifted by k bits, with a number below 2 ^ k put in, is the bits of both.
pub bits_of-joined : (n k high low : ℕ) → low < 2 ^ k
    → bits_of (n + k) (high * 2 ^ k + low) ≡ bits_of n high ++ bits_of k low
bits_of-joined n k high low lt = search (rules, bits_of-append, bits_of, shr_high, bits_of-low)

-- The bits of a number are those of what is above the lowest k, and those of what is below.
pub bits_of-split : (n k value : ℕ)
    → bits_of (n + k) value ≡ bits_of n (value / 2 ^ k) ++ bits_of k (value % 2 ^ k)
bits_of-split n k value =
    let low : bits_of k value ≡ bits_of k (value % 2 ^ k) =
    ap (bits_of k) (sym (shr_split value k)) ∙ bits_of-low k (value / 2 ^ k) (value % 2 ^ k) in
    bits_of-append n k value ∙ ap (λ ys. bits_of n (value / 2 ^ k) ++ ys) low

-- the bits of a number that is all ones
pub bits_of-ones : (n : ℕ) → bits_of n (2 ^ n - 1) ≡ replicate n true
unfolding bits_of
bits_of-ones zero = refl
bits_of-ones (suc n) =
    let twice : 2 ^ suc n ≡ 2 * 2 ^ n = pow-succ' 2 n in
    let half : (2 ^ suc n - 1) / 2 ≡ 2 ^ n - 1 = omega (arith, twice, pow_pos n) in
    let parity : (2 ^ suc n - 1) % 2 ≡ 1 = omega (arith, twice, pow_pos n) in
    rw (half, parity, bits_of-ones n)
    (replicate_more n true ∙ ap (λ k. replicate k true) (add-one n))

-- the number of some bits and one more
number_of-push : (xs : List Bool) (bit : Bool)
    → number_of_bits (xs ++ bit ∷ []) ≡ 2 * number_of_bits xs + (if bit then 1 else 0)
unfolding number_of_bits
number_of-push [] bit = omega arith
number_of-push (true ∷ xs) bit =
    let one_more : length (xs ++ bit ∷ []) ≡ suc (length xs) = simp length-append (omega arith) in
    rw (one_more, pow-succ' 2 (length xs)) (omega (arith, number_of-push xs bit))
number_of-push (false ∷ xs) bit = omega (arith, number_of-push xs bit)

-- the lowest bit as a number
number_of_is_odd : (value : ℕ) → (if is_odd value then 1 else 0) ≡ value % 2
number_of_is_odd value = grind (arith, nat_tests)

-- the number of the bits of a number
pub number_of-bits_of : (n value : ℕ) → value < 2 ^ n → number_of_bits (bits_of n value) ≡ value
unfolding bits_of number_of_bits
number_of-bits_of zero value lt = omega arith
number_of-bits_of (suc n) value lt =
    let shorter : number_of_bits (bits_of n (value / 2)) ≡ value / 2 =
    number_of-bits_of n (value / 2) (omega (arith, pow-succ' 2 n)) in
    omega (
      arith,
      shorter,
      number_of-push (bits_of n (value / 2)) (is_odd value),
      number_of_is_odd value,
    )

-- n bits are a number below 2 ^ n
pub number_of-lt : (xs : List Bool) → number_of_bits xs < 2 ^ length xs
unfolding number_of_bits
number_of-lt [] = omega arith
number_of-lt (true ∷ xs) = omega (arith, number_of-lt xs, pow-succ' 2 (length xs))
number_of-lt (false ∷ xs) = omega (arith, number_of-lt xs, pow-succ' 2 (length xs))

-- Any bits are those of their number.
pub bits_of-number_of : (xs : List Bool) → bits_of (length xs) (number_of_bits xs) ≡ xs
unfolding bits_of number_of_bits
bits_of-number_of [] = refl
bits_of-number_of (true ∷ xs) =
    let first : bits_of (1 + length xs) (1 * 2 ^ length xs + number_of_bits xs)
    ≡ true ∷ bits_of (length xs) (number_of_bits xs) =
    bits_of-joined 1 (length xs) 1 (number_of_bits xs) (number_of-lt xs) in
    ap₂ bits_of (sym (one-add (length xs))) (omega arith)
    ∙ (first ∙ ap (λ (ys : List Bool). true ∷ ys) (bits_of-number_of xs))
bits_of-number_of (false ∷ xs) =
    let first : bits_of (1 + length xs) (0 * 2 ^ length xs + number_of_bits xs)
    ≡ false ∷ bits_of (length xs) (number_of_bits xs) =
    bits_of-joined 1 (length xs) 0 (number_of_bits xs) (number_of-lt xs) in
    ap₂ bits_of (sym (one-add (length xs))) (omega arith)
    ∙ (first ∙ ap (λ (ys : List Bool). false ∷ ys) (bits_of-number_of xs))

-- eight bits for each octet
pub length-bits : (octets : List ℕ) → length (bits octets) ≡ 8 * length octets
length-bits [] = refl
length-bits (octet ∷ octets) =
    simp length-append (omega (arith, length-bits_of 8 octet, length-bits octets))

-- Octets are read back from their bits, whatever stands after the first eight.
pub octets_of-octet : (octet : ℕ) (more : List Bool) → octet < 256
    → octets_of_bits (bits_of 8 octet ++ more) ≡ octet ∷ octets_of_bits more
unfolding bits_of octets_of_bits
octets_of-octet octet more lt = ap (λ (x : ℕ). x ∷ octets_of_bits more)
    (number_of-bits_of 8 octet lt)

-- Octets are read back from their bits.
pub octets_of-bits : (octets : List ℕ) → AllByRecursion IsOctet octets
    → octets_of_bits (bits octets) ≡ octets
unfolding octets_of_bits
octets_of-bits [] all = refl
octets_of-bits (octet ∷ octets) all =
    octets_of-octet octet (bits octets) all.0
    ∙ ap (λ (xs : List ℕ). octet ∷ xs) (octets_of-bits octets all.1)

-- At least eight bits are those of an octet, and others.
first_octet : (xs : List Bool) → 8 ≤ length xs
    → (octet : ℕ) × (more : List Bool) × (octet < 256) × (xs ≡ bits_of 8 octet ++ more)
first_octet xs long =
    let eight_bits = take 8 xs in
    let eight : length eight_bits ≡ 8 = length-take-le 8 xs long in (
      number_of_bits eight_bits,
      drop 8 xs,
      subst (λ (n : ℕ). number_of_bits eight_bits < 2 ^ n) eight (number_of-lt eight_bits),
      sym (take-append-drop 8 xs)
          ∙ ap (λ (ys : List Bool). ys ++ drop 8 xs)
          (sym (bits_of-number_of eight_bits)
          ∙ ap (λ (n : ℕ). bits_of n (number_of_bits eight_bits)) eight),
    )

-- Bits that fill octets are the bits of octets, and of no others than those that are read from
-- them.
pub record AreOctets (xs : List Bool) (count : ℕ) : Type 0 where
  pub octets : AllByRecursion IsOctet (octets_of_bits xs)
  pub back : bits (octets_of_bits xs) ≡ xs
  pub counted : length (octets_of_bits xs) ≡ count

-- One octet more before them.
are_octets-more : (octet count : ℕ) (more : List Bool) → octet < 256 → AreOctets more count
    → AreOctets (bits_of 8 octet ++ more) (suc count)
are_octets-more octet count more small following = search (rules, octets_of-octet, bits_of)

-- Bits whose number is a multiple of eight are those of the octets that are read from them.
pub are_octets : (count : ℕ) (xs : List Bool) → length xs ≡ 8 * count → AreOctets xs count
unfolding octets_of_bits
are_octets zero xs e = search rules
are_octets (suc count) xs e =
    let (octet, more, small, split) = first_octet xs (omega arith) in
    let longer : length xs ≡ 8 + length more = ap (λ (ys : List Bool). length ys) split
    ∙ (length-append (bits_of 8 octet) more
    ∙ ap (λ (n : ℕ). n + length more) (length-bits_of 8 octet)) in
    subst (λ ys. AreOctets ys (suc count)) (sym split)
    (are_octets-more octet count more small (are_octets count more (omega arith)))
