-- Integers with a prefix: what is read, what is written, and that no encoding begins another one.
use Rattle.hpack_text.proofs.Names.{◌≡◌, ℕ, zero, suc, ◌+◌, ◌*◌, ◌%◌, ◌^◌, ◌<◌, ◌≤◌, inl, inr, List}
use Rattle.hpack_text.proofs.Names.{[], ◌∷◌, ◌++◌, length, get_or, take, drop, Result, Ok, Err}
use Rattle.hpack_text.proofs.Names.{MatchResult, sym, ap, ap₂, ◌∙◌, subst, arith, length-append}
use Rattle.hpack_text.proofs.Names.{pow_mono, rules, take_more, take_all, take-append-drop}
use Rattle.hpack_text.proofs.Names.{length-take-le, AllByRecursion, TextFault, continuation_value}
use Rattle.hpack_text.proofs.Names.{AreContinuation, all_ones, Int, common_steps}
use Rattle.std.proofs.lemmas.Nat.{pow-add, shl_whole}
use Rattle.hpack_text.specs.declared.fault.TextFault.TheVariants as faults
use Rattle.hpack_text.specs.Integers.{HasTopBit, IsTruncated, IsTooLong, IntFault}
use Rattle.hpack_text.specs.Continuation.{HasContinuation}

-- seven bits more are 128 times as much
seven_more : (n : ℕ) → 2 ^ (7 * suc n) ≡ 128 * 2 ^ (7 * n)
seven_more n =
    let count : 7 * suc n ≡ 7 + 7 * n = omega arith in
    ap (λ (k : ℕ). 2 ^ k) count ∙ pow-add 2 7 (7 * n)

-- the number of continuation octets and one more
continuation_value-push : (xs : List ℕ) (x : ℕ)
    → continuation_value (xs ++ x ∷ []) ≡ continuation_value xs + x % 128 * 2 ^ (7 * length xs)
continuation_value-push [] x = omega arith
continuation_value-push (y ∷ xs) x =
    let times : x % 128 * 2 ^ (7 * suc (length xs)) ≡ 128 * (x % 128 * 2 ^ (7 * length xs)) =
    omega (arith, ap (λ (k : ℕ). x % 128 * k) (seven_more (length xs))) in
    omega (arith, continuation_value-push xs x)

-- Continuation octets encode a number of seven bits each.
continuation_value-lt : (xs : List ℕ) → continuation_value xs < 2 ^ (7 * length xs)
continuation_value-lt [] = omega arith
continuation_value-lt (x ∷ xs) = omega (arith, continuation_value-lt xs, seven_more (length xs))

-- Octets with top bits, and one without after them, are continuation octets.
continuation-push : (xs : List ℕ) (last : ℕ) → AllByRecursion HasTopBit xs → last < 128
    → AreContinuation (xs ++ last ∷ [])
continuation-push [] last all lt = lt
continuation-push (x ∷ []) last all lt = (all.0, lt)
continuation-push (x ∷ y ∷ xs) last all lt = (all.0, continuation-push (y ∷ xs) last all.1 lt)

-- One continuation octet more was added to the number of the preceding ones.
pub record IsOctetAdded (octets : List ℕ) (i whole : ℕ) : Type 0 where
  pub number : whole ≡ continuation_value (take (i + 1) octets)
  pub small : whole < 2 ^ 35

-- A continuation octet is added by a shift.
octet_added : (octets : List ℕ) (i value octet : ℕ) → i < length octets → i < 5
    → value ≡ continuation_value (take i octets) → octet ≡ get_or octets i 0
    → IsOctetAdded octets i (value + octet % 128 * 2 ^ (7 * i) % 2 ^ 64)
octet_added octets i value octet lt few e same =
    let first = take i octets in
    let first_length : length first ≡ i = length-take-le i octets (omega arith) in
    let shifted : octet % 128 * 2 ^ (7 * i) % 2 ^ 64 ≡ octet % 128 * 2 ^ (7 * i) =
    shl_whole (octet % 128) 7 (7 * i) 64 (omega arith) (omega arith) in
    let more : take (i + 1) octets ≡ first ++ octet ∷ [] = take_more octets i 0 lt
    ∙ ap (λ (x : ℕ). first ++ x ∷ []) (sym same) in
    let number : continuation_value (take (i + 1) octets)
    ≡ continuation_value first + octet % 128 * 2 ^ (7 * i) =
    ap (λ (xs : List ℕ). continuation_value xs) more
    ∙ (continuation_value-push first octet
    ∙ ap (λ (n : ℕ). continuation_value first + octet % 128 * 2 ^ (7 * n)) first_length) in
    let bits : 7 * length (take (i + 1) octets) ≤ 35 =
    omega (arith, length-take-le (i + 1) octets (omega arith)) in
    let bound : 2 ^ (7 * length (take (i + 1) octets)) ≤ 2 ^ 35 = pow_mono bits in
    let whole : value + octet % 128 * 2 ^ (7 * i) % 2 ^ 64
    ≡ continuation_value (take (i + 1) octets) = omega arith in
    record { number = whole; small = omega (arith, continuation_value-lt (take (i + 1) octets)) }

-- the same, of the lowest seven bits as another number that is equal to them
pub octet_added_from : (octets : List ℕ) (i value octet low : ℕ) → i < length octets → i < 5
    → value ≡ continuation_value (take i octets) → octet ≡ get_or octets i 0
    → low ≡ octet % 128 → IsOctetAdded octets i (value + low * 2 ^ (7 * i) % 2 ^ 64)
octet_added_from octets i value octet low lt few e same is_low =
    subst (λ n. IsOctetAdded octets i (value + n * 2 ^ (7 * i) % 2 ^ 64)) (sym is_low)
    (octet_added octets i value octet lt few e same)

-- The octet without a top bit ends the continuation octets.
pub continuation_end : (octets : List ℕ) (i whole octet : ℕ) → i < length octets → i < 5
    → AllByRecursion HasTopBit (take i octets) → octet ≡ get_or octets i 0 → octet < 128
    → IsOctetAdded octets i whole → HasContinuation octets whole (i + 1)
continuation_end octets i whole octet lt few all same last added = search rules

-- What begins with continuation octets has one without a top bit among the first ones.
no_top_bit_ends : (n : ℕ) (xs more : List ℕ) → length xs ≤ n
    → AllByRecursion HasTopBit (take n (xs ++ more)) → AreContinuation xs → ⊥
no_top_bit_ends n [] more few all continuation = continuation
no_top_bit_ends zero (x ∷ xs) more few all continuation = absurd (omega arith)
no_top_bit_ends (suc n) (x ∷ []) more few all continuation = absurd (omega (arith, all.0))
no_top_bit_ends (suc n) (x ∷ y ∷ xs) more few all continuation =
    no_top_bit_ends n (y ∷ xs) more (omega arith) all.1 continuation.1

-- No continuation octets begin others.
continuation_unique : (xs ys more following : List ℕ) → AreContinuation xs → AreContinuation ys
    → xs ++ more ≡ ys ++ following → xs ≡ ys
continuation_unique [] ys more following h h' e = absurd h
continuation_unique (x ∷ xs) [] more following h h' e = absurd h'
continuation_unique (x ∷ []) ys more following h h' e = search rules
continuation_unique (x ∷ w ∷ xs) (y ∷ []) more following h h' e = search rules
continuation_unique (x ∷ w ∷ xs) (y ∷ z ∷ ys) more following h h' e =
    let same : x ≡ y = cc in
    let tails : (w ∷ xs) ++ more ≡ (z ∷ ys) ++ following = cc in
    ap₂ (λ (a : ℕ) (bs : List ℕ). a ∷ bs) same
    (continuation_unique (w ∷ xs) (z ∷ ys) more following h.1 h'.1 tails)

-- the same octets, and the same value
abbrev pub SameInt : ℕ → ℕ → List ℕ → List ℕ → Type 0
SameInt value other octets others = (octets ≡ others) × (value ≡ other)

-- No encoding of an integer begins another one.
pub Int-unique : (prefix value other : ℕ) (octets others more following : List ℕ)
    → Int prefix value octets → Int prefix other others
    → octets ++ more ≡ others ++ following → SameInt value other octets others
Int-unique prefix value other octets others more following h is e =
    grind (arith, common_steps, continuation_unique, all_ones, continuation_value)

-- Where the octets end inside an encoding, none is at their start.
pub truncated_encodes_none : (prefix value : ℕ) (octets begin more : List ℕ)
    → IsTruncated prefix octets → octets ≡ begin ++ more → Int prefix value begin → ⊥
truncated_encodes_none prefix value octets [] more cut e h = h
truncated_encodes_none prefix value [] (b ∷ bs) more cut e h = cc
truncated_encodes_none prefix value (f ∷ fs) (b ∷ bs) more cut e (inl a) = search rules
truncated_encodes_none prefix value (f ∷ fs) (b ∷ bs) more cut e (inr a) =
    let tails : fs ≡ bs ++ more = cc in
    let long : length bs ≤ length fs =
    omega (arith, ap (λ (xs : List ℕ). length xs) tails, length-append bs more) in
    let all : AllByRecursion HasTopBit (take (length fs) (bs ++ more)) =
    subst (AllByRecursion HasTopBit)
    (sym (take_all (length fs) fs (omega arith)) ∙ ap (take (length fs)) tails) cut.1 in
    no_top_bit_ends (length fs) bs more long all a.1

-- Where the fifth continuation octet has its top bit set, no encoding is at the start.
pub too_long_encodes_none : (prefix value : ℕ) (octets begin more : List ℕ)
    → IsTooLong prefix octets → octets ≡ begin ++ more → Int prefix value begin → ⊥
too_long_encodes_none prefix value octets [] more long e h = h
too_long_encodes_none prefix value [] (b ∷ bs) more long e h = long
too_long_encodes_none prefix value (f ∷ fs) (b ∷ bs) more long e (inl a) = search rules
too_long_encodes_none prefix value (f ∷ fs) (b ∷ bs) more long e (inr a) =
    let tails : fs ≡ bs ++ more = cc in
    no_top_bit_ends 5 bs more a.2 (subst (AllByRecursion HasTopBit) (ap (take 5) tails) long.1) a.1

-- what is said of an integer at the start of the octets
abbrev pub LeadingInt : ℕ → List ℕ → ℕ → ℕ → Type 0
LeadingInt prefix octets value count =
    (count ≤ length octets) × Int prefix value (take count octets)

-- Two integers at the start of the same octets are one.
pub same_leading_int : (prefix : ℕ) (octets : List ℕ) (value count other others : ℕ)
    → LeadingInt prefix octets value count → LeadingInt prefix octets other others
    → (value ≡ other) × (count ≡ others)
same_leading_int prefix octets value count other others h h' =
    let whole = take-append-drop count octets ∙ sym (take-append-drop others octets) in
    let (same, values) =
    Int-unique prefix value other (take count octets) (take others octets) (drop count octets)
    (drop others octets) h.1 h'.1 whole in (
      values,
      sym (length-take-le count octets h.0)
          ∙ (ap (λ (xs : List ℕ). length xs) same ∙ length-take-le others octets h'.0),
    )

-- Where an integer is at the start, a right answer is that integer.
pub only_int : (prefix : ℕ) (octets : List ℕ) (value count : ℕ) (result : Result (ℕ × ℕ) TextFault)
    → MatchResult result (λ read. LeadingInt prefix octets read.0 read.1) (IntFault prefix octets)
    → count ≤ length octets → Int prefix value (take count octets)
    → result ≡ Ok (value, count)
only_int prefix octets value count (Ok read) h within encoded =
    let (values, counts) =
    same_leading_int prefix octets read.0 read.1 value count h (within, encoded) in
    ap₂ (λ (a : ℕ) (b : ℕ). Ok (a, b)) values counts
only_int prefix octets value count (Err faults.Truncated) h within encoded =
    absurd (truncated_encodes_none prefix value octets (take count octets) (drop count octets) h
    (sym (take-append-drop count octets)) encoded)
only_int prefix octets value count (Err faults.TooLong) h within encoded =
    absurd (too_long_encodes_none prefix value octets (take count octets) (drop count octets) h
    (sym (take-append-drop count octets)) encoded)
only_int prefix octets value count result h within encoded = search rules
