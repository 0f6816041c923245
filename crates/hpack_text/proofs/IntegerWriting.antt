-- Integers as they are written: the continuation octets, and that no encoding is shorter.
use Rattle.hpack_text.proofs.Names.{◌≡◌, ℕ, zero, suc, ◌+◌, ◌-◌, ◌*◌, ◌/◌, ◌%◌, ◌^◌, ◌<◌, ◌≤◌, inl}
use Rattle.hpack_text.proofs.Names.{inr, List, [], ◌∷◌, ◌++◌, length, refl, sym, ap, ◌∙◌, subst}
use Rattle.hpack_text.proofs.Names.{arith, append_assoc, append-nil, length-append, pow_pos, rules}
use Rattle.hpack_text.proofs.Names.{cases_lt, continuation_value, AreContinuation, all_ones, Int}
use Rattle.hpack_text.proofs.Names.{continuation_of, integer, IsExtended, common_steps}
use Rattle.std.proofs.Common.{mul-le-mul_left}
use Rattle.std.proofs.lemmas.Nat.{pow-add, shr_below, shr_split}
use Rattle.std.proofs.Math.Nat.{pow-succ'}

-- A number below 128 is its one continuation octet.
continuation-small : (more number : ℕ) → number < 128 → continuation_of more number ≡ number ∷ []
unfolding continuation_of
continuation-small more number lt = search rules

-- Another number has its lowest seven bits first.
continuation-large : (more number : ℕ) → 128 ≤ number
    → continuation_of (suc more) number ≡ (number % 128 + 128) ∷ continuation_of more (number / 128)
unfolding continuation_of
continuation-large more number least = search rules

-- There is one continuation octet at least.
continuation-some : (more number : ℕ) → 1 ≤ length (continuation_of more number)
unfolding continuation_of
continuation-some more number = search rules

-- Of the continuation octets of a number some were appended, and those of another number are left.
pub record HasContinuationLeft (old now whole : List ℕ) (number : ℕ) : Type 0 where
  pub more : ℕ
  pub small : number < 128 ^ suc more
  pub encoded : now ++ continuation_of more number ≡ old ++ whole
  pub extended : IsExtended old now

-- at first all continuation octets are left
pub continuation_left-begin : (old : List ℕ) (number : ℕ) → number < 2 ^ 35
    → HasContinuationLeft old old (continuation_of 4 number) number
continuation_left-begin old number lt =
    record { more = 4; small = lt; encoded = refl; extended = ([], sym (append-nil old)) }

-- one continuation octet more
pub continuation_left-push : (old now new whole : List ℕ) (number : ℕ) → 128 ≤ number
    → HasContinuationLeft old now whole number → new ≡ now ++ (number % 128 + 128) ∷ []
    → HasContinuationLeft old new whole (number / 128)
continuation_left-push old now new whole number large left pushed =
    push_from left.more left.small left.encoded left.extended where
      push_from : (more : ℕ) → number < 128 ^ suc more
          → now ++ continuation_of more number ≡ old ++ whole → IsExtended old now
          → HasContinuationLeft old new whole (number / 128)
      push_from zero small encoded extended = absurd (omega arith)
      push_from (suc more) small encoded extended = record {
        more = more;
        small = omega (arith, pow-succ' 128 (suc more));
        encoded =
            ap (λ (xs : List ℕ). xs ++ continuation_of more (number / 128)) pushed
            ∙ (append_assoc now ((number % 128 + 128) ∷ []) (continuation_of more (number / 128))
            ∙ (ap (λ (xs : List ℕ). now ++ xs) (sym (continuation-large more number large))
            ∙ encoded));
        extended = (
          extended.0 ++ (number % 128 + 128) ∷ [],
          pushed ∙ (ap (λ (xs : List ℕ). xs ++ (number % 128 + 128) ∷ []) extended.1
              ∙ append_assoc old extended.0 ((number % 128 + 128) ∷ [])),
        );
      }

-- the last continuation octet
pub continuation_left-last : (old now new whole : List ℕ) (number : ℕ) → number < 128
    → HasContinuationLeft old now whole number → new ≡ now ++ number ∷ [] → new ≡ old ++ whole
continuation_left-last old now new whole number small left pushed =
    pushed ∙ (ap (λ (xs : List ℕ). now ++ xs) (sym (continuation-small left.more number small))
    ∙ left.encoded)

-- A vector that is full before the last continuation octet has no room for all of them.
pub continuation_left-full : (old now whole : List ℕ) (number capacity : ℕ)
    → HasContinuationLeft old now whole number → capacity ≤ length now
    → capacity < length old + length whole
continuation_left-full old now whole number capacity left full =
    let lengths : length now + length (continuation_of left.more number)
    ≡ length old + length whole =
    sym (length-append now (continuation_of left.more number))
    ∙ (ap (λ (xs : List ℕ). length xs) left.encoded ∙ length-append old whole) in
    omega (arith, continuation-some left.more number)

-- what is written for a value that fits in the prefix
pub integer-short : (prefix first_bits value : ℕ) → value < all_ones prefix
    → integer prefix first_bits value ≡ (first_bits + value) ∷ []
unfolding integer
integer-short prefix first_bits value lt = search rules

-- what is written for another value
pub integer-long : (prefix first_bits value : ℕ) → all_ones prefix ≤ value
    → integer prefix first_bits value
    ≡ (first_bits + all_ones prefix) ∷ continuation_of 4 (value - all_ones prefix)
unfolding integer
integer-long prefix first_bits value least = search rules

-- The bits above the prefix and those of it fit an octet together.
pub first_octet_fits : (prefix first_bits : ℕ) → prefix ≤ 8 → first_bits < 256
    → first_bits % 2 ^ prefix ≡ 0 → first_bits + all_ones prefix < 256
first_octet_fits prefix first_bits few small clear =
    let back : (8 - prefix) + prefix ≡ 8 = omega arith in
    let quotient : first_bits / 2 ^ prefix < 2 ^ (8 - prefix) =
    shr_below first_bits (8 - prefix) prefix
    (subst (λ n. first_bits < 2 ^ n) (sym back) small) in
    let sum : prefix + (8 - prefix) ≡ 8 = omega arith in
    let whole : 2 ^ prefix * 2 ^ (8 - prefix) ≡ 256 = sym (pow-add 2 prefix (8 - prefix))
    ∙ ap (λ (n : ℕ). 2 ^ n) sum in
    let next : suc (first_bits / 2 ^ prefix) ≤ 2 ^ (8 - prefix) = quotient in
    let room : 2 ^ prefix * suc (first_bits / 2 ^ prefix) ≤ 2 ^ prefix * 2 ^ (8 - prefix) =
    mul-le-mul_left (2 ^ prefix) next in
    omega (arith, room, whole, shr_split first_bits prefix, clear, pow_pos prefix)

-- Continuation octets as they are written are those of the number.
pub record IsContinuationOf (more number : ℕ) : Type 0 where
  pub continuation : AreContinuation (continuation_of more number)
  pub few : length (continuation_of more number) ≤ suc more
  pub same : continuation_value (continuation_of more number) ≡ number

-- an octet with a top bit before continuation octets
continuation-cons : (first : ℕ) (xs : List ℕ) → 128 ≤ first → AreContinuation xs
    → AreContinuation (first ∷ xs)
continuation-cons first xs top h = search rules

-- Continuation octets as they are written encode the number.
pub continuation_of_number : (more number : ℕ) → number < 128 ^ suc more
    → IsContinuationOf more number
unfolding continuation_of
continuation_of_number zero number lt =
    record { continuation = omega arith; few = omega arith; same = omega arith }
continuation_of_number (suc more) number lt =
    elim (cases_lt number 128) [
      | inl small ↦
          let is : number ∷ [] ≡ continuation_of (suc more) number =
          sym (continuation-small (suc more) number small) in
          record {
            continuation = subst AreContinuation is small;
            few = subst (λ xs. length xs ≤ suc (suc more)) is (omega arith);
            same = subst (λ xs. continuation_value xs ≡ number) is (omega arith);
          }
      | inr large ↦
          let is = sym (continuation-large more number large) in
          let shorter =
          continuation_of_number more (number / 128)
          (omega (arith, pow-succ' 128 (suc more))) in
          record {
            continuation =
                subst AreContinuation is
                (continuation-cons (number % 128 + 128) (continuation_of more (number / 128))
                (omega arith) shorter.continuation);
            few = subst (λ xs. length xs ≤ suc (suc more)) is (omega (arith, shorter.few));
            same = subst (λ xs. continuation_value xs ≡ number) is (omega (arith, shorter.same));
          }
    ]

-- After bits above the prefix, the prefix is read as it is.
low_bits : (prefix first_bits value : ℕ) → first_bits % 2 ^ prefix ≡ 0 → value < 2 ^ prefix
    → (first_bits + value) % 2 ^ prefix ≡ value
low_bits prefix first_bits value clear lt = grind (arith, common_steps)

-- What is written for an integer encodes it.
pub integer_encodes : (prefix first_bits value : ℕ) → 1 ≤ prefix → prefix ≤ 8
    → first_bits % 2 ^ prefix ≡ 0 → value < 2 ^ 35
    → Int prefix value (integer prefix first_bits value)
integer_encodes prefix first_bits value least most clear lt =
    elim (cases_lt value (all_ones prefix)) [
      | inl short ↦
          let low : (first_bits + value) % 2 ^ prefix ≡ value =
          low_bits prefix first_bits value clear (omega arith) in
          subst (Int prefix value) (sym (integer-short prefix first_bits value short))
          (inl (omega arith, refl, sym low))
      | inr long ↦
          let low : (first_bits + all_ones prefix) % 2 ^ prefix ≡ all_ones prefix =
          low_bits prefix first_bits (all_ones prefix) clear (omega (arith, pow_pos prefix)) in
          let octets = continuation_of_number 4 (value - all_ones prefix) (omega arith) in
          subst (Int prefix value) (sym (integer-long prefix first_bits value long))
          (inr (low, octets.continuation, octets.few, omega (arith, octets.same)))
    ]

-- The continuation octets that are written for a number are no more than others that encode it.
fewest_octets : (more : ℕ) (xs : List ℕ) → AreContinuation xs
    → length (continuation_of more (continuation_value xs)) ≤ length xs
unfolding continuation_of
fewest_octets more [] h = absurd h
fewest_octets more (x ∷ []) h = grind (arith, common_steps, continuation-small)
fewest_octets zero (x ∷ y ∷ xs) h = omega arith
fewest_octets (suc more) (x ∷ y ∷ xs) h =
    let number = x % 128 + 128 * continuation_value (y ∷ xs) in
    elim (cases_lt number 128) [
      | inl small ↦
          omega (
            arith,
            ap (λ (ys : List ℕ). length ys) (continuation-small (suc more) number small),
          )
      | inr large ↦
          let quotient : number / 128 ≡ continuation_value (y ∷ xs) = omega arith in
          let fewer : length (continuation_of more (number / 128)) ≤ length (y ∷ xs) =
          subst (λ n. length (continuation_of more n) ≤ length (y ∷ xs)) (sym quotient)
          (fewest_octets more (y ∷ xs) h.1) in
          omega (
            arith,
            fewer,
            ap (λ (ys : List ℕ). length ys) (continuation-large more number large),
          )
    ]

-- No encoding of an integer is shorter than the one that is written.
pub integer_shortest : (prefix first_bits value : ℕ) (octets : List ℕ) → 1 ≤ prefix
    → Int prefix value octets → length (integer prefix first_bits value) ≤ length octets
integer_shortest prefix first_bits value [] least h = absurd h
integer_shortest prefix first_bits value (f ∷ fs) least (inl a) = search (rules, integer-short)
integer_shortest prefix first_bits value (f ∷ fs) least (inr a) =
    let number : value - all_ones prefix ≡ continuation_value fs = omega (arith, a.3) in
    let fewer : length (continuation_of 4 (value - all_ones prefix)) ≤ length fs =
    subst (λ n. length (continuation_of 4 n) ≤ length fs) (sym number) (fewest_octets 4 fs a.1) in
    omega (
      arith,
      fewer,
      ap (λ (xs : List ℕ). length xs) (integer-long prefix first_bits value (omega (arith, a.3))),
    )

-- There is one octet at least.
pub integer-some : (prefix first_bits value : ℕ) → 1 ≤ length (integer prefix first_bits value)
integer-some prefix first_bits value =
    grind (arith, common_steps, cases_lt, all_ones, integer-short, integer-long)

-- The first octet and the continuation octets after it are the integer; a power is named by a
-- number that is equal to it.
pub integer_joined : (prefix first_bits value power : ℕ) (old mid new : List ℕ)
    → all_ones prefix ≤ value → power ≡ 2 ^ prefix → mid ≡ old ++ (first_bits + (power - 1)) ∷ []
    → new ≡ mid ++ continuation_of 4 (value - (power - 1))
    → new ≡ old ++ integer prefix first_bits value
integer_joined prefix first_bits value power old mid new long same pushed octets =
    grind (arith, common_steps, continuation_of, integer-long, append_assoc)

-- one octet, and the continuation octets
pub length-integer_long : (prefix first_bits value power : ℕ) → all_ones prefix ≤ value
    → power ≡ 2 ^ prefix
    → length (integer prefix first_bits value)
    ≡ suc (length (continuation_of 4 (value - (power - 1))))
length-integer_long prefix first_bits value power long same =
    ap (λ (xs : List ℕ). length xs) (integer-long prefix first_bits value long)
    ∙ ap (λ (n : ℕ). suc (length (continuation_of 4 (value - (n - 1))))) (sym same)
