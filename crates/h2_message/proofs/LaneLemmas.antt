-- From many octets at once to each of them, and from runs of 32 to the whole.
use Rattle.h2_message.proofs.Names
use Names.{◌≡◌, ℕ, ◌+◌, ◌-◌, ◌^◌, ◌<◌, ◌≤◌, eqb, leb, Bool, true, false, cond, not, ◌||◌, ◌&&◌}
use Names.{bit_or, List, [], ◌∷◌, length, map, drop, take, get_or, refl, sym, ap, ap₂, ◌∙◌, arith}
use Names.{inl, inr, ◌⊎◌, true≢false, list_any-append, list_any_at, drop_all, list_any, eqb-true}
use Names.{is_bad_in_name, is_bad_after_first, is_bad_in_value, is_low, is_unusual}
use Rattle.std.proofs.Common.{◌≢◌, zero, suc, ◌*◌, ◌/◌, ◌%◌, bit_and, replicate, ltb}
use Rattle.std.proofs.lemmas.Bool.{cases_eq, eq-eqb, ne_eqb, leb-false, ltb-false, lt-leb}
use Rattle.std.proofs.lemmas.Bool.{and_right}
use Rattle.std.proofs.lemmas.List.{take-append-drop, drop-drop, length-map, length-drop, take_all}
use Rattle.std.proofs.lemmas.Simd.{map-map, mask_l-mod, zip2_splat, zip2_splat_left}
use Rattle.std.specs.Simd.{first_chunks}
use lib.Lanes.{mask_l, top, zip2}
use Rattle.hpack.proofs.LimitLemmas.{or_assoc as or-assoc}

-- twice a number is zero where the number is
twice_zero : (m : ℕ) → eqb (0 + 2 * m) 0 ≡ eqb m 0
twice_zero m =
    elim (cases_eq m 0) [
      | inl is ↦
          let none : 0 + 2 * m ≡ 0 = omega arith in
          eq-eqb _ _ none ∙ sym (eq-eqb m 0 (omega arith))
      | inr some ↦
          let more : 0 + 2 * m ≢ 0 = omega arith in
          ne_eqb _ _ more ∙ sym (ne_eqb m 0 some)
    ]

-- a bit more at the low end of a mask
mask_more : (b : Bool) (m : ℕ) (any : Bool) → not (eqb m 0) ≡ any
    → not (eqb (cond b 1 0 + 2 * m) 0) ≡ (b || any)
mask_more true m any h =
    let some : 1 + 2 * m ≢ 0 = omega arith in
    ap not (ne_eqb _ _ some)
mask_more false m any h = ap not (twice_zero m) ∙ h

-- a mask has a bit where an element passes
mask_any : (p : ℕ → Bool) (v : List ℕ) → not (eqb (mask_l (map p v)) 0) ≡ list_any p v
mask_any p [] = refl
mask_any p (x ∷ xs) = mask_more (p x) (mask_l (map p xs)) (list_any p xs) (mask_any p xs)

-- tests that are equal find the same
any_alike : (p q : ℕ → Bool) → ((x : ℕ) → p x ≡ q x) → (v : List ℕ)
    → list_any p v ≡ list_any q v
any_alike p q same [] = refl
any_alike p q same (x ∷ xs) = ap₂ ◌||◌ (same x) (any_alike p q same xs)

-- Whether a lane of the vector is set: whether an octet passes the test that the lanes compute.
pub lanes_any : (q : ℕ → Bool) (v : List ℕ) (f : ℕ → ℕ) {z : List ℕ} {n : ℕ} → length v ≡ n
    → n ≤ 64 → z ≡ map f v → ((x : ℕ) → top 7 (f x) ≡ q x)
    → not (eqb (mask_l (map (top 7) z) % 2 ^ 64) 0) ≡ list_any q v
lanes_any q v f long fits lanes same =
    let set : ℕ → Bool = λ x. top 7 (f x) in
    let few : length (map set v) ≤ 64 = omega (arith, length-map v set) in
    ap (λ z. not (eqb (mask_l (map (top 7) z) % 2 ^ 64) 0)) lanes
    ∙ ap (λ l. not (eqb (mask_l l % 2 ^ 64) 0)) (map-map (top 7) f v)
    ∙ ap (λ m. not (eqb m 0)) (mask_l-mod (map set v) 64 few)
    ∙ mask_any set v
    ∙ any_alike set q same v

-- all bits of a lane, or none
abbrev pub full : Bool → ℕ
full b = cond b 255 0

pub top_full : (a : Bool) → top 7 (full a) ≡ a
top_full true = refl
top_full false = refl

or_full : (a b : Bool) → bit_or (full a) (full b) ≡ full (a || b)
or_full true true = refl
or_full true false = refl
or_full false true = refl
or_full false false = refl

and_full : (a b : Bool) → bit_and (full a) (full b) ≡ full (a && b)
and_full true true = refl
and_full true false = refl
and_full false true = refl
and_full false false = refl

-- each lane against one number: equal to it, at most it, below it, another one, at least it
module _ (v : List ℕ) (n y : ℕ) (long : length v ≡ n) where
  pub equal_lanes : zip2 (λ (a b : ℕ). full (eqb a b)) v (replicate n y)
      ≡ map (λ x. full (eqb x y)) v
  equal_lanes = zip2_splat (λ (a b : ℕ). full (eqb a b)) v n y long

  pub lanes_up_to : zip2 (λ (a b : ℕ). full (leb a b)) v (replicate n y)
      ≡ map (λ x. full (leb x y)) v
  lanes_up_to = zip2_splat (λ (a b : ℕ). full (leb a b)) v n y long

  pub lanes_below : zip2 (λ (a b : ℕ). full (ltb a b)) v (replicate n y)
      ≡ map (λ x. full (ltb x y)) v
  lanes_below = zip2_splat (λ (a b : ℕ). full (ltb a b)) v n y long

  pub other_lanes : zip2 (λ (a b : ℕ). full (not (eqb a b))) v (replicate n y)
      ≡ map (λ x. full (not (eqb x y))) v
  other_lanes = zip2_splat (λ (a b : ℕ). full (not (eqb a b))) v n y long

  pub lanes_from : zip2 (λ (a b : ℕ). full (leb a b)) (replicate n y) v
      ≡ map (λ x. full (leb y x)) v
  lanes_from = zip2_splat_left (λ (a b : ℕ). full (leb a b)) y n v long

-- three tests of a lane, joined
pub one_of_three : (a b c : Bool)
    → top 7 (bit_or (bit_or (full a) (full b)) (full c)) ≡ ((a || b) || c)
one_of_three a b c =
    ap (λ n. top 7 (bit_or n (full c))) (or_full a b)
    ∙ ap (top 7) (or_full (a || b) c)
    ∙ top_full ((a || b) || c)

-- the tests of an octet of a name, joined: below the small letters or high, and no hyphen
pub one_of_unusual : (below high other : Bool)
    → top 7 (bit_and (bit_or (full below) (full high)) (full other)) ≡ ((below || high) && other)
one_of_unusual below high other =
    ap (λ n. top 7 (bit_and n (full other))) (or_full below high)
    ∙ ap (top 7) (and_full (below || high) other)
    ∙ top_full ((below || high) && other)

or_none : (a b : Bool) → (a || b) ≡ false → (a ≡ false) × (b ≡ false)
or_none false b nothing = (refl, nothing)
or_none true b nothing = absurd (true≢false nothing)

-- Where no octet is found by a test, none is by a narrower one.
covers : (p q : ℕ → Bool) → ((x : ℕ) → p x ≡ false → q x ≡ false) → (xs : List ℕ)
    → list_any p xs ≡ false → list_any q xs ≡ false
covers p q narrower [] nothing = refl
covers p q narrower (x ∷ xs) nothing =
    let parts = or_none (p x) (list_any p xs) nothing in
    ap₂ ◌||◌ (narrower x parts.0) (covers p q narrower xs parts.1)

not_low : (x : ℕ) → is_low x ≡ false → is_bad_in_value x ≡ false
unfolding is_low is_bad_in_value
not_low x nothing =
    let more : 13 < x = leb-false x 13 nothing in
    let zero_not : x ≢ 0 = omega arith in
    let ten_not : x ≢ 10 = omega arith in
    let last_not : x ≢ 13 = omega arith in
    ap₂ ◌||◌ (ap₂ ◌||◌ (ne_eqb x 0 zero_not) (ne_eqb x 10 ten_not)) (ne_eqb x 13 last_not)

-- No octet of a value is bad where none is low.
pub none_low : (xs : List ℕ) → list_any is_low xs ≡ false → list_any is_bad_in_value xs ≡ false
none_low xs nothing = covers is_low is_bad_in_value not_low xs nothing

usual_cases : (x : ℕ) (outside hyphen : Bool) → eqb x 45 ≡ hyphen
    → (outside && not hyphen) ≡ false → (outside ≡ false) ⊎ (x ≡ 45)
usual_cases x false hyphen is_hyphen nothing = inl refl
usual_cases x true true is_hyphen nothing = inr (eqb-true x 45 is_hyphen)
usual_cases x true false is_hyphen nothing = absurd (true≢false nothing)

letter_is_good : (x : ℕ) → 97 ≤ x → leb 127 x ≡ false → is_bad_after_first x ≡ false
unfolding is_bad_in_name is_bad_after_first
letter_is_good x from low =
    let above : 32 < x = omega arith in
    let small : 90 < x = omega arith in
    let other : x ≢ 58 = omega arith in
    ap₂ ◌||◌ (ap₂ ◌||◌ (ap₂ ◌||◌ (lt-leb x 32 above)
    (and_right (leb 65 x) (leb x 90) (lt-leb x 90 small))) low) (ne_eqb x 58 other)

hyphen_is_good : is_bad_after_first 45 ≡ false
unfolding is_bad_in_name is_bad_after_first
hyphen_is_good = refl

not_unusual : (x : ℕ) → is_unusual x ≡ false → is_bad_after_first x ≡ false
unfolding is_unusual
not_unusual x nothing =
    elim (usual_cases x (ltb x 97 || leb 127 x) (eqb x 45) refl nothing) [
      | inl inside ↦
          let parts = or_none (ltb x 97) (leb 127 x) inside in
          letter_is_good x (ltb-false x 97 parts.0) parts.1
      | inr is ↦ ap is_bad_after_first is ∙ hyphen_is_good
    ]

-- No octet of a name is bad where none is unusual.
pub none_unusual : (xs : List ℕ) → list_any is_unusual xs ≡ false
    → list_any is_bad_after_first xs ≡ false
none_unusual xs nothing = covers is_unusual is_bad_after_first not_unusual xs nothing

or_with_false : (a : Bool) → a ≡ (a || false)
or_with_false true = refl
or_with_false false = refl

or_swap : (a b : Bool) → (a || b) ≡ (b || a)
or_swap true true = refl
or_swap true false = refl
or_swap false true = refl
or_swap false false = refl

or_twice : (a b : Bool) → ((a || b) || b) ≡ (a || b)
or_twice true b = refl
or_twice false true = refl
or_twice false false = refl

or_again : (a b : Bool) → (a || (a || b)) ≡ (a || b)
or_again true b = refl
or_again false b = refl

-- what is found up to a place and from it on
any_split : (q : ℕ → Bool) (k : ℕ) (xs : List ℕ)
    → list_any q xs ≡ (list_any q (take k xs) || list_any q (drop k xs))
any_split q k xs =
    ap (list_any q) (sym (take-append-drop k xs)) ∙ list_any-append q (take k xs) (drop k xs)

module _ (q : ℕ → Bool) where
  -- What is found from a place on is found in the whole.
  any_and_rest : (k : ℕ) (xs : List ℕ) → (list_any q xs || list_any q (drop k xs)) ≡ list_any q xs
  any_and_rest k xs = ap (λ b. b || list_any q (drop k xs)) (any_split q k xs)
      ∙ or_twice (list_any q (take k xs)) (list_any q (drop k xs)) ∙ sym (any_split q k xs)

  -- what is found up to a place and from an earlier one on
  overlap : (xs : List ℕ) (n k : ℕ) → k ≤ n
      → (list_any q (take n xs) || list_any q (drop k xs)) ≡ list_any q xs
  overlap xs n zero le = ap (λ b. list_any q (take n xs) || b) (any_split q n xs)
      ∙ or_again (list_any q (take n xs)) (list_any q (drop n xs)) ∙ sym (any_split q n xs)
  overlap xs zero (suc k) le = absurd (omega arith)
  overlap [] (suc n) (suc k) le = refl
  overlap (x ∷ xs) (suc n) (suc k) le =
      or-assoc (q x) (list_any q (take n xs)) (list_any q (drop k xs))
      ∙ ap (λ b. q x || b) (overlap xs n k (omega arith))

-- the last n octets, as they are cut out
last_is : (xs : List ℕ) (n m : ℕ) → n ≤ length xs → n ≤ m
    → take n (take m (drop (length xs - n) xs)) ≡ drop (length xs - n) xs
last_is xs n m long fits =
    let few : length (drop (length xs - n) xs) ≤ n =
    omega (arith, length-drop (length xs - n) xs) in
    let fewer : length (drop (length xs - n) xs) ≤ m = omega arith in
    ap (take n) (take_all m (drop (length xs - n) xs) fewer)
    ∙ take_all n (drop (length xs - n) xs) few

-- What is found in the first n octets and in the last n is found in up to twice as many.
pub ends_any : (q : ℕ → Bool) (xs : List ℕ) (n m : ℕ) → n ≤ length xs → length xs ≤ n + n → n ≤ m
    → (first last : Bool) → first ≡ list_any q (take n xs)
    → last ≡ list_any q (take n (take m (drop (length xs - n) xs)))
    → (first || last) ≡ list_any q xs
ends_any q xs n m least most fits first last in_first in_last =
    let before : length xs - n ≤ n = omega arith in
    ap₂ ◌||◌ in_first (in_last ∙ ap (list_any q) (last_is xs n m least fits))
    ∙ overlap q xs n (length xs - n) before

-- a run of 32 octets
pub lane_any : (q : ℕ → Bool) (lane slice : List ℕ) → length lane ≡ 32 → slice ≡ lane
    → list_any q (take 32 slice) ≡ list_any q lane
lane_any q lane slice long same =
    let few : length lane ≤ 32 = omega arith in
    ap (λ (l : List ℕ). list_any q (take 32 l)) same ∙ ap (list_any q) (take_all 32 lane few)

-- Where each octet was looked at, one was found or none.
pub scanned : (q : ℕ → Bool) (xs : List ℕ) (found : Bool) (j : ℕ) → length xs ≤ j
    → (found || list_any q (drop j xs)) ≡ list_any q xs → found ≡ list_any q xs
scanned q xs found j end all =
    or_with_false found
    ∙ sym (ap (λ (ys : List ℕ). found || list_any q ys) (drop_all j xs end))
    ∙ all

-- what is found in runs of n and in the rest is what is found in the whole
pub chunks_any : (q : ℕ → Bool) (n k : ℕ) (xs : List ℕ) → {m : ℕ} → m ≡ k * n
    → (list_any (list_any q) (first_chunks n k xs) || list_any q (drop m xs)) ≡ list_any q xs
chunks_any q n zero xs {m} is =
    let none : m ≡ 0 = omega arith in
    ap (λ m. list_any q (drop m xs)) none
chunks_any q n (suc k) xs {m} is =
    let rest : m ≡ n + k * n = omega arith in
    let front = list_any q (take n xs) in
    ap (λ b. (front || list_any (list_any q) (first_chunks n k (drop n xs))) || b)
    (ap (λ m. list_any q (drop m xs)) rest ∙ sym (ap (list_any q) (drop-drop (k * n) n xs)))
    ∙ or-assoc front (list_any (list_any q) (first_chunks n k (drop n xs)))
    (list_any q (drop (k * n) (drop n xs)))
    ∙ ap (λ b. front || b) (chunks_any q n k (drop n xs) refl)
    ∙ sym (list_any-append q (take n xs) (drop n xs))
    ∙ ap (list_any q) (take-append-drop n xs)

-- a slice, cut into runs of 32 and the rest
module _ (q : ℕ → Bool) (xs back : List ℕ) (front : List (List ℕ))
    (in_front : front ≡ first_chunks 32 (length xs / 32) xs)
    (in_back : back ≡ drop (length xs / 32 * 32) xs) where
  both_any : (list_any (list_any q) front || list_any q back) ≡ list_any q xs
  both_any =
      ap₂ ◌||◌ (ap (list_any (list_any q)) in_front) (ap (list_any q) in_back)
      ∙ chunks_any q 32 (length xs / 32) xs refl

  -- one run settles the answer
  pub run_settles : (i : ℕ) → i < length front → list_any q (get_or front i []) ≡ true
      → true ≡ list_any q xs
  run_settles i inside found =
      sym (ap (λ b. b || list_any q back) (list_any_at (list_any q) front i [] inside found))
      ∙ both_any

  -- Where nothing run has one, what is found in the rest is what is found in the whole.
  in_rest : (i : ℕ) → length front ≤ i
      → list_any (list_any q) (drop i front) ≡ list_any (list_any q) front
      → list_any q back ≡ list_any q xs
  in_rest i past none =
      sym (ap (λ b. b || list_any q back)
      (sym none ∙ ap (list_any (list_any q)) (drop_all i front past)))
      ∙ both_any

  -- Then what is found in the rest, octet by octet, settles the answer.
  pub rest_settles : (i : ℕ) → length front ≤ i
      → list_any (list_any q) (drop i front) ≡ list_any (list_any q) front
      → (bad : Bool) (j : ℕ) → length back ≤ j → (bad || list_any q (drop j back)) ≡ list_any q back
      → bad ≡ list_any q xs
  rest_settles i past none bad j end all =
      or_with_false bad
      ∙ sym (ap (λ (ys : List ℕ). bad || list_any q ys) (drop_all j back end))
      ∙ all
      ∙ in_rest i past none

  -- Or the last 32 octets do.
  pub last_settles : (i : ℕ) → length front ≤ i
      → list_any (list_any q) (drop i front) ≡ list_any (list_any q) front
      → 32 ≤ length xs → (m : ℕ) → 32 ≤ m → (last : Bool)
      → last ≡ list_any q (take 32 (take m (drop (length xs - 32) xs)))
      → last ≡ list_any q xs
  last_settles i past none long m fits last is =
      let k = length xs - 32 in
      let j = length xs / 32 * 32 - k in
      let whole : k + j ≡ length xs / 32 * 32 = omega arith in
      let found = sym (in_rest i past none) ∙ ap (list_any q) (in_back ∙ ap (λ n. drop n xs)
      (sym whole) ∙ sym (drop-drop j k xs)) in
      is ∙ ap (list_any q) (last_is xs 32 m long fits)
      ∙ sym (any_and_rest q j (drop k xs)) ∙ or_swap (list_any q (drop k xs)) _
      ∙ ap (λ b. b || list_any q (drop k xs)) (sym found)
      ∙ any_and_rest q k xs
