-- The number that digits write, and when there is one.
use Rattle.h2_message.proofs.Names
use Names.{◌≡◌, ℕ, ◌+◌, ◌-◌, ◌^◌, ◌<◌, ◌≤◌, List, Some, None, sym, ap, ◌∙◌, ◌&&◌, not, leb, eqb}
use Names.{length, drop, true, false, Bool, arith, get_or, if◌then◌else◌, eqb-true, le-ltb, lt-ltb}
use Names.{drop_more, all_ascii_digits, byte, is_bad_length, number_written, method_class}
use Names.{is_bad_method, is_token, is_token_octet, refl, codes, bytes_eq, bytes_eq-Decides}
use Rattle.h2_message.specs.declared.classes.Method.TheVariants.{Other}
use Rattle.std.proofs.Common.{◌*◌, ltb, fold}
use Rattle.std.proofs.Math.Nat.{pow-le-pow_right}
use Rattle.std.proofs.lemmas.Bool.{and_left, and_right, and_from, eqb-false, lt-leb, le-leb}
use Rattle.std.specs.Char.{is_ascii_digit}

-- the number that digits write after those of n
abbrev pub number_from : ℕ → List ℕ → ℕ
number_from n digits = fold (λ number digit. number * 10 + (digit - byte "0")) n digits

-- a digit after fewer than 19 of them
pub digit_fits : (n i digit : ℕ) → n < 10 ^ i → i < 19 → digit < 256
    → n * 10 + (digit - 48) < 2 ^ 64
digit_fits n i digit below few octet =
    let most : 10 ^ i ≤ 10 ^ 18 =
    pow-le-pow_right {n = 10} (omega arith) {i = i} {j = 18} (omega arith) in
    omega arith

-- empty: none
pub none_empty : (value : List ℕ) → eqb (length value) 0 ≡ true → is_bad_length value ≡ true
unfolding is_bad_length
none_empty value h =
    let none : length value ≤ 0 = omega (arith, eqb-true (length value) 0 h) in
    ap (λ b. not ((b && leb (length value) 19) && all_ascii_digits value))
    (le-ltb 0 (length value) none)

-- more than 19 octets: none
pub none_long : (value : List ℕ) → 19 < length value → is_bad_length value ≡ true
unfolding is_bad_length
none_long value h =
    ap not (and_left (ltb 0 (length value) && leb (length value) 19) (all_ascii_digits value)
    (and_right (ltb 0 (length value)) (leb (length value) 19) (lt-leb (length value) 19 h)))

-- an octet that is no digit, after digits: none
pub none_other : (value : List ℕ) (i : ℕ) → i < length value
    → is_ascii_digit (get_or value i 0) ≡ false
    → all_ascii_digits (drop i value) ≡ all_ascii_digits value → is_bad_length value ≡ true
unfolding is_bad_length
none_other value i inside other before =
    ap not (and_right (ltb 0 (length value) && leb (length value) 19) (all_ascii_digits value)
    (sym before ∙ ap all_ascii_digits (drop_more value i 0 inside)
    ∙ and_left (is_ascii_digit (get_or value i 0)) (all_ascii_digits (drop (i + 1) value)) other))

-- 1 to 19 digits: a number
pub is_number : (value : List ℕ) → eqb (length value) 0 ≡ false → length value ≤ 19
    → all_ascii_digits value ≡ true → is_bad_length value ≡ false
unfolding is_bad_length
is_number value some few digits =
    let ne = eqb-false (length value) 0 some in
    let more : 0 < length value = omega arith in
    ap not (and_from (ltb 0 (length value) && leb (length value) 19) (all_ascii_digits value)
    (and_from (ltb 0 (length value)) (leb (length value) 19) (lt-ltb 0 (length value) more)
    (le-leb (length value) 19 few)) digits)

-- what is answered where there is no number, and where there is one
pub no_length : (value : List ℕ) → is_bad_length value ≡ true
    → None ≡ (if is_bad_length value then None else Some (number_written value))
no_length value bad = sym (ap (λ (b : Bool). if b then None else Some (number_written value)) bad)

pub some_length : (value : List ℕ) → is_bad_length value ≡ false → (n : ℕ)
    → n ≡ number_written value
    → Some n ≡ (if is_bad_length value then None else Some (number_written value))
some_length value good n is =
    ap (λ m. Some m) is
    ∙ sym (ap (λ (b : Bool). if b then None else Some (number_written value)) good)

-- GET and POST are methods of which nothing is said.
get_is_other : Other ≡ method_class (codes "GET")
unfolding method_class is_bad_method is_token is_token_octet
get_is_other = refl

post_is_other : Other ≡ method_class (codes "POST")
unfolding method_class is_bad_method is_token is_token_octet
post_is_other = refl

pub get-class : (value : List ℕ) → bytes_eq value (codes "GET") ≡ true
    → Other ≡ method_class value
get-class value is =
    get_is_other ∙ sym (ap method_class ((bytes_eq-Decides value (codes "GET")).0 is))

pub post-class : (value : List ℕ) → bytes_eq value (codes "POST") ≡ true
    → Other ≡ method_class value
post-class value is =
    post_is_other ∙ sym (ap method_class ((bytes_eq-Decides value (codes "POST")).0 is))
