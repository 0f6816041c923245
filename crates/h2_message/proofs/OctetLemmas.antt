-- The blank at the end of a value.
use Rattle.h2_message.proofs.Names.{◌≡◌, ℕ, ◌-◌, ◌<◌, false, List, [], ◌∷◌, length, reverse, get_or}
use Rattle.h2_message.proofs.Names.{refl, sym, ap, ◌∙◌, arith, begins_blank, is_blank, true, Bool}
use Rattle.h2_message.proofs.Names.{◌||◌, eqb, eqb-true, or-false, list_any, codes, bytes_eq}
use Rattle.h2_message.proofs.Names.{bytes_eq-Decides}
use Rattle.h2_message.proofs.Names.{is_bad_name, is_bad_in_name, is_bad_after_first, is_colon_first}
use Rattle.std.proofs.lemmas.List.{get_or-reverse}

begins_at : (xs : List ℕ) → begins_blank xs ≡ is_blank (get_or xs 0 0)
unfolding begins_blank is_blank
begins_at [] = refl
begins_at (x ∷ xs) = refl

pub ends_at : (xs : List ℕ) → 0 < length xs
    → is_blank (get_or xs (length xs - 1) 0) ≡ begins_blank (reverse xs)
ends_at xs some =
    let last : length xs - 1 ≡ length xs - 1 - 0 = omega arith in
    ap (λ k. is_blank (get_or xs k 0)) last
    ∙ sym (begins_at (reverse xs) ∙ ap is_blank (get_or-reverse xs 0 0 some))

pub ends_empty : (xs : List ℕ) → length xs < 1 → false ≡ begins_blank (reverse xs)
unfolding begins_blank
ends_empty [] none = refl
ends_empty (x ∷ xs) none = absurd (omega arith)

-- What an empty name is, and one that doesn't begin with a colon.
pub bad_empty : (name : List ℕ) → eqb (length name) 0 ≡ true → true ≡ is_bad_name name
unfolding is_bad_name
bad_empty [] none = refl
bad_empty (first ∷ octets) none =
    let short : length (first ∷ octets) ≡ 0 = eqb-true (length (first ∷ octets)) 0 none in
    absurd (omega arith)

pub bad_regular : (name : List ℕ) → eqb (length name) 0 ≡ false → is_colon_first name ≡ false
    → list_any is_bad_after_first name ≡ is_bad_name name
unfolding is_bad_name is_bad_after_first is_colon_first
bad_regular [] some regular = absurd cc
bad_regular (first ∷ octets) some regular =
    ap (λ (b : Bool). (is_bad_in_name first || b) || list_any is_bad_after_first octets) regular
    ∙ ap (λ (b : Bool). b || list_any is_bad_after_first octets) (or-false (is_bad_in_name first))

-- A name that is one of these texts is a name.
pub known_name : (name text : List ℕ) → bytes_eq name text ≡ true → is_bad_name text ≡ false
    → is_bad_name name ≡ false
known_name name text is good = ap is_bad_name ((bytes_eq-Decides name text).0 is) ∙ good

pub good_method : is_bad_name (codes ":method") ≡ false
unfolding is_bad_name is_bad_in_name is_bad_after_first
good_method = refl

pub good_scheme : is_bad_name (codes ":scheme") ≡ false
unfolding is_bad_name is_bad_in_name is_bad_after_first
good_scheme = refl

pub good_path : is_bad_name (codes ":path") ≡ false
unfolding is_bad_name is_bad_in_name is_bad_after_first
good_path = refl

pub good_authority : is_bad_name (codes ":authority") ≡ false
unfolding is_bad_name is_bad_in_name is_bad_after_first
good_authority = refl

pub good_status : is_bad_name (codes ":status") ≡ false
unfolding is_bad_name is_bad_in_name is_bad_after_first
good_status = refl
