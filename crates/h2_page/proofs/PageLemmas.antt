-- Escaped octets have no meaning in HTML.
use Rattle.std.proofs.Common.{◌≡◌, ◌∙◌, ◌∷◌, ◌&&◌, ◌⊎◌, ℕ, [], List, Bool, true, not, refl, ap}
use Rattle.std.proofs.Common.{inl, inr, arith}
use Rattle.std.proofs.lemmas.Grind.{common_steps}
use Rattle.std.proofs.lemmas.Bool.{cases_eq}
use Rattle.std.proofs.lemmas.List.Folds.{list_all-append}
use Rattle.std.specs.List.{list_all}
use Rattle.hex.specs.Hex.{encode_with}
use Rattle.h2_page.specs.Page.{escaped, escaped_octet, has_meaning}

-- whether none of the octets has a meaning
abbrev are_text : List ℕ → Bool
are_text octets = list_all (λ octet. not (has_meaning octet)) octets

-- an octet, escaped where it has a meaning
octet_text : (octet : ℕ) → are_text (escaped_octet octet) ≡ true
unfolding encode_with
octet_text octet = by (cases_eq octet 60) (cases_eq octet 62) (cases_eq octet 38) (cases_eq octet 34)
    (cases_eq octet 39)
  where
    by : (octet ≡ 60) ⊎ (octet ≡ 60 → ⊥) → (octet ≡ 62) ⊎ (octet ≡ 62 → ⊥)
        → (octet ≡ 38) ⊎ (octet ≡ 38 → ⊥) → (octet ≡ 34) ⊎ (octet ≡ 34 → ⊥)
        → (octet ≡ 39) ⊎ (octet ≡ 39 → ⊥) → are_text (escaped_octet octet) ≡ true
    by (inl is) two three four five =
        ap (λ (one : ℕ). are_text (escaped_octet one)) is
    by (inr one) (inl is) three four five = ap (λ (one : ℕ). are_text (escaped_octet one)) is
    by (inr one) (inr two) (inl is) four five = ap (λ (one : ℕ). are_text (escaped_octet one)) is
    by (inr one) (inr two) (inr three) (inl is) five =
        ap (λ (one : ℕ). are_text (escaped_octet one)) is
    by (inr one) (inr two) (inr three) (inr four) (inl is) =
        ap (λ (one : ℕ). are_text (escaped_octet one)) is
    by (inr one) (inr two) (inr three) (inr four) (inr five) = grind (arith, common_steps)

-- and so all of them
pub lines_text : (lines : List ℕ) → are_text (escaped lines) ≡ true
lines_text [] = refl
lines_text (octet ∷ lines) =
    list_all-append (λ (one : ℕ). not (has_meaning one)) (escaped_octet octet) (escaped lines)
    ∙ ap (λ (first : Bool). first && are_text (escaped lines)) (octet_text octet)
    ∙ lines_text lines
