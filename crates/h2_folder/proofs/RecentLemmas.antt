-- Places of files, into one of which a file is put, and names that are the same.
use Rattle.std.proofs.Common.{◌≡◌, ◌<◌, ◌+◌, ◌⊎◌, ◌∙◌, ℕ, List, [], ◌∷◌, ◌++◌, Option, None, Some}
use Rattle.std.proofs.Common.{ap, get_or, inl, inr, length, map, set, string_bytes, subst, sym}
use Rattle.std.proofs.Common.{String, take}
use Rattle.std.specs.List.{Contains}
use Rattle.std.proofs.lemmas.Grind.{get_or-set_at}
use Rattle.std.proofs.lemmas.List.{get_or-map, get_or-set_other, length-map, length-set}
use Rattle.std.proofs.lemmas.List.{take_more}
use Rattle.std.proofs.lemmas.List.Elements.{Contains-push_cases}
use Rattle.std.proofs.lemmas.Option.{none-some, same_Some}
use Rattle.std.proofs.lemmas.Bool.{cases_eq}
use Rattle.h2_files.specs.Paths.{texts}

-- the same of the place with this number
at_place : {X : Type 0} (places : List (Option X)) (at k : ℕ) (file one : X)
    → (k ≡ at) ⊎ (k ≡ at → ⊥) → k < length places
    → get_or (set places at (Some file)) k (Some one) ≡ Some one
    → (one ≡ file) ⊎ Contains places (Some one)
at_place places at k file one (inl same) within read =
    inl (same_Some one file (sym read ∙ get_or-set_at places at k (Some file) (Some one) same
    (subst (λ (n : ℕ). n < length places) same within)))
at_place places at k file one (inr other) within read =
    inr (k, within, sym (get_or-set_other places at k (Some file) (Some one) other) ∙ read)

-- A file that is among the places after one was put into a place is that one, or was among them.
pub kept_or_put : {X : Type 0} (places : List (Option X)) (at : ℕ) (file one : X)
    → Contains (set places at (Some file)) (Some one)
    → (one ≡ file) ⊎ Contains places (Some one)
kept_or_put places at file one (k, within, read) =
    at_place places at k file one (cases_eq k at)
    (subst (λ (n : ℕ). k < n) (length-set places at (Some file)) within) read

-- Where no place holds a file, none does with an empty place more.
none_or_empty : {X : Type 0} (places : List (Option X)) (one : X)
    → (Contains places (Some one) → ⊥) → Contains places (Some one) ⊎ (None ≡ Some one) → ⊥
none_or_empty places one none (inl there) = none there
none_or_empty places one none (inr is) = none-some one is

pub none_with_empty : {X : Type 0} (places : List (Option X)) (one : X)
    → (Contains places (Some one) → ⊥) → Contains (places ++ None ∷ []) (Some one) → ⊥
none_with_empty places one none found =
    none_or_empty places one none (Contains-push_cases places None (Some one) found)

-- One more text of names is that of the name at this place.
text_more : {Z : Type 0} (names : List (String Z)) (place : ℕ) (name : String Z)
    → place < length names → name ≡ get_or names place name
    → take (place + 1) (texts names) ≡ take place (texts names) ++ string_bytes name ∷ []
text_more names place name within is =
    take_more (texts names) place (string_bytes name)
    (subst (λ (n : ℕ). place < n) (sym (length-map names string_bytes)) within)
    ∙ ap (λ (text : List ℕ). take place (texts names) ++ text ∷ [])
    (get_or-map string_bytes names place name (string_bytes name) within
    ∙ ap string_bytes (sym is))

-- Names whose texts are the same before a place, and at it, are so with that one more.
pub same_more : {Z : Type 0} (names others : List (String Z)) (place : ℕ) (name other : String Z)
    → place < length names → place < length others → name ≡ get_or names place name
    → other ≡ get_or others place other → string_bytes name ≡ string_bytes other
    → take place (texts names) ≡ take place (texts others)
    → take (place + 1) (texts names) ≡ take (place + 1) (texts others)
same_more names others place name other within also is other_is same before =
    text_more names place name within is
    ∙ ap (λ (so_far : List (List ℕ)). so_far ++ string_bytes name ∷ []) before
    ∙ ap (λ (text : List ℕ). take place (texts others) ++ text ∷ []) same
    ∙ sym (text_more others place other also other_is)
