-- The entry that an index names.
use Rattle.hpack.proofs.Names.{◌≡◌, ℕ, zero, suc, ◌+◌, ◌-◌, ◌<◌, ◌≤◌, ◌⊎◌, inl, inr, List, [], ◌∷◌}
use Rattle.hpack.proofs.Names.{◌++◌, length, Option, None, Some, refl, ap, ◌∙◌, arith, slice_get}
use Rattle.hpack.proofs.Names.{slice_get_past, Entry, static_entries, entry}
use Rattle.std.proofs.Common.{MatchOption}

-- Within the first list, the second doesn't matter.
pub slice_get-left : (xs ys : List Entry) (place : ℕ) → place < length xs
    → slice_get (xs ++ ys) place ≡ slice_get xs place
slice_get-left [] ys place lt = absurd (omega arith)
slice_get-left (x ∷ xs) ys zero lt = refl
slice_get-left (x ∷ xs) ys (suc place) lt = slice_get-left xs ys place (omega arith)

-- Past the first list, the second one is read.
pub slice_get-right : (xs ys : List Entry) (place : ℕ)
    → slice_get (xs ++ ys) (length xs + place) ≡ slice_get ys place
slice_get-right [] ys place = ap (λ (n : ℕ). slice_get ys n) (omega arith)
slice_get-right (x ∷ xs) ys place =
    let next : suc (length xs) + place ≡ suc (length xs + place) = omega arith in
    ap (λ (n : ℕ). slice_get (x ∷ (xs ++ ys)) n) next ∙ slice_get-right xs ys place

-- The static table has 61 entries.
static_count : length static_entries ≡ 61
unfolding static_entries
static_count = refl

-- An index up to 61 names an entry of the static table.
pub entry-static : (entries : List Entry) (index : ℕ) → 0 < index → index ≤ 61
    → entry entries index ≡ slice_get static_entries (index - 1)
unfolding entry
entry-static entries zero low high = absurd (omega arith)
entry-static entries (suc place) low high =
    let same : place ≡ suc place - 1 = omega arith in
    slice_get-left static_entries entries place (omega (arith, static_count))
    ∙ ap (λ (n : ℕ). slice_get static_entries n) same

-- A greater one names an entry of the dynamic table.
pub entry-dynamic : (entries : List Entry) (index : ℕ) → 61 < index
    → entry entries index ≡ slice_get entries (index - 61 - 1)
unfolding entry
entry-dynamic entries zero high = absurd (omega arith)
entry-dynamic entries (suc place) high =
    let same : place ≡ length static_entries + (suc place - 61 - 1) = omega (arith, static_count) in
    ap (λ (n : ℕ). slice_get (static_entries ++ entries) n) same
    ∙ slice_get-right static_entries entries (suc place - 61 - 1)

-- The index 0 names none.
pub entry-zero : (entries : List Entry) → entry entries 0 ≡ None
unfolding entry
entry-zero entries = refl

-- An index up to 61 that the static table doesn't have names none.
pub entry-no_static : (entries : List Entry) (index : ℕ) → index ≤ 61 → (index ≡ 0) ⊎ (61 < index)
    → entry entries index ≡ None
entry-no_static entries index le (inl e) = ap (entry entries) e ∙ entry-zero entries
entry-no_static entries index le (inr lt) = absurd (omega arith)

-- A greater index that the dynamic table doesn't have names none.
pub entry-no_dynamic : (entries : List Entry) (index : ℕ) → 61 < index
    → (index - 61 ≡ 0) ⊎ (length entries < index - 61) → entry entries index ≡ None
entry-no_dynamic entries index lt (inl e) = absurd (omega arith)
entry-no_dynamic entries index lt (inr past) = entry-dynamic entries index lt
    ∙ slice_get_past entries (index - 61 - 1) (omega arith)

-- A fact of an option by cases gives another one.
pub option_weaker : {A : Type 0} (found : Option A) {P P' : Type 0} {Q Q' : A → Type 0} → (P → P')
    → ((x : A) → Q x → Q' x) → MatchOption found P Q → MatchOption found P' Q'
option_weaker None none some h = none h
option_weaker (Some x) none some h = some x h
