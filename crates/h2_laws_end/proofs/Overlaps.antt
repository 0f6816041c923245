-- Two lists that are joined to one line: one of them begins with the other.
use Rattle.h2_laws_end.proofs.Names.{◌≡◌, ◌⊎◌, List, [], ◌∷◌, ◌++◌, refl, sym, inl, inr}

-- The first list is the second and more, or the second is the first and at least one more.
abbrev pub Overlaps : {A : Type 0} → List A → List A → List A → List A → Type 0
Overlaps {A} one tail other end = ((between : List A) × (one ≡ other ++ between)
    × (end ≡ between ++ tail))
    ⊎ ((next : A) × (between : List A) × (other ≡ one ++ next ∷ between)
    × (tail ≡ next ∷ between ++ end))

-- One more before both.
overlap_after : {A : Type 0} (first second : A) (one tail other end : List A) → first ≡ second
    → Overlaps one tail other end → Overlaps (first ∷ one) tail (second ∷ other) end
overlap_after first second one tail other end same (inl (between, is, follows)) =
    inl (between, rw (same, is) refl, follows)
overlap_after first second one tail other end same (inr (next, between, is, follows)) =
    inr (next, between, rw (same, is) refl, follows)

pub overlap : {A : Type 0} (one tail other end : List A) → one ++ tail ≡ other ++ end
    → Overlaps one tail other end
overlap [] tail [] end line = inl ([], refl, sym line)
overlap [] tail (next ∷ between) end line = inr (next, between, refl, line)
overlap (first ∷ one) tail [] end line = inl (first ∷ one, refl, sym line)
overlap (first ∷ one) tail (second ∷ other) end line =
    let same : first ≡ second = cc in
    let line_on : one ++ tail ≡ other ++ end = cc in
    overlap_after first second one tail other end same (overlap one tail other end line_on)
