-- What stands after the root is cut into the names.
use Rattle.std.proofs.Common.{◌≡◌, ◌≢◌, ℕ, ◌∷◌, ◌++◌, false, List, []}
use Rattle.std.proofs.Common.{refl, ap, ◌∙◌, All, Contains, drop, eqb, append-nil}
use Rattle.std.proofs.lemmas.Bool.{eqb-true, false_from_ne_true}
use Rattle.std.proofs.lemmas.List.Elements.{All-contains_itself, All-head, All-tail, All-weaker}
use Rattle.std.proofs.lemmas.List.Splits.{slice_split_at, slice_split_none}
use Rattle.h2_files.specs.Cuts.{is_octet}
use Rattle.h2_files.specs.Paths.{StaysInFolder, below, segments}

-- No octet of a name without a slash is one.
no_slash_in : (name : List ℕ) → (Contains name 47 → ⊥)
    → All (λ octet. is_octet 47 octet ≡ false) name
no_slash_in name none =
    All-weaker (Contains name) _
    (λ octet has. false_from_ne_true (eqb octet 47)
    (λ same. none (rw (eqb-true octet 47 same) at has)))
    name (All-contains_itself name)

-- The segments of a path of names are the names.
pub segments_of_below : (names : List (List ℕ)) → names ≢ [] → All StaysInFolder names
    → segments (drop 1 (below names)) ≡ names
segments_of_below [] some all = absurd (some refl)
segments_of_below (name ∷ []) some all =
    let plain = no_slash_in name (All-head StaysInFolder name [] all).no_slash in
    rw (append-nil name) (slice_split_none (is_octet 47) name plain)
segments_of_below (name ∷ next ∷ more) some all =
    let plain = no_slash_in name (All-head StaysInFolder name (next ∷ more) all).no_slash in
    slice_split_at (is_octet 47) name 47 (next ++ below more) plain refl
    ∙ ap (λ parts. name ∷ parts)
    (segments_of_below (next ∷ more) (λ none. absurd (cc))
    (All-tail StaysInFolder name (next ∷ more) all))
