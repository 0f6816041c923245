-- Parts of a list, one after another.
use Rattle.std.proofs.Common.{◌≡◌, ◌∙◌, ℕ, ◌+◌, List, [], ◌∷◌, ◌++◌, take, flat_map, Option}
use Rattle.std.proofs.Common.{Some, ap, sym, subst, append-nil, slice_get}
use Rattle.std.specs.Io.KnownBytes.{Appends}
use Rattle.std.proofs.KnownBytes.{Appends-trans}
use Rattle.std.proofs.lemmas.Grind.{flat_map-append}
use Rattle.std.proofs.lemmas.List.{take_more}
use Rattle.std.proofs.lemmas.Option.{slice_get_within, get_or_from_slice_get}

module _ {X : Type 0} where
  -- the elements up to the next one
  pub next_element : (xs : List X) (place : ℕ) (next : X) → slice_get xs place ≡ Some next
      → take (place + 1) xs ≡ take place xs ++ next ∷ []
  next_element xs place next there =
      take_more xs place next (slice_get_within xs place next there)
      ∙ ap (λ (x : X). take place xs ++ x ∷ []) (get_or_from_slice_get xs place next next there)

  -- the parts of the elements up to the next one, whose part is written
  pub next_part : (part : X → List ℕ) (xs : List X) (place : ℕ) (next : X)
      (start before after : Option (List ℕ)) → slice_get xs place ≡ Some next
      → Appends start before (flat_map part (take place xs)) → Appends before after (part next)
      → Appends start after (flat_map part (take (place + 1) xs))
  next_part part xs place next start before after there written last =
      subst (λ (text : List ℕ). Appends start after text)
      (sym (ap (flat_map part) (next_element xs place next there)
      ∙ flat_map-append part (take place xs) (next ∷ [])
      ∙ ap (λ (text : List ℕ). flat_map part (take place xs) ++ text) (append-nil (part next))))
      (Appends-trans start before after _ _ written last)
