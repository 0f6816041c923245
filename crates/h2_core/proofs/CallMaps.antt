-- What is kept of a number that is added to the streams, and taken away again.
use Rattle.h2_core.proofs.Names.{◌≡◌, ℕ, ◌==◌, Bool, true, false, if◌then◌else◌, Some, None, refl}
use Rattle.h2_core.proofs.Names.{sym, ap, ◌∙◌, nat_cmp_total, StreamEntry, StreamMap, get_set}
use Rattle.h2_core.proofs.Names.{get_removed}
use Rattle.std.proofs.lemmas.Bool.{eqb-true}
use Rattle.std.specs.FinMap as map

module _ (m : StreamMap) (k : ℕ) (v : StreamEntry) where
  -- Each entry is what it was, by whether its number was added and taken away.
  entry_again : (q : ℕ) (same : Bool) → map.get m k ≡ None → (q == k) ≡ same
      → map.get (map.remove (map.insert m k v) k) q ≡ map.get m q
  entry_again q true none is =
      let equal : q ≡ k = eqb-true q k is in
      let absent : map.get m q ≡ None = rw equal none in
      get_removed (map.insert m k v) k q
      ∙ ap (λ (b : Bool). if b then None else map.get (map.insert m k v) q) is ∙ sym absent
  entry_again q false none is = get_removed (map.insert m k v) k q
      ∙ ap (λ (b : Bool). if b then None else map.get (map.insert m k v) q) is ∙ get_set m k v q
      ∙ ap (λ (b : Bool). if b then Some v else map.get m q) is

  -- A number of which nothing was kept, added and taken away, leaves the streams as they were.
  pub remove_inserted : map.get m k ≡ None → map.remove (map.insert m k v) k ≡ m
  remove_inserted none =
      map.same_map nat_cmp_total map.nat_cmp-IsAntisymmetric (map.remove (map.insert m k v) k) m
      (λ q. entry_again q (q == k) none refl)
