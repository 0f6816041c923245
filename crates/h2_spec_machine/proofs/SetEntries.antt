-- What is kept of each stream after an entry that is set, or removed.
use Rattle.std.proofs.Common.{◌≡◌, ◌≢◌, ℕ, ◌==◌, Bool, true, false, if◌then◌else◌, Some, None, refl}
use Rattle.std.proofs.Common.{ap, ◌∙◌, eq-eqb, ne_eqb}
use Rattle.std.specs.Cmp.{nat_cmp_total, unsigned_tied}
use Rattle.std.specs.FinMap as map
use Rattle.h2_spec_machine.specs.End.{StreamEntry, StreamMap}

-- A number is itself.
same_number : (k : ℕ) → (k == k) ≡ true
same_number k = eq-eqb k k refl

-- A number isn't another.
other_number : (q k : ℕ) → q ≢ k → (q == k) ≡ false
other_number q k apart = ne_eqb q k apart

-- what is kept after an entry that is set
pub get_set : (m : StreamMap) (k : ℕ) (v : StreamEntry) (q : ℕ)
    → map.get (map.insert m k v) q ≡ (if q == k then Some v else map.get m q)
get_set m k v q =
    map.get-insert nat_cmp_total m k v q
    ∙ ap (λ (b : Bool). if b then Some v else map.get m q) (unsigned_tied q k)

-- what is kept after an entry that is removed
pub get_removed : (m : StreamMap) (k q : ℕ)
    → map.get (map.remove m k) q ≡ (if q == k then None else map.get m q)
get_removed m k q =
    map.get-remove nat_cmp_total m k q
    ∙ ap (λ (b : Bool). if b then None else map.get m q) (unsigned_tied q k)

-- At the number itself, the entry is the one that was set.
pub get_set_same : (m : StreamMap) (k : ℕ) (v : StreamEntry) → map.get (map.insert m k v) k ≡ Some v
get_set_same m k v =
    get_set m k v k ∙ ap (λ (b : Bool). if b then Some v else map.get m k) (same_number k)

-- At another number the entry is what it was.
pub get_set_other : (m : StreamMap) (k : ℕ) (v : StreamEntry) (q : ℕ) → q ≢ k
    → map.get (map.insert m k v) q ≡ map.get m q
get_set_other m k v q apart =
    get_set m k v q ∙ ap (λ (b : Bool). if b then Some v else map.get m q) (other_number q k apart)

-- At the number itself nothing is kept once it was removed.
pub get_removed_same : (m : StreamMap) (k : ℕ) → map.get (map.remove m k) k ≡ None
get_removed_same m k =
    get_removed m k k ∙ ap (λ (b : Bool). if b then None else map.get m k) (same_number k)

-- At another number the entry is what it was.
pub get_removed_other : (m : StreamMap) (k q : ℕ) → q ≢ k → map.get (map.remove m k) q ≡ map.get m q
get_removed_other m k q apart =
    get_removed m k q ∙ ap (λ (b : Bool). if b then None else map.get m q) (other_number q k apart)

-- Where nothing was kept, nothing is kept once a number was removed.
pub get_removed_none : (m : StreamMap) (k q : ℕ) → map.get m q ≡ None
    → map.get (map.remove m k) q ≡ None
get_removed_none m k q none = get_removed m k q ∙ choice (q == k)
  where
    choice : (b : Bool) → (if b then None else map.get m q) ≡ None
    choice true = refl
    choice false = none
