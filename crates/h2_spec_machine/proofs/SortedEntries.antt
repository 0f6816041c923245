-- What is found in a list of entries in the order of their numbers: the least active number above
-- another, and whether a send window is brought above the greatest.
use Rattle.std.proofs.Common.{◌≡◌, ◌≢◌, ℕ, zero, suc, ◌≤◌, ◌<◌, Bool, true, false, nat_lt, ◌&&◌}
use Rattle.std.proofs.Common.{◌||◌, cond, T, if◌then◌else◌, List, [], ◌∷◌, Some, None, Less}
use Rattle.std.proofs.Common.{Equal, Greater, Ordering, inl, inr, refl, sym, ap, ◌∙◌, arith}
use Rattle.std.specs.FinMap as map
use Rattle.std.specs.FinMap.Entries.{below_all}
use Rattle.std.specs.Ordering.{nat_cmp, is_lt, is_eq}
use Rattle.std.specs.Cmp.{nat_cmp_total, ranked, unsigned_tied}
use Rattle.std.proofs.lemmas.Bool.{and_parts, or_cases, or_left, or_right, both_ways}
use Rattle.std.proofs.lemmas.Bool.{ltb-true, lt-ltb, eq-eqb}
use Rattle.h2_spec_machine.specs.End.{StreamEntry, any_above, above_by_shift}
use Rattle.h2_spec_machine.specs.Machine.{first_active, is_active_entry}

-- The first part of a test that holds, holds.
pub first : (a b : Bool) → T (a && b) → T a
first true b p = tt
first false b p = p

-- So does the second.
pub second : (a b : Bool) → T (a && b) → T b
second true b p = p
second false b p = absurd p

-- An order that is below is `Less`.
pub less : (o : Ordering) → T (is_lt o) → o ≡ Less
less Less p = refl
less Equal p = absurd p
less Greater p = absurd p

-- A number below one that is below all others is not found among these.
pub not_found : (q x : ℕ) (es : List (ℕ × StreamEntry)) → nat_cmp q x ≡ Less
    → T (below_all nat_cmp x es)
    → map.find nat_cmp q es ≡ None
not_found q x [] p h = refl
not_found q x (e ∷ es) p h =
    let below : nat_cmp q e.0 ≡ Less =
    nat_cmp_total.trans q x e.0 p
    (less (nat_cmp x e.0) (first (is_lt (nat_cmp x e.0)) (below_all nat_cmp x es) h)) in
    ap (λ (r : Ordering). cond (is_eq r) (Some e.1) (map.find nat_cmp q es)) below
    ∙ not_found q x es p (second (is_lt (nat_cmp x e.0)) (below_all nat_cmp x es) h)

-- A number that is below all others is not found among these.
pub not_itself : (x : ℕ) (es : List (ℕ × StreamEntry)) → T (below_all nat_cmp x es)
    → map.find nat_cmp x es ≡ None
not_itself x [] h = refl
not_itself x (e ∷ es) h =
    let below : nat_cmp x e.0 ≡ Less =
    less (nat_cmp x e.0) (first (is_lt (nat_cmp x e.0)) (below_all nat_cmp x es) h) in
    ap (λ (r : Ordering). cond (is_eq r) (Some e.1) (map.find nat_cmp x es)) below
    ∙ not_itself x es (second (is_lt (nat_cmp x e.0)) (below_all nat_cmp x es) h)

-- What is found after an entry is found with it, by how its number compares.
found_by : (i : ℕ) (e : ℕ × StreamEntry) (es : List (ℕ
    × StreamEntry)) (x : StreamEntry) (r : Ordering)
    → nat_cmp i e.0 ≡ r → T (below_all nat_cmp e.0 es)
    → map.find nat_cmp i es ≡ Some x → cond (is_eq r) (Some e.1) (map.find nat_cmp i es) ≡ Some x
found_by i e es x Less is h found = found
found_by i e es x Greater is h found = found
found_by i e es x Equal is h found =
    let same : i ≡ e.0 = map.nat_cmp-IsAntisymmetric i e.0 is in
    let none : map.find nat_cmp i es ≡ None = rw same (not_itself e.0 es h) in
    cc

-- What is found after an entry is found with it.
pub found_after : (i : ℕ) (e : ℕ × StreamEntry) (es : List (ℕ × StreamEntry)) (x : StreamEntry)
    → T (below_all nat_cmp e.0 es)
    → map.find nat_cmp i es ≡ Some x → map.find nat_cmp i (e ∷ es) ≡ Some x
found_after i e es x h found = found_by i e es x (nat_cmp i e.0) refl h found

-- The first entry is found.
pub found_first : (e : ℕ × StreamEntry) (es : List (ℕ × StreamEntry))
    → map.find nat_cmp e.0 (e ∷ es) ≡ Some e.1
found_first e es = ap (λ (b : Bool). cond b (Some e.1) (map.find nat_cmp e.0 es))
    (unsigned_tied e.0 e.0 ∙ eq-eqb e.0 e.0 refl)

-- A number that is found, is active, and is above another.
pub record Found (above n : ℕ) (es : List (ℕ × StreamEntry)) : Type 0 where
  pub x : StreamEntry
  pub found : map.find nat_cmp n es ≡ Some x
  pub active : is_active_entry x ≡ true
  pub higher : nat_lt above n ≡ true

-- The first active number is found, by the test of the first entry.
first_by : (above : ℕ) (e : ℕ × StreamEntry) (es : List (ℕ × StreamEntry)) (b : Bool)
    → (is_active_entry e.1 && nat_lt above e.0) ≡ b → T (below_all nat_cmp e.0 es)
    → (first_active above es ≢ 0 → Found above (first_active above es) es)
    → (if b then e.0 else first_active above es) ≢ 0
    → Found above (if b then e.0 else first_active above es) (e ∷ es)
first_by above e es true is h after some =
    let both = and_parts (is_active_entry e.1) (nat_lt above e.0) is in
    record { x = e.1; found = found_first e es; active = both.0; higher = both.1 }
first_by above e es false is h after some =
    let later = after some in
    record {
      x = later.x;
      found = found_after (first_active above es) e es later.x h later.found;
      active = later.active;
      higher = later.higher;
    }

-- The first active number is found.
pub first_found : (above : ℕ) (es : List (ℕ × StreamEntry)) → T (map.is_sorted nat_cmp es)
    → first_active above es ≢ 0 → Found above (first_active above es) es
unfolding first_active
first_found above [] h some = absurd (some refl)
first_found above (e ∷ es) h some =
    first_by above e es (is_active_entry e.1 && nat_lt above e.0) refl
    (first (below_all nat_cmp e.0 es) (map.is_sorted nat_cmp es) h)
    (first_found above es (second (below_all nat_cmp e.0 es) (map.is_sorted nat_cmp es) h)) some

-- A number after the first entry: the first active one is there, or no greater.
least_by : (above i : ℕ) (e : ℕ × StreamEntry) (es : List (ℕ × StreamEntry)) (b : Bool)
    → (is_active_entry e.1 && nat_lt above e.0) ≡ b → e.0 < i
    → (first_active above es ≢ 0) × (first_active above es ≤ i)
    → ((if b then e.0 else first_active above es) ≢ 0) × ((if b then e.0 else first_active above es)
    ≤ i)
least_by above i e es true is below later =
    let higher : above < e.0 = ltb-true above e.0 (and_parts (is_active_entry e.1)
    (nat_lt above e.0) is).1 in (omega arith, omega arith)
least_by above i e es false is below later = later

-- An active number above another: the first active one is there and no greater, by how it compares
-- with the first entry.
least_at : (above i : ℕ) (e : ℕ × StreamEntry) (es : List (ℕ
    × StreamEntry)) (x : StreamEntry) (r : Ordering)
    → nat_cmp i e.0 ≡ r → T (below_all nat_cmp e.0 es)
    → (map.find nat_cmp i es ≡ Some x → (first_active above es ≢ 0) × (first_active above es ≤ i))
    → cond (is_eq r) (Some e.1) (map.find nat_cmp i es) ≡ Some x → is_active_entry x ≡ true
    → above < i
    → ((if is_active_entry e.1 && nat_lt above e.0 then e.0 else first_active above es) ≢ 0)
    × ((if is_active_entry e.1 && nat_lt above e.0 then e.0 else first_active above es) ≤ i)
least_at above i e es x Less is h after found alive higher =
    let none : map.find nat_cmp i es ≡ None = not_found i e.0 es is h in absurd (cc)
least_at above i e es x Greater is h after found alive higher =
    least_by above i e es (is_active_entry e.1 && nat_lt above e.0) refl (ranked i e.0 Greater
    (sym is)) (after found)
least_at above i e es x Equal is h after found alive higher =
    let same : e.1 ≡ x = cc in
    let at : i ≡ e.0 = map.nat_cmp-IsAntisymmetric i e.0 is in
    let here : above < e.0 = omega (arith, at, higher) in
    rw (same, alive, lt-ltb above e.0 here) (omega (arith, here), omega (arith, at))

-- An active number above another: the first active one is there and no greater.
pub first_least : (above i : ℕ) (es : List (ℕ × StreamEntry)) (x : StreamEntry)
    → T (map.is_sorted nat_cmp es)
    → map.find nat_cmp i es ≡ Some x → is_active_entry x ≡ true → above < i
    → (first_active above es ≢ 0) × (first_active above es ≤ i)
unfolding first_active
first_least above i [] x h found alive higher = absurd (cc)
first_least above i (e ∷ es) x h found alive higher =
    least_at above i e es x (nat_cmp i e.0) refl (first (below_all nat_cmp e.0 es)
    (map.is_sorted nat_cmp es) h)
    (λ after. first_least above i es x (second (below_all nat_cmp e.0 es) (map.is_sorted nat_cmp es)
    h) after alive higher) found alive higher

-- Two numbers that are there just where the other is and no greater are the same.
pub two_least : (m n : ℕ) → (m ≢ 0 → (n ≢ 0) × (n ≤ m)) → (n ≢ 0 → (m ≢ 0) × (m ≤ n)) → m ≡ n
two_least zero zero one two = refl
two_least (suc m) zero one two = absurd ((one (λ is. absurd (omega (arith, is)))).0 refl)
two_least zero (suc n) one two = absurd ((two (λ is. absurd (omega (arith, is)))).0 refl)
two_least (suc m) (suc n) one two = omega (
  arith,
  (one (λ is. absurd (omega (arith, is)))).1,
  (two (λ is. absurd (omega (arith, is)))).1,
)

-- Two tests that hold where the other does are the same.
pub both_same : (a b : Bool) → (a ≡ true → b ≡ true) → (b ≡ true → a ≡ true) → a ≡ b
both_same true b there back = sym (there refl)
both_same false true there back = back refl
both_same false false there back = refl

-- An entry that is brought above the greatest window.
pub record Above (old new : ℕ) (es : List (ℕ × StreamEntry)) : Type 0 where
  pub i : ℕ
  pub x : StreamEntry
  pub found : map.find nat_cmp i es ≡ Some x
  pub above : above_by_shift old new x ≡ true

-- Where some entry is brought above the greatest window, it is found.
pub above_found : (old new : ℕ) (es : List (ℕ × StreamEntry)) → T (map.is_sorted nat_cmp es)
    → any_above old new es ≡ true → Above old new es
unfolding any_above
above_found old new [] h some = absurd (both_ways false refl some)
above_found old new (e ∷ es) h some = elim (or_cases (above_by_shift old new e.1)
    (any_above old new es) some) [
      | inl here ↦ record { i = e.0; x = e.1; found = found_first e es; above = here }
      | inr after ↦
          let later = above_found old new es (second (below_all nat_cmp e.0 es)
          (map.is_sorted nat_cmp es) h) after in
          record {
            i = later.i;
            x = later.x;
            found = found_after later.i e es later.x (first (below_all nat_cmp e.0 es)
                (map.is_sorted nat_cmp es) h) later.found;
            above = later.above;
          }
    ]

-- An entry that is found is brought above the greatest window, by how its number compares.
any_found_by : (old new i : ℕ) (e : ℕ × StreamEntry) (es : List (ℕ
    × StreamEntry)) (x : StreamEntry) (r : Ordering)
    → (map.find nat_cmp i es ≡ Some x → any_above old new es ≡ true)
    → cond (is_eq r) (Some e.1) (map.find nat_cmp i es) ≡ Some x → above_by_shift old new x ≡ true
    → (above_by_shift old new e.1 || any_above old new es) ≡ true
any_found_by old new i e es x Less after found above = or_right (above_by_shift old new e.1)
    (any_above old new es) (after found)
any_found_by old new i e es x Greater after found above = or_right (above_by_shift old new e.1)
    (any_above old new es) (after found)
any_found_by old new i e es x Equal after found above =
    let same : e.1 ≡ x = cc in or_left (above_by_shift old new e.1) (any_above old new es)
    (rw same above)

-- An entry that is found is brought above the greatest window.
pub any_found : (old new i : ℕ) (es : List (ℕ × StreamEntry)) (x : StreamEntry)
    → map.find nat_cmp i es ≡ Some x → above_by_shift old new x ≡ true
    → any_above old new es ≡ true
unfolding any_above
any_found old new i [] x found above = absurd (cc)
any_found old new i (e ∷ es) x found above =
    any_found_by old new i e es x (nat_cmp i e.0) (λ after. any_found old new i es x after above)
    found above
