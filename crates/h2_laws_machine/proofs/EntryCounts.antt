-- How many entries are active, and how many are of streams that were reset: what an entry that is
-- set, removed or changed makes of it.
use Rattle.std.specs.FinMap as map
use Rattle.h2_laws_machine.proofs.Names
use Names.{◌≡◌, ℕ, ◌+◌, cond, T, List, [], ◌∷◌, length, Option, Some, None, Ordering, Less, Equal}
use Names.{Greater, refl, sym, ap, ◌∙◌, arith, nat_cmp, is_eq, nat_cmp_total, below_all, by_order}
use Names.{StreamEntry, active_entry, reset_entry, StreamMap, each_entry, get_removed_same, changed}
use Names.{entries_changed, first, second, not_found, Bool, eqb-true, get_removed, get_set, ◌==◌}
use Names.{if◌then◌else◌, true, false}
use Rattle.h2_laws_machine.specs.Ranges.{count_active, count_reset}

-- one for an active entry
abbrev pub one_active : Option StreamEntry → ℕ
one_active None = 0
one_active (Some reset_entry) = 0
one_active (Some (active_entry stream)) = 1

-- one for an entry of a stream that was reset
abbrev pub one_reset : Option StreamEntry → ℕ
one_reset None = 0
one_reset (Some reset_entry) = 1
one_reset (Some (active_entry stream)) = 0

module _ (m : StreamMap) (k : ℕ) (v : StreamEntry) where
  -- An entry that is removed and inserted again, at each number.
  inserted_again_at : (q : ℕ) → map.get m k ≡ Some v → (b : Bool) → (q == k) ≡ b
      → (if b then Some v else (if b then None else map.get m q)) ≡ map.get m q
  inserted_again_at q kept true same = sym (ap (λ (i : ℕ). map.get m i) (eqb-true q k same) ∙ kept)
  inserted_again_at q kept false same = refl

  -- An entry that is removed and inserted again changes nothing.
  inserted_again : map.get m k ≡ Some v → map.insert (map.remove m k) k v ≡ m
  inserted_again kept =
      map.same_map nat_cmp_total map.nat_cmp-IsAntisymmetric (map.insert (map.remove m k) k v) m
      (λ q. get_set (map.remove m k) k v q
      ∙ ap (λ (x : Option StreamEntry). if q == k then Some v else x) (get_removed m k q)
      ∙ inserted_again_at q kept (q == k) refl)

-- What is removed where nothing is kept, at each number.
gone_at : (m : StreamMap) (k q : ℕ) → map.get m k ≡ None → (b : Bool) → (q == k) ≡ b
    → (if b then None else map.get m q) ≡ map.get m q
gone_at m k q none true same = sym (ap (λ (i : ℕ). map.get m i) (eqb-true q k same) ∙ none)
gone_at m k q none false same = refl

-- To remove where nothing is kept changes nothing.
gone : (m : StreamMap) (k : ℕ) → map.get m k ≡ None → map.remove m k ≡ m
gone m k none =
    map.same_map nat_cmp_total map.nat_cmp-IsAntisymmetric (map.remove m k) m
    (λ q. get_removed m k q ∙ gone_at m k q none (q == k) refl)

-- the sum of what each entry counts
unfoldable pub count_of : (Option StreamEntry → ℕ) → List (ℕ × StreamEntry) → ℕ
count_of counts [] = 0
count_of counts (entry ∷ entries) = counts (Some entry.1) + count_of counts entries

-- the sum over what is kept
abbrev pub count_in : (Option StreamEntry → ℕ) → StreamMap → ℕ
count_in counts m = count_of counts (map.entries m)

-- the sum after an entry that is set, by how its key compares with the first
count_inserted_by : (counts : Option StreamEntry → ℕ) → counts None ≡ 0 → (k : ℕ) (v : StreamEntry)
    (e : ℕ × StreamEntry) (es : List (ℕ × StreamEntry)) (r : Ordering)
    → nat_cmp k e.0 ≡ r → T (below_all nat_cmp e.0 es)
    → count_of counts (map.put nat_cmp k v es) + counts (map.find nat_cmp k es)
    ≡ count_of counts es + counts (Some v)
    → count_of counts (by_order r ((k, v) ∷ e ∷ es) ((e.0, v) ∷ es) (e ∷ map.put nat_cmp k v es))
    + counts (cond (is_eq r) (Some e.1) (map.find nat_cmp k es))
    ≡ (counts (Some e.1) + count_of counts es) + counts (Some v)
unfolding count_of
count_inserted_by counts empty k v e es Less p h following =
    let none : counts (map.find nat_cmp k es) ≡ 0 = ap counts (not_found k e.0 es p h) ∙ empty in
    omega (arith, none)
count_inserted_by counts empty k v e es Equal p h following = omega arith
count_inserted_by counts empty k v e es Greater p h following = omega (arith, following)

module _ (counts : Option StreamEntry → ℕ) where
  -- the sum after an entry that is set, over a list in order
  count_inserted : counts None ≡ 0 → (k : ℕ) (v : StreamEntry) (es : List (ℕ × StreamEntry))
      → T (map.is_sorted nat_cmp es)
      → count_of counts (map.put nat_cmp k v es) + counts (map.find nat_cmp k es) ≡ count_of counts
      es + counts (Some v)
  unfolding count_of
  count_inserted empty k v [] h = omega (arith, empty)
  count_inserted empty k v (e ∷ es) h =
      count_inserted_by counts empty k v e es (nat_cmp k e.0) refl (first _ _ h)
      (count_inserted empty k v es (second (below_all nat_cmp e.0 es) (map.is_sorted nat_cmp es) h))

  -- the sum after an entry that is set
  pub count-insert : counts None ≡ 0 → (m : StreamMap) (k : ℕ) (v : StreamEntry)
      → count_in counts (map.insert m k v) + counts (map.get m k) ≡ count_in counts m + counts
      (Some v)
  count-insert empty m k v =
      let inserted : map.entries (map.insert m k v) ≡ map.put nat_cmp k v (map.entries m) =
      map.entries-insert nat_cmp_total m k v in
      let found : map.get m k ≡ map.find nat_cmp k (map.entries m) = map.get-entries m k in
      rw (inserted, found) (count_inserted empty k v (map.entries m) (map.entries_sorted m))

  -- the sum after an entry that is removed, by the entry
  count_removed_by : counts None ≡ 0 → (m : StreamMap) (k : ℕ) (x : Option StreamEntry)
      → map.get m k ≡ x → count_in counts (map.remove m k) + counts x ≡ count_in counts m
  count_removed_by empty m k None is =
      let same : count_in counts (map.remove m k) ≡ count_in counts m =
      ap (count_in counts) (gone m k is) in
      omega (arith, same, empty)
  count_removed_by empty m k (Some v) is =
      let set : count_in counts (map.insert (map.remove m k) k v) + counts
      (map.get (map.remove m k) k) ≡ count_in counts (map.remove m k) + counts (Some v) =
      count-insert empty (map.remove m k) k v in
      let back : count_in counts (map.insert (map.remove m k) k v) ≡ count_in counts m = ap
      (count_in counts) (inserted_again m k v is) in
      let none : counts (map.get (map.remove m k) k) ≡ 0 = ap counts (get_removed_same _ _) ∙ empty
      in
      omega (arith, set, back, none)

  -- the sum after an entry that is removed
  pub count-remove : counts None ≡ 0 → (m : StreamMap) (k : ℕ)
      → count_in counts (map.remove m k) + counts (map.get m k) ≡ count_in counts m
  count-remove empty m k = count_removed_by empty m k (map.get m k) refl

  -- A list without entries counts none.
  count_of_none : (es : List (ℕ × StreamEntry)) → length es ≡ 0 → count_of counts es ≡ 0
  unfolding count_of
  count_of_none [] none = refl
  count_of_none (e ∷ es) none = absurd (omega (arith, none))

  -- Nothing is counted where no stream is kept.
  pub count-empty : count_in counts map.empty ≡ 0
  count-empty = count_of_none (map.entries map.empty)
      (sym (map.len-entries map.empty) ∙ map.len-empty nat_cmp StreamEntry)

  -- Changes that keep what each entry counts keep the sum.
  count_changed : (change : StreamEntry → StreamEntry) (es : List (ℕ × StreamEntry))
      → ((x : StreamEntry) → counts (Some (change x)) ≡ counts (Some x))
      → count_of counts (changed change es) ≡ count_of counts es
  unfolding count_of
  count_changed change [] keeps = refl
  count_changed change (e ∷ es) keeps = omega (arith, keeps e.1, count_changed change es keeps)

  -- Changes of all streams that keep what each entry counts keep the sum.
  pub count-each : (change : StreamEntry → StreamEntry) (m : StreamMap)
      → ((x : StreamEntry) → counts (Some (change x)) ≡ counts (Some x))
      → count_in counts (each_entry change m) ≡ count_in counts m
  count-each change m keeps =
      ap (count_of counts) (entries_changed _ _) ∙ count_changed change (map.entries m) keeps

-- How many entries are active is their sum.
pub active_counted : (es : List (ℕ × StreamEntry)) → count_active es ≡ count_of one_active es
unfolding count_of count_active
active_counted [] = refl
active_counted ((i, active_entry stream) ∷ es) = omega (arith, active_counted es)
active_counted ((i, reset_entry) ∷ es) = omega (arith, active_counted es)

-- How many are of streams that were reset is theirs.
pub reset_counted : (es : List (ℕ × StreamEntry)) → count_reset es ≡ count_of one_reset es
unfolding count_of count_reset
reset_counted [] = refl
reset_counted ((i, active_entry stream) ∷ es) = omega (arith, reset_counted es)
reset_counted ((i, reset_entry) ∷ es) = omega (arith, reset_counted es)

-- Each entry is active or of a stream that was reset.
pub all_counted : (es : List (ℕ × StreamEntry))
    → length es ≡ count_of one_active es + count_of one_reset es
unfolding count_of
all_counted [] = refl
all_counted ((i, active_entry stream) ∷ es) = omega (arith, all_counted es)
all_counted ((i, reset_entry) ∷ es) = omega (arith, all_counted es)
