-- Sums over the streams that are kept: what an entry that is set, removed or changed makes of what
-- is owed on all streams.
use Rattle.h2_laws_machine.proofs.Names
use Names.{zero, nat_cmp_total, entries_changed, get_removed_same, get_removed_other, suc, ◌<◌, ◌≤◌}
use Names.{◌≢◌, ◌≡◌, ℕ, ◌+◌, List, ◌∷◌, Some, None, refl, sym, ap, ◌∙◌, Bool, true, false, cond, []}
use Names.{Option, arith, ◌==◌, eqb-false, StreamEntry, owed_entry, owed_total, each_entry, nat_cmp}
use Names.{StreamMap, owed_sum, changed, sum_below}
use Rattle.std.proofs.Common.{eqb-true}
use Rattle.h2_laws_machine.proofs.EntryCounts.{count-each, count-empty, count-insert, count-remove}
use Rattle.h2_laws_machine.proofs.EntryCounts.{count_of}
use Rattle.std.specs.FinMap as map

-- What is owed on all streams is the sum of what each entry owes.
owed_counted : (es : List (ℕ × StreamEntry)) → owed_sum es ≡ count_of owed_entry es
unfolding owed_sum count_of
owed_counted [] = refl
owed_counted (e ∷ es) = omega (arith, owed_counted es)

-- What is owed on all streams, after an entry that is set.
pub total-insert : (m : StreamMap) (k : ℕ) (v : StreamEntry)
    → owed_total (map.insert m k v) + owed_entry (map.get m k) ≡ owed_total m + owed_entry (Some v)
total-insert m k v =
    rw (owed_counted (map.entries (map.insert m k v)), owed_counted (map.entries m))
    (count-insert owed_entry refl m k v)

-- What is owed on all streams after an entry that is removed.
pub total-remove : (m : StreamMap) (k : ℕ)
    → owed_total (map.remove m k) + owed_entry (map.get m k) ≡ owed_total m
total-remove m k =
    rw (owed_counted (map.entries (map.remove m k)), owed_counted (map.entries m))
    (count-remove owed_entry refl m k)

-- Nothing is owed where no stream is kept.
pub total-empty : owed_total map.empty ≡ 0
total-empty = owed_counted (map.entries map.empty) ∙ count-empty owed_entry

-- Nothing is owed where nothing is kept of any number.
total_of_none : (m : StreamMap) → ((i : ℕ) → map.get m i ≡ None) → owed_total m ≡ 0
total_of_none m none =
    ap owed_total (map.same_map nat_cmp_total map.nat_cmp-IsAntisymmetric m map.empty
    (λ q. none q ∙ sym (map.get-empty nat_cmp q))) ∙ total-empty

-- Changes of all streams that keep what is owed on each keep what is owed on all.
pub total-each : (change : StreamEntry → StreamEntry) (m : StreamMap)
    → ((x : StreamEntry) → owed_entry (Some (change x)) ≡ owed_entry (Some x))
    → owed_total (each_entry change m) ≡ owed_total m
total-each change m keeps =
    owed_counted _ ∙ count-each owed_entry change m keeps ∙ sym (owed_counted (map.entries m))

-- What isn't found at an entry, nor after it, isn't found once it is changed, by the test whether
-- it is the one.
not_found_by : (b : Bool) (v w : StreamEntry) (x y : Option StreamEntry) → (x ≡ None → y ≡ None)
    → cond b (Some v) x ≡ None → cond b (Some w) y ≡ None
not_found_by true v w x y after is = cc
not_found_by false v w x y after is = after is

-- What isn't found isn't found among entries that are changed.
find_changed : (change : StreamEntry → StreamEntry) (q : ℕ) (es : List (ℕ × StreamEntry))
    → map.find nat_cmp q es ≡ None → map.find nat_cmp q (changed change es) ≡ None
find_changed change q [] none = refl
find_changed change q (e ∷ es) none =
    not_found_by _ _ _ _ (map.find nat_cmp q (changed change es)) (find_changed change q es) none

-- Where nothing is kept, nothing is kept once all streams were changed.
pub get_each_none : (change : StreamEntry → StreamEntry) (m : StreamMap) (q : ℕ)
    → map.get m q ≡ None
    → map.get (each_entry change m) q ≡ None
get_each_none change m q none =
    map.get-entries (each_entry change m) q ∙ ap (map.find nat_cmp q) (entries_changed change m)
    ∙ find_changed change q (map.entries m) (sym (map.get-entries m q) ∙ none)

-- Sums of numbers that are the same below a bound are the same.
pub same_sum : (n : ℕ) (f g : ℕ → ℕ) → ((i : ℕ) → i < n → f i ≡ g i) → sum_below n f ≡ sum_below n g
unfolding sum_below
same_sum zero f g same = refl
same_sum (suc n) f g same =
    omega (arith, same n (omega arith), same_sum n f g (λ i below. same i (omega arith)))

-- Nothing is kept from a number on, once it was removed and nothing was kept above it.
none_from : (m : StreamMap) (n : ℕ) → ((i : ℕ) → suc n ≤ i → map.get m i ≡ None) → (i : ℕ) → n ≤ i
    → (b : Bool) → (i == n) ≡ b
    → map.get (map.remove m n) i ≡ None
none_from m n above i from true same =
    ap (map.get (map.remove m n)) (eqb-true i n same) ∙ get_removed_same m n
none_from m n above i from false same =
    let apart : i ≢ n = eqb-false i n same in get_removed_other m n i apart ∙ above i (omega arith)

-- What is owed on all streams, where nothing is kept from a bound on, is the sum of what is owed on
-- each number below it.
pub total-sum : (n : ℕ) (m : StreamMap) → ((i : ℕ) → n ≤ i → map.get m i ≡ None)
    → owed_total m ≡ sum_below n (λ i. owed_entry (map.get m i))
unfolding sum_below
total-sum zero m above = total_of_none m (λ i. above i (omega arith))
total-sum (suc n) m above =
    let following : owed_total (map.remove m n)
    ≡ sum_below n (λ i. owed_entry (map.get (map.remove m n) i)) =
    total-sum n (map.remove m n) (λ i from. none_from m n above i from (i == n) refl) in
    let same : sum_below n (λ i. owed_entry (map.get (map.remove m n) i))
    ≡ sum_below n (λ i. owed_entry (map.get m i)) =
    same_sum n (λ i. owed_entry (map.get (map.remove m n) i)) (λ i. owed_entry (map.get m i))
    (λ i below. ap owed_entry (get_removed_other m n i (omega arith))) in
    omega (arith, following, same, total-remove m n)
