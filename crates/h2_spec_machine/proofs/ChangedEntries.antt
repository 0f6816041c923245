-- What becomes of entries where each is changed.
use Rattle.std.proofs.Common.{◌≡◌, ℕ, Bool, true, false, cond, T, ◌&&◌, List, [], ◌∷◌, Option}
use Rattle.std.proofs.Common.{Some, None, map as each, refl, sym, ap, ap₂, subst, ◌∙◌}
use Rattle.std.specs.Ordering.{nat_cmp, is_eq, is_lt}
use Rattle.std.specs.FinMap as map
use Rattle.std.specs.FinMap.Entries.{below_all}
use Rattle.h2_spec_machine.specs.End.{StreamEntry, StreamMap}
use Rattle.h2_spec_machine.specs.Machine.{each_entry}

-- entries, each of which is changed
abbrev pub changed : (StreamEntry → StreamEntry) → List (ℕ × StreamEntry) → List (ℕ × StreamEntry)
changed change es = each (λ entry. (entry.0, change entry.1)) es

-- a key that is below all, where the entries are changed
below_changed : (change : StreamEntry → StreamEntry) (x : ℕ) (es : List (ℕ × StreamEntry))
    → below_all nat_cmp x (changed change es) ≡ below_all nat_cmp x es
below_changed change x [] = refl
below_changed change x (e ∷ es) =
    ap (λ (b : Bool). is_lt (nat_cmp x e.0) && b) (below_changed change x es)

-- Entries that are changed stay in order.
sorted_changed : (change : StreamEntry → StreamEntry) (es : List (ℕ × StreamEntry))
    → map.is_sorted nat_cmp (changed change es) ≡ map.is_sorted nat_cmp es
sorted_changed change [] = refl
sorted_changed change (e ∷ es) =
    ap₂ (λ (a b : Bool). a && b) (below_changed change e.0 es) (sorted_changed change es)

-- the entries of streams that are changed
pub entries_changed : (change : StreamEntry → StreamEntry) (m : StreamMap)
    → map.entries (each_entry change m) ≡ changed change (map.entries m)
entries_changed change m =
    map.entries-from_sorted nat_cmp (changed change (map.entries m))
    (subst T (sym (sorted_changed change (map.entries m))) (map.entries_sorted m))

-- what is kept, changed
abbrev pub changed_entry : (StreamEntry → StreamEntry) → Option StreamEntry → Option StreamEntry
changed_entry change None = None
changed_entry change (Some x) = Some (change x)

-- What is found among entries that are changed, by the test whether it is the first.
found_each_by : (change : StreamEntry
    → StreamEntry) (b : Bool) (v : StreamEntry) (x y : Option StreamEntry)
    → y ≡ changed_entry change x
    → cond b (Some (change v)) y ≡ changed_entry change (cond b (Some v) x)
found_each_by change true v x y same = refl
found_each_by change false v x y same = same

-- What is found among entries that are changed is what was found, changed.
found_each : (change : StreamEntry → StreamEntry) (q : ℕ) (es : List (ℕ × StreamEntry))
    → map.find nat_cmp q (changed change es) ≡ changed_entry change (map.find nat_cmp q es)
found_each change q [] = refl
found_each change q (e ∷ es) =
    found_each_by change (is_eq (nat_cmp q e.0)) e.1 (map.find nat_cmp q es)
    (map.find nat_cmp q (changed change es)) (found_each change q es)

-- What is kept once all streams were changed is what was kept, changed.
pub get_each : (change : StreamEntry → StreamEntry) (m : StreamMap) (q : ℕ)
    → map.get (each_entry change m) q
    ≡ changed_entry change (map.get m q)
get_each change m q =
    map.get-entries (each_entry change m) q ∙ ap (map.find nat_cmp q) (entries_changed change m)
    ∙ found_each change q (map.entries m)
    ∙ ap (changed_entry change) (sym (map.get-entries m q))
