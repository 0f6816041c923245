-- Lists of items, newest first: what more items at the front change.
use Rattle.h2_laws_log.proofs.Names.{list_any, or_right, false_from_ne_true, both_ways, Item, alone}
use Rattle.h2_laws_log.proofs.Names.{total, is_goaway, is_goaway_below, is_block_on, settings_count}
use Rattle.h2_laws_log.proofs.Names.{count_below, Verdict, NoEvent, replies_to, GoAway, Settings}
use Rattle.h2_laws_log.proofs.Names.{Ping, ◌≡◌, ℕ, zero, suc, ◌+◌, ◌≤◌, Bool, true, false}
use Rattle.h2_laws_log.proofs.Names.{if◌then◌else◌, List, [], ◌∷◌, ◌++◌, refl, arith}

-- What some item of a list passes, some item of a longer list passes.
pub any_after : {X : Type 0} (p : X → Bool) → (more xs : List X) → list_any p xs ≡ true
    → list_any p (more ++ xs) ≡ true
any_after p [] xs some = some
any_after p (x ∷ more) xs some = or_right (p x) (list_any p (more ++ xs)) (any_after p more xs some)

-- What no item of a list passes, no item of a shorter list passes.
pub none_after : {X : Type 0} (p : X → Bool) → (more xs : List X) → list_any p (more ++ xs)
    ≡ false → list_any p xs ≡ false
none_after p more xs none =
    false_from_ne_true (list_any p xs) (λ some. both_ways (list_any p (more ++ xs)) none
    (any_after p more xs some))

-- A sum over nothing.
pub total_none : (f : Item → ℕ) → total f [] ≡ 0
unfolding total
total_none f = refl

-- A sum over a list with one item more.
pub total_one : (f : Item → ℕ) (item : Item) (items : List Item)
    → total f (item ∷ items) ≡ f item + total f items
unfolding total
total_one f item items = refl

-- A sum over a list is no greater than one over a longer list.
pub total_after : (f : Item → ℕ) (more items : List Item) → total f items ≤ total f (more ++ items)
unfolding total
total_after f [] items = omega arith
total_after f (item ∷ more) items = omega (arith, total_after f more items)

-- A list has no more SETTINGS than a longer one.
pub settings_after : (more items : List Item)
    → settings_count items ≤ settings_count (more ++ items)
unfolding settings_count
settings_after [] items = omega arith
settings_after (item ∷ more) items = omega (arith, settings_after more items)

-- a number of one test is no greater than of another that passes wherever it does
count_step : (one other : Bool) (m n : ℕ) → (one ≡ true → other ≡ true) → m ≤ n
    → (if one then 1 else 0) + m ≤ (if other then 1 else 0) + n
count_step true false m n goes le = absurd (both_ways false refl (goes refl))
count_step one other m n goes le = omega arith

-- No more numbers pass a test than pass one that passes wherever it does.
pub count_below_more : (n : ℕ) (one other : ℕ → Bool) → ((j : ℕ) → one j ≡ true → other j ≡ true)
    → count_below n one ≤ count_below n other
unfolding count_below
count_below_more zero one other goes = omega arith
count_below_more (suc n) one other goes =
    count_step _ _ _ _ (goes n) (count_below_more n one other goes)

-- An item that is no GOAWAY is none below a number.
pub below_quiet : (i : ℕ) (item : Item) → is_goaway item ≡ false → is_goaway_below i item ≡ false
unfolding is_goaway is_goaway_below
below_quiet i (alone (GoAway last code debug)) none = absurd (both_ways true none refl)
below_quiet i item none = refl

pub goaway_no_block : (i last code : ℕ)
    → list_any (is_block_on i) (alone (GoAway last code []) ∷ []) ≡ false
unfolding is_block_on
goaway_no_block i last code = refl

pub replies_no_block : (i : ℕ) (verdict : Verdict) (item : Item)
    → list_any (is_block_on i) (replies_to verdict item) ≡ false
unfolding replies_to is_block_on
replies_no_block i NoEvent (alone (Settings false pairs)) = refl
replies_no_block i NoEvent (alone (Ping false octets)) = refl
replies_no_block i verdict item = refl
