-- The value of a map by numbers, and what its functions say of it.
use Rattle.std.specs.Prelude.{◌≡◌, ℕ, ◌<◌, ◌≤◌, nat_eq, cond, List, length, slice_index, Option, Some}
use Rattle.std.specs.Prelude.{None, IsSome, refl}
use Rattle.std.specs.Coded.{Coded, code_by, coded×, coded_list, coded_ℕ}
use Rattle.std.specs.Map.{lookup}

-- the numbers with their values, in no order
pub record NumberEntries (V : Type 0) : Type 0 where
  pub entries : List (ℕ × V)

-- such a map is stored as the list of its entries
abbrev pub entries_code : {V : Type 0} → Coded V → Coded (NumberEntries V)
entries_code {V} value = code_by (List (ℕ × V)) (coded_list (coded× coded_ℕ value))
    (λ map. map.entries) (λ entries. record { entries = entries }) (λ _. refl)

-- the value with a number
abbrev pub value_at : {V : Type 0} → ℕ → List (ℕ × V) → Option V
value_at id entries = lookup (nat_eq id) entries

-- other entries, with another value at a number, or none
abbrev pub SetsValue : {V : Type 0} → ℕ → Option V → (old new : List (ℕ × V)) → Type 0
SetsValue id value old new = (q : ℕ) → value_at q new ≡ cond (nat_eq id q) value (value_at q old)

-- the least number above another that has a value, if there is one
abbrev pub IsNextAbove : {V : Type 0} → List (ℕ × V) → (above : ℕ) → Option ℕ → Type 0
IsNextAbove entries above None = (q : ℕ) → above < q → value_at q entries ≡ None
IsNextAbove entries above (Some id) = (above < id) × IsSome (value_at id entries)
    × ((q : ℕ) → above < q → q < id → value_at q entries ≡ None)

-- Each number is above those before it.
abbrev pub Ascends : List ℕ → Type 0
Ascends order = (j k : ℕ) → j < k → k < length order → slice_index order j < slice_index order k

-- The number stands at a place of the list.
pub record HasPlace (order : List ℕ) (number : ℕ) : Type 0 where
  pub place : ℕ
  pub within : place < length order
  pub is : slice_index order place ≡ number

-- what the map keeps true: the numbers in order are those that have a value
pub record IsOrderOf {V : Type 0} (entries : List (ℕ × V)) (order : List ℕ) : Type 0 where
  pub ascends : Ascends order
  pub all : (q : ℕ) → IsSome (value_at q entries) → HasPlace order q
  pub only : (k : ℕ) → k < length order → IsSome (value_at (slice_index order k) entries)

-- the place of the first number above another
pub record IsFirstAbove (order : List ℕ) (number place : ℕ) : Type 0 where
  pub within : place ≤ length order
  pub below : (k : ℕ) → k < place → slice_index order k ≤ number
  pub above : (k : ℕ) → place ≤ k → k < length order → number < slice_index order k

-- The number is above each of the list.
abbrev pub IsAboveAll : List ℕ → (number : ℕ) → Type 0
IsAboveAll order number = (k : ℕ) → k < length order → slice_index order k < number
