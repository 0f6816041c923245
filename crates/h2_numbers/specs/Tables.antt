-- A table by numbers as a value.
use Rattle.std.specs.Prelude.{◌≡◌, ℕ, nat_eq, Bool, List, ◌∷◌, ◌&&◌, Option, Some, None, IsSome, refl}
use Rattle.std.specs.Coded.{Coded, code_by, coded×, coded_list, coded_option, coded_ℕ}
use Rattle.std.specs.Option.{is_some}
use Rattle.h2_numbers.specs.Entries.{value_at}

-- the number that was put in last, its value as long as it has one, and the others with theirs, in
-- no order
pub record TableEntries (V : Type 0) : Type 0 where
  pub number : ℕ
  pub newest : Option V
  pub older : List (ℕ × V)

-- such a table is stored as its three parts
abbrev pub number_table_code : {V : Type 0} → Coded V → Coded (TableEntries V)
number_table_code {V} value = code_by (ℕ × (Option V × List (ℕ × V)))
    (coded× coded_ℕ (coded× (coded_option value) (coded_list (coded× coded_ℕ value))))
    (λ table. (table.number, (table.newest, table.older)))
    (λ parts. record { number = parts.0; newest = parts.1.0; older = parts.1.1 }) (λ _. refl)

-- some entries, and before them that of a number, if it has a value
abbrev pub with_newest : {V : Type 0} → ℕ → Option V → List (ℕ × V) → List (ℕ × V)
with_newest number None older = older
with_newest number (Some value) older = (number, value) ∷ older

-- all numbers of a table with their values
abbrev pub all_of : {V : Type 0} → TableEntries V → List (ℕ × V)
all_of table = with_newest table.number table.newest table.older

-- whether a number is the one that was put in last, and has its value still
abbrev pub is_newest : {V : Type 0} → ℕ → TableEntries V → Bool
is_newest id table = nat_eq table.number id && is_some table.newest

-- what the table keeps true: the number that was put in last is none of the others
abbrev pub IsApart : {V : Type 0} → ℕ → Option V → List (ℕ × V) → Type 0
IsApart number newest older = IsSome newest → value_at number older ≡ None
