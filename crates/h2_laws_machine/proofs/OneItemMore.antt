-- Sums, tests and values over a list with one item more.
use Rattle.h2_laws_machine.proofs.Names.{◌≡◌, ℕ, Bool, false, List, ◌∷◌, refl, arith, list_any}
use Rattle.h2_laws_machine.proofs.Names.{Item, total, one_settings, settings_count, own_value}
use Rattle.h2_laws_machine.proofs.Names.{own_next}

-- A sum with an item that counts nothing.
pub total_quiet : (f : Item → ℕ) (item : Item) (items : List Item) → f item ≡ 0
    → total f (item ∷ items) ≡ total f items
unfolding total
total_quiet f item items none = omega (arith, none)

-- A test that an item doesn't pass.
pub any_quiet : (p : Item → Bool) (item : Item) (items : List Item) → p item ≡ false
    → list_any p (item ∷ items) ≡ list_any p items
any_quiet p item items none = rw none refl

-- An item that isn't SETTINGS leaves the values.
pub own_quiet : (id first count : ℕ) (item : Item) (items : List Item) → one_settings item ≡ 0
    → own_value id first count (item ∷ items) ≡ own_value id first count items
own_quiet id first count item items none = own_next _ _ _ _ items (λ one. absurd (omega arith))

-- the count of SETTINGS with an item that isn't SETTINGS
pub settings_quiet : (item : Item) (items : List Item) → one_settings item ≡ 0
    → settings_count (item ∷ items) ≡ settings_count items
unfolding settings_count
settings_quiet item items none = omega (arith, none)
