-- How much the connections of a host hold, and which of them is refused for it.
use Rattle.std.specs.Prelude.{◌≡◌, ◌≤◌, ◌<◌, ℕ, List, sum_by, Option, Some, None}
use Rattle.h2_host.specs.declared.table.Slot.{Slot}
use Rattle.h2_host.specs.Tokens.{slot_at}

-- how much a place holds: what its connection says, and nothing where it has none
abbrev pub held_by : {P : Type 0} → (held_of : P → ℕ) → Option P → ℕ
held_by held_of None = 0
held_by held_of (Some party) = held_of party

abbrev pub slot_held : {P : Type 0} → (held_of : P → ℕ) → Slot P → ℕ
slot_held held_of slot = held_by held_of slot.party

-- how much all places hold
abbrev pub held_in_all : {P : Type 0} → (held_of : P → ℕ) → List (Slot P) → ℕ
held_in_all held_of slots = sum_by (slot_held held_of) slots

-- No place holds more than one may.
abbrev pub EachWithin : {P : Type 0} → (held_of : P → ℕ) → List (Slot P) → (most : ℕ) → Type 0
EachWithin {P = P} held_of slots most =
    (place : ℕ) (slot : Slot P) → slot_at slots place ≡ Some slot → slot_held held_of slot ≤ most

-- The place holds most, and each lower one less.
pub record IsGreatestHolder {P : Type 0} (held_of : P → ℕ) (slots : List (Slot P)) (place : ℕ)
    : Type 0 where
  pub slot : Slot P
  pub at : slot_at slots place ≡ Some slot
  pub most : (other : ℕ) (one : Slot P) → slot_at slots other ≡ Some one
      → slot_held held_of one ≤ slot_held held_of slot
  pub lowest : (other : ℕ) (one : Slot P) → slot_at slots other ≡ Some one → other < place
      → slot_held held_of one < slot_held held_of slot
