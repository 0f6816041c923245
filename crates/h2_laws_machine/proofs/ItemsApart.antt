-- Items that touch nothing of a stream but perhaps the window that they widen.
use Rattle.h2_laws_machine.proofs.Names.{◌≡◌, ◌≢◌, Bool, List, refl, sym, Data, Ping, Item, ends}
use Rattle.h2_laws_machine.proofs.Names.{ℕ, and_left, Settings, WindowUpdate, data_on, is_block_on}
use Rattle.h2_laws_machine.proofs.Names.{◌==◌, false, Option, ne_eqb, Reset, alone, block, resets}

-- An item that touches nothing of a number but perhaps the window that it widens.
pub record IsApart (j : ℕ) (item : Item) : Type 0 where
  pub blocks : is_block_on j item ≡ false
  pub ended : ends j item ≡ false
  pub was_reset : resets j item ≡ false
  pub flow : data_on j item ≡ 0

-- A field block touches nothing of other streams.
pub block_apart : (i : ℕ) (end : Bool) (octets : List ℕ) (j : ℕ) → j ≢ i
    → IsApart j (block i end octets)
unfolding is_block_on ends resets data_on
block_apart i end octets j other =
    let apart : i == j ≡ false = ne_eqb i j (λ is. other (sym is)) in
    record { blocks = apart; ended = and_left (i == j) end apart; was_reset = refl; flow = refl }

-- Nor does DATA.
pub data_apart : (i : ℕ) (end : Bool) (octets : List ℕ) (pad : Option ℕ) (j : ℕ) → j ≢ i
    → IsApart j (alone (Data i end octets pad))
unfolding is_block_on ends resets data_on
data_apart i end octets pad j other =
    let apart : i == j ≡ false = ne_eqb i j (λ is. other (sym is)) in
    record { blocks = refl; ended = and_left _ end apart; was_reset = refl; flow = rw apart refl }

-- Nor does RST_STREAM.
pub reset_apart : (i code j : ℕ) → j ≢ i → IsApart j (alone (Reset i code))
unfolding is_block_on ends resets data_on
reset_apart i code j other = assumption (ne_eqb i j (λ is. other (sym is)))

-- SETTINGS, PING and WINDOW_UPDATE touch nothing of any.
pub settings_apart : (ack : Bool) (pairs : List (ℕ × ℕ)) (j : ℕ)
    → IsApart j (alone (Settings ack pairs))
unfolding is_block_on ends resets data_on
settings_apart ack pairs j = assumption

pub ping_apart : (ack : Bool) (octets : List ℕ) (j : ℕ) → IsApart j (alone (Ping ack octets))
unfolding is_block_on ends resets data_on
ping_apart ack octets j = assumption

pub update_apart : (i n j : ℕ) → IsApart j (alone (WindowUpdate i n))
unfolding is_block_on ends resets data_on
update_apart i n j = assumption
