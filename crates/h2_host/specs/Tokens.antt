-- Which connection of a host is meant, and that none is meant twice.
use Rattle.std.specs.Prelude.{◌≡◌, ◌⊎◌, ◌<◌, ◌+◌, ◌*◌, ◌^◌, ◌-◌, ℕ, List, Option, Some, None}
use Rattle.std.specs.Prelude.{length, slice_get, get_or, is_none, true, false, ◌==◌, ◌&&◌, Bool}
use Rattle.std.specs.Prelude.{is_some, count_by}
use Rattle.h2_host.specs.declared.table.Slot.{Slot}
use Rattle.h2_host.specs.declared.token.Token.{Token}

-- the number of 64 bits that a token is: the generation above the place
abbrev pub token_number : Token → ℕ
token_number token = token.generation * 2 ^ 32 + token.place

-- Whether two tokens are the same.
abbrev pub is_same_token : Token → Token → Bool
is_same_token a b = (a.place == b.place) && (a.generation == b.generation)

-- what a place has, if there is such a place
abbrev pub slot_at : {P : Type 0} → List (Slot P) → ℕ → Option (Slot P)
slot_at slots place = slice_get slots place

-- The place has this connection, of this generation.
pub record IsAt {P : Type 0} (slots : List (Slot P)) (token : Token) (party : P) : Type 0 where
  pub slot : Slot P
  pub at : slot_at slots token.place ≡ Some slot
  pub generation : slot.generation ≡ token.generation
  pub taken : slot.party ≡ Some party

-- The token is of now: some connection has its place, and is of its generation.
abbrev pub IsNow : {P : Type 0} → List (Slot P) → Token → Type 0
IsNow {P = P} slots token = (party : P) × IsAt slots token party

-- The token was given: its place has had more connections since, or it is of now.
pub record WasGiven {P : Type 0} (slots : List (Slot P)) (token : Token) : Type 0 where
  pub slot : Slot P
  pub at : slot_at slots token.place ≡ Some slot
  pub before : (token.generation < slot.generation) ⊎ IsNow slots token

-- The places that are free: each has no connection, and generations left; none is free twice.
pub record AreFree {P : Type 0} (slots : List (Slot P)) (free : List ℕ) : Type 0 where
  pub within : (i : ℕ) → i < length free → get_or free i 0 < length slots
  pub empty : (i : ℕ) (slot : Slot P) → i < length free
      → slot_at slots (get_or free i 0) ≡ Some slot
      → (is_none slot.party ≡ true) × (slot.generation < 2 ^ 32 - 1)
  pub once : (i j : ℕ) → i < length free → j < length free
      → get_or free i 0 ≡ get_or free j 0 → i ≡ j

-- Each connection has a generation after which there is one more.
abbrev pub HasNext : {P : Type 0} → List (Slot P) → Type 0
HasNext {P = P} slots =
    (place : ℕ) (slot : Slot P) → slot_at slots place ≡ Some slot
    → is_none slot.party ≡ false → slot.generation < 2 ^ 32 - 1

-- The connection that has the token, or none where the token isn't of now.
abbrev pub IsPartyOf : {P : Type 0} → List (Slot P) → Token → Option P → Type 0
IsPartyOf slots token None = IsNow slots token → ⊥
IsPartyOf slots token (Some party) = IsAt slots token party

-- how many places have a connection
abbrev pub connections_at : {P : Type 0} → List (Slot P) → ℕ
connections_at {P = P} slots = count_by (λ (slot : Slot P). is_some slot.party) slots
