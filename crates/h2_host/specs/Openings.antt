-- What making, taking and freeing a place makes of the places.
use Rattle.std.specs.Prelude.{◌≡◌, ◌⊎◌, ◌≤◌, ◌<◌, ◌++◌, ◌∷◌, [], ℕ, List, length, slice_set}
use Rattle.std.specs.Prelude.{Some, None, false, ◌^◌}
use Rattle.h2_host.specs.declared.table.Slot.{Slot}
use Rattle.h2_host.specs.declared.token.Token.{Token}
use Rattle.h2_host.specs.Tokens.{slot_at}

-- a place that nobody has had
abbrev pub new_slot : {P : Type 0} → Slot P
new_slot = record { generation = 0; party = None; queued = false }

-- No place was made, or one that nobody has had, of which there may be one more.
abbrev pub MakesPlace : {P : Type 0} → (old new : List (Slot P)) → (most : ℕ) → Type 0
MakesPlace old new most =
    (new ≡ old) ⊎ ((new ≡ old ++ new_slot ∷ []) × (length new ≤ most) × (length new ≤ 2 ^ 20))

-- A connection has taken a place that none had.
pub record TakesPlace {P : Type 0} (old new : List (Slot P)) (token : Token) (party : P)
    : Type 0 where
  pub slot : Slot P
  pub at : slot_at old token.place ≡ Some slot
  pub empty : slot.party ≡ None
  pub generation : slot.generation ≡ token.generation
  pub new_is : new ≡ slice_set old token.place (record slot { party = Some party })

-- A connection has left its place, whose next one has a greater generation.
pub record EmptiesPlace {P : Type 0} (old new : List (Slot P)) (token : Token) (party : P)
    : Type 0 where
  pub slot : Slot P
  pub at : slot_at old token.place ≡ Some slot
  pub taken : slot.party ≡ Some party
  pub generation : slot.generation ≡ token.generation
  pub next : ℕ
  pub greater : token.generation < next
  pub new_is : new ≡ slice_set old token.place
      (record slot { generation = next; party = None })
