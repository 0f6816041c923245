-- The limits that are set between two blocks, in order, and what they say of the next block's
-- updates.
use Rattle.std.specs.Prelude.{◌≡◌, ℕ, ◌==◌, nat_lt, min, if◌then◌else◌, Bool, List, [], ◌∷◌, ◌++◌}
use Rattle.std.specs.Prelude.{fold, flat_map}
use Rattle.std.specs.List.{list_any}
use Rattle.hpack_text.specs.Integers.{integer}
use Rattle.hpack.specs.declared.types.field.Field.{Field}
use Rattle.hpack.specs.Tables.{Entries}
use Rattle.hpack.specs.Lists.{EncoderState}
use Rattle.hpack.specs.Choice.{after_updates, encoding_of_fields}

-- an encoder whose limit is set
abbrev pub after_limit : EncoderState → ℕ → EncoderState
after_limit state limit = record {
  table = state.table;
  least = min state.least limit;
  limit =
      limit;
}

-- the least of a number and others
abbrev pub least_of : ℕ → List ℕ → ℕ
least_of one others = fold min one others

-- the last of a number and those after it
abbrev pub last_of : ℕ → List ℕ → ℕ
last_of one others = fold (λ before following. following) one others

-- Whether one of the limits is below the maximum.
abbrev pub fell_below : ℕ → List ℕ → Bool
fell_below maximum limits = list_any (λ limit. nat_lt limit maximum) limits

-- The updates at a block's beginning, by the table's maximum, which was the limit at the last
-- block, and the limits that were set since then, in order. If the limit fell below the maximum, an
-- update to the least of them, and, if the last one isn't that number, an update to it. If it never
-- fell below the maximum and is above it now, one update to it.
-- rule: HPACK 4.2 After the limit fell a block begins with one update or two
unfoldable pub updates_for_limits : ℕ → List ℕ → List ℕ
updates_for_limits maximum limits =
    if fell_below maximum limits then
    least_of maximum limits ∷ (if last_of maximum limits == least_of maximum limits then []
    else last_of maximum limits ∷ [])
    else if nat_lt maximum (last_of maximum limits) then last_of maximum limits ∷ []
    else []

-- the octets of a block, by the table, the limits set since the last block, and the fields
abbrev pub chosen : Entries → List ℕ → List Field → List ℕ
chosen table limits fields =
    flat_map (integer 5 0x20) (updates_for_limits table.maximum limits)
    ++ encoding_of_fields (after_updates table (updates_for_limits table.maximum limits)) fields

-- No limit was set since the last block: it and the least one are the table's maximum.
pub record IsSettled (state : EncoderState) : Type 0 where
  pub least : state.least ≡ state.limit
  pub maximum : state.table.maximum ≡ state.limit
