-- What a builder of a list of its own represents, and what is added to it.
use Rattle.std.specs.Prelude.{◌≡◌, ℕ, ◌+◌, ◌<◌, List, [], ◌∷◌, ◌++◌}
use Rattle.hpack.specs.declared.types.field.Field.{Field}
use Rattle.hpack.specs.declared.types.field.List.{List as AnsweredList}
use Rattle.hpack.specs.declared.types.field.List.TheVariants.{Whole, TooLarge}
use Rattle.hpack.specs.Lists.{list_size}

-- The list has the fields, and so much remains of the limit; or their size is above it.
abbrev pub RepresentsOwned : ℕ → List Field → AnsweredList → ℕ → Type 0
RepresentsOwned list_limit fields (Whole items) remaining = (items.items ≡ fields)
    × (list_size fields + remaining ≡ list_limit)
RepresentsOwned list_limit fields TooLarge remaining = list_limit < list_size fields

-- Whatever fields the list represented for whatever limit, it represents those and one more.
abbrev pub AddsOwned : AnsweredList → ℕ → Field → AnsweredList → ℕ → Type 0
AddsOwned list remaining field new_list new_remaining =
    (list_limit : ℕ) (fields : List Field) → RepresentsOwned list_limit fields list remaining
    → RepresentsOwned list_limit (fields ++ field ∷ []) new_list new_remaining
