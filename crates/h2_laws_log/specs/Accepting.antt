-- What is seen of an item that is accepted.
use Rattle.std.specs.Prelude.{◌≡◌, ◌≤◌, Option, Some, None}
use Rattle.hpack.specs.Lists.{list_size}
use Rattle.h2_block.specs.Grouping.{Item, alone, block}
use Rattle.h2_spec_log.specs.ItemRules.{Decoded}
use Rattle.h2_spec_log.specs.Limits.{max_list}

-- A block decodes, to a list that may be sent. Nothing is seen of other items.
abbrev pub IsDecodable : Option Decoded → Item → Type 0
IsDecodable decoded (alone frame) = decoded ≡ None
IsDecodable None (block stream end octets) = ⊥
IsDecodable (Some decoded) (block stream end octets) = list_size decoded.fields ≤ max_list
