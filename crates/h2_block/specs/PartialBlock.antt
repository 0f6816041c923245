-- A partial block: the state that it represents, and what is true of it between calls.
use Rattle.std.specs.Prelude.{◌≡◌, ◌≤◌, [], length, None}
use Rattle.std.specs.Option.{option_map}
use Rattle.h2_block.specs.declared.partial_block.PartialBlock.{PartialBlock}
use Rattle.h2_block.specs.Grouping.{max_block_octets}
use Rattle.h2_block.specs.Gather.{GatherState}

-- the state that a partial block represents
abbrev pub gather_state_of : PartialBlock → GatherState
gather_state_of partial =
    record {
      begun = option_map (λ opening. record {
        stream = opening.stream;
        end = opening.end;
        octets = partial.octets.items;
      }) partial.opening;
      fault = partial.fault;
    }

-- what is true of it between calls: it is within the limit, and empty outside blocks
pub record PartialBlockInvariant (partial : PartialBlock) : Type 0 where
  pub bounded : length partial.octets.items ≤ max_block_octets
  pub nothing_outside : partial.opening ≡ None → partial.octets.items ≡ []
