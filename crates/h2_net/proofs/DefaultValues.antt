-- The values of a connection that says nothing else.
use Rattle.std.proofs.Common.{◌≡◌}
use Rattle.h2_flow.specs.ConfigValues.{values_of}
use Rattle.h2_flow.specs.declared.config.Config.{Config}
use Rattle.h2_net.specs.Fetching.{default_values}

-- the default configuration has these values
pub are_defaults : (config : Config) → (config.table_limit ≡ 4096) × (config.initial_window ≡ 65535)
    × (config.max_streams ≡ 100) × (config.max_frame ≡ 16384) → values_of config ≡ default_values
are_defaults config is = λ i. record {
  table_limit = is.0 i;
  initial_window = is.1 i;
  max_streams = is.2 i;
  max_frame = is.3 i;
}
