-- The settings that C gives.
use Rattle.std.specs.Prelude.{◌≡◌, ℤ, Option, None, Some}
use Rattle.h2_spec_log.specs.Acts.{Values}
use Rattle.h2_flow.specs.declared.config.BadConfig.{BadConfig}
use Rattle.belkjoef.specs.declared.config.BjConfig.{BjConfig}
use Rattle.belkjoef.specs.Numbers.{config_number}

abbrev pub values_given : BjConfig → Values
values_given config = record {
  table_limit = config.table_limit;
  initial_window = config.initial_window;
  max_streams = config.max_streams;
  max_frame = config.max_frame;
}

-- the values with which a connection begins
abbrev pub first_config : BjConfig
first_config = record {
  table_limit = 4096;
  initial_window = 65535;
  max_streams = 100;
  max_frame = 16384;
}

-- Where a value is out of its bounds the answer is the number of the first one, and nothing has
-- changed; else this is done.
-- rule: c (own) A new end is made in an empty place, of values within bounds
abbrev pub WithinBounds : {A : Type 0} → Option BadConfig → ℤ → (A → A → Type 0) → A → A → Type 0
WithinBounds (Some bad) answer Does old new = (answer ≡ config_number bad) × (new ≡ old)
WithinBounds None answer Does old new = Does old new
