-- A configuration as the values that the definitions of an end speak of.
use Rattle.h2_spec_log.specs.Acts.{Values}
use Rattle.h2_flow.specs.declared.config.Config.{Config}

abbrev pub values_of : Config → Values
values_of config = record {
  table_limit = config.table_limit;
  initial_window = config.initial_window;
  max_streams = config.max_streams;
  max_frame = config.max_frame;
}
