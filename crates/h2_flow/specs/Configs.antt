-- The values of an end's own settings that are allowed (own).
use Rattle.std.specs.Prelude.{nat_lt, ◌||◌, if◌then◌else◌, Option, Some, None}
use Rattle.h2_spec_log.specs.Acts.{Values}
use Rattle.h2_spec_log.specs.Limits.{max_table_limit, least_max_streams, most_max_streams}
use Rattle.h2_spec_log.specs.Limits.{least_max_frame, most_max_frame}
use Rattle.h2_spec_log.specs.Windows.{greatest_window}
use Rattle.h2_flow.specs.declared.config.BadConfig.{BadConfig}
use Rattle.h2_flow.specs.declared.config.BadConfig.TheVariants.{TableLimit, InitialWindow}
use Rattle.h2_flow.specs.declared.config.BadConfig.TheVariants.{MaxStreams, MaxFrame}

-- the first of the values that is out of its bounds
-- rule: calls (own) A configuration is made of values within their bounds
unfoldable pub first_bad : Values → Option BadConfig
first_bad values =
    if nat_lt max_table_limit values.table_limit then Some TableLimit
    else if nat_lt values.initial_window 1 || nat_lt greatest_window values.initial_window
    then Some InitialWindow
    else if nat_lt values.max_streams least_max_streams
    || nat_lt most_max_streams values.max_streams
    then Some MaxStreams
    else if nat_lt values.max_frame least_max_frame || nat_lt most_max_frame values.max_frame
    then Some MaxFrame
    else None
