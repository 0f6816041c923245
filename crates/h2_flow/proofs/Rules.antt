-- What an attribute `unfolding` opens at once: the rules of settings.
use Rattle.h2_spec_log.specs.Settings.{value_fault}
use Rattle.h2_flow.specs.Settings.{with_value}

-- the fault of a value, and the settings with it
unfoldable pub settings_rules : Unit {0}
unfolding value_fault with_value
settings_rules = tt
