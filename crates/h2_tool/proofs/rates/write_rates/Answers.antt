-- Three texts are written one after another.
use Rattle.h2_tool.proofs.RateLemmas.{three_written}
use Rattle.h2_tool.proofs.rates.write_rates.Goals as goal

pub returns : goal.returns
returns g c =
    three_written c.write_units_and-3.result _ _ _ _ _ _ _ c.in_ok-write_units_and.ensures
    c.in_ok-write_units_and-2.ensures c.write_units_and-3.ensures
