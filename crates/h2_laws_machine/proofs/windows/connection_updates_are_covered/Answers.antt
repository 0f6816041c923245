-- What was given on the connection is what may still come and what has come; and what may still
-- come is part of the window.
use Rattle.h2_laws_machine.proofs.Names
use Names.{Values, Log, End, Represents, data_of, total, increment_on, None, ◌≡◌, ◌+◌, ◌≤◌, ◌∙◌, arith}
use Names.{granted_on_connection}
use Rattle.h2_spec_log.specs.Log.{widened}
use Rattle.h2_laws_machine.proofs.EveryStep.{every_log_has_machine}
use Rattle.h2_laws_machine.proofs.windows.connection_updates_are_covered.Goals as goal

covered : (values : Values) (e : End) (log : Log) → Represents values e log → log.failed ≡ None
    → total (increment_on 0) log.sent ≤ total data_of log.received + widened log.calls
unfolding granted_on_connection
covered values e log represents up =
    let run = represents.running (represents.failed ∙ up) in
    omega (arith, represents.whole, run.windows.recv, run.windows.granted)

pub returns : goal.returns
returns c = λ role values log came up.
    let machine = every_log_has_machine role values log came in
    covered values machine.0 log machine.1 up
