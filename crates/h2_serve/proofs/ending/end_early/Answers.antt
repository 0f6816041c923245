-- Once its last output was taken, or was not.
use Rattle.h2_engines.proofs.Names.{both_ways}
use Rattle.h2_server.specs.Phases.{is_phase_down}
use Rattle.h2_serve.proofs.Serving.{stops_last}
use Rattle.h2_serve.proofs.ending.end_early.Goals as goal

pub returns-in-Ok-clause-ends : goal.returns-in-Ok-clause-ends
returns-in-Ok-clause-ends g c begin was =
    let phase = c.args.connection.now.phase in
    stops_last c.error_of.result c.error_of.ensures.error
    (rw c.requires.down at (c.in-Ok.ensures.writes begin was
    (λ up. absurd (both_ways (is_phase_down phase) up c.requires.down))))

pub returns-in-Err-clause-ends : goal.returns-in-Err-clause-ends
returns-in-Err-clause-ends g c begin was =
    let phase = c.args.connection.now.phase in
    c.in-Err.ensures.writes begin was
    (λ up. absurd (both_ways (is_phase_down phase) up c.requires.down))
