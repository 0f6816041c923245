-- So many connections were served, and the status is that of the first that has ended early.
use Rattle.h2_net.specs.Endings.{IsServingStatus}
use Rattle.h2_net.specs.Serving.{ServesConnections}
use Rattle.h2_net.proofs.serving.serve_connections.Given as goal

abbrev pub invariant-loop-place : goal.invariant-loop-place
invariant-loop-place g l =
    record {
      may : IsServingStatus l.status;
      serves : ServesConnections l._place l.status;
    }
