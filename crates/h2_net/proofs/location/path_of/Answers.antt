-- The path, and the query with its mark.
use Rattle.std.proofs.Common.{sym}
use Rattle.h2_net.proofs.location.path_of.Goals as goal

pub returns-in-Some : goal.returns-in-Some
returns-in-Some c =
    rw (sym c.in-Some.ensures.value, sym c.path-path.ensures.value) c.format.ensures.ok
