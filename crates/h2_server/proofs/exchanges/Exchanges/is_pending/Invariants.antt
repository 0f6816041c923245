use Rattle.std.proofs.Common.{◌-◌, refl}
use Rattle.h2_server.specs.Deferring.{is_pending_at}
use Rattle.h2_server.proofs.Asked.{NoneTo}
use Rattle.h2_server.proofs.exchanges.Exchanges.is_pending.Given as goal

-- So far none is pending.
abbrev pub invariant-loop-id : goal.invariant-loop-id
invariant-loop-id g l = NoneTo is_pending_at refl l.self.kept.entries l.above

abbrev pub decreases-loop-id : goal.decreases-loop-id
decreases-loop-id g l = 4294967296 - l.above
