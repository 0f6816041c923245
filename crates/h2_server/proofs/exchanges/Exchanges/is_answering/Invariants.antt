use Rattle.std.proofs.Common.{◌-◌, refl}
use Rattle.h2_server.specs.Activity.{has_answer_at}
use Rattle.h2_server.proofs.Asked.{NoneTo}
use Rattle.h2_server.proofs.exchanges.Exchanges.is_answering.Given as goal

-- So far none has an answer.
abbrev pub invariant-loop-id : goal.invariant-loop-id
invariant-loop-id g l = NoneTo has_answer_at refl l.self.kept.entries l.above

abbrev pub decreases-loop-id : goal.decreases-loop-id
decreases-loop-id g l = 4294967296 - l.above
