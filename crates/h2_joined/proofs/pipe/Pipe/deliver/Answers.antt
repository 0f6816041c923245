-- By the lemmas on what is left in a pipe.
use Rattle.h2_joined.proofs.Names.{refl, ◌∙◌, arith}
use Rattle.h2_joined.proofs.KeptPipe.{holds_behind, holds_alone}
use Rattle.h2_joined.proofs.pipe.Pipe.deliver.Goals as goal

pub returns-then-used-len-clause-holds : goal.returns-then-used-len-clause-holds
returns-then-used-len-clause-holds c octets holds =
    let pipe = c.args.self.now in
    holds_behind pipe _ octets c.args.count c.min-used.result holds
    (omega (arith, pipe.octets.ok.0)) (omega (arith, pipe.octets.ok.0))
    (omega (arith, c.if-used-len.true)) refl refl

pub returns-clause-holds : goal.returns-clause-holds
returns-clause-holds c octets holds =
    let pipe = c.args.self.now in
    let kept = c.drain.ensures.kept in
    holds_alone pipe _ octets c.args.count c.min-used.result holds
    (omega (arith, pipe.octets.ok.0)) (omega (arith, pipe.octets.ok.0))
    (c.drop-drain.ensures.items ∙ kept) refl
