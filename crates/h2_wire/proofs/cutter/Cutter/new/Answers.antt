-- A new cutter represents the empty stream.
use Rattle.h2_wire.proofs.Names.{[], subst, sym, CutterState, CutterRepresents}
use Rattle.h2_wire.proofs.CutLemmas.{represents_empty}
use Rattle.h2_wire.proofs.cutter.Cutter.new.Goals as goal

pub returns-clause-represents : goal.returns-clause-represents
returns-clause-represents c =
    subst (λ (state : CutterState). CutterRepresents state c.args.expect_preface
    (λ _. c.args.limit) [] []) (sym c.new.ensures.state)
    (represents_empty c.args.expect_preface c.args.limit)
