use Rattle.std.proofs.KnownBytes.{Appends-nil}
use Rattle.h2_mio.proofs.OwnRuns.{no_turn, other_turn, turn_then}
use Rattle.h2_mio.proofs.OwnMoves.{went_turn}
use Rattle.h2_mio.proofs.turn.write_output.Goals as goal

pub loop-init : goal.loop-init
loop-init g c = no_turn _ _ _ _ _ _ _ _ _ (Appends-nil _) (Appends-nil _)

pub returns-then-eq : goal.returns-then-eq
returns-then-eq g c = record {
  run = turn_then _ _ _ _ _ _ _ _ _ _ c.loop.host _ _ c.loop.invariant
      (went_turn _ _ _ _ _ _ _ _ _ _ _ _ _ _ c.output.ensures c.in-Octets.ensures.within.0
      c.in-Octets.ensures.within.1 c.own_step.ensures.answers.1
      c.in-Octets.ensures.gives_none c.in-Octets.ensures.takes);
}

pub returns-then-count-length : goal.returns-then-count-length
returns-then-count-length g c = record {
  run = turn_then _ _ _ _ _ _ _ _ _ _ c.loop.host _ _ c.loop.invariant
      (turn_then _ _ _ _ _ _ _ _ _ _ c.own_step.new.host _ _
      (went_turn _ _ _ _ _ _ _ _ _ _ _ _ _ _ c.output.ensures c.in-Octets.ensures.within.0
      c.in-Octets.ensures.within.1 c.own_step.ensures.answers.1
      c.in-Octets.ensures.gives_none c.in-Octets.ensures.takes)
      (other_turn _ _ _ _ _ _ _ _ _ _ _ _ tt c.own_step-then-count-length.ensures.answers.1
      (Appends-nil _) (Appends-nil _)));
}

pub returns-in-Nothing : goal.returns-in-Nothing
returns-in-Nothing g c = record {
  run = turn_then _ _ _ _ _ _ _ _ _ _ c.loop.host _ _ c.loop.invariant
      (other_turn _ _ _ _ _ _ _ _ _ _ _ _ tt c.own_step-in-Nothing.ensures.answers.1
      c.in-Nothing.ensures.gives_none c.in-Nothing.ensures.takes);
}

pub loop-preserved : goal.loop-preserved
loop-preserved g c =
    turn_then _ _ _ _ _ _ _ _ _ _ c.loop.host _ _ c.loop.invariant
    (went_turn _ _ _ _ _ _ _ _ _ _ _ _ _ _ c.output.ensures c.in-Octets.ensures.within.0
    c.in-Octets.ensures.within.1 c.own_step.ensures.answers.1
    c.in-Octets.ensures.gives_none c.in-Octets.ensures.takes)
