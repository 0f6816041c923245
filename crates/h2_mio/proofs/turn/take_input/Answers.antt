use Rattle.std.proofs.Common.{rules}
use Rattle.std.proofs.KnownBytes.{Appends-nil}
use Rattle.h2_mio.proofs.OwnRuns.{no_turn, other_turn, turn_then}
use Rattle.h2_mio.proofs.OwnMoves.{came_turn}
use Rattle.h2_mio.proofs.turn.take_input.Goals as goal

pub returns-then-size-eq0-clause-run : goal.returns-then-size-eq0-clause-run
returns-then-size-eq0-clause-run g c =
    no_turn _ _ _ _ _ _ _ _ _ (Appends-nil _) (Appends-nil _)

pub returns-then-eq-clause-run : goal.returns-then-eq-clause-run
returns-then-eq-clause-run g c =
    came_turn _ _ _ _ g.P.Party.takes _ _ _ _ _ _ _ _ _ c.read_size.ensures (search rules)
    (search rules) c.step.ensures.answers c.in-Octets.ensures.gives c.in-Octets.ensures.takes_none

pub returns-else-not-socket-clause-run : goal.returns-else-not-socket-clause-run
returns-else-not-socket-clause-run g c =
    turn_then _ _ _ _ _ _ _ _ _ _ c.step.new.self _ _
    (came_turn _ _ _ _ g.P.Party.takes _ _ _ _ _ _ _ _ _ c.read_size.ensures (search rules)
    (search rules) c.step.ensures.answers c.in-Octets.ensures.gives c.in-Octets.ensures.takes_none)
    (other_turn _ _ _ _ _ _ _ _ _ _ _ c.own_step.ensures.answers.0 tt
    c.own_step.ensures.answers.1 (Appends-nil _) (Appends-nil _))

pub returns-in-Nothing-clause-run : goal.returns-in-Nothing-clause-run
returns-in-Nothing-clause-run g c =
    other_turn _ _ _ _ _ _ _ _ _ _ _ _ tt c.own_step-in-Nothing.ensures.answers.1
    c.in-Nothing.ensures.gives c.in-Nothing.ensures.takes_none

pub returns-in-Interrupted-clause-run : goal.returns-in-Interrupted-clause-run
returns-in-Interrupted-clause-run g c =
    no_turn _ _ _ _ _ _ _ _ _ c.in-Interrupted.ensures.gives c.in-Interrupted.ensures.takes_none

pub returns-in-Ended-clause-run : goal.returns-in-Ended-clause-run
returns-in-Ended-clause-run g c =
    other_turn _ _ _ _ _ _ _ _ _ _ _ _ tt c.own_step-in-Ended.ensures.answers.1
    c.in-Ended.ensures.gives c.in-Ended.ensures.takes_none

pub returns-in-Broken-clause-run : goal.returns-in-Broken-clause-run
returns-in-Broken-clause-run g c =
    no_turn _ _ _ _ _ _ _ _ _ c.in-Broken.ensures.gives c.in-Broken.ensures.takes_none
