use Rattle.std.proofs.KnownBytes.{Appends-nil}
use Rattle.h2_mio.proofs.OwnRuns.{other_turn, turn_then}
use Rattle.h2_mio.proofs.turn.give_turn.Goals as goal

pub returns-then-eq-clause-run : goal.returns-then-eq-clause-run
returns-then-eq-clause-run g c =
    turn_then _ _ _ _ _ _ _ _ _ _ c.take_input.new.host _ _ c.take_input.ensures.run
    c.last_words.ensures.run

pub returns-then-eq-2-clause-run : goal.returns-then-eq-2-clause-run
returns-then-eq-2-clause-run g c =
    turn_then _ _ _ _ _ _ _ _ _ _ c.take_input.new.host _ _ c.take_input.ensures.run
    (turn_then _ _ _ _ _ _ _ _ _ _ c.own_step.new.host _ _
    (other_turn _ _ _ _ _ _ _ _ _ _ _ _ tt c.own_step.ensures.answers.1 (Appends-nil _)
    (Appends-nil _))
    c.last_words-then-eq-2.ensures.run)

pub returns-clause-run : goal.returns-clause-run
returns-clause-run g c =
    turn_then _ _ _ _ _ _ _ _ _ _ c.take_input.new.host _ _ c.take_input.ensures.run
    (turn_then _ _ _ _ _ _ _ _ _ _ c.own_step.new.host _ _
    (other_turn _ _ _ _ _ _ _ _ _ _ _ _ tt c.own_step.ensures.answers.1 (Appends-nil _)
    (Appends-nil _))
    c.write_output.ensures.run)
