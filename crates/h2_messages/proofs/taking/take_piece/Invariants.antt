-- A prefix of the piece was used: whatever handing the others makes, handing the piece makes.
use Rattle.std.proofs.Common.{length, ◌≤◌}
use Rattle.h2_messages.specs.Taking.{TakesBeginning}
use Rattle.h2_messages.proofs.taking.take_piece.Given as goal

abbrev pub invariant-loop : goal.invariant-loop
invariant-loop g l =
    record {
      within : l.done ≤ length l.piece;
      taken : TakesBeginning l.initial.end l.piece l.done l.end
          (g.W.Write.contents l.initial.out) (g.W.Write.contents l.out);
    }
