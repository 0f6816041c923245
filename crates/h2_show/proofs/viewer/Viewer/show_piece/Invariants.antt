-- A prefix of the piece has been shown.
use Rattle.h2_show.proofs.Names.{◌≡◌, List, length, ◌-◌, ◌≤◌, take, ShowLine, AppendsLines}
use Rattle.h2_show.proofs.Names.{ViewerPrints, ViewerContinues}
use Rattle.h2_show.proofs.viewer.Viewer.show_piece.Given as goal

abbrev pub invariant-loop-done : goal.invariant-loop-done
invariant-loop-done g l =
    record {
      within : l.done ≤ length l.piece;
      shown : ViewerContinues l.initial.self.cutter l.initial.self.blocks (take l.done l.piece)
          l.self.cutter l.self.blocks;
      style : l.self.printer.style ≡ l.initial.self.printer.style;
      printed : (printed : List ShowLine)
          × AppendsLines l.initial.self.printer.style l.initial.self.printer.next
          l.self.printer.next (g.W.Write.contents l.initial.out) (g.W.Write.contents l.out) printed
          × ViewerPrints l.initial.self.cutter l.initial.self.blocks l.initial.self.printer.is_due
          (take l.done l.piece) l.self.cutter l.self.blocks l.self.printer.is_due printed;
    }

abbrev pub decreases-loop-done : goal.decreases-loop-done
decreases-loop-done g l = length l.piece - l.done
