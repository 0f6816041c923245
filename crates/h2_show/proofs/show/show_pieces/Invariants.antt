-- The octets that were read have been shown, and their lines written.
use Rattle.h2_show.proofs.Names.{◌≡◌, ℕ, List, [], ShowLine, AppendsLines, Consumes}
use Rattle.h2_show.proofs.Names.{ViewerPrints, ViewerContinues}
use Rattle.std.specs.Io.Buffered.{writer_buffer, writer_contents}
use Rattle.h2_show.proofs.show.show_pieces.Given as goal

abbrev pub invariant-loop : goal.invariant-loop
invariant-loop g l =
    (octets : List ℕ)
    × Consumes (g.R.Read.remaining l.initial.input) (g.R.Read.remaining l.input) octets
    × ViewerContinues l.initial.viewer.cutter l.initial.viewer.blocks octets l.viewer.cutter
    l.viewer.blocks
    × ((printed : List ShowLine)
    × AppendsLines l.initial.viewer.printer.style l.initial.viewer.printer.next
    l.viewer.printer.next (writer_contents g.W.Write.contents l.initial.lines)
    (writer_contents g.W.Write.contents l.lines) printed
    × ViewerPrints l.initial.viewer.cutter l.initial.viewer.blocks l.initial.viewer.printer.is_due
    octets l.viewer.cutter l.viewer.blocks l.viewer.printer.is_due printed)
    × (writer_buffer l.lines ≡ [])
    × (l.viewer.printer.style ≡ l.initial.viewer.printer.style)
