-- The text has the lines of these octets alone, and each follows the mark.
use Rattle.h2_follow.proofs.Names.{refl}
use Rattle.h2_follow.proofs.StretchLemmas.{part_told}
use Rattle.h2_follow.proofs.follower.Follower.show_part.Goals as goal

pub returns : goal.returns
returns c =
    part_told c.read_part-shown.result c.args.self.now c.note_unchecked.new.self
    c.read_part-shown.new.self
    (record c.read_part-shown.new.self { lines = c.mark_lines.new.lines }) c.clear.new.self
    c.args.side c.args.octets.now c.mark_of.result.now c.clear.ensures.items
    c.in_ok-note_unchecked.ensures (λ log reads. reads) refl refl c.read_part-shown.ensures
    (rw c.deref.ensures.value at c.in_ok-mark_lines.ensures) c.mark_of.ensures
