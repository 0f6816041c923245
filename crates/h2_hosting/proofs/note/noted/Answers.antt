-- As many octets as there are, and at most 1,024, are the first 1,024.
use Rattle.std.proofs.Common.{sym}
use Rattle.std.proofs.lemmas.List.{take_min}
use Rattle.h2_hosting.proofs.note.noted.Goals as goal

pub returns : goal.returns
returns c =
    rw (c.if-not-is_noted.false, sym (take_min 1024 c.args.octets.now), sym c.min-most.ensures)
    c.from_slice.ensures.items
