-- Octets of which none is escaped are written as they are.
use Rattle.h2_show.proofs.Names.{sym}
use Rattle.h2_show.proofs.LinesLemmas.{shown_unescaped}
use Rattle.h2_show.proofs.lines.write_text.Goals as goal

pub returns-in-None : goal.returns-in-None
returns-in-None g c =
    rw (shown_unescaped c.args.octets.now (sym c.in-None.ensures)) c.write_all.ensures.bytes
