-- The words are those of the frame.
use Rattle.std.proofs.Output.{has_written_of_eq}
use Rattle.h2_show.proofs.LinesLemmas.{ping_words}
use Rattle.h2_show.proofs.lines.write_ping.Goals as goal

pub returns : goal.returns
returns g c = λ plain ok.
    has_written_of_eq _ _ _ _ _ (ping_words c.args.ack c.args.octets)
    (c.write.ensures.writes plain ok)
