-- The words are those of the frame.
use Rattle.std.proofs.Output.{has_written_of_eq}
use Rattle.h2_show.proofs.LinesLemmas.{reset_words}
use Rattle.h2_show.proofs.lines.write_reset.Goals as goal

pub returns : goal.returns
returns g c = λ plain ok.
    has_written_of_eq _ _ _ _ _ (reset_words c.args.stream c.args.code)
    (c.write.ensures.writes plain ok)
