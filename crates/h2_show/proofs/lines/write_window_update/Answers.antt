-- The words are those of the frame.
use Rattle.std.proofs.Output.{has_written_of_eq}
use Rattle.h2_show.proofs.LinesLemmas.{window_words}
use Rattle.h2_show.proofs.lines.write_window_update.Goals as goal

pub returns : goal.returns
returns g c = λ plain ok.
    has_written_of_eq _ _ _ _ _ (window_words c.args.stream c.args.increment)
    (c.write.ensures.writes plain ok)
