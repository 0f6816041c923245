-- The words are those of the frame.
use Rattle.std.proofs.Output.{has_written_of_eq}
use Rattle.h2_show.proofs.NamedLemmas.{named_goaway_words}
use Rattle.h2_show.proofs.styled_lines.write_named_goaway.Goals as goal

pub returns : goal.returns
returns g c = λ plain ok.
    has_written_of_eq _ _ _ _ _ (named_goaway_words c.args.last c.args.code c.args.debug.now)
    (rw (c.goaway_length-length.ensures, c.code_name.ensures)
    at c.write.ensures.writes plain ok)
