-- A flush keeps what is known.
use Rattle.h2_show.proofs.Names.{ShowsInput}
use Rattle.h2_show.proofs.InputLemmas.{kept_shown}
use Rattle.h2_show.proofs.show.show_lines.Goals as goal

pub returns-clause-shows : goal.returns-clause-shows
returns-clause-shows g c =
    kept_shown (ShowsInput c.args.options) _ _ _ _ c.show_given-shown.result
    c.show_given-shown.ensures.shows
    c.flush.ensures.bytes
