-- The value is that of the row, or there is none.
use Rattle.h2_args.proofs.Names.{◌∙◌, ap, codes, found_of, first_value-rows}
use Rattle.h2_args.specs.Words.{file_of}
use Rattle.h2_args.proofs.show.file_of.Goals as goal

pub returns-in-Some : goal.returns-in-Some
returns-in-Some c =
    c.named_file.ensures
    ∙ ap file_of (c.in-Some.ensures
    ∙ first_value-rows (found_of c.args.matches.now) (codes "file"))

pub returns-in-None : goal.returns-in-None
returns-in-None c =
    ap file_of (c.in-None.ensures
    ∙ first_value-rows (found_of c.args.matches.now) (codes "file"))
