-- Standard input is shown, or a file, or the files of both sides.
use Rattle.h2_tool.proofs.InputLemmas.{input_ends_so}
use Rattle.h2_tool.proofs.show.show_asked.Goals as goal

pub returns-in-None-None-None : goal.returns-in-None-None-None
returns-in-None-None-None g c =
    rw (c.in-None-None-None.is-0, c.in-None-None-None.is-1, c.in-None-None-None.is-2)
    (input_ends_so c.args.asked.options _ _ _ c.show_input-shown.result c.end_input.result
    c.show_input-shown.ensures.reports c.show_input-shown.ensures.shows
    c.show_input-shown.ensures.bad_hex c.end_input.ensures)

pub returns-in-Some-None-None : goal.returns-in-Some-None-None
returns-in-Some-None-None g c =
    rw (c.in-Some-None-None.is-0, c.in-Some-None-None.is-1, c.in-Some-None-None.is-2)
    (c.show_file.ensures _)

pub returns-in-None-Some-Some : goal.returns-in-None-Some-Some
returns-in-None-Some-Some g c =
    rw (c.in-None-Some-Some.is-0, c.in-None-Some-Some.is-1, c.in-None-Some-Some.is-2)
    (c.show_files.ensures _)
