-- What the file holds is shown, or it can't be opened.
use Rattle.std.proofs.Common.{refl}
use Rattle.h2_tool.specs.Commands.{is_shown, is_unopened}
use Rattle.h2_tool.proofs.InputLemmas.{input_ends_so}
use Rattle.h2_tool.proofs.show.show_file.Goals as goal

pub returns-in-Ok : goal.returns-in-Ok
returns-in-Ok g c = λ known.
    is_shown _ (input_ends_so c.args.options _ _ _ c.show_input-shown.result c.end_input.result
    c.show_input-shown.ensures.reports c.show_input-shown.ensures.shows
    c.show_input-shown.ensures.bad_hex c.end_input.ensures) refl

pub returns-in-Err : goal.returns-in-Err
returns-in-Err g c = λ known. is_unopened c.end_unopened.ensures refl refl
