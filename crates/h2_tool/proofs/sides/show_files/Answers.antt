-- What the files hold is shown.
use Rattle.std.proofs.Common.{refl}
use Rattle.h2_tool.specs.Commands.{are_shown}
use Rattle.h2_tool.proofs.InputLemmas.{sides_end_so}
use Rattle.h2_tool.proofs.sides.show_files.Goals as goal

pub returns : goal.returns
returns g c = λ known.
    are_shown _ _ (sides_end_so c.args.options _ _ _ _ c.show_sides-shown.result c.end_sides.result
    c.show_sides-shown.ensures.shows c.show_sides-shown.ensures.bad_hex c.end_sides.ensures) refl
