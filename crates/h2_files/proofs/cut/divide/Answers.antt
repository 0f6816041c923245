-- The place of the first such octet divides the octets.
use Rattle.std.proofs.Common.{sym, ◌∙◌}
use Rattle.h2_files.proofs.CutLemmas.{none_passes, divides_at}
use Rattle.h2_files.proofs.cut.divide.Goals as goal

pub returns-in_err-place : goal.returns-in_err-place
returns-in_err-place c =
    rw c.from_residual.ensures (none_passes _ _ (sym c.place_of.ensures ∙ c.in_err-place.was))

pub returns : goal.returns
returns c = divides_at _ _ c.in_ok-place.place (sym c.place_of.ensures ∙ c.in_ok-place.was)
