-- By recursion on the names.
use Rattle.h2_files.proofs.LawLemmas.{segments_of_below}
use Rattle.h2_files.proofs.laws.segments_are_names.Goals as goal

pub returns : goal.returns
returns c = segments_of_below
