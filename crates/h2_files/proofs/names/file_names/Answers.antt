-- No name leaves its folder.
use Rattle.h2_files.specs.Paths.{texts}
use Rattle.h2_files.proofs.StayLemmas.{answer_stays}
use Rattle.h2_files.proofs.names.file_names.Goals as goal

pub returns-clause-below : goal.returns-clause-below
returns-clause-below c =
    answer_stays (λ names. texts names.items) c.names_of_path.result c.before_query.result.now
    c.names_of_path.ensures
