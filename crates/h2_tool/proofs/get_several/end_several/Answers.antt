-- The status is that of the first that failed, or of what has ended all.
use Rattle.h2_args.specs.Words.{asked_by}
use Rattle.std.proofs.Common.{Err}
use Rattle.h2_tool.proofs.SeveralLemmas.{status_is}
use Rattle.h2_tool.proofs.get_several.end_several.Goals as goal

pub returns-in-Err : goal.returns-in-Err
returns-in-Err g c =
    rw c.in-Err.is (status_is (asked_by c.args.options.now) (Err c.in-Err.ending.error)
    c.end_unstreamed.result c.end_unstreamed.ensures)
