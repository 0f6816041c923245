-- The status is that of the first of the responses so far that failed.
use Rattle.std.proofs.Common.{◌≡◌, map}
use Rattle.h2_args.specs.Words.{asked_by}
use Rattle.h2_tool.specs.GetsSeveral.{first_failed, status_of_one}
use Rattle.h2_tool.proofs.get_several.end_each.Given as goal

abbrev pub invariant-loop-got : goal.invariant-loop-got
invariant-loop-got g l =
    l.status ≡ first_failed (map (status_of_one (asked_by l.fn.options)) l.yielded)
