-- By the lemmas on the next part of a response.
use Rattle.std.proofs.lemmas.Result.{err_from_is_err_and}
use Rattle.h2_get.proofs.SeveralParts.{part_comes, part_dropped, part_stops}
use Rattle.h2_get.proofs.several.part_on.Goals as goal

pub returns-in_err-part-clause-part : goal.returns-in_err-part-clause-part
returns-in_err-part-clause-part g c =
    let answer = err_from_is_err_and c.from_residual.result c.from_residual.ensures.1 in
    rw (answer.1, answer.2)
    (part_stops _ _ c.args.fetch.now c.next_on.new.self c.args.id _ c.in_err-part.ensures.next)

pub returns-in-Part-clause-part : goal.returns-in-Part-clause-part
returns-in-Part-clause-part g c =
    part_comes _ _ c.args.fetch.now c.next_on.new.self c.args.id c.in-Part.part
    (rw c.in-Part.is at c.in_ok-part.ensures.next)

pub returns-in-Dropped-clause-part : goal.returns-in-Dropped-clause-part
returns-in-Dropped-clause-part g c =
    part_dropped _ _ c.args.fetch.now c.next_on.new.self c.args.id c.in-Dropped.code
    (rw c.in-Dropped.is at c.in_ok-part.ensures.next)
