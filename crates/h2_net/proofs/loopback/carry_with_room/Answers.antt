-- No room is no refusal.
use Rattle.std.proofs.lemmas.Result.{err_from_is_err_and}
use Rattle.h2_net.proofs.PostingLemmas.{memory_not_refused}
use Rattle.h2_net.proofs.loopback.carry_with_room.Goals as goal

pub returns-in_err-carried : goal.returns-in_err-carried
returns-in_err-carried g c = λ count is.
    let answer = err_from_is_err_and c.from_residual.result c.from_residual.ensures.1 in
    rw (answer.1, answer.2) (memory_not_refused _ c.in_err-carried.ensures)
