use Rattle.std.proofs.lemmas.Result.{err_from_is_err_and}
use Rattle.h2_frame.proofs.payload.read_payload.Goals as goal

-- src/payload.rt:80:15
pub returns-in_err-pad : goal.returns-in_err-pad
returns-in_err-pad c =
    let p = err_from_is_err_and c.from_residual.result c.from_residual.ensures.1 in
    rw (p.1, p.2) c.in_err-pad.ensures
