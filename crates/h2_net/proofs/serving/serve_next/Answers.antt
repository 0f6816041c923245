-- A link that is not made ends the connection.
use Rattle.std.proofs.Common.{◌≡◌, ◌⊎◌, Err, inl, inr, ap}
use Rattle.std.proofs.lemmas.Result.{err_from_is_err_and}
use Rattle.h2_link.specs.declared.error.LinkError.{LinkError}
use Rattle.h2_link.specs.declared.error.LinkError.TheVariants as errors
use Rattle.h2_engines.specs.Failures.{EndsServing}
use Rattle.h2_net.specs.Serving.{ServesConnection}
use Rattle.h2_net.proofs.serving.serve_next.Goals as goal

no_link_serves : (error : LinkError) → (error ≡ errors.Device) ⊎ (error ≡ errors.Memory)
    → ServesConnection (Err error)
no_link_serves error (inl device) = inl (ap Err device)
no_link_serves error (inr memory) = inr (inl (ap Err memory))

no_link_ends : (error : LinkError) → (error ≡ errors.Device) ⊎ (error ≡ errors.Memory)
    → EndsServing error
no_link_ends error (inl device) = rw device tt
no_link_ends error (inr memory) = rw memory tt

pub returns-in_err-link-clause-err : goal.returns-in_err-link-clause-err
returns-in_err-link-clause-err g c =
    let answer = err_from_is_err_and c.from_residual.result c.from_residual.ensures.1 in
    rw (answer.1, answer.2) (no_link_ends _ c.in_err-link.ensures.err)

pub returns-in_err-link-clause-serves : goal.returns-in_err-link-clause-serves
returns-in_err-link-clause-serves g c =
    let answer = err_from_is_err_and c.from_residual.result c.from_residual.ensures.1 in
    rw (answer.1, answer.2) (no_link_serves _ c.in_err-link.ensures.err)
