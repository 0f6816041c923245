-- With the port at the end of its authority the URL names the location.
use Rattle.std.proofs.Common.{◌∙◌, ℕ, List, inr, subst}
use Rattle.std.proofs.lemmas.Result.{IfOk-weaker}
use Rattle.h2_net.specs.Locations.{Names}
use Rattle.h2_get.proofs.port.location_with.Goals as goal

pub returns-clause-ok : goal.returns-clause-ok
returns-clause-ok c =
    let same = c.as_slice.ensures.value ∙ c.in_ok-longer.ensures in
    rw c.in-Some.is (IfOk-weaker c.target.result _ _
    (λ location names. inr (c.requires, subst (λ (url : List ℕ). Names url location) same names))
    c.target.ensures.ok)
