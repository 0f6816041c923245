-- The request is taken out, if it is kept.
use Rattle.h2_engines.proofs.Names.{None, refl, sym, EndsKept, EndsRequest}
use Rattle.h2_engines.proofs.RequestTable.{changes_one}
use Rattle.h2_engines.proofs.request.Requests.end.Goals as goal

pub returns-in-Some : goal.returns-in-Some
unfolding EndsKept EndsRequest
returns-in-Some c =
    rw (sym c.in-Some.ensures.value)
    (refl, changes_one c.args.self.now _ c.args.id None c.take.ensures.updates)

pub returns-in-None : goal.returns-in-None
unfolding EndsKept
returns-in-None c =
    rw (sym c.in-None.ensures.value)
    (refl, changes_one c.args.self.now _ c.args.id None c.take.ensures.updates)
