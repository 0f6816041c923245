-- The URL spells the URI whose location it is, or which is refused.
use Rattle.h2_net.proofs.Names.{names_of, refused_of}
use Rattle.h2_net.proofs.location.target.Goals as goal

pub returns-clause-ok : goal.returns-clause-ok
returns-clause-ok c =
    names_of c.location_of.result c.in-Ok.uri c.args.url.now c.in-Ok.ensures.ok
    c.location_of.ensures.ok

pub returns-clause-err : goal.returns-clause-err
returns-clause-err c =
    refused_of c.location_of.result c.in-Ok.uri c.args.url.now c.in-Ok.ensures.ok
    c.location_of.ensures.err
