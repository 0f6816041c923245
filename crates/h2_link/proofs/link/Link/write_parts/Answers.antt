-- The first part that has octets is written.
use Rattle.std.proofs.Common.{◌∙◌}
use Rattle.h2_link.proofs.PartsLemmas.{takes_part, stalled_part}
use Rattle.h2_link.proofs.link.Link.write_parts.Goals as goal

pub returns-clause-takes : goal.returns-clause-takes
returns-clause-takes g c =
    takes_part _ _ _ _ c.write.result c.first_part.ensures.part c.write.ensures.takes

pub returns-clause-stalled : goal.returns-clause-stalled
returns-clause-stalled g c =
    c.write.ensures.stalled
    ∙ stalled_part _ _ _ c.write.result c.first_part.ensures.part c.first_part.ensures.none
