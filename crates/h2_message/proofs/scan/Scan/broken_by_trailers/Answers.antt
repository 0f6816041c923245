use Rattle.h2_message.proofs.Names.{◌∙◌, trailer_rules}
use Rattle.h2_message.proofs.scan.Scan.broken_by_trailers.Goals as goal

pub returns : goal.returns
unfolding trailer_rules
returns c fields scan =
    c.first_broken.ensures
    ∙ rw (scan.bad_name, scan.bad_value, scan.pseudo, scan.connection_field)
