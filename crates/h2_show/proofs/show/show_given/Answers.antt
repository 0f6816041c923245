-- Octets are shown as they come.
use Rattle.h2_show.proofs.show.show_given.Goals as goal

pub returns-clause-shows : goal.returns-clause-shows
returns-clause-shows g c = simp c.if-options.false c.in_ok-show_octets.ensures.shows
