-- Nothing was used before.
use Rattle.h2_show.proofs.InputLemmas.{octets_shown}
use Rattle.h2_show.proofs.ReportLemmas.{octets_reported}
use Rattle.h2_show.proofs.show.show_octets.Goals as goal

pub returns-clause-reports : goal.returns-clause-reports
returns-clause-reports g c =
    octets_reported c.args.options c.in_ok-viewer.viewer.cutter c.in_ok-viewer.viewer.blocks _ _
    c.in_ok-viewer.ensures.represents c.show_pieces.ensures.reports

pub returns-clause-shows : goal.returns-clause-shows
returns-clause-shows g c =
    octets_shown c.args.options c.in_ok-viewer.viewer.cutter c.in_ok-viewer.viewer.blocks _ _ _ _ _
    _ _ c.in_ok-viewer.ensures.style c.in_ok-viewer.ensures.first c.in_ok-viewer.ensures.shows c.show_pieces.ensures.shows
