-- The octets are those that the text gives.
use Rattle.h2_show.proofs.InputLemmas.{text_shown, text_reported}
use Rattle.h2_show.proofs.show.show_hex.Goals as goal

pub returns-clause-reports : goal.returns-clause-reports
returns-clause-reports g c =
    text_reported c.args.options _ c.in_ok-octets.octets.items c.in_ok-shown.shown.status
    c.in_ok-octets.ensures.octets (rw c.deref.ensures.value at c.in_ok-shown.ensures.reports)

pub returns-clause-shows : goal.returns-clause-shows
returns-clause-shows g c =
    text_shown c.args.options _ _ _ c.in_ok-octets.octets.items c.in_ok-shown.shown.status
    c.in_ok-octets.ensures.octets (rw c.deref.ensures.value at c.in_ok-shown.ensures.shows)
