-- By the lemma on the SETTINGS of an opening.
use Rattle.h2_laws_log.proofs.Names.{ap, verdict_by_rules, verdict_of_fault}
use Rattle.h2_laws_log.proofs.AcceptedSettings.{first_settings_lem}
use Rattle.h2_laws_log.proofs.accepts.first_settings_are_no_fault.Goals as goal

pub returns : goal.returns
unfolding verdict_by_rules
returns c = λ role values log ok other nothing. ap verdict_of_fault
    (first_settings_lem role values log ok nothing)
