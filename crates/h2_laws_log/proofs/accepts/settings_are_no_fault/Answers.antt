-- By the lemma on changed SETTINGS.
use Rattle.h2_laws_log.proofs.AcceptedSettings.{settings_lem}
use Rattle.h2_laws_log.proofs.accepts.settings_are_no_fault.Goals as goal

pub returns : goal.returns
returns c = settings_lem
