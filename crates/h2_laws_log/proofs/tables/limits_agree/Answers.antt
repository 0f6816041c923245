-- By the lemma on values that were read.
use Rattle.h2_laws_log.proofs.SettingsLists.{limits_lem}
use Rattle.h2_laws_log.proofs.tables.limits_agree.Goals as goal

pub returns : goal.returns
returns c = limits_lem
