-- By the lemma on the encoder of every log.
use Rattle.h2_laws_log.proofs.EncoderOfLogs.{encoder_is_limited}
use Rattle.h2_laws_log.proofs.tables.encoder_of_a_log.Goals as goal

pub returns : goal.returns
returns c = encoder_is_limited
