-- By the lemma on the greatest payloads of what every log has written.
use Rattle.h2_laws_log.proofs.PayloadsOfLogs.{written_by_payloads}
use Rattle.h2_laws_log.proofs.output.output_by_payloads.Goals as goal

pub returns : goal.returns
returns c = written_by_payloads
