use Rattle.h2_message.proofs.Names.{◌∙◌}
use Rattle.h2_message.proofs.VerdictRules.{lacks-response}
use Rattle.hpack.proofs.Tests.{not_back as none-is}
use Rattle.h2_message.proofs.scan.Scan.lacks_of_response.Goals as goal

pub returns : goal.returns
returns c fields scan = none-is _ _ c.is_none.ensures ∙ lacks-response fields c.args.self.now scan
