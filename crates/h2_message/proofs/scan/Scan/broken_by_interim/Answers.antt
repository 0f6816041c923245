use Rattle.h2_message.proofs.Names.{not, ◌||◌, has_bad_status, is_interim, interim_rules}
use Rattle.h2_message.proofs.Names.{head_rules}
use Rattle.h2_message.proofs.VerdictRules.{not-twice}
use Rattle.h2_message.proofs.scan.Scan.broken_by_interim.Goals as goal

pub returns : goal.returns
unfolding interim_rules head_rules
returns c fields scan =
    let lacks = c.lacks_of_response.ensures fields scan in
    let status = c.has_interim_status.ensures fields scan in
    cc (not-twice (has_bad_status fields || not (is_interim fields)))
