use Rattle.h2_message.proofs.Names.{response_head_rules, head_rules}
use Rattle.h2_message.proofs.scan.Scan.broken_by_response_head.Goals as goal

pub returns : goal.returns
unfolding response_head_rules head_rules
returns c fields scan =
    let lacks = c.lacks_of_response.ensures fields scan in
    let status = c.has_no_final_status.ensures fields scan in
    cc
