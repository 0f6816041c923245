use Rattle.h2_message.proofs.Names.{request_head_rules, head_rules}
use Rattle.h2_message.proofs.scan.Scan.broken_by_request_head.Goals as goal

pub returns : goal.returns
unfolding request_head_rules head_rules
returns c fields scan =
    let lacks = c.lacks_of_request.ensures fields scan in
    let method = c.has_bad_method.ensures fields scan in
    let path = c.has_bad_path.ensures fields scan in
    cc
