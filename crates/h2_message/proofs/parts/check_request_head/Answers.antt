use Rattle.h2_message.proofs.Names.{sym, ap, ◌∙◌, is_some, final_rules, length_to_send}
use Rattle.h2_message.proofs.ReadingHeads.{request_length}
use Rattle.h2_message.proofs.parts.check_request_head.Goals as goal

pub returns-in-None-clause-ok : goal.returns-in-None-clause-ok
unfolding final_rules length_to_send
returns-in-None-clause-ok c =
    let scan = c.scan_fields-scan.ensures in
    let none = sym (c.broken_by_request_head.ensures _ scan) ∙ c.in-None.is in
    (none, scan.length (request_length _ (ap is_some none)))

pub returns-in-Some-clause-err : goal.returns-in-Some-clause-err
unfolding final_rules
returns-in-Some-clause-err c =
    sym (c.broken_by_request_head.ensures _ c.scan_fields-scan.ensures) ∙ c.in-Some.is
