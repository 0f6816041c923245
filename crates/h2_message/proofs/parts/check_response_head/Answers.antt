use Rattle.h2_message.proofs.Names.{sym, ap, ◌∙◌, is_some, final_rules}
use Rattle.h2_message.proofs.ReadingHeads.{response_length}
use Rattle.h2_message.proofs.parts.check_response_head.Goals as goal

pub returns-in-None-clause-ok : goal.returns-in-None-clause-ok
unfolding final_rules
returns-in-None-clause-ok c =
    let scan = c.scan_fields-scan.ensures in
    let none = sym (c.broken_by_response_head.ensures _ scan) ∙ c.in-None.is in
    (none, c.length_to_send.ensures _ scan (response_length _ (ap is_some none)))

pub returns-in-Some-clause-err : goal.returns-in-Some-clause-err
unfolding final_rules
returns-in-Some-clause-err c =
    sym (c.broken_by_response_head.ensures _ c.scan_fields-scan.ensures) ∙ c.in-Some.is
