use Rattle.h2_message.proofs.Names.{None, sym, ap, ◌∙◌, ◌≡◌, first_broken}
use Rattle.h2_message.proofs.Names.{final_rules, Option, ℕ}
use Rattle.h2_message.proofs.Names.{BadLength, is_short, request_head_rules, response_head_rules}
use Rattle.h2_message.proofs.Names.{is_some, [], ◌∷◌, compared_length}
use Rattle.std.specs.Prelude.{◌&&◌}
use Rattle.h2_message.proofs.ReadingHeads.{request_length, response_length}
use Rattle.h2_message.proofs.BrokenParts.{rule_of_request, rule_of_request_end, rule_of_interim}
use Rattle.h2_message.proofs.BrokenParts.{rule_of_interim_end, rule_of_response}
use Rattle.h2_message.proofs.BrokenParts.{rule_of_response_end}
use Rattle.h2_message.proofs.reading.Reading.broken_by_head.Goals as goal

pub returns-in-Some : goal.returns-in-Some
unfolding final_rules
returns-in-Some c =
    let list = c.args.list.now in
    rw c.in-Requests.is (rule_of_request list c.args.end c.in-Some.rule
    (sym (c.broken_by_request_head.ensures list c.scan_list-head.ensures) ∙ c.in-Some.is))

pub returns-in-None : goal.returns-in-None
unfolding final_rules compared_length
returns-in-None c =
    let list = c.args.list.now in
    let none : first_broken (request_head_rules list) ≡ None =
    sym (c.broken_by_request_head.ensures list c.scan_list-head.ensures) ∙ c.in-None.is in
    rw c.in-Requests.is (c.broken_by_end.ensures
    ∙ ap (λ (left : Option ℕ). first_broken ((c.args.end && is_short left, BadLength) ∷ []))
    (c.scan_list-head.ensures.length (request_length list (ap is_some none)))
    ∙ rule_of_request_end list c.args.end none)

pub returns-in-Some-broken_by_interim : goal.returns-in-Some-broken_by_interim
returns-in-Some-broken_by_interim c =
    let list = c.args.list.now in
    let scan = c.scan_list-head-in-Responses.ensures in
    let interim = sym (c.has_interim_status.ensures list scan) ∙ c.if-has_interim_status.true in
    rw c.in-Responses.is (rule_of_interim c.in-Responses.to_head list c.args.end interim
    c.in-Some-broken_by_interim.rule
    (sym (c.broken_by_interim.ensures list scan) ∙ c.in-Some-broken_by_interim.is))

pub returns-in-None-broken_by_interim : goal.returns-in-None-broken_by_interim
returns-in-None-broken_by_interim c =
    let list = c.args.list.now in
    let scan = c.scan_list-head-in-Responses.ensures in
    let interim = sym (c.has_interim_status.ensures list scan) ∙ c.if-has_interim_status.true in
    rw c.in-Responses.is (c.first_broken.ensures
    ∙ rule_of_interim_end c.in-Responses.to_head list c.args.end interim
    (sym (c.broken_by_interim.ensures list scan) ∙ c.in-None-broken_by_interim.is))

pub returns-in-Some-broken_by_response_head : goal.returns-in-Some-broken_by_response_head
unfolding final_rules
returns-in-Some-broken_by_response_head c =
    let list = c.args.list.now in
    let scan = c.scan_list-head-in-Responses.ensures in
    let final = sym (c.has_interim_status.ensures list scan) ∙ c.if-has_interim_status.false in
    rw c.in-Responses.is (rule_of_response c.in-Responses.to_head list c.args.end final
    c.in-Some-broken_by_response_head.rule
    (sym (c.broken_by_response_head.ensures list scan) ∙ c.in-Some-broken_by_response_head.is))

pub returns-in-None-broken_by_response_head : goal.returns-in-None-broken_by_response_head
unfolding final_rules
returns-in-None-broken_by_response_head c =
    let list = c.args.list.now in
    let scan = c.scan_list-head-in-Responses.ensures in
    let final = sym (c.has_interim_status.ensures list scan) ∙ c.if-has_interim_status.false in
    let none : first_broken (response_head_rules list) ≡ None =
    sym (c.broken_by_response_head.ensures list scan) ∙ c.in-None-broken_by_response_head.is in
    rw c.in-Responses.is (c.broken_by_end-in-None-broken_by_response_head.ensures
    ∙ ap (λ (left : Option ℕ). first_broken ((c.args.end && is_short left, BadLength) ∷ []))
    (c.compared_length.ensures list scan (response_length list (ap is_some none)))
    ∙ rule_of_response_end c.in-Responses.to_head list c.args.end final none)
