-- The URL, the body or the request are refused, or the fetch has ended.
use Rattle.std.proofs.Common.{ℕ, List, subst}
use Rattle.h2_args.specs.Words.{asked_by}
use Rattle.h2_get.specs.Ports.{IsRefusedAtPort, NamesAtPort}
use Rattle.h2_tool.specs.Gets.{is_in_parts}
use Rattle.h2_tool.proofs.GetLemmas.{asks_so, get_asks_nothing, get_has_no_body, get_refuses}
use Rattle.h2_tool.proofs.GetLemmas.{gets_nothing}
use Rattle.h2_tool.proofs.get.get_one.Goals as goal

pub returns-in-Err-clause-ends : goal.returns-in-Err-clause-ends
returns-in-Err-clause-ends g c =
    let words = asked_by c.args.options.now in
    gets_nothing words _ _ _ c.refuse_url.result (is_in_parts words)
    (get_refuses words _ _ c.in-Err.fault c.refuse_url.result
    (subst (λ (url : List ℕ). IsRefusedAtPort url words.port c.in-Err.fault)
    c.as_bytes.ensures.value c.in-Err.ensures.err) c.refuse_url.ensures)

pub returns-in-Err-body_of-clause-ends : goal.returns-in-Err-body_of-clause-ends
returns-in-Err-body_of-clause-ends g c =
    let words = asked_by c.args.options.now in
    gets_nothing words _ _ _ c.refuse_body.result (is_in_parts words)
    (get_has_no_body words _ _ c.in-Err-body_of.fault c.refuse_body.result
    c.in-Err-body_of.ensures.err c.refuse_body.ensures)

pub returns-in-Err-request_of-clause-ends : goal.returns-in-Err-request_of-clause-ends
returns-in-Err-request_of-clause-ends g c =
    let words = asked_by c.args.options.now in
    gets_nothing words _ _ _ c.refuse_request.result (is_in_parts words)
    (get_asks_nothing words _ _ c.in-Ok.location
    (subst (λ (url : List ℕ). NamesAtPort url words.port c.in-Ok.location)
    c.as_bytes.ensures.value c.in-Ok.ensures.ok)
    c.in-Ok-body_of.body.items c.in-Ok-body_of.ensures.body c.in-Err-request_of.fault
    c.refuse_request.result c.in-Err-request_of.ensures.err c.refuse_request.ensures)

-- The request was made.
pub returns-clause-ends : goal.returns-clause-ends
returns-clause-ends g c =
    let words = asked_by c.args.options.now in
    asks_so words _ _ _ c.ask_in_time.result c.in-Ok.location
    (subst (λ (url : List ℕ). NamesAtPort url words.port c.in-Ok.location)
    c.as_bytes.ensures.value c.in-Ok.ensures.ok)
    c.in-Ok-body_of.body.items c.in-Ok-body_of.ensures.body c.in-Ok-request_of.ensures.asked _
    c.in-Ok-request_of.ensures.ok c.ask_in_time.ensures
