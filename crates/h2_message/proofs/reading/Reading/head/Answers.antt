use Rattle.h2_message.proofs.Names.{ℕ, Option, inl, inr, sym, ap, ◌∙◌, true, false, phase_in_body}
use Rattle.h2_message.proofs.ReadingHeads.{request_refused, request_taken, request_place}
use Rattle.h2_message.proofs.ReadingHeads.{request_length, response_length, interim_refused}
use Rattle.h2_message.proofs.ReadingHeads.{interim_taken, interim_place, response_refused}
use Rattle.h2_message.proofs.ReadingHeads.{response_taken, response_place}
use Rattle.h2_message.proofs.ReadingRules.{known_rule}
use Rattle.h2_message.proofs.reading.Reading.head.Goals as goal
use Rattle.h2_message.proofs.reading.Reading.head.Goals.{then-end-via-then-end}
use Rattle.h2_message.proofs.reading.Reading.head.Goals.{then-end-via-else-end+then-is_some-2}

pub returns-then-is_some-clause-phase : goal.returns-then-is_some-clause-phase
returns-then-is_some-clause-phase c =
    rw c.in-Requests.is (request_refused _ _ (known_rule _ _ true c.if-is_some.ensures
    (c.broken_by_request_head.ensures _ c.scan_list-head.ensures)))

pub returns-in_err-self-in-Requests-clause-phase :
    goal.returns-in_err-self-in-Requests-clause-phase
returns-in_err-self-in-Requests-clause-phase c =
    let none = known_rule _ _ false c.if-is_some.ensures
    (c.broken_by_request_head.ensures _ c.scan_list-head.ensures) in
    rw (c.in-Requests.is, c.from_residual.ensures) (request_taken _ _ none
    ∙ ap (λ (left : Option ℕ). phase_in_body left c.args.end)
    (sym (c.scan_list-head.ensures.length (request_length _ none)))
    ∙ sym c.in_err-self-in-Requests.ensures)

pub returns-in_ok-self-in-Requests-clause-phase :
    goal.returns-in_ok-self-in-Requests-clause-phase
returns-in_ok-self-in-Requests-clause-phase c =
    let none = known_rule _ _ false c.if-is_some.ensures
    (c.broken_by_request_head.ensures _ c.scan_list-head.ensures) in
    rw c.in-Requests.is (request_taken _ _ none
    ∙ ap (λ (left : Option ℕ). phase_in_body left c.args.end)
    (sym (c.scan_list-head.ensures.length (request_length _ none)))
    ∙ sym c.in_ok-self-in-Requests.ensures)

pub returns-in_ok-self-in-Requests-clause-place :
    goal.returns-in_ok-self-in-Requests-clause-place
returns-in_ok-self-in-Requests-clause-place c = rw c.in-Requests.is (request_place c.args.list.now)

pub returns-then-end-clause-phase : goal.returns-then-end-clause-phase
returns-then-end-clause-phase c =
    let scan = c.scan_list-head-in-Responses.ensures in
    let interim = sym (c.has_interim_status.ensures _ scan) ∙ c.if-has_interim_status.true in
    rw c.in-Responses.is (elim c.then-end.branch [
      | then-end-via-then-end w ↦
          interim_refused _ _ _ interim (inl w.if-end.true)
      | then-end-via-else-end+then-is_some-2 w ↦
          interim_refused _ _ _ interim
          (inr (known_rule _ _ true w.if-is_some-2.ensures (w.broken_by_interim.ensures _ scan)))
    ])

pub returns-then-has_interim_status-clause-phase :
    goal.returns-then-has_interim_status-clause-phase
returns-then-has_interim_status-clause-phase c =
    rw (c.in-Responses.is, c.requires) (interim_taken _ _ _ c.if-end.false
    (known_rule _ _ false c.if-is_some-2.ensures
    (c.broken_by_interim.ensures _ c.scan_list-head-in-Responses.ensures)))

pub returns-then-has_interim_status-clause-place :
    goal.returns-then-has_interim_status-clause-place
returns-then-has_interim_status-clause-place c =
    rw c.in-Responses.is (interim_place _ _ (known_rule _ _ false c.if-is_some-2.ensures
    (c.broken_by_interim.ensures _ c.scan_list-head-in-Responses.ensures)))

pub returns-then-is_some-3-clause-phase : goal.returns-then-is_some-3-clause-phase
returns-then-is_some-3-clause-phase c =
    let scan = c.scan_list-head-in-Responses.ensures in
    rw c.in-Responses.is (response_refused _ _ _
    (sym (c.has_interim_status.ensures _ scan) ∙ c.if-has_interim_status.false)
    (known_rule _ _ true c.if-is_some-3.ensures (c.broken_by_response_head.ensures _ scan)))

pub returns-in_err-self-in-Responses-clause-phase :
    goal.returns-in_err-self-in-Responses-clause-phase
returns-in_err-self-in-Responses-clause-phase c =
    let scan = c.scan_list-head-in-Responses.ensures in
    let none = known_rule _ _ false c.if-is_some-3.ensures
    (c.broken_by_response_head.ensures _ scan) in
    rw (c.in-Responses.is, c.from_residual-in_err-self-in-Responses.ensures)
    (response_taken _ _ _ none
    ∙ ap (λ (left : Option ℕ). phase_in_body left c.args.end)
    (sym (c.compared_length.ensures _ scan (response_length _ none)))
    ∙ sym c.in_err-self-in-Responses.ensures)

pub returns-in_ok-self-in-Responses-clause-phase :
    goal.returns-in_ok-self-in-Responses-clause-phase
returns-in_ok-self-in-Responses-clause-phase c =
    let scan = c.scan_list-head-in-Responses.ensures in
    let none = known_rule _ _ false c.if-is_some-3.ensures
    (c.broken_by_response_head.ensures _ scan) in
    rw c.in-Responses.is (response_taken _ _ _ none
    ∙ ap (λ (left : Option ℕ). phase_in_body left c.args.end)
    (sym (c.compared_length.ensures _ scan (response_length _ none)))
    ∙ sym c.in_ok-self-in-Responses.ensures)

pub returns-in_ok-self-in-Responses-clause-place :
    goal.returns-in_ok-self-in-Responses-clause-place
returns-in_ok-self-in-Responses-clause-place c =
    let scan = c.scan_list-head-in-Responses.ensures in
    rw c.in-Responses.is (response_place _ _
    (sym (c.has_interim_status.ensures _ scan) ∙ c.if-has_interim_status.false))
