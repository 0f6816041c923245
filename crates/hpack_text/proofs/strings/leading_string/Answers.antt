use Rattle.hpack_text.proofs.Names.{inr, err_from_is_err_and}
use Rattle.hpack_text.proofs.StringLemmas.{short_string, found_string, body_fault, lacks_room}
use Rattle.hpack_text.proofs.strings.leading_string.Goals as goal

pub returns-then-text_len-after_head-clause-answer :
    goal.returns-then-text_len-after_head-clause-answer
returns-then-text_len-after_head-clause-answer c =
    inr (short_string c.args.octets.now c.in_ok-text_len.head_len c.in_ok-text_len.text_len
    c.in_ok-text_len.ensures.ok c.if-text_len-after_head.true)

pub returns-in_err-append_body-clause-answer : goal.returns-in_err-append_body-clause-answer
returns-in_err-append_body-clause-answer c =
    let p = err_from_is_err_and c.from_residual-in_err-append_body.result
    c.from_residual-in_err-append_body.ensures.1 in
    rw (p.1, p.2)
    (body_fault c.args.octets.now c.in_ok-text_len.head_len c.in_ok-text_len.text_len _
    c.in_ok-text_len.ensures.ok c.if-text_len-after_head.false
    c.in_err-append_body.ensures.answer)

pub returns-in_err-append_body-clause-room : goal.returns-in_err-append_body-clause-room
returns-in_err-append_body-clause-room c =
    let p = err_from_is_err_and c.from_residual-in_err-append_body.result
    c.from_residual-in_err-append_body.ensures.1 in
    rw (p.1, p.2) (λ memory. lacks_room c.args.octets.now c.in_ok-text_len.head_len
    c.in_ok-text_len.text_len _ _
    c.in_ok-text_len.ensures.ok c.if-text_len-after_head.false
    (c.in_err-append_body.ensures.full memory))

pub returns-clause-answer : goal.returns-clause-answer
returns-clause-answer c =
    let read = c.in_ok-append_body.ensures.answer in
    let found =
    found_string c.args.octets.now read.0 c.in_ok-text_len.head_len c.in_ok-text_len.text_len
    c.in_ok-text_len.ensures.ok c.if-text_len-after_head.false read.2 in
    (read.0, read.1, found.0, found.1)
