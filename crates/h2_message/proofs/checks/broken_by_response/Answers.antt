use Rattle.h2_message.proofs.Names.{◌≡◌, length, ◌∙◌, arith, Response, has_wrong_body, IsScan}
use Rattle.h2_message.specs.Values.{message_value}
use Rattle.h2_message.proofs.CheckRules.{response-broken}
use Rattle.h2_message.proofs.checks.broken_by_response.Goals as goal

pub returns : goal.returns
unfolding has_wrong_body
returns c =
    let message = message_value c.args.message.now in
    let head = c.scan_fields-head.result in
    let seen : IsScan Response message.head head =
    rw (← c.deref.ensures.value) c.scan_fields-head.ensures in
    let counted : c.len.result ≡ length message.body =
    omega (arith, c.len.ensures, c.args.message.now.body.ok.0) in
    c.first_broken.ensures
    ∙ response-broken c.args.to_head message head c.scan_trailers-trailers.result
    c.lacks_of_response.result c.has_no_final_status.result c.has_wrong_body.result seen
    c.scan_trailers-trailers.ensures (c.lacks_of_response.ensures message.head seen)
    (c.has_no_final_status.ensures message.head seen)
    (λ good. rw (← counted) (c.has_wrong_body.ensures message.head seen good))
