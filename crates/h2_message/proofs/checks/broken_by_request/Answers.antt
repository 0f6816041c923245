use Rattle.h2_message.proofs.Names.{◌≡◌, length, ap, ◌∙◌, arith, Request, differs_from, IsScan}
use Rattle.h2_message.specs.Values.{message_value}
use Rattle.h2_message.proofs.CheckRules.{request-broken}
use Rattle.h2_message.proofs.checks.broken_by_request.Goals as goal

pub returns : goal.returns
returns c =
    let message = message_value c.args.message.now in
    let head = c.scan_fields-head.result in
    let seen : IsScan Request message.head head =
    rw (← c.deref.ensures.value) c.scan_fields-head.ensures in
    let counted : c.len.result ≡ length message.body =
    omega (arith, c.len.ensures, c.args.message.now.body.ok.0) in
    c.first_broken.ensures
    ∙ request-broken message head c.scan_trailers-trailers.result c.lacks_of_request.result
    c.has_bad_method.result c.has_bad_path.result c.differs_from.result seen
    c.scan_trailers-trailers.ensures (c.lacks_of_request.ensures message.head seen)
    (c.has_bad_method.ensures message.head seen) (c.has_bad_path.ensures message.head seen)
    (c.differs_from.ensures ∙ ap (differs_from head.length) counted)
