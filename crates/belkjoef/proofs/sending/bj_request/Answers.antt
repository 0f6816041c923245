use Rattle.std.proofs.Common.{◌∙◌, ap, sym, ℤ}
use Rattle.std.specs.Prelude.{Some}
use Rattle.belkjoef.specs.Calls.{AnswersWith}
use Rattle.belkjoef.specs.Given.{Copies, AtClient, RequestsWith, message_given, reply_number}
use Rattle.belkjoef.specs.Given.{stream_or}
use Rattle.belkjoef.proofs.OnPlaces.{on_place_told, read_back}
use Rattle.belkjoef.proofs.sending.bj_request.Goals as goal

pub returns-clause-call : goal.returns-clause-call
returns-clause-call c =
    on_place_told (λ (z : ℤ). AtClient z (Copies z (AnswersWith reply_number
    (stream_or c.args.stream.now)
    (RequestsWith (message_given c.args.head.now c.args.body.now)) z
    c.request_with-answer.new.stream)))
    (read_back c.request_with-answer.type_inv)
    (c.in-Some.ensures.value ∙ ap Some (sym c.deref_mut.ensures.value))
    c.keep.ensures c.request_with-answer.ensures.call
