use Rattle.std.proofs.Common.{ℤ}
use Rattle.h2_message.specs.Messages.{SentMessage}
use Rattle.belkjoef.specs.Calls.{AnswersWith}
use Rattle.belkjoef.specs.Given.{AtClient, RequestsWith, reply_number, stream_or}
use Rattle.belkjoef.proofs.OnPlaces.{on_copies, read_back}
use Rattle.belkjoef.proofs.held.Held.request_copied.Goals as goal

pub returns-in-Ok-clause-call : goal.returns-in-Ok-clause-call
returns-in-Ok-clause-call c =
    on_copies (λ (message : SentMessage) (z : ℤ). AtClient z (AnswersWith reply_number
    (stream_or c.args.stream.now) (RequestsWith message) z c.request.new.stream))
    (read_back c.request.type_inv)
    c.in-Ok.ensures c.request.ensures.call
