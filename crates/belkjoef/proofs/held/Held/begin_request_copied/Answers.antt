use Rattle.std.proofs.Common.{◌∙◌, ℤ, List}
use Rattle.hpack.specs.declared.types.field.Field.{Field}
use Rattle.belkjoef.specs.Calls.{AnswersWith}
use Rattle.belkjoef.specs.Given.{AtClient, BeginsWith, stream_or}
use Rattle.belkjoef.specs.Numbers.{end_answer_number}
use Rattle.belkjoef.proofs.OnPlaces.{on_copies, read_back}
use Rattle.belkjoef.proofs.held.Held.begin_request_copied.Goals as goal

pub returns-in-Ok-clause-call : goal.returns-in-Ok-clause-call
returns-in-Ok-clause-call c =
    on_copies (λ (head : List Field) (z : ℤ). AtClient z (AnswersWith end_answer_number
    (stream_or c.args.stream.now) (BeginsWith head) z c.begin_request.new.stream))
    (read_back c.begin_request.type_inv)
    (c.deref.ensures.value ∙ c.in-Ok.ensures) c.begin_request.ensures.call
