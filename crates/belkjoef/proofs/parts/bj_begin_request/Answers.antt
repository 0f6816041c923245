use Rattle.std.proofs.Common.{◌∙◌, ap, sym, ℤ}
use Rattle.std.specs.Prelude.{Some}
use Rattle.belkjoef.specs.Calls.{AnswersWith}
use Rattle.belkjoef.specs.Given.{Copies, AtClient, BeginsWith, fields_given, stream_or}
use Rattle.belkjoef.specs.Numbers.{end_answer_number}
use Rattle.belkjoef.proofs.OnPlaces.{on_place_told, read_back}
use Rattle.belkjoef.proofs.parts.bj_begin_request.Goals as goal

pub returns-clause-call : goal.returns-clause-call
returns-clause-call c =
    on_place_told (λ (z : ℤ). AtClient z (Copies z (AnswersWith end_answer_number
    (stream_or c.args.stream.now) (BeginsWith (fields_given c.args.head.now)) z
    c.begin_request_with-answer.new.stream)))
    (read_back c.begin_request_with-answer.type_inv)
    (c.in-Some.ensures.value ∙ ap Some (sym c.deref_mut.ensures.value))
    c.keep.ensures c.begin_request_with-answer.ensures.call
