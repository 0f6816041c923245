use Rattle.std.proofs.Common.{◌∙◌, ap, sym, ℤ}
use Rattle.std.specs.Prelude.{Some}
use Rattle.belkjoef.specs.Calls.{Answers}
use Rattle.belkjoef.specs.Given.{Copies, AtServer, BeginsAnswerWith, fields_given}
use Rattle.belkjoef.specs.Numbers.{end_answer_number}
use Rattle.belkjoef.proofs.OnPlaces.{on_place_told, read_back}
use Rattle.belkjoef.proofs.parts.bj_begin_response.Goals as goal

pub returns : goal.returns
returns c =
    on_place_told (λ (z : ℤ). AtServer z (Copies z (Answers end_answer_number
    (BeginsAnswerWith c.args.stream (fields_given c.args.head.now)) z)))
    (read_back c.begin_response_with-answer.type_inv)
    (c.in-Some.ensures.value ∙ ap Some (sym c.deref_mut.ensures.value))
    c.keep.ensures c.begin_response_with-answer.ensures
