use Rattle.std.proofs.Common.{◌∙◌, ap, sym, ℤ}
use Rattle.std.specs.Prelude.{Some}
use Rattle.belkjoef.specs.Calls.{Answers}
use Rattle.belkjoef.specs.Given.{Copies, TrailsWith, fields_given}
use Rattle.belkjoef.specs.Numbers.{end_answer_number}
use Rattle.belkjoef.proofs.OnPlaces.{on_place_told, read_back}
use Rattle.belkjoef.proofs.parts.bj_send_trailers.Goals as goal

pub returns : goal.returns
returns c =
    on_place_told (λ (z : ℤ). Copies z (Answers end_answer_number
    (TrailsWith c.args.stream (fields_given c.args.trailers.now)) z))
    (read_back c.send_trailers_with-answer.type_inv)
    (c.in-Some.ensures.value ∙ ap Some (sym c.deref_mut.ensures.value))
    c.keep.ensures c.send_trailers_with-answer.ensures
