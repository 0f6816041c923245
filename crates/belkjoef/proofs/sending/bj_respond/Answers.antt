use Rattle.std.proofs.Common.{◌∙◌, ap, sym, ℤ}
use Rattle.std.specs.Prelude.{Some}
use Rattle.belkjoef.specs.Calls.{Answers}
use Rattle.belkjoef.specs.Given.{Copies, AtServer, RespondsWith, message_given, reply_number}
use Rattle.belkjoef.proofs.OnPlaces.{on_place_told, read_back}
use Rattle.belkjoef.proofs.sending.bj_respond.Goals as goal

pub returns : goal.returns
returns c =
    on_place_told (λ (z : ℤ). AtServer z (Copies z (Answers reply_number
    (RespondsWith c.args.stream (message_given c.args.head.now c.args.body.now)) z)))
    (read_back c.respond_with-answer.type_inv)
    (c.in-Some.ensures.value ∙ ap Some (sym c.deref_mut.ensures.value))
    c.keep.ensures c.respond_with-answer.ensures
