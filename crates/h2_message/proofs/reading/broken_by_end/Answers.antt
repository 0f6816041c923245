use Rattle.h2_message.proofs.Names.{◌≡◌, ◌∙◌, ap, sym, Bool, [], ◌∷◌, BadLength, first_broken}
use Rattle.h2_message.proofs.Names.{is_short, refl}
use Rattle.std.specs.Prelude.{◌&&◌}
use Rattle.h2_message.proofs.BrokenParts.{short_is}
use Rattle.h2_message.proofs.reading.broken_by_end.Goals as goal
use Rattle.h2_message.proofs.reading.broken_by_end.Goals.{then-end, else-end}

pub returns : goal.returns
returns c =
    let test : c.if-end.first_broken ≡ (c.args.end && is_short c.args.left) =
    elim c.if-end.branch [
      | then-end w ↦ rw (w.if-end.true, w.first_broken-is, w.unwrap_or.ensures)
          (sym (short_is c.args.left))
      | else-end w ↦ w.first_broken-is ∙ rw w.if-end.false refl
    ] in
    c.first_broken.ensures ∙ ap (λ (test : Bool). first_broken ((test, BadLength) ∷ [])) test
