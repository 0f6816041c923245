use Rattle.h2_message.proofs.Names.{◌≡◌, false, sym, ap, refl, ◌∙◌, Phase, AtHead, InBody, AtEnd}
use Rattle.h2_message.proofs.PhaseEnds.{is_end, over_where_ended}
use Rattle.h2_message.proofs.reading.Reading.is_over.Goals as goal

-- What is not at its end.
not_end : (phase : Phase) → (phase ≡ AtEnd → ⊥) → false ≡ is_end phase
not_end AtHead other = refl
not_end (InBody left) other = refl
not_end AtEnd other = absurd (other refl)

pub returns-in-AtEnd : goal.returns-in-AtEnd
returns-in-AtEnd c reads parts follows =
    ap is_end (sym c.in-AtEnd.is)
    ∙ over_where_ended reads parts c.args.self.now.phase follows.phase

pub returns-in_default : goal.returns-in_default
returns-in_default c reads parts follows =
    not_end c.args.self.now.phase c.in_default.not-AtEnd
    ∙ over_where_ended reads parts c.args.self.now.phase follows.phase
