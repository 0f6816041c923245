use Rattle.hpack.proofs.Names.{ap, sym, ◌∙◌, Option, ℕ, resized, after_maxima}
use Rattle.hpack.proofs.SizeLemmas.{resized_again, resized_same}
use Rattle.hpack.proofs.decode.updates.with_maximum.Goals as goal

pub returns-in-None : goal.returns-in-None
returns-in-None c = λ table. resized_same table c.args.maximum
    ∙ ap (λ (maxima : Option (ℕ × ℕ)). resized (after_maxima table maxima) c.args.maximum)
    (sym c.in-None.is)

pub returns-in-Some : goal.returns-in-Some
returns-in-Some c = λ table.
    ap (λ (least : ℕ). resized (resized table least) c.args.maximum) c.min.ensures
    ∙ (sym (resized_again table c.in-Some.least c.in-Some.last c.args.maximum)
    ∙ ap (λ (maxima : Option (ℕ × ℕ)). resized (after_maxima table maxima) c.args.maximum)
    (sym c.in-Some.is))
