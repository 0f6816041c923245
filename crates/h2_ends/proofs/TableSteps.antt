-- What is found among the entries of an end after one of them was changed.
use Rattle.h2_ends.proofs.Names.{ℕ, Bool, Option, refl, sym, ap, ◌∙◌, ne_eqb, eq-eqb, End, Stream}
use Rattle.h2_ends.proofs.Names.{KeepsOne, cond}
use Rattle.h2_ends.proofs.EndSteps.{kept}
pub use Rattle.h2_numbers.specs.Entries.{SetsValue}

-- Entries with another one at a number keep all but that one.
pub keeps_but : (old new : End) (id : ℕ) (stream : Option Stream)
    → SetsValue id stream old.streams.entries new.streams.entries → KeepsOne old new id stream
keeps_but old new id stream changes =
    record {
      one = changes id ∙ ap (λ (b : Bool). cond b stream (kept old id)) (eq-eqb id id refl);
      others = λ i other. changes i ∙ ap (λ (b : Bool). cond b stream (kept old i))
          (ne_eqb id i (λ same. other (sym same)));
    }
