-- By the lemma on what lies between pad length and padding.
use Rattle.std.proofs.Common.{◌≡◌, ◌-◌, List, ℕ, length, take, drop, refl, subst, sym}
use Rattle.h2_frame.specs.Frames.{IsPadded, unpadded}
use Rattle.h2_frame.proofs.PaddingLemmas.{unpadded_is_padded}
use Rattle.h2_frame.proofs.payload.without_padding.Goals as goal

pub returns-in-None : goal.returns-in-None
returns-in-None c =
    let payload = c.args.payload.now in
    let value : payload ≡ unpadded c.args.pad payload = rw c.in-None.is refl in
    record {
      value = value;
      padded = λ begins is. subst (λ (body : List ℕ). IsPadded begins payload body c.args.pad)
          (sym value) (unpadded_is_padded begins payload c.args.pad c.requires is);
    }

pub returns-in-Some : goal.returns-in-Some
returns-in-Some c =
    let payload = c.args.payload.now in
    let value : take (length payload - c.from.result - 1) (drop 1 payload)
    ≡ unpadded c.args.pad payload = rw (c.in-Some.is, c.from.ensures) refl in
    record {
      value = value;
      padded = λ begins is. subst (λ (body : List ℕ). IsPadded begins payload body c.args.pad)
          (sym value) (unpadded_is_padded begins payload c.args.pad c.requires is);
    }
