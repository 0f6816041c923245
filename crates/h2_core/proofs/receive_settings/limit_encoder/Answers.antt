-- Pair by pair.
use Rattle.h2_core.proofs.Names.{◌≡◌, ◌==◌, true, false, refl, sym, ◌∙◌, ℕ, List, ◌∷◌, min}
use Rattle.h2_core.proofs.Names.{EncoderState, encoder_after_settings}
use Rattle.std.proofs.lemmas.Bool.{eq-eqb, ne_eqb}
use Rattle.hpack.specs.Limits.{after_limit}
use Rattle.h2_core.proofs.receive_settings.limit_encoder.Goals as goal

taken : (encoder : EncoderState) (left pairs : List (ℕ × ℕ)) (id value : ℕ)
    → left ≡ (id, value) ∷ pairs → (id == 1) ≡ true
    → encoder_after_settings encoder left
    ≡ encoder_after_settings (after_limit encoder (min value 4096)) pairs
unfolding encoder_after_settings
taken encoder left pairs id value is one = rw (is, one) refl

ignored : (encoder : EncoderState) (left pairs : List (ℕ × ℕ)) (id value : ℕ)
    → left ≡ (id, value) ∷ pairs → (id == 1) ≡ false
    → encoder_after_settings encoder left ≡ encoder_after_settings encoder pairs
unfolding encoder_after_settings
ignored encoder left pairs id value is other = rw (is, other) refl

pub loop-id-preserved-then-id-eq1 : goal.loop-id-preserved-then-id-eq1
loop-id-preserved-then-id-eq1 c =
    let one = eq-eqb c.in-Some.id 1 c.if-id-eq1.true in
    let step = taken c.loop-id.encoder _ _ _ _ c.in-Some.ensures.steps one in
    rw (c.set_limit.ensures, c.min.ensures) (c.loop-id.invariant ∙ step)

pub loop-id-preserved : goal.loop-id-preserved
loop-id-preserved c =
    let other = ne_eqb c.in-Some.id 1 c.if-id-eq1.false in
    let step = ignored c.loop-id.encoder _ _ _ _ c.in-Some.ensures.steps other in
    c.loop-id.invariant ∙ step

pub returns : goal.returns
unfolding encoder_after_settings
returns c = sym (c.loop-id.invariant ∙ rw c.in-None.ensures.steps.0 refl)
