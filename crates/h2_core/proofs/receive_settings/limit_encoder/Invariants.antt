-- The pairs that are left give the encoder after all.
use Rattle.h2_core.proofs.Names.{◌≡◌, lent_pairs, pairs_left, encoder_after_settings}
use Rattle.h2_core.proofs.receive_settings.limit_encoder.Given as goal

abbrev pub invariant-loop-id : goal.invariant-loop-id
invariant-loop-id l = encoder_after_settings l.fn.encoder (lent_pairs l.fn.pairs)
    ≡ encoder_after_settings l.encoder (pairs_left l.id-iterator)
