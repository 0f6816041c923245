-- The header tables of a writer and its reader are the same.
use Rattle.std.proofs.Common.{◌≡◌, ℕ, ◌^◌, ◌<◌, List, [], ◌∷◌, fold, refl}
use Rattle.hpack.specs.Blocks.{Block}
use Rattle.hpack.proofs.WrittenBlocks.{block_encodes, block_goes_on}
use Rattle.h2_laws_log.proofs.Names.{ap, AllByRecursion, EncoderState, block_of, after_block}
use Rattle.h2_laws_log.proofs.Names.{IsValidEncoder, after_limit, fold_limits, limit_preserves}
use Rattle.h2_laws_log.specs.Tables.{SentBlock, encoder_before, octets_sent, encoder_after}
use Rattle.h2_laws_log.specs.Tables.{AreWithinLimits, AreRead}

-- Setting limits leaves what must be true of an encoder.
limits_keep : (encoder : EncoderState) (limits : List ℕ)
    → AllByRecursion (λ limit. limit < 2 ^ 32) limits → IsValidEncoder encoder
    → IsValidEncoder (fold after_limit encoder limits)
limits_keep encoder [] small writing = writing
limits_keep encoder (limit ∷ limits) small writing = limits_keep
    (after_limit encoder limit) limits small.1 (limit_preserves encoder limit small.0 writing)

-- Setting limits leaves the table.
same_table : (encoder : EncoderState) (limits : List ℕ) → (fold after_limit encoder limits).table
    ≡ encoder.table
same_table encoder limits = ap (λ (state : EncoderState). state.table) (fold_limits encoder limits)

-- What an encoder writes, block by block, its reader decodes block by block, with the same table
-- after each.
pub in_step : (encoder : EncoderState) (sendings : List SentBlock) → IsValidEncoder encoder
    → AreWithinLimits encoder sendings
    → AreRead encoder.table (octets_sent encoder sendings) sendings
    (encoder_after encoder sendings).table
in_step encoder [] writing within = refl
in_step encoder (sending ∷ others) writing within =
    let before : EncoderState = encoder_before encoder sending in
    let goes : IsValidEncoder before = limits_keep encoder sending.limits within.0 writing in
    let read : Block before.table sending.reader (block_of before sending.fields) sending.fields
    (after_block before sending.fields).table =
    block_encodes before sending.reader sending.fields goes within.1 within.2 within.3 in (
      (after_block before sending.fields).table,
      rw (same_table encoder sending.limits) at read,
      in_step (after_block before sending.fields) others (block_goes_on _ _ goes) within.4,
    )
