-- What an end has sent decodes, from an empty table on, to the lists that it was given, and leaves
-- its encoder's table.
use Rattle.hpack.specs.Written.{IsValidEncoder, AreOctets}
use Rattle.hpack.specs.Limits.{after_limit}
use Rattle.hpack.proofs.WrittenBlocks.{block_goes_on}
use Rattle.h2_spec_log.specs.ItemEffects.{encoder_after_settings}
use Rattle.h2_laws_pair.proofs.Names
use Names.{◌≡◌, ℕ, ◌+◌, ◌≤◌, ◌==◌, min, Bool, true, false, if◌then◌else◌, List, [], ◌∷◌, ◌++◌}
use Names.{length, refl, sym, ap, ◌∙◌, arith, append_assoc, AllByRecursion, Field, EncoderState}
use Names.{empty_table, list_size, Block, block_of, after_block, block_encodes, Settings, Item}
use Names.{alone, block, total, max_list, own_value, one_ack, settings_received, changes_encoder}
use Names.{EncodesInOrder, sent_nothing, sent_acknowledgment, sent_block, sent_other, DecodeInOrder}
use Rattle.h2_laws_pair.proofs.TablesValues.{limit_after, limit_in_force}
use Rattle.h2_laws_log.proofs.EncoderSteps.{pairs_limited}

-- A list that an encoder makes a block of: octets, in strings that integers count.
pub record IsEncodable (fields : List Field) : Type 0 where
  pub octets : AreOctets fields
  pub small : list_size fields ≤ max_list

-- An item that leaves the encoder is no acknowledgment.
no_ack : (item : Item) → changes_encoder item ≡ false → one_ack item ≡ 0
unfolding one_ack changes_encoder
no_ack (alone (Settings true pairs)) same = absurd (cc)
no_ack item same = refl

-- As many acknowledgments were sent as SETTINGS received.
pub acks_sent : (sent : List Item) (settings : List (List (ℕ × ℕ))) (lists : List (List Field))
    (encoder : EncoderState) → EncodesInOrder sent settings lists encoder
    → total one_ack sent ≡ length settings
unfolding total one_ack
acks_sent _ _ _ _ sent_nothing = refl
acks_sent _ _ _ _ (sent_acknowledgment {sent} {settings} {lists} {encoder} before pairs) =
    omega (arith, acks_sent sent settings lists encoder before)
acks_sent _ _ _ _ (sent_block {sent} {settings} {lists} {encoder} before stream end fields) =
    omega (arith, acks_sent sent settings lists encoder before)
acks_sent _ _ _ _ (sent_other {sent} {settings} {lists} {encoder} before item same) =
    omega (arith, acks_sent sent settings lists encoder before, no_ack item same)

-- The encoder is one whose blocks are read, with the limit of the SETTINGS received, 4,096 at most.
abbrev pub HasLimit : (encoder : EncoderState) (limit : ℕ) → Type 0
HasLimit encoder limit = IsValidEncoder encoder × (encoder.limit ≡ min limit 4096)

-- The table stays, whatever the limits are.
table_by : (encoder : EncoderState) (limit : ℕ) (b : Bool)
    → (if b then after_limit encoder limit else encoder).table ≡ encoder.table
table_by encoder limit true = refl
table_by encoder limit false = refl

settings_table : (encoder : EncoderState) (pairs : List (ℕ × ℕ))
    → (encoder_after_settings encoder pairs).table ≡ encoder.table
unfolding encoder_after_settings
settings_table encoder [] = refl
settings_table encoder (pair ∷ pairs) =
    settings_table (if pair.0 == 1 then after_limit encoder (min pair.1 4096) else encoder) pairs
    ∙ table_by encoder (min pair.1 4096) (pair.0 == 1)

-- After a block.
block_limit : (encoder : EncoderState) (limit : ℕ) (fields : List Field) → HasLimit encoder limit
    → HasLimit (after_block encoder fields) limit
unfolding after_block
block_limit encoder limit fields has = (block_goes_on encoder fields has.0, has.1)

-- What was sent decodes, with the limits of a peer's SETTINGS.
pub record IsDecodable (peer sent : List Item) (settings : List (List (ℕ × ℕ)))
    (lists : List (List Field)) (encoder : EncoderState) : Type 0 where
  pub has_limit : HasLimit encoder (limit_after settings)
  pub decode : DecodeInOrder peer 0 (empty_table 4096) sent lists encoder.table

-- An item that is no block and leaves the encoder changes nothing.
other_decodes : (peer sent : List Item) (settings : List (List (ℕ × ℕ)))
    (lists : List (List Field)) (encoder : EncoderState) (item : Item)
    → changes_encoder item ≡ false → IsDecodable peer sent settings lists encoder
    → IsDecodable peer (item ∷ sent) settings lists encoder
unfolding changes_encoder
other_decodes peer sent settings lists encoder (alone frame) same is =
    record { has_limit = is.has_limit; decode = is.decode }
other_decodes peer sent settings lists encoder (block stream end octets) same is = absurd (cc)

-- A block decodes, at as many acknowledgments as SETTINGS.
block_decodes : (peer sent : List Item) (newer settings : List (List (ℕ × ℕ)))
    (lists : List (List Field)) (encoder : EncoderState) (fields : List Field)
    → settings_received peer ≡ newer ++ settings → total one_ack sent ≡ length settings
    → HasLimit encoder (limit_after settings) → IsEncodable fields
    → Block encoder.table (own_value 1 4096 (0 + total one_ack sent) peer)
    (block_of encoder fields) fields (after_block encoder fields).table
block_decodes peer sent newer settings lists encoder fields joined acks has encodable =
    let count : 0 + total one_ack sent ≡ length settings = omega (arith, acks) in
    let limit = ap (λ (n : ℕ). own_value 1 4096 n peer) count ∙ limit_in_force _ _ _ joined in
    block_encodes encoder (own_value 1 4096 (0 + total one_ack sent) peer) fields has.0
    encodable.octets (omega (arith, encodable.small)) (omega (arith, limit, has.1))

-- All that was sent decodes.
pub sent_decodes : (peer sent : List Item) (newer settings : List (List (ℕ × ℕ)))
    (lists : List (List Field)) (encoder : EncoderState)
    → settings_received peer ≡ newer ++ settings → AllByRecursion IsEncodable lists
    → EncodesInOrder sent settings lists encoder → IsDecodable peer sent settings lists encoder
sent_decodes peer _ newer _ _ _ joined encodable sent_nothing = record {
  has_limit = (
    record {
      least = omega arith;
      limit = omega arith;
      maximum = omega arith;
      within = omega arith;
    },
    refl,
  );
  decode = (refl, refl);
}
sent_decodes peer _ newer _ _ _ joined encodable
    (sent_acknowledgment {sent} {settings} {lists} {encoder} before pairs) =
    let is = sent_decodes peer sent (newer ++ pairs ∷ []) settings lists encoder
    (joined ∙ sym (append_assoc newer (pairs ∷ []) settings)) encodable before in
    record {
      has_limit = pairs_limited encoder (limit_after settings) pairs is.has_limit.0 is.has_limit.1;
      decode = rw (settings_table encoder pairs) is.decode;
    }
sent_decodes peer _ newer _ _ _ joined encodable
    (sent_block {sent} {settings} {lists} {encoder} before stream end fields) =
    let is = sent_decodes peer sent newer settings lists encoder joined encodable.1 before in
    record {
      has_limit = block_limit encoder (limit_after settings) fields is.has_limit;
      decode = (
        fields,
        lists,
        encoder.table,
        refl,
        is.decode,
        block_decodes peer sent newer settings lists encoder fields joined
            (acks_sent sent settings lists encoder before) is.has_limit encodable.0,
      );
    }
sent_decodes peer _ newer _ _ _ joined encodable
    (sent_other {sent} {settings} {lists} {encoder} before item same) =
    other_decodes _ _ _ _ _ item same (sent_decodes _ _ _ _ _ _ joined encodable before)
