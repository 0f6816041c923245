-- The field blocks that an end has written are what its encoder makes of the lists that it was
-- given, with each limit from the acknowledgment of its SETTINGS on (RFC 9113, sections 4.3 and
-- 6.5.3; RFC 7541, section 4.2). Lists have the newest first.
use Rattle.std.specs.Prelude.{◌≡◌, ℕ, Bool, true, false, List, [], ◌∷◌}
use Rattle.hpack.specs.declared.types.field.Field.{Field}
use Rattle.hpack.specs.Lists.{EncoderState, empty_table}
use Rattle.hpack.specs.Choice.{block_of, after_block}
use Rattle.h2_frame.specs.Frames.{Settings}
use Rattle.h2_block.specs.Grouping.{Item, alone, block}
use Rattle.h2_spec_log.specs.Acts.{Act, Answer, Open, SendFields, Number, Done}
use Rattle.h2_spec_log.specs.ItemEffects.{encoder_after_settings}

-- the encoder of a new end
abbrev pub first_encoder : EncoderState
first_encoder = record { table = empty_table 4096; least = 4096; limit = 4096 }

-- the lists of the calls that were accepted
unfoldable pub lists_accepted : List (Act × Answer) → List (List Field)
lists_accepted [] = []
lists_accepted ((Open fields end, Number id) ∷ calls) = fields ∷ lists_accepted calls
lists_accepted ((SendFields id fields end, Done) ∷ calls) = fields ∷ lists_accepted calls
lists_accepted (call ∷ calls) = lists_accepted calls

-- the pairs of the SETTINGS that were received
unfoldable pub settings_received : List Item → List (List (ℕ × ℕ))
settings_received [] = []
settings_received (alone (Settings false pairs) ∷ items) = pairs ∷ settings_received items
settings_received (_ ∷ items) = settings_received items

-- Whether the encoder changes with an item that is sent: a field block, or an acknowledgment.
unfoldable pub changes_encoder : Item → Bool
changes_encoder (block stream end octets) = true
changes_encoder (alone (Settings ack pairs)) = ack
changes_encoder (alone _) = false

-- What was sent goes with the SETTINGS received and the lists accepted, all of them, in order, and
-- leaves this encoder: an acknowledgment applies the next SETTINGS, a field block is the next list,
-- encoded, and nothing else changes the encoder.
-- rule: 4.3.1 The encoder follows each HEADER_TABLE_SIZE, up to 4,096 (own)
pub data EncodesInOrder : (sent : List Item) (settings : List (List (ℕ × ℕ)))
    (lists : List (List Field)) (encoder : EncoderState) → Type 0 where
  sent_nothing : EncodesInOrder [] [] [] first_encoder
  sent_acknowledgment : {sent : List Item} → {settings : List (List (ℕ × ℕ))}
      → {lists : List (List Field)} → {encoder : EncoderState}
      → EncodesInOrder sent settings lists encoder → (pairs : List (ℕ × ℕ))
      → EncodesInOrder (alone (Settings true []) ∷ sent) (pairs ∷ settings) lists
      (encoder_after_settings encoder pairs)
  sent_block : {sent : List Item} → {settings : List (List (ℕ × ℕ))} → {lists : List (List Field)}
      → {encoder : EncoderState} → EncodesInOrder sent settings lists encoder
      → (stream : ℕ) (end : Bool) (fields : List Field)
      → EncodesInOrder (block stream end (block_of encoder fields) ∷ sent) settings (fields ∷ lists)
      (after_block encoder fields)
  sent_other : {sent : List Item} → {settings : List (List (ℕ × ℕ))} → {lists : List (List Field)}
      → {encoder : EncoderState} → EncodesInOrder sent settings lists encoder → (item : Item)
      → changes_encoder item ≡ false → EncodesInOrder (item ∷ sent) settings lists encoder
