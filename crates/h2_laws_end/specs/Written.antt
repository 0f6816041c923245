-- What is written in one step: what is owed, and then perhaps one WINDOW_UPDATE on stream 0 that
-- returns credit (RFC 9113, section 6.9).
use Rattle.std.specs.Prelude.{◌≡◌, ◌⊎◌, ℕ, List, [], ◌∷◌, ◌++◌}
use Rattle.h2_frame.specs.Frames.{WindowUpdate}
use Rattle.h2_block.specs.Grouping.{Item, alone}
use Rattle.h2_spec_log.specs.Items.{encoding_of_items}
use Rattle.h2_spec_log.specs.Log.{Log, max_payload_sent}

-- Nothing, or one WINDOW_UPDATE on stream 0.
abbrev pub IsCredit : List Item → Type 0
IsCredit items = (items ≡ []) ⊎ ((count : ℕ) × (items ≡ alone (WindowUpdate 0 count) ∷ []))

-- These items were written, the newest first, with nothing in between, and then perhaps credit; all
-- with the greatest payload that is in force after the step.
-- rule: 4.3 A block is sent as contiguous HEADERS and CONTINUATION, each full but one
-- rule: 4.3 No other frame is sent between the frames of a field block
pub record Writes (before after : Log) (items : List Item) : Type 0 where
  pub credit : List Item
  pub is_credit : IsCredit credit
  pub sent : after.sent ≡ credit ++ (items ++ before.sent)
  pub written : after.written ≡ before.written
      ++ encoding_of_items (max_payload_sent after) (credit ++ items)
