-- The greatest payload that is sent.
use Rattle.h2_spec_log.proofs.Names.{◌≤◌, arith, Frame, Item, alone, ◌≡◌, ℕ, List, [], ◌∷◌, refl}
use Rattle.h2_spec_log.proofs.Names.{encoding_of_item, encoding_of_items, max_frame_size_sent}
use Rattle.h2_spec_log.proofs.Names.{max_payload_sent_by}

-- No peer reads less than 16,384 octets, and no more are sent than the own limit.
pub most_between : (received : List Item) → (16384 ≤ max_payload_sent_by received)
    × (max_payload_sent_by received ≤ max_frame_size_sent)
unfolding max_payload_sent_by
most_between received = (omega arith, omega arith)

-- What stands alone is written alike, whatever the greatest payload is.
pub alone_alike : (most other : ℕ) (frame : Frame)
    → encoding_of_items most (alone frame ∷ []) ≡ encoding_of_items other (alone frame ∷ [])
unfolding encoding_of_items encoding_of_item
alone_alike most other frame = refl
