-- Items that can be sent, and the frames that are sent of them. `most` is the greatest payload.
use Rattle.std.specs.Prelude.{◌≡◌, ℕ, ◌<◌, ◌≤◌, ◌^◌, true, List, [], ◌∷◌, ◌++◌, length, None}
use Rattle.h2_frame.specs.Frames.{Frame}
use Rattle.h2_frame.specs.Encoding.{payload_of, refusal, IsTyped}
use Rattle.h2_block.specs.Grouping.{Item, alone, block, is_standalone, max_block_octets}
use Rattle.h2_block.specs.Spread.{spread_frames}

-- A frame can be sent that no refusal of writing holds for, whose numbers are those that its types
-- hold, and whose payload isn't greater; a block on a stream that there is, with as many octets as
-- may be gathered.
-- rule (law): 4.1 What an end sends is read as its frames, without a fault
abbrev pub IsSendable : (most : ℕ) → Item → Type 0
IsSendable most (alone frame) = (is_standalone frame ≡ true) × (refusal frame ≡ None)
    × IsTyped frame × (length (payload_of frame) ≤ most)
IsSendable most (block stream end octets) = (1 ≤ stream) × (stream < 2 ^ 31)
    × (length octets ≤ max_block_octets)

-- the frames of an item
abbrev pub frames_of_item : (most : ℕ) → Item → List Frame
frames_of_item most (alone frame) = frame ∷ []
frames_of_item most (block stream end octets) = spread_frames most stream end octets

-- the frames of items, those of the oldest first
-- rule (law): 4.1 What an end sends is read as its frames, without a fault
abbrev pub frames_of_items : (most : ℕ) → List Item → List Frame
frames_of_items most [] = []
frames_of_items most (item ∷ items) = frames_of_items most items ++ frames_of_item most item

-- Each item can be sent with its own greatest payload. Items and payloads have the newest first,
-- and there are as many.
-- rule (law): 4.1 What an end sends is read as its frames, without a fault
abbrev pub AreSendable : List ℕ → List Item → Type 0
AreSendable [] [] = Unit {0}
AreSendable (most ∷ payloads) (item ∷ items) = IsSendable most item × AreSendable payloads items
AreSendable payloads items = ⊥

-- the frames of items, those of the oldest first, each with its own greatest payload
-- rule (law): 4.1 What an end sends is read as its frames, without a fault
abbrev pub frames_by : List ℕ → List Item → List Frame
frames_by (most ∷ payloads) (item ∷ items) = frames_by payloads items ++ frames_of_item most item
frames_by payloads items = []

-- items, the oldest first
abbrev pub oldest_first : List Item → List Item
oldest_first [] = []
oldest_first (item ∷ items) = oldest_first items ++ item ∷ []
