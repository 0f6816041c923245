-- What items do to streams and windows: an item is a frame that is no part of a block, or a whole
-- field block. Lists of items have the newest first.
use Rattle.std.specs.Prelude.{ℕ, ◌+◌, ◌%◌, ◌==◌, nat_lt, nat_le, max, Bool, true, false, ◌&&◌}
use Rattle.std.specs.Prelude.{if◌then◌else◌, List, [], ◌∷◌, ◌++◌, length}
use Rattle.h2_frame.specs.Frames.{Data, Reset, Ping, GoAway, WindowUpdate}
use Rattle.h2_frame.specs.Encoding.{payload_of, stream_of, encoding_of}
use Rattle.h2_block.specs.Grouping.{Item, alone, block}
use Rattle.h2_block.specs.Spread.{spread_frames, encoding_of_frames}

-- the stream of an item; 0 is the connection
unfoldable pub stream_of_item : Item → ℕ
stream_of_item (alone frame) = stream_of frame
stream_of_item (block stream end octets) = stream

-- the octets that DATA on the stream takes of its window: all those of its payload, the padding and
-- its length included (RFC 9113, section 6.9.1)
-- rule: 6.1 The complete payload of DATA, padding included, counts for windows
unfoldable pub data_on : ℕ → Item → ℕ
data_on i (alone (Data stream end octets pad)) = if stream == i then length (payload_of
    (Data stream end octets pad)) else 0
data_on i _ = 0

-- the octets that DATA, on whatever stream, takes of the connection's window
-- rule: 6.1 The complete payload of DATA, padding included, counts for windows
unfoldable pub data_of : Item → ℕ
data_of (alone (Data stream end octets pad)) = length (payload_of (Data stream end octets pad))
data_of _ = 0

-- the octets that WINDOW_UPDATE gives to the stream's window, or, on stream 0, to the connection's
-- (section 6.9)
unfoldable pub increment_on : ℕ → Item → ℕ
increment_on i (alone (WindowUpdate stream increment)) = if stream == i then increment else 0
increment_on i _ = 0

-- Whether the item is a field block on the stream.
unfoldable pub is_block_on : ℕ → Item → Bool
is_block_on i (block stream end octets) = stream == i
is_block_on i _ = false

-- Whether the item is a field block with an odd number that is this one or a greater one: if it
-- opens a stream, this number is used or passed over (section 5.1.1).
unfoldable pub opens_from : ℕ → Item → Bool
opens_from i (block stream end octets) = stream % 2 == 1 && nat_le i stream
opens_from i _ = false

-- Whether the item has END_STREAM on the stream: it is the last field block or DATA of its sender
-- there (sections 6.1 and 6.2).
-- rule: 6.1 END_STREAM of DATA ends the stream of the sender
unfoldable pub ends : ℕ → Item → Bool
ends i (block stream end octets) = stream == i && end
ends i (alone (Data stream end octets pad)) = stream == i && end
ends i _ = false

-- Whether the item is RST_STREAM on the stream (section 6.4).
unfoldable pub resets : ℕ → Item → Bool
resets i (alone (Reset stream code)) = stream == i
resets i _ = false

-- 1 for RST_STREAM, on whatever stream
unfoldable pub one_reset : Item → ℕ
one_reset (alone (Reset stream code)) = 1
one_reset _ = 0

-- 1 for a PING that isn't an answer (section 6.7)
unfoldable pub one_ping : Item → ℕ
one_ping (alone (Ping false octets)) = 1
one_ping _ = 0

-- 1 for the answer to a PING
unfoldable pub one_answer : Item → ℕ
one_answer (alone (Ping true octets)) = 1
one_answer _ = 0

-- Whether the item is GOAWAY (section 6.8).
unfoldable pub is_goaway : Item → Bool
is_goaway (alone (GoAway last code debug)) = true
is_goaway _ = false

-- Whether the item is GOAWAY with a last stream below this one: its sender takes no stream with
-- this number.
unfoldable pub is_goaway_below : ℕ → Item → Bool
is_goaway_below i (alone (GoAway last code debug)) = nat_lt last i
is_goaway_below i _ = false

-- the sum of a number of each item
unfoldable pub total : (Item → ℕ) → List Item → ℕ
total f [] = 0
total f (item ∷ items) = f item + total f items

-- the greatest number of a field block, or 0
unfoldable pub greatest_block : List Item → ℕ
greatest_block [] = 0
greatest_block (block stream end octets ∷ items) = max stream (greatest_block items)
greatest_block (alone frame ∷ items) = greatest_block items

-- the octets that are written of an item: those of its frame, or of the frames over which its block
-- is spread. `most` is the greatest payload in force as it is written.
unfoldable pub encoding_of_item : (most : ℕ) → Item → List ℕ
encoding_of_item most (alone frame) = encoding_of frame
encoding_of_item most (block stream end octets) = encoding_of_frames
    (spread_frames most stream end octets)

-- the octets that are written of items, the oldest first
unfoldable pub encoding_of_items : (most : ℕ) → List Item → List ℕ
encoding_of_items most [] = []
encoding_of_items most (item ∷ items) = encoding_of_items most items ++ encoding_of_item most item
