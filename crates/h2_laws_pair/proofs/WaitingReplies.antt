-- The octets of replies that an end has written and not given out.
use Rattle.h2_laws_pair.proofs.Names.{ℕ, ◌+◌, ◌-◌, ◌≤◌, min, Bool, true, false, List, [], ◌∷◌}
use Rattle.h2_laws_pair.proofs.Names.{arith, if◌then◌else◌, Reset, Settings, Ping, Item, alone}
use Rattle.h2_laws_log.proofs.ItemSizes.{size_of, size_by, size_by-more}

-- Whether the item may be a reply: an acknowledgment, the answer to a PING, or RST_STREAM.
unfoldable pub is_reply : Item → Bool
is_reply (alone (Settings ack pairs)) = ack
is_reply (alone (Ping ack octets)) = ack
is_reply (alone (Reset stream code)) = true
is_reply item = false

-- the octets of an item with its greatest payload, if it may be a reply
abbrev pub reply_size : (most : ℕ) → Item → ℕ
reply_size most item = if is_reply item then size_of most (item ∷ []) else 0

-- No more than the octets of the item, by the test.
reply_fits_by : (size : ℕ) (test : Bool) → (if test then size else 0) ≤ size
reply_fits_by size true = omega arith
reply_fits_by size false = omega arith

-- No more than the octets of the item.
pub reply_fits : (most : ℕ) (item : Item) → reply_size most item ≤ size_of most (item ∷ [])
reply_fits most item = reply_fits_by (size_of most (item ∷ [])) (is_reply item)

-- The octets of replies that weren't given out, where so many octets stand before the items, each
-- of which has its own greatest payload, and so many were given out.
abbrev pub replies_left : (before given : ℕ) → List ℕ → List Item → ℕ
replies_left before given (most ∷ payloads) (item ∷ items) =
    replies_left before given payloads items
    + min (reply_size most item) ((before + size_by (most ∷ payloads) (item ∷ items)) - given)
replies_left before given payloads items = 0

-- One interval: what is given out of an item and of those before it is no more than what is given
-- out.
falls_by : (given more reply size middle : ℕ) → reply ≤ size
    → min reply ((middle + size) - given) + min more (middle - given)
    ≤ min reply ((middle + size) - (given + more)) + min more ((middle + size) - given)
falls_by given more reply size middle fits = omega (arith, fits)

-- Where more is given out, no more of the replies is.
pub replies_fall : (before given more : ℕ) (payloads : List ℕ) (items : List Item)
    → replies_left before given payloads items
    ≤ replies_left before (given + more) payloads items
    + min more ((before + size_by payloads items) - given)
replies_fall before given more (most ∷ payloads) (item ∷ items) =
    let older = replies_fall before given more payloads items in
    let newest = falls_by given more (reply_size most item) (size_of most (item ∷ []))
    (before + size_by payloads items) (reply_fits most item) in
    omega (arith, size_by-more most (item ∷ []) items payloads)
replies_fall before given more payloads items = omega arith
