-- What is written of items is read as their frames, which group to the items.
use Rattle.std.proofs.Common.{◌≡◌, ℕ, ◌+◌, ◌^◌, ◌<◌, ◌≤◌, Bool, List, [], ◌∷◌, ◌++◌, length, None}
use Rattle.std.proofs.Common.{refl, sym, inr, arith, append-nil}
use Rattle.std.proofs.lemmas.Grind.{flat_map-append}
use Rattle.h2_frame.proofs.EncodingLemmas.{encoding_encodes, sound_head, sound_payload}
use Rattle.h2_block.specs.Grouping.{IsItem, AreItems, Groups}
use Rattle.h2_block.specs.Spread.{encoding_of_frames}
use Rattle.h2_block.proofs.GroupLemmas.{AreItems-push}
use Rattle.h2_block.proofs.SpreadLemmas.{spread_grouped, spread_writable}
use Rattle.h2_laws_log.proofs.Names.{AllByRecursion, Frame, payload_of, encoding_of, refusal}
use Rattle.h2_laws_log.proofs.Names.{IsTyped, Limits, AreFrames, Frames, expected_preface, Item}
use Rattle.h2_laws_log.proofs.Names.{alone, block, encoding_of_item, encoding_of_items, encoding_by}
use Rattle.h2_laws_log.proofs.Names.{rules}
use Rattle.h2_laws_log.specs.Sending.{IsSendable, AreSendable, frames_of_item, frames_of_items}
use Rattle.h2_laws_log.specs.Sending.{frames_by, oldest_first}

-- A frame that can be written, with a payload of at most so many octets.
abbrev pub IsShort : ℕ → Frame → Type 0
IsShort most frame = (refusal frame ≡ None) × IsTyped frame × (length (payload_of frame) ≤ most)

-- Frames are read from what is written of them.
frames_read : (most : ℕ) (limits : Limits) (before : ℕ) (frames : List Frame) → ((place : ℕ)
    → most ≤ limits place) → AllByRecursion (IsShort most) frames
    → AreFrames limits before frames (encoding_of_frames frames)
frames_read most limits before [] high short = refl
frames_read most limits before (frame ∷ frames) high short =
    let one = short.0 in (
      encoding_of frame,
      encoding_of_frames frames,
      refl,
      record {
        encodes = encoding_encodes frame one.1 one.0;
        sound_head = sound_head frame (limits (before + 9)) one.1 one.0 (omega (arith, high));
        sound_payload = sound_payload frame one.1 one.0;
      },
      frames_read most limits (before + length (encoding_of frame)) frames high short.1,
    )

-- All of two lists.
all_of_both : (most : ℕ) (one other : List Frame) → AllByRecursion (IsShort most) one
    → AllByRecursion (IsShort most) other → AllByRecursion (IsShort most) (one ++ other)
all_of_both most [] other short others = others
all_of_both most (frame ∷ one) other short others =
    (short.0, all_of_both most one other short.1 others)

-- The frames of an item are short.
item_short : (most : ℕ) (item : Item) → most < 2 ^ 24 → IsSendable most item
    → AllByRecursion (IsShort most) (frames_of_item most item)
item_short most (alone frame) bounded sendable = ((sendable.1, sendable.2, sendable.3), tt)
item_short most (block stream end octets) bounded sendable =
    spread_writable most stream end octets bounded sendable.0 sendable.1

-- The frames of items are short.
items_short : (most : ℕ) (items : List Item) → most < 2 ^ 24
    → AllByRecursion (IsSendable most) items
    → AllByRecursion (IsShort most) (frames_of_items most items)
items_short most [] bounded sendable = tt
items_short most (item ∷ items) bounded sendable =
    all_of_both most (frames_of_items most items) (frames_of_item most item)
    (items_short most items bounded sendable.1) (item_short most item bounded sendable.0)

-- Short frames are so by a greater bound.
short_within : (most bound : ℕ) (frames : List Frame) → most ≤ bound
    → AllByRecursion (IsShort most) frames → AllByRecursion (IsShort bound) frames
short_within most bound [] within short = tt
short_within most bound (frame ∷ frames) within short = (
  (short.0.0, short.0.1, omega (arith, short.0.2)),
  short_within most bound frames within short.1,
)

-- The frames of items, each with its own greatest payload, are short by the bound of all of them.
items_short_by : (bound : ℕ) (payloads : List ℕ) (items : List Item) → bound < 2 ^ 24
    → AllByRecursion (λ most. (16384 ≤ most) × (most ≤ bound)) payloads
    → AreSendable payloads items → AllByRecursion (IsShort bound) (frames_by payloads items)
items_short_by bound [] items bounded between sendable = tt
items_short_by bound (most ∷ payloads) [] bounded between sendable = tt
items_short_by bound (most ∷ payloads) (item ∷ items) bounded between sendable =
    let within = between.0.1 in
    all_of_both bound (frames_by payloads items) (frames_of_item most item)
    (items_short_by bound payloads items bounded between.1 sendable.1)
    (short_within most bound (frames_of_item most item) within
    (item_short most item (omega arith) sendable.0))

-- What is written of an item is what is written of its frames.
item_written : (most : ℕ) (item : Item)
    → encoding_of_item most item ≡ encoding_of_frames (frames_of_item most item)
unfolding encoding_of_item
item_written most (alone frame) = sym (append-nil (encoding_of frame))
item_written most (block stream end octets) = refl

-- What is written of items is what is written of their frames.
items_written : (most : ℕ) (items : List Item) → encoding_of_items most items
    ≡ encoding_of_frames (frames_of_items most items)
unfolding encoding_of_items
items_written most [] = refl
items_written most (item ∷ items) =
    rw (items_written most items, item_written most item) (sym (flat_map-append encoding_of
    (frames_of_items most items) (frames_of_item most item)))

-- So it is where each has its own greatest payload.
items_written_by : (payloads : List ℕ) (items : List Item)
    → encoding_by payloads items ≡ encoding_of_frames (frames_by payloads items)
items_written_by [] items = refl
items_written_by (most ∷ payloads) [] = refl
items_written_by (most ∷ payloads) (item ∷ items) =
    rw (items_written_by payloads items, item_written most item) (sym (flat_map-append encoding_of
    (frames_by payloads items) (frames_of_item most item)))

-- What is written of short frames is read as these frames.
short_read : (bound : ℕ) (expects : Bool) (limits : Limits) (octets : List ℕ) (frames : List Frame)
    → octets ≡ encoding_of_frames frames → ((place : ℕ) → bound ≤ limits place)
    → AllByRecursion (IsShort bound) frames
    → Frames expects limits (expected_preface expects ++ octets) frames []
short_read bound expects limits octets frames written high short =
    inr (record {
      part = expected_preface expects ++ octets;
      joined = sym (append-nil (expected_preface expects ++ octets));
      sound = record {
        body = octets;
        opened = refl;
        framed = rw written (frames_read _ _ _ frames high short);
      };
      partial = λ nine. absurd (omega arith);
    })

-- What is written of items is read as their frames,
pub items_read : (most : ℕ) (expects : Bool) (limits : Limits) (items : List Item) → most < 2 ^ 24
    → ((place : ℕ) → most ≤ limits place) → AllByRecursion (IsSendable most) items
    → Frames expects limits (expected_preface expects ++ encoding_of_items most items)
    (frames_of_items most items) []
items_read most expects limits items bounded high sendable =
    short_read most expects limits (encoding_of_items most items) (frames_of_items most items)
    (items_written most items) high (items_short most items bounded sendable)

-- also where each has its own greatest payload.
pub items_read_by : (expects : Bool) (limits : Limits) (bound : ℕ) (payloads : List ℕ)
    (items : List Item) → bound < 2 ^ 24 → ((place : ℕ) → bound ≤ limits place)
    → AllByRecursion (λ most. (16384 ≤ most) × (most ≤ bound)) payloads
    → AreSendable payloads items
    → Frames expects limits (expected_preface expects ++ encoding_by payloads items)
    (frames_by payloads items) []
items_read_by expects limits bound payloads items bounded high between sendable =
    short_read bound expects limits (encoding_by payloads items) (frames_by payloads items)
    (items_written_by payloads items) high
    (items_short_by bound payloads items bounded between sendable)

-- The one item of frames that group to it.
one_item : (item : Item) (frames : List Frame) → Groups frames (item ∷ []) None → IsItem item frames
one_item item frames groups = search rules

-- The frames of an item are it.
item_grouped : (most : ℕ) (item : Item) → 1 ≤ most → IsSendable most item
    → IsItem item (frames_of_item most item)
item_grouped most (alone frame) positive sendable = (sendable.0, refl)
item_grouped most (block stream end octets) positive sendable = one_item (block stream end octets) _
    (spread_grouped most stream end octets positive sendable.2)

-- The frames of items are them.
items_are : (most : ℕ) (items : List Item) → 1 ≤ most → AllByRecursion (IsSendable most) items
    → AreItems (oldest_first items) (frames_of_items most items)
items_are most [] positive sendable = refl
items_are most (item ∷ items) positive sendable =
    AreItems-push (oldest_first items) (frames_of_items most items) item (frames_of_item most item)
    (items_are most items positive sendable.1) (item_grouped most item positive sendable.0)

-- They are so where each has its own greatest payload.
items_are_by : (bound : ℕ) (payloads : List ℕ) (items : List Item)
    → AllByRecursion (λ most. (16384 ≤ most) × (most ≤ bound)) payloads
    → AreSendable payloads items → AreItems (oldest_first items) (frames_by payloads items)
items_are_by bound [] [] between sendable = refl
items_are_by bound [] (item ∷ items) between sendable = absurd sendable
items_are_by bound (most ∷ payloads) [] between sendable = absurd sendable
items_are_by bound (most ∷ payloads) (item ∷ items) between sendable =
    let least = between.0.0 in
    AreItems-push (oldest_first items) (frames_by payloads items) item (frames_of_item most item)
    (items_are_by bound payloads items between.1 sendable.1)
    (item_grouped most item (omega arith) sendable.0)

-- Frames that are items group to them.
grouped : (items : List Item) (frames : List Frame) → AreItems items frames
    → Groups frames items None
grouped items frames are = search rules

-- The frames of items group to them,
pub items_grouped : (most : ℕ) (items : List Item) → 1 ≤ most
    → AllByRecursion (IsSendable most) items
    → Groups (frames_of_items most items) (oldest_first items) None
items_grouped most items positive sendable = search (rules, grouped, items_are)

-- also where each has its own greatest payload.
pub items_grouped_by : (bound : ℕ) (payloads : List ℕ) (items : List Item)
    → AllByRecursion (λ most. (16384 ≤ most) × (most ≤ bound)) payloads
    → AreSendable payloads items → Groups (frames_by payloads items) (oldest_first items) None
items_grouped_by bound payloads items between sendable =
    grouped (oldest_first items) (frames_by payloads items)
    (items_are_by bound payloads items between sendable)
