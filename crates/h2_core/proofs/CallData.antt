-- The DATA frames of a body's octets, in the order in which they are added.
use Rattle.h2_core.proofs.Names.{◌≡◌, ℕ, zero, suc, ◌+◌, ◌≤◌, ◌<◌, Bool, false, List, [], ◌∷◌, ◌++◌}
use Rattle.h2_core.proofs.Names.{length, take, drop, None, sym, ap, ◌∙◌, inl, inr, append-nil}
use Rattle.h2_core.proofs.Names.{append_assoc, arith, add-one, cases_lt, Data, encoding_of, Item}
use Rattle.h2_core.proofs.Names.{alone, data_frames, encoding_of_item, encoding_of_items}
use Rattle.std.proofs.Common.{length-drop}
use Rattle.h2_spec_log.proofs.DataFrames.{frames_last as frames_one, frames_more}

-- Items that follow an oldest one are written after it.
oldest_first : (most : ℕ) (items : List Item) (item : Item)
    → encoding_of_items most (items ++ item ∷ [])
    ≡ encoding_of_item most item ++ encoding_of_items most items
unfolding encoding_of_items
oldest_first most [] item = sym (append-nil _)
oldest_first most (newest ∷ items) item =
    ap (λ octets. octets ++ encoding_of_item most newest) (oldest_first most items item)
    ∙ append_assoc (encoding_of_item most item) (encoding_of_items most items)
    (encoding_of_item most newest)

-- the frames' octets, where there may be as many frames as octets, and one
abbrev pub data_octets : (most id : ℕ) → List ℕ → Bool → List ℕ
data_octets most id octets end =
    encoding_of_items most (data_frames (length octets + 1) most id octets end)

-- More frames than are enough make no difference.
frames_enough : (count other most id : ℕ) (octets : List ℕ) (end : Bool) → 1 ≤ most
    → length octets < count → length octets < other
    → data_frames count most id octets end ≡ data_frames other most id octets end
frames_enough zero other most id octets end positive enough too = absurd (omega arith)
frames_enough (suc count) zero most id octets end positive enough too = absurd (omega arith)
frames_enough (suc count) (suc other) most id octets end positive enough too =
    elim (cases_lt most (length octets)) [
      | inl more ↦
          let left : length (drop most octets) + most ≡ length octets =
          omega (arith, length-drop most octets, more) in
          frames_more count most id octets end more
          ∙ ap (λ frames. frames ++ alone (Data id false (take most octets) None) ∷ [])
          (frames_enough count other most id (drop most octets) end positive (omega arith)
          (omega arith))
          ∙ sym (frames_more other most id octets end more)
      | inr fits ↦ frames_one count most id octets end fits
          ∙ sym (frames_one other most id octets end fits)
    ]

-- The octets of what fits one frame.
pub data_last : (most id : ℕ) (octets : List ℕ) (end : Bool) → length octets ≤ most
    → data_octets most id octets end ≡ encoding_of (Data id end octets None)
unfolding encoding_of_items encoding_of_item
data_last most id octets end fits =
    rw add-one (ap (encoding_of_items most) (frames_one (length octets) most id octets end fits))

-- The first frame is full, and the octets that follow it have theirs.
pub data_first : (most id : ℕ) (octets : List ℕ) (end : Bool) → 1 ≤ most → most < length octets
    → data_octets most id octets end
    ≡ encoding_of (Data id false (take most octets) None)
    ++ data_octets most id (drop most octets) end
unfolding encoding_of_item
data_first most id octets end positive more =
    let left : length (drop most octets) + most ≡ length octets =
    omega (arith, length-drop most octets, more) in
    rw add-one (ap (encoding_of_items most) (frames_more (length octets) most id octets end more)
    ∙ oldest_first most _ _
    ∙ ap (λ frames. encoding_of (Data id false (take most octets) None)
    ++ encoding_of_items most frames)
    (frames_enough (length octets) (length (drop most octets) + 1) most id (drop most octets) end
    positive (omega arith) (omega arith)))
