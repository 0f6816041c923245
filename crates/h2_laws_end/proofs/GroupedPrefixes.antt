-- A prefix of frames that group groups to the first of their items, and a block that has begun.
use Rattle.h2_laws_end.proofs.Names.{◌≡◌, ℕ, ◌+◌, ◌≤◌, Bool, false, List, [], ◌∷◌, ◌++◌, length}
use Rattle.h2_laws_end.proofs.Names.{Option, None, Some, refl, sym, ap, ◌∙◌, arith, inl, inr}
use Rattle.h2_laws_end.proofs.Names.{append_assoc, length-append, Frame, Headers, Item, alone}
use Rattle.h2_laws_end.proofs.Names.{block, Begun, max_block_octets, Groups}
use Rattle.h2_block.specs.Grouping.{AreContinuations, IsBegun, IsItem, AreItems, IsLeft}
use Rattle.h2_laws_end.proofs.Overlaps.{overlap}

-- A prefix of CONTINUATIONs.
continued_prefix : (stream : ℕ) (frames more : List Frame) (octets : List ℕ)
    → AreContinuations stream (frames ++ more) octets
    → (part left : List ℕ) × (octets ≡ part ++ left) × AreContinuations stream frames part
continued_prefix stream [] more octets are = ([], octets, refl, refl)
continued_prefix stream (frame ∷ frames) more octets (fragment, others, is, joined, follow) =
    let prefix = continued_prefix stream frames more others follow in (
      fragment ++ prefix.0,
      prefix.1,
      joined ∙ ap (λ (line : List ℕ). fragment ++ line) prefix.2
          ∙ sym (append_assoc fragment prefix.0 prefix.1),
      (fragment, prefix.0, is, refl, prefix.3),
    )

-- A prefix, and the first of the items.
pub record GroupedPrefix (frames : List Frame) (items : List Item) : Type 0 where
  pub first : List Item
  pub later : List Item
  pub begun : Option Begun
  pub items_are : items ≡ first ++ later
  pub groups : Groups frames first begun

-- No frames.
no_frames : (items : List Item) → GroupedPrefix [] items
no_frames items = record {
  first = [];
  later = items;
  begun = None;
  items_are = refl;
  groups = record {
    complete = [];
    left = [];
    joined = refl;
    grouped = refl;
    unfinished = refl;
  };
}

-- A block that has begun, before all items.
begun_only : (begun : Begun) (frames : List Frame) (items : List Item)
    → IsBegun begun.stream begun.end begun.octets frames
    → length begun.octets ≤ max_block_octets → GroupedPrefix frames items
begun_only begun frames items is within = record {
  first = [];
  later = items;
  begun = Some begun;
  items_are = refl;
  groups = record {
    complete = [];
    left = frames;
    joined = refl;
    grouped = refl;
    unfinished = (is, within);
  };
}

-- The first of octets are no more.
no_more : (octets part left : List ℕ) → octets ≡ part ++ left → length octets ≤ max_block_octets
    → length part ≤ max_block_octets
no_more octets part left joined within =
    let counted : length octets ≡ length part + length left = ap length joined
    ∙ length-append part left in
    omega (arith, counted, within)

-- Octets that are joined of three.
joined_twice : (octets fragment others part left : List ℕ) → octets ≡ fragment ++ others
    → others ≡ part ++ left → octets ≡ (fragment ++ part) ++ left
joined_twice octets fragment others part left joined split = joined
    ∙ ap (λ (line : List ℕ). fragment ++ line) split ∙ sym (append_assoc fragment part left)

-- The first of frames is one.
same_first : (frame head : Frame) (frames : List Frame) → frame ≡ head
    → frame ∷ frames ≡ head ∷ frames
same_first frame head frames same = ap (λ (first : Frame). first ∷ frames) same

-- A prefix of a block that has begun.
begun_prefix : (stream : ℕ) (end : Bool) (octets : List ℕ) (frames more : List Frame)
    (items : List Item) → IsBegun stream end octets (frames ++ more)
    → length octets ≤ max_block_octets → GroupedPrefix frames items
begun_prefix stream end octets [] more items is within = no_frames items
begun_prefix stream end octets (frame ∷ frames) more items is within =
    let opened : frame ≡ Headers stream end false is.fragment is.pad is.priority =
    (let e = is.opened in cc) in
    let following : frames ++ more ≡ is.following = (let e = is.opened in cc) in
    let prefix = continued_prefix stream frames more is.others (rw (← following) at is.continued) in
    begun_only (record { stream = stream; end = end; octets = is.fragment ++ prefix.0 })
    (frame ∷ frames) items (record {
      fragment = is.fragment;
      pad = is.pad;
      priority = is.priority;
      following = frames;
      others = prefix.0;
      opened = same_first frame _ frames opened;
      continued = prefix.3;
      joined = refl;
    }) (no_more octets (is.fragment ++ prefix.0) prefix.1
    (joined_twice octets is.fragment is.others prefix.0 prefix.1 is.joined prefix.2) within)

-- A prefix of one frame that isn't all of it.
less_than_one : (frames between : List Frame) (one next : Frame) (items : List Item)
    → one ∷ [] ≡ frames ++ next ∷ between → GroupedPrefix frames items
less_than_one [] between one next items line = no_frames items
less_than_one (frame ∷ frames) between one next items line =
    let counted = simp length-append at (ap length line) in absurd (omega (arith, counted))

-- One more before both.
one_after : (first frame : Frame) (preceding frames : List Frame) → first ≡ frame
    → (more : List Frame) × (preceding ≡ frames ++ more)
    → (more : List Frame) × (first ∷ preceding ≡ frame ∷ frames ++ more)
one_after first frame preceding frames same (more, is) = (more, rw (same, is) refl)

-- Frames without the last one begin with any of them but the last ones.
without_last : (frames between preceding : List Frame) (next last : Frame)
    → preceding ++ last ∷ [] ≡ frames ++ next ∷ between
    → (more : List Frame) × (preceding ≡ frames ++ more)
without_last [] between preceding next last line = (preceding, refl)
without_last (frame ∷ frames) between [] next last line =
    let counted = simp length-append at (ap length line) in absurd (omega (arith, counted))
without_last (frame ∷ frames) between (first ∷ preceding) next last line =
    let same : first ≡ frame = cc in
    let line_on : preceding ++ last ∷ [] ≡ frames ++ next ∷ between = cc in
    one_after _ _ _ _ same (without_last frames between preceding next last line_on)

-- A prefix of an item that isn't all of it.
item_prefix : (item : Item) (whole frames between : List Frame) (next : Frame) (items : List Item)
    → IsItem item whole → whole ≡ frames ++ next ∷ between → GroupedPrefix frames items
item_prefix (alone frame) whole frames between next items (standalone, is) line =
    less_than_one frames between frame next items (sym is ∙ line)
item_prefix (block stream end octets) whole frames between next items (inl single, within) line =
    less_than_one frames between _ next items (sym single.one ∙ line)
item_prefix (block stream end octets) whole frames between next items (inr ended, within) line =
    let more = without_last frames between ended.preceding next _ (sym ended.ended ∙ line) in
    begun_prefix stream end ended.prefix frames more.0 items (rw more.1 at ended.begun)
    (no_more octets ended.prefix ended.last ended.joined within)

-- One more item before those of a prefix.
one_before : (item : Item) (items : List Item) (frames whole between : List Frame)
    → IsItem item whole → frames ≡ whole ++ between → GroupedPrefix between items
    → GroupedPrefix frames (item ∷ items)
one_before item items frames whole between is split others = record {
  first = item ∷ others.first;
  later = others.later;
  begun = others.begun;
  items_are = ap (λ (line : List Item). item ∷ line) others.items_are;
  groups = record {
    complete = whole ++ others.groups.complete;
    left = others.groups.left;
    joined = split ∙ ap (λ (line : List Frame). whole ++ line) others.groups.joined
        ∙ sym (append_assoc whole others.groups.complete others.groups.left);
    grouped = (whole, others.groups.complete, refl, is, others.groups.grouped);
    unfinished = others.groups.unfinished;
  };
}

-- A prefix of what is left.
left_prefix : (begun : Option Begun) (left frames more : List Frame) → IsLeft begun left
    → frames ++ more ≡ left → GroupedPrefix frames []
left_prefix None left [] more none line = no_frames []
left_prefix None left (frame ∷ frames) more none line =
    let counted = simp length-append at (ap length (line ∙ none)) in
    absurd (omega (arith, counted))
left_prefix (Some begun) left frames more (is, within) line =
    begun_prefix begun.stream begun.end begun.octets frames more [] (rw (← line) at is) within

-- A prefix of items' frames, and of what is left.
items_prefix : (items : List Item) (begun : Option Begun) (complete left frames more : List Frame)
    → AreItems items complete → IsLeft begun left → frames ++ more ≡ complete ++ left
    → GroupedPrefix frames items
items_prefix [] begun complete left frames more none unfinished line =
    left_prefix begun left frames more unfinished (line ∙ rw none refl)
items_prefix (item ∷ items) begun complete left frames more (whole, others, split, is, are)
    unfinished line =
    let line_now : frames ++ more ≡ whole ++ (others ++ left) = line ∙ rw split
    (append_assoc whole others left) in
    elim (overlap frames more whole (others ++ left) line_now) [
      | inl (between, begins, follows) ↦ one_before item items frames whole between is begins
          (items_prefix items begun others left between more are unfinished (sym follows))
      | inr (next, between, begins, follows) ↦ item_prefix _ whole _ between next _ is begins
    ]

-- A prefix of frames that group.
pub prefix_grouped : (frames more : List Frame) (items : List Item) (begun : Option Begun)
    → Groups (frames ++ more) items begun → GroupedPrefix frames items
prefix_grouped frames more items begun groups =
    items_prefix _ _ groups.complete groups.left _ _ groups.grouped groups.unfinished groups.joined
