-- Frames have one text that shows them, and one block that has begun.
use Rattle.std.proofs.Common.{◌≡◌, List, [], ◌∷◌, ◌++◌, Option, Some, None, refl, ap, sym, ◌∙◌}
use Rattle.std.proofs.Common.{append_assoc, length, drop, subst}
use Rattle.std.proofs.Math.Seq.{drop-append_seam}
use Rattle.hpack.specs.Tables.{Entries}
use Rattle.hpack.proofs.BlockLemmas.{one_block_lem}
use Rattle.h2_frame.specs.Frames.{Frame}
use Rattle.h2_block.specs.Grouping.{Item, alone, block, Begun, Groups}
use Rattle.h2_block.proofs.RunLemmas.{one_grouping_lem}
use Rattle.h2_show.specs.Blocks.{first_table, show_table_limit, FramesDecode}
use Rattle.h2_show.specs.ShownLines.{ShowLine, frame_shown, listing_of}
use Rattle.h2_show.specs.Shown.{AreShown, ShowsFrames, frame_lines}
use Rattle.h2_laws_show.proofs.FirstItems.{one_first_item}
use Rattle.h2_wire.proofs.ReadingLemmas.{some_frames}
use Rattle.h2_show.proofs.BlocksShown.{shown_decode, shown_items}

-- frames that are shown group
pub shown_group : (frames : List Frame) (begun : Option Begun) (lines : List ShowLine)
    → (shows : ShowsFrames frames begun lines) → Groups frames shows.items begun
shown_group frames begun lines shows = record {
  complete = shows.complete;
  left = shows.left;
  joined = shows.joined;
  grouped = shown_items first_table shows.table shows.items shows.complete shows.first shows.shown;
  unfinished = shows.unfinished;
}

-- frames that are shown decode
pub shown_frames_decode : (frames : List Frame) (begun : Option Begun) (lines : List ShowLine)
    → (shows : ShowsFrames frames begun lines) → FramesDecode frames begun shows.table
shown_frames_decode frames begun lines shows = record {
  items = shows.items;
  grouped = shown_group frames begun lines shows;
  decoded = shown_decode first_table shows.table shows.items shows.complete shows.first
      shows.shown;
}

-- what follows the same frames is the same
same_tail : (first second more others : List Frame) → first ≡ second
    → first ++ more ≡ second ++ others → more ≡ others
same_tail first second more others same line =
    sym (drop-append_seam first more) ∙ ap (drop (length first)) line
    ∙ ap (λ (some : List Frame). drop (length some) (second ++ others)) same
    ∙ drop-append_seam second others

-- Lists with one more that are equal are equal before it, and the last is the same.
one_with_last : (first second : List Frame) (one other : Frame)
    → first ++ one ∷ [] ≡ second ++ other ∷ [] → (first ≡ second) × (one ≡ other)
one_with_last [] [] one other same = (refl, cc)
one_with_last [] (frame ∷ second) one other same =
    absurd (some_frames second other (cc))
one_with_last (frame ∷ first) [] one other same =
    absurd (some_frames first one (cc))
one_with_last (frame ∷ first) (next ∷ second) one other same =
    let tails : first ++ one ∷ [] ≡ second ++ other ∷ [] = cc in
    let head : frame ≡ next = cc in
    let rest = one_with_last first second one other tails in
    ((λ i. head i ∷ rest.0 i), rest.1)

-- The same frames are shown, with the same lines, and the same follows them.
record SameShown (frames others more beyond : List Frame) (lines texts : List ShowLine) : Type 0
  where
    framed : frames ≡ others
    followed : more ≡ beyond
    text : lines ≡ texts

-- Items are shown in one way.
one_shown : (table after other : Entries) (items : List Item)
    (frames others more beyond : List Frame) (lines texts : List ShowLine)
    → AreShown table items frames after lines → AreShown table items others other texts
    → frames ++ more ≡ others ++ beyond → SameShown frames others more beyond lines texts
one_shown table after other [] frames others more beyond lines texts (none, same, empty)
    (nothing, again, blank) line = record {
      framed = none ∙ sym nothing;
      followed = ap (λ (some : List Frame). some ++ more) (sym none) ∙ line
          ∙ ap (λ (some : List Frame). some ++ beyond) nothing;
      text = empty ∙ sym blank;
    }
one_shown table after other (alone frame ∷ items) frames others more beyond lines texts
    (following, text, joined, is, all, shown) (later, rest, parted, itself, whole, seen) line =
    let long : frame ∷ (following ++ more) ≡ frame ∷ (later ++ beyond) =
    ap (λ (some : List Frame). some ++ more) (sym joined) ∙ line
    ∙ ap (λ (some : List Frame). some ++ beyond) parted in
    let tails : following ++ more ≡ later ++ beyond = cc in
    let one = one_shown table after other items following later more beyond text rest shown seen
    tails in
    record {
      framed = joined ∙ ap (λ (some : List Frame). frame ∷ some) one.framed ∙ sym parted;
      followed = one.followed;
      text = all ∙ ap (λ (some : List ShowLine). frame_shown frame None ∷ some) one.text
          ∙ sym whole;
    }
one_shown table after other (block stream end octets ∷ items) frames others more beyond lines texts
    (first, one_last, following, text, fields, next, joined, is, decoded, all, shown)
    (second, two_last, later, rest, list, left, parted, itself, read, whole, seen) line =
    let one_framed : List Frame = first ++ one_last ∷ [] in
    let two_framed : List Frame = second ++ two_last ∷ [] in
    let long : one_framed ++ (following ++ more) ≡ two_framed ++ (later ++ beyond) =
    sym (append_assoc one_framed following more)
    ∙ ap (λ (some : List Frame). some ++ more) (sym joined) ∙ line
    ∙ ap (λ (some : List Frame). some ++ beyond) parted ∙ append_assoc two_framed later beyond in
    let same : one_framed ≡ two_framed =
    one_first_item (block stream end octets) one_framed two_framed (following ++ more)
    (later ++ beyond) is itself long in
    let split = one_with_last first second one_last two_last same in
    let tails : following ++ more ≡ later ++ beyond = same_tail one_framed two_framed
    (following ++ more) (later ++ beyond) same long in
    let one_list = one_block_lem table next left show_table_limit octets fields list decoded read in
    let seen_now : AreShown next items later other rest =
    subst (λ (from : Entries). AreShown from items later other rest) (sym one_list.1) seen in
    let one = one_shown next after other items following later more beyond text rest shown seen_now
    tails in
    record {
      framed = joined ∙ (λ i. same i ++ one.framed i) ∙ sym parted;
      followed = one.followed;
      text = all
          ∙ (λ i. frame_lines (split.0 i)
          ++ frame_shown (split.1 i) (Some (listing_of (one_list.0 i))) ∷ one.text i)
          ∙ sym whole;
    }

-- Frames have one text that shows them, and one block that has begun.
pub one_showing : (frames : List Frame) (begun other : Option Begun) (lines texts : List ShowLine)
    → ShowsFrames frames begun lines → ShowsFrames frames other texts
    → (begun ≡ other) × (lines ≡ texts)
one_showing frames begun other lines texts shows again =
    let same = one_grouping_lem frames shows.items again.items begun other
    (shown_group frames begun lines shows) (shown_group frames other texts again) in
    let shown_now = subst (λ (items : List Item).
    AreShown first_table items again.complete again.table again.first) (sym same.0) again.shown in
    let one = one_shown first_table shows.table again.table shows.items shows.complete
    again.complete shows.left again.left shows.first again.first shows.shown shown_now
    (sym shows.joined ∙ again.joined) in (
      same.1,
      shows.all ∙ (λ i. one.text i ++ frame_lines (one.followed i)) ∙ sym again.all,
    )
