-- Frames that group to items and leave no block begun have no more frames than they need.
use Rattle.h2_laws_pair.proofs.Names.{◌≡◌, false, List, [], ◌∷◌, ◌++◌, Option, Some, None, refl}
use Rattle.h2_laws_pair.proofs.Names.{sym, ap, ◌∙◌, append_assoc, Frame, Headers, Continuation}
use Rattle.h2_laws_pair.proofs.Names.{Item, Begun, Groups, next_fault, fault_outside, fault_inside}
use Rattle.h2_block.proofs.GroupLemmas.{step_items, step_begun}
use Rattle.h2_block.proofs.RunLemmas.{Runs, one_run, Groups-runs}

-- A frame that completes no item leaves a block begun.
leaves_begun : (start : Option Begun) (frame : Frame) → next_fault start frame ≡ None
    → step_items start frame ≡ [] → (begun : Begun) × (step_begun start frame ≡ Some begun)
unfolding fault_outside fault_inside
leaves_begun None (Headers stream end false fragment pad priority) sound none = (_, refl)
leaves_begun (Some begun) (Continuation stream false fragment) sound none = (_, refl)
leaves_begun start frame sound none = cc

-- The first of two lists that are nothing, joined, is nothing; and the second.
pub none_joined : {X : Type 0} (one other : List X) → [] ≡ one ++ other
    → (one ≡ []) × (other ≡ [])
none_joined [] other is = (refl, sym is)
none_joined (x ∷ one) other is = cc

-- Frames that complete no item and leave no block begun are none.
no_frames : (start : Option Begun) (frame : Frame) (frames : List Frame)
    → Runs start (frame ∷ frames) [] None → ⊥
no_frames start frame [] (sound, others, joined, (none, same)) =
    let nothing = none_joined (step_items start frame) others joined in
    let begun = leaves_begun start frame sound nothing.0 in
    let wrong : ◌≡◌ {A = Option Begun} None (Some begun.0) = same ∙ begun.1 in cc
no_frames start frame (next ∷ frames) (sound, others, joined, run) =
    no_frames (step_begun start frame) next frames
    (rw (none_joined (step_items start frame) others joined).1 at run)

-- A run is one of the first frames, and then one of the others.
record Split (start : Option Begun) (frames more : List Frame) (items : List Item)
    (begun : Option Begun) : Type 0 where
  pub first : List Item
  pub between : Option Begun
  pub others : List Item
  pub items_are : items ≡ first ++ others
  pub first_run : Runs start frames first between
  pub other_run : Runs between more others begun

split_run : (start : Option Begun) (frames more : List Frame) (items : List Item)
    (begun : Option Begun) → Runs start (frames ++ more) items begun
    → Split start frames more items begun
split_run start [] more items begun run = record {
  first = [];
  between = start;
  others = items;
  items_are = refl;
  first_run = (refl, refl);
  other_run = run;
}
split_run start (frame ∷ frames) more items begun (sound, rest, joined, run) =
    let split = split_run (step_begun start frame) frames more rest begun run in
    record {
      first = step_items start frame ++ split.first;
      between = split.between;
      others = split.others;
      items_are = joined ∙ ap (λ (line : List Item). step_items start frame ++ line)
          split.items_are ∙ sym (append_assoc (step_items start frame) split.first split.others);
      first_run = (sound, split.first, refl, split.first_run);
      other_run = split.other_run;
    }

-- Items before which nothing stands.
nothing_after : (items others : List Item) → items ≡ items ++ others → others ≡ []
nothing_after [] others is = sym is
nothing_after (item ∷ items) others is = nothing_after items others cc

-- No frames follow, by whether one does.
no_more_by : (frames more : List Frame) (items : List Item) (begun : Option Begun)
    → Runs None frames items begun → Split None frames more items None → more ≡ []
no_more_by frames [] items begun run split = refl
no_more_by frames (frame ∷ more) items begun run split =
    let one = one_run None frames items split.first begun split.between run split.first_run in
    let none : split.others ≡ [] = nothing_after items split.others
    (split.items_are ∙ ap (λ (line : List Item). line ++ split.others) (sym one.0)) in
    absurd (no_frames split.between frame more (rw none at split.other_run))

-- Frames that group to items, and those with others after them that group to the same and leave no
-- block begun, are the same.
pub no_more_frames : (frames more : List Frame) (items : List Item) (begun : Option Begun)
    → Groups frames items begun → Groups (frames ++ more) items None → more ≡ []
no_more_frames frames more items begun groups all =
    no_more_by frames more items begun (Groups-runs frames items begun groups)
    (split_run None frames more items None (Groups-runs (frames ++ more) items None all))
