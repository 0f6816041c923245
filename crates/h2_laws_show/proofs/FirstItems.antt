-- Frames that begin with an item begin with it in one way.
use Rattle.std.proofs.Common.{◌≡◌, ◌⊎◌, true, false, List, [], ◌∷◌, ◌++◌, Option, None, Some, refl}
use Rattle.std.proofs.Common.{ap, sym, ◌∙◌, inl, inr, subst}
use Rattle.h2_frame.specs.Frames.{Frame, Headers, Continuation}
use Rattle.h2_block.specs.declared.fault.BlockFault.TheVariants.{Interrupted, Stray}
use Rattle.h2_block.specs.Grouping.{Item, alone, block, Begun, fault_outside, fault_inside}
use Rattle.h2_block.specs.Grouping.{next_fault, IsItem}
use Rattle.h2_block.proofs.GroupLemmas.{step_items, step_begun, none_some}
use Rattle.h2_block.proofs.RunLemmas.{Runs, item_runs as item_run}

-- A frame without fault ends an item, or leaves a block that has begun.
abbrev EndsOrLeaves : Option Begun → Frame → Type 0
EndsOrLeaves start frame = ((item : Item) × (step_items start frame ≡ item ∷ []))
    ⊎ ((begun : Begun) × (step_items start frame ≡ []) × (step_begun start frame ≡ Some begun))

-- Each frame without fault does one of the two.
ends_or_leaves : (start : Option Begun) (frame : Frame) → next_fault start frame ≡ None
    → EndsOrLeaves start frame
unfolding fault_outside fault_inside
ends_or_leaves None (Headers stream end true fragment pad priority) sound =
    inl (block stream end fragment, refl)
ends_or_leaves None (Headers stream end false fragment pad priority) sound =
    inr (record { stream = stream; end = end; octets = fragment }, refl, refl)
ends_or_leaves None (Continuation stream whole fragment) sound = none_some Stray (sym sound)
ends_or_leaves None frame sound = inl (alone frame, refl)
ends_or_leaves (Some begun) (Continuation stream true fragment) sound =
    inl (block begun.stream begun.end (begun.octets ++ fragment), refl)
ends_or_leaves (Some begun) (Continuation stream false fragment) sound =
    inr (record begun { octets = begun.octets ++ fragment }, refl, refl)
ends_or_leaves (Some begun) frame sound = none_some Interrupted (sym sound)

-- No run from a block that has begun ends it without an item.
block_gives_item : (begun : Begun) (frames : List Frame) → Runs (Some begun) frames [] None → ⊥
block_gives_item begun [] (none, same) = (cc)
block_gives_item begun (frame ∷ frames) (sound, rest, joined, run) =
    elim (ends_or_leaves (Some begun) frame sound) [
      | inl (item, ends) ↦
          let wrong : [] ≡ item ∷ rest = joined
          ∙ ap (λ (items : List Item). items ++ rest) ends in (cc)
      | inr (next, none, leaves) ↦
          let nothing : rest ≡ [] =
          sym (joined ∙ ap (λ (items : List Item). items ++ rest) none) in
          block_gives_item next frames
          (subst (λ (start : Option Begun). Runs start frames [] None) leaves
          (subst (λ (items : List Item). Runs (step_begun (Some begun) frame) frames items None)
          nothing run))
    ]

-- A run without items that leaves no block is no frames.
no_items_no_frames : (start : Option Begun) (frames : List Frame) → Runs start frames [] None
    → frames ≡ []
no_items_no_frames start [] run = refl
no_items_no_frames start (frame ∷ frames) (sound, rest, joined, run) =
    elim (ends_or_leaves start frame sound) [
      | inl (item, ends) ↦
          let wrong : [] ≡ item ∷ rest = joined
          ∙ ap (λ (items : List Item). items ++ rest) ends in (cc)
      | inr (next, none, leaves) ↦
          let nothing : rest ≡ [] =
          sym (joined ∙ ap (λ (items : List Item). items ++ rest) none) in
          absurd (block_gives_item next frames
          (subst (λ (from : Option Begun). Runs from frames [] None) leaves
          (subst (λ (items : List Item). Runs (step_begun start frame) frames items None)
          nothing run)))
    ]

-- After a frame that ends an item, the run to it is at its end.
ended_run : (start : Option Begun) (frame : Frame) (frames : List Frame) (item ended : Item)
    (rest : List Item) → step_items start frame ≡ ended ∷ []
    → item ∷ [] ≡ step_items start frame ++ rest
    → Runs (step_begun start frame) frames rest None → frames ≡ []
ended_run start frame frames item ended rest ends joined run =
    let line : item ∷ [] ≡ ended ∷ rest = joined
    ∙ ap (λ (items : List Item). items ++ rest) ends in
    let nothing : rest ≡ [] = cc in
    no_items_no_frames (step_begun start frame) frames
    (subst (λ (items : List Item). Runs (step_begun start frame) frames items None) nothing run)

-- After a frame that ends no item, the run to it goes on.
left_run : (start : Option Begun) (frame : Frame) (frames : List Frame) (item : Item)
    (rest : List Item) → step_items start frame ≡ []
    → item ∷ [] ≡ step_items start frame ++ rest
    → Runs (step_begun start frame) frames rest None
    → Runs (step_begun start frame) frames (item ∷ []) None
left_run start frame frames item rest none joined run =
    subst (λ (items : List Item). Runs (step_begun start frame) frames items None)
    (sym (joined ∙ ap (λ (items : List Item). items ++ rest) none)) run

-- Two runs to an item, in frames that continue them to the same, are the same frames.
one_run_to_item : (start : Option Begun) (item : Item) (first second more others : List Frame)
    → Runs start first (item ∷ []) None → Runs start second (item ∷ []) None
    → first ++ more ≡ second ++ others → first ≡ second
one_run_to_item start item [] second more others (none, same) run line = (cc)
one_run_to_item start item (frame ∷ first) [] more others run (none, same) line = (cc)
one_run_to_item start item (frame ∷ first) (other ∷ second) more others
    (sound, rest, joined, run) (well, beyond, parted, longer) line =
    let same : other ≡ frame = cc in
    let lines : first ++ more ≡ second ++ others = cc in
    let parted_now : item ∷ [] ≡ step_items start frame ++ beyond =
    subst (λ (last : Frame). item ∷ [] ≡ step_items start last ++ beyond) same parted in
    let longer_now : Runs (step_begun start frame) second beyond None =
    subst (λ (last : Frame). Runs (step_begun start last) second beyond None) same longer in
    let rest_same : first ≡ second = elim (ends_or_leaves start frame sound) [
      | inl (ended, ends) ↦
          ended_run start frame first item ended rest ends joined run
          ∙ sym (ended_run start frame second item ended beyond ends parted_now longer_now)
      | inr (next, none, leaves) ↦
          one_run_to_item (step_begun start frame) item first second more others
          (left_run start frame first item rest none joined run)
          (left_run start frame second item beyond none parted_now longer_now) lines
    ] in
    ap (λ (last : Frame). last ∷ first) (sym same)
    ∙ ap (λ (frames : List Frame). other ∷ frames) rest_same

-- Frames that begin with an item begin with it in one way.
pub one_first_item : (item : Item) (first second more others : List Frame) → IsItem item first
    → IsItem item second → first ++ more ≡ second ++ others → first ≡ second
one_first_item item first second more others is again line =
    one_run_to_item None item first second more others (item_run item first is)
    (item_run item second again) line
