-- The items of frames are the first of those of more frames, and each list of frames has a
-- grouping, or a fault at one of its frames.
use Rattle.std.proofs.Common.{◌≡◌, ◌⊎◌, List, [], ◌∷◌, ◌++◌, Option, None, Some, refl, ap, sym, ◌∙◌}
use Rattle.std.proofs.Common.{inl, inr, subst, append_assoc, append-nil}
use Rattle.h2_frame.specs.Frames.{Frame}
use Rattle.h2_block.specs.declared.fault.BlockFault.{BlockFault}
use Rattle.h2_block.specs.Grouping.{Item, Begun, next_fault, Groups, GroupingFaultAt}
use Rattle.h2_block.proofs.GroupLemmas.{step_items, step_begun, Groups-step}
use Rattle.h2_block.proofs.RunLemmas.{Runs, Groups-runs}

-- The items of a run are the first of those of a longer one.
runs_continue : (start : Option Begun) (frames more : List Frame) (items others : List Item)
    (begun other : Option Begun)
    → Runs start frames items begun → Runs start (frames ++ more) others other
    → (following : List Item) × (others ≡ items ++ following)
runs_continue start [] more items others begun other (none, same) run = (others, rw none refl)
runs_continue start (frame ∷ frames) more items others begun other (sound, rest, joined, run)
    (well, beyond, parted, longer) =
    let (following, continued) = runs_continue (step_begun start frame) frames more rest beyond
    begun other run longer in (
      following,
      parted ∙ ap (λ (list : List Item). step_items start frame ++ list) continued
          ∙ sym (append_assoc (step_items start frame) rest following)
          ∙ ap (λ (list : List Item). list ++ following) (sym joined),
    )

-- The items of frames are the first of those of more frames.
pub longer_grouping : (frames more : List Frame) (items others : List Item)
    (begun other : Option Begun)
    → Groups frames items begun → Groups (frames ++ more) others other
    → (following : List Item) × (others ≡ items ++ following)
longer_grouping frames more items others begun other groups longer =
    runs_continue None frames more items others begun other (Groups-runs frames items begun groups)
    (Groups-runs (frames ++ more) others other longer)

-- Frames have a grouping, or a fault at one of them.
abbrev GroupsOrFaults : List Frame → Type 0
GroupsOrFaults frames =
    ((items : List Item) × (begun : Option Begun) × Groups frames items begun)
    ⊎ ((first others : List Frame) × (items : List Item) × (fault : BlockFault)
    × (frames ≡ first ++ others) × GroupingFaultAt first items fault)

-- A frame has a fault, or none.
fault_cases : (known : Option BlockFault)
    → (known ≡ None) ⊎ ((fault : BlockFault) × (known ≡ Some fault))
fault_cases None = inl refl
fault_cases (Some fault) = inr (fault, refl)

-- Frames that group, and those that follow them.
from_grouping : (frames others : List Frame) (items : List Item) (begun : Option Begun)
    → Groups frames items begun → GroupsOrFaults (frames ++ others)
from_grouping frames [] items begun groups =
    inl (
      items,
      begun,
      subst (λ (list : List Frame). Groups list items begun)
          (sym (append-nil frames)) groups,
    )
from_grouping frames (frame ∷ others) items begun groups =
    elim (fault_cases (next_fault begun frame)) [
      | inl sound ↦
          subst GroupsOrFaults (append_assoc frames (frame ∷ []) others)
          (from_grouping (frames ++ frame ∷ []) others (items ++ step_items begun frame)
          (step_begun begun frame) (Groups-step frames items begun frame groups sound))
      | inr (fault, faulty) ↦
          inr (
            frames ++ frame ∷ [],
            others,
            items,
            fault,
            sym (append_assoc frames (frame ∷ []) others),
            record {
              preceding = frames;
              last = frame;
              begun = begun;
              joined = refl;
              grouped = groups;
              faulty = faulty;
            },
          )
    ]

-- Each list of frames has a grouping, or a fault at one of its frames.
pub grouping_or_fault_lem : (frames : List Frame)
    → ((items : List Item) × (begun : Option Begun) × Groups frames items begun)
    ⊎ ((first others : List Frame) × (items : List Item) × (fault : BlockFault)
    × (frames ≡ first ++ others) × GroupingFaultAt first items fault)
grouping_or_fault_lem frames =
    from_grouping [] frames [] None (record {
      complete = [];
      left = [];
      joined = refl;
      grouped = refl;
      unfinished = refl;
    })
