-- Frames run one after another from a block that has begun, or none. A run has one end, and a
-- grouping is a run.
use Rattle.std.proofs.Common.{◌≡◌, ℕ, ◌+◌, ◌≤◌, Bool, true, false, List, [], ◌∷◌, ◌++◌, length}
use Rattle.std.proofs.Common.{Option, None, Some, refl, ap, sym, ◌∙◌, inl, inr, arith, subst}
use Rattle.std.proofs.Common.{append_assoc, append-nil, length-append}
use Rattle.h2_frame.specs.Frames.{Frame, Data, Headers, Priority, Reset, Settings, Ping, GoAway}
use Rattle.h2_frame.specs.Frames.{WindowUpdate, Continuation, Unknown}
use Rattle.h2_block.specs.declared.fault.BlockFault.{BlockFault}
use Rattle.h2_block.specs.Grouping.{Item, alone, block, Begun, max_block_octets, is_standalone}
use Rattle.h2_block.specs.Grouping.{fault_outside, next_fault, AreContinuations, IsBegun, IsItem}
use Rattle.h2_block.specs.Grouping.{AreItems, IsLeft, Groups, GroupingFaultAt}
use Rattle.h2_block.proofs.GroupLemmas.{step_items, step_begun}
use Rattle.h2_block.proofs.PartialBlockLemmas.{headers_sound, continuation_sound, one_fault_of}
use Rattle.h2_block.proofs.PartialBlockLemmas.{no_fault_of}

-- The frames, none of which is at fault, go from what had begun to what has, and give the items.
abbrev pub Runs : Option Begun → List Frame → List Item → Option Begun → Type 0
Runs start [] items begun = (items ≡ []) × (begun ≡ start)
Runs start (frame ∷ frames) items begun =
    (next_fault start frame ≡ None) × (others : List Item)
    × (items ≡ step_items start frame ++ others)
    × Runs (step_begun start frame) frames others begun

-- A run has one end.
pub one_run : (start : Option Begun) (frames : List Frame) (items others : List Item)
    (begun other : Option Begun)
    → Runs start frames items begun → Runs start frames others other
    → (items ≡ others) × (begun ≡ other)
one_run start [] items others begun other (none, same) (nothing, again) =
    (none ∙ sym nothing, same ∙ sym again)
one_run start (frame ∷ frames) items others begun other (sound, more, joined, run)
    (well, rest, parted, another) =
    let one = one_run (step_begun start frame) frames more rest begun other run another in
    (joined ∙ ap (λ (line : List Item). step_items start frame ++ line) one.0 ∙ sym parted, one.1)

-- Two runs, one after another, are one.
pub Runs-append : (start : Option Begun) (frames more : List Frame) (items others : List Item)
    (begun other : Option Begun)
    → Runs start frames items begun → Runs begun more others other
    → Runs start (frames ++ more) (items ++ others) other
Runs-append start [] more items others begun other (none, same) run =
    subst (λ (from : Option Begun). Runs from more (items ++ others) other) same
    (subst (λ (line : List Item). Runs begun more (line ++ others) other) (sym none) run)
Runs-append start (frame ∷ frames) more items others begun other
    (sound, rest, joined, run) following = (
      sound,
      rest ++ others,
      ap (λ (line : List Item). line ++ others) joined
          ∙ append_assoc (step_items start frame) rest others,
      Runs-append (step_begun start frame) frames more rest others begun other run following,
    )

-- No frame of a run is at fault where a run of the preceding frames ends.
pub no_fault_inside : (start : Option Begun) (frames more : List Frame) (last : Frame)
    (items others : List Item) (begun other : Option Begun) (fault : BlockFault)
    → Runs start frames items begun → next_fault begun last ≡ Some fault
    → Runs start (frames ++ last ∷ more) others other → ⊥
no_fault_inside start [] more last items others begun other fault (none, same) faulty
    (sound, rest, joined, run) =
    no_fault_of fault (next_fault start last) sound
    (subst (λ (from : Option Begun). next_fault from last ≡ Some fault) same faulty)
no_fault_inside start (frame ∷ frames) more last items others begun other fault
    (sound, rest, joined, run) faulty (well, beyond, parted, another) =
    no_fault_inside (step_begun start frame) frames more last rest beyond begun other fault run
    faulty another

-- Two frames at fault, each after a run, one at the end of a line and one in it, are one.
pub one_fault : (start : Option Begun) (frames preceding more : List Frame) (last end : Frame)
    (items others : List Item) (begun other : Option Begun) (fault another : BlockFault)
    → Runs start frames items begun → next_fault begun last ≡ Some fault
    → Runs start preceding others other → next_fault other end ≡ Some another
    → frames ++ last ∷ more ≡ preceding ++ end ∷ []
    → (items ≡ others) × (fault ≡ another) × (more ≡ [])
one_fault start [] [] more last end items others begun other fault another (none, same) faulty
    (nothing, again) wrong line =
    let lasts : last ≡ end = cc in
    let rest : more ≡ [] = cc in
    let here : next_fault start last ≡ Some fault =
    subst (λ (from : Option Begun). next_fault from last ≡ Some fault) same faulty in
    let there : next_fault start end ≡ Some another =
    subst (λ (from : Option Begun). next_fault from end ≡ Some another) again wrong in (
      none ∙ sym nothing,
      one_fault_of fault another (next_fault start last) here
          (ap (λ (frame : Frame). next_fault start frame) lasts ∙ there),
      rest,
    )
one_fault start [] (frame ∷ preceding) more last end items others begun other fault another
    (none, same) faulty (sound, rest, joined, run) wrong line =
    let lasts : last ≡ frame = cc in
    let here : next_fault start last ≡ Some fault =
    subst (λ (from : Option Begun). next_fault from last ≡ Some fault) same faulty in
    no_fault_of fault (next_fault start last) (ap (λ (other : Frame). next_fault start other) lasts
    ∙ sound) here
one_fault start (frame ∷ frames) [] more last end items others begun other fault another
    (sound, rest, joined, run) faulty (nothing, again) wrong line =
    let lasts : frame ≡ end = cc in
    let there : next_fault start end ≡ Some another =
    subst (λ (from : Option Begun). next_fault from end ≡ Some another) again wrong in
    no_fault_of another (next_fault start frame) sound
    (ap (λ (other : Frame). next_fault start other) lasts ∙ there)
one_fault start (frame ∷ frames) (first ∷ preceding) more last end items others begun other fault
    another (sound, rest, joined, run) faulty (well, beyond, parted, following) wrong line =
    let same : frame ≡ first = cc in
    let lines : frames ++ last ∷ more ≡ preceding ++ end ∷ [] = cc in
    let behind_now = subst (λ (from : Frame). Runs (step_begun start from) preceding beyond other)
    (sym same) following in
    let parted_now : others ≡ step_items start frame ++ beyond = parted
    ∙ ap (λ (from : Frame). step_items start from ++ beyond) (sym same) in
    let one =
    one_fault (step_begun start frame) frames preceding more last end rest beyond begun other
    fault another run faulty behind_now wrong lines in (
      joined ∙ ap (λ (items : List Item). step_items start frame ++ items) one.0
          ∙ sym parted_now,
      one.1,
      one.2,
    )

module _ (stream : ℕ) (end : Bool) where
  -- CONTINUATIONs inside a block continue it.
  continuations_run : (octets others : List ℕ) (frames : List Frame)
      → AreContinuations stream frames others
      → length (octets ++ others) ≤ max_block_octets
      → Runs (Some (record { stream = stream; end = end; octets = octets })) frames []
      (Some (record { stream = stream; end = end; octets = octets ++ others }))
  continuations_run octets others [] none within = (
    refl,
    ap (λ (line : List ℕ). Some (record { stream = stream; end = end; octets = line }))
        (ap (λ (line : List ℕ). octets ++ line) none ∙ append-nil octets),
  )
  continuations_run octets others (frame ∷ frames) (fragment, rest, is, joined, goes) within =
      let begun : Begun = record { stream = stream; end = end; octets = octets } in
      let line : octets ++ others ≡ (octets ++ fragment) ++ rest =
      ap (λ (line : List ℕ). octets ++ line) joined ∙ sym (append_assoc octets fragment rest) in
      let within_now : length ((octets ++ fragment) ++ rest) ≤ max_block_octets =
      rw (← line) within in
      let few : length octets + length fragment ≤ max_block_octets = omega (
        arith,
        within_now,
        length-append (octets ++ fragment) rest,
        length-append octets fragment,
      ) in
      let run = continuations_run (octets ++ fragment) rest frames goes within_now in
      subst (λ (first : Frame). Runs (Some begun) (first ∷ frames) []
      (Some (record { stream = stream; end = end; octets = octets ++ others }))) (sym is) (
        continuation_sound begun false fragment few,
        [],
        refl,
        subst (λ (octets_now : List ℕ).
            Runs (Some (record { stream = stream; end = end; octets = octets ++ fragment })) frames
            [] (Some (record { stream = stream; end = end; octets = octets_now }))) (sym line) run,
      )

  -- A block that has begun is a run.
  begun_runs : (octets : List ℕ) (frames : List Frame)
      → IsBegun stream end octets frames → length octets ≤ max_block_octets
      → Runs None frames [] (Some (record { stream = stream; end = end; octets = octets }))
  begun_runs octets frames begun within =
      let within_now : length (begun.fragment ++ begun.others) ≤ max_block_octets =
      rw (← begun.joined) within in
      let few : length begun.fragment ≤ max_block_octets =
      omega (arith, within_now, length-append begun.fragment begun.others) in
      let run = continuations_run begun.fragment begun.others begun.following begun.continued
      within_now in
      subst (λ (line : List Frame).
      Runs None line [] (Some (record { stream = stream; end = end; octets = octets })))
      (sym begun.opened) (
        headers_sound stream end false begun.fragment begun.pad begun.priority few,
        [],
        refl,
        subst (λ (octets_now : List ℕ).
            Runs (Some (record { stream = stream; end = end; octets = begun.fragment }))
            begun.following [] (Some (record { stream = stream; end = end; octets = octets_now })))
            (sym begun.joined) run,
      )

-- A standalone frame is a run.
alone_runs : (frame : Frame) → is_standalone frame ≡ true
    → Runs None (frame ∷ []) (alone frame ∷ []) None
unfolding is_standalone fault_outside
alone_runs (Data stream end octets pad) is_alone = (refl, [], refl, (refl, refl))
alone_runs (Headers stream end whole fragment pad priority) is_alone = let never : false ≡ true =
    is_alone in (cc)
alone_runs (Priority stream octets) is_alone = (refl, [], refl, (refl, refl))
alone_runs (Reset stream code) is_alone = (refl, [], refl, (refl, refl))
alone_runs (Settings ack pairs) is_alone = (refl, [], refl, (refl, refl))
alone_runs (Ping ack octets) is_alone = (refl, [], refl, (refl, refl))
alone_runs (GoAway last code debug) is_alone = (refl, [], refl, (refl, refl))
alone_runs (WindowUpdate stream increment) is_alone = (refl, [], refl, (refl, refl))
alone_runs (Continuation stream whole fragment) is_alone = let never : false ≡ true = is_alone in
    (cc)
alone_runs (Unknown kind flags stream payload) is_alone = (refl, [], refl, (refl, refl))

-- An item is a run.
pub item_runs : (item : Item) (frames : List Frame) → IsItem item frames
    → Runs None frames (item ∷ []) None
item_runs (alone frame) frames (is_alone, one) =
    subst (λ (line : List Frame). Runs None line (alone frame ∷ []) None) (sym one)
    (alone_runs frame is_alone)
item_runs (block stream end octets) frames (inl single, within) =
    subst (λ (line : List Frame). Runs None line (block stream end octets ∷ []) None)
    (sym single.one)
    (headers_sound stream end true octets single.pad single.priority within, [], refl, (refl, refl))
item_runs (block stream end octets) frames (inr ended, within) =
    let within_now : length (ended.prefix ++ ended.last) ≤ max_block_octets =
    rw (← ended.joined) within in
    let few : length ended.prefix + length ended.last ≤ max_block_octets =
    omega (arith, within_now, length-append ended.prefix ended.last) in
    let begun : Begun = record { stream = stream; end = end; octets = ended.prefix } in
    let run = begun_runs stream end ended.prefix ended.preceding ended.begun (omega (arith, few)) in
    subst (λ (line : List Frame). Runs None line (block stream end octets ∷ []) None)
    (sym ended.ended)
    (Runs-append None ended.preceding (Continuation stream true ended.last ∷ []) []
    (block stream end octets ∷ []) (Some begun) None run (
      continuation_sound begun true ended.last few,
      [],
      ap (λ (line : List ℕ). block stream end line ∷ []) ended.joined,
      (refl, refl),
    ))

-- Items are a run.
items_run : (items : List Item) (frames : List Frame) → AreItems items frames
    → Runs None frames items None
items_run [] frames none = subst (λ (line : List Frame). Runs None line [] None) (sym none)
    (refl, refl)
items_run (item ∷ items) frames (first, others, joined, whole, rest) =
    subst (λ (line : List Frame). Runs None line (item ∷ items) None) (sym joined)
    (Runs-append None first others (item ∷ []) items None None (item_runs item first whole)
    (items_run items others rest))

-- what is left is a run
left_runs : (begun : Option Begun) (frames : List Frame) → IsLeft begun frames
    → Runs None frames [] begun
left_runs None frames none =
    subst (λ (line : List Frame). Runs None line [] None) (sym none) (refl, refl)
left_runs (Some begun) frames (is_begun, within) =
    begun_runs begun.stream begun.end begun.octets frames is_begun within

-- A grouping is a run.
pub Groups-runs : (frames : List Frame) (items : List Item) (begun : Option Begun)
    → Groups frames items begun → Runs None frames items begun
Groups-runs frames items begun groups =
    subst (λ (line : List Frame). Runs None line items begun) (sym groups.joined)
    (subst (λ (line : List Item). Runs None (groups.complete ++ groups.left) line begun)
    (append-nil items)
    (Runs-append None groups.complete groups.left items [] None begun
    (items_run items groups.complete groups.grouped)
    (left_runs begun groups.left groups.unfinished)))

-- Frames have one grouping.
pub one_grouping_lem : (frames : List Frame) (items others : List Item) (begun other : Option Begun)
    → Groups frames items begun → Groups frames others other
    → (items ≡ others) × (begun ≡ other)
one_grouping_lem frames items others begun other groups again =
    one_run None frames items others begun other (Groups-runs frames items begun groups)
    (Groups-runs frames others other again)

-- the line of frames at fault, with what follows them
fault_line : (frames more : List Frame) (items : List Item) (fault : BlockFault)
    → (at : GroupingFaultAt frames items fault) → frames ++ more ≡ at.preceding ++ at.last ∷ more
fault_line frames more items fault at = ap (λ (line : List Frame). line ++ more) at.joined
    ∙ append_assoc at.preceding (at.last ∷ []) more

-- Frames at fault have no grouping.
pub no_grouping_lem : (frames more : List Frame) (items others : List Item) (fault : BlockFault)
    (begun : Option Begun)
    → GroupingFaultAt frames items fault → Groups (frames ++ more) others begun → ⊥
no_grouping_lem frames more items others fault begun at groups =
    no_fault_inside None at.preceding more at.last items others at.begun begun fault
    (Groups-runs at.preceding items at.begun at.grouped) at.faulty
    (subst (λ (line : List Frame). Runs None line others begun)
    (fault_line frames more items fault at) (Groups-runs (frames ++ more) others begun groups))

-- Frames at fault have one fault, whatever follows them.
pub one_fault_lem : (frames more : List Frame) (items others : List Item) (fault other : BlockFault)
    → GroupingFaultAt frames items fault → GroupingFaultAt (frames ++ more) others other
    → (items ≡ others) × (fault ≡ other) × (more ≡ [])
one_fault_lem frames more items others fault other at by =
    one_fault None at.preceding by.preceding more at.last by.last items others at.begun by.begun
    fault other
    (Groups-runs at.preceding items at.begun at.grouped) at.faulty
    (Groups-runs by.preceding others by.begun by.grouped) by.faulty
    (sym (fault_line frames more items fault at) ∙ by.joined)
