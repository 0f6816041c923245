-- Frames that continue a grouping: what each frame without fault adds to the items, and what it
-- makes of the block that has begun.
use Rattle.std.proofs.Common.{◌≡◌, ℕ, ◌+◌, ◌≤◌, ◌==◌, nat_lt, if◌then◌else◌, Bool, true, false}
use Rattle.std.proofs.Common.{List, [], ◌∷◌, ◌++◌, length, Option, None, Some, refl, ap, sym, ◌∙◌}
use Rattle.std.proofs.Common.{inl, inr, append_assoc, length-append, append-nil, subst}
use Rattle.std.proofs.lemmas.Bool.{ltb-false, eqb-true, cases_Bool}
use Rattle.h2_frame.specs.Frames.{Frame, Data, Headers, Priority, Reset, Settings, Ping, GoAway}
use Rattle.h2_frame.specs.Frames.{WindowUpdate, Continuation, Unknown}
use Rattle.h2_block.specs.declared.fault.BlockFault.{BlockFault}
use Rattle.h2_block.specs.declared.fault.BlockFault.TheVariants.{Interrupted, Stray, TooLong}
use Rattle.h2_block.specs.Grouping.{Item, alone, block, Begun, max_block_octets, is_standalone}
use Rattle.h2_block.specs.Grouping.{fault_outside, fault_inside, next_fault, AreContinuations}
use Rattle.h2_block.specs.Grouping.{IsBegun, IsItem, AreItems, IsLeft, Groups}

-- what a frame without fault adds to the items
abbrev pub step_items : Option Begun → Frame → List Item
step_items None (Data stream end octets pad) = alone (Data stream end octets pad) ∷ []
step_items None (Headers stream end true fragment pad priority) = block stream end fragment ∷ []
step_items None (Headers stream end false fragment pad priority) = []
step_items None (Priority stream octets) = alone (Priority stream octets) ∷ []
step_items None (Reset stream code) = alone (Reset stream code) ∷ []
step_items None (Settings ack pairs) = alone (Settings ack pairs) ∷ []
step_items None (Ping ack octets) = alone (Ping ack octets) ∷ []
step_items None (GoAway last code debug) = alone (GoAway last code debug) ∷ []
step_items None (WindowUpdate stream increment) = alone (WindowUpdate stream increment) ∷ []
step_items None (Continuation stream whole fragment) = []
step_items None (Unknown kind flags stream payload) = alone (Unknown kind flags stream payload) ∷ []
step_items (Some begun) (Continuation stream true fragment) =
    block begun.stream begun.end (begun.octets ++ fragment) ∷ []
step_items (Some begun) frame = []

-- what a frame without fault makes of the block that has begun
abbrev pub step_begun : Option Begun → Frame → Option Begun
step_begun None (Headers stream end false fragment pad priority) =
    Some (record { stream = stream; end = end; octets = fragment })
step_begun None frame = None
step_begun (Some begun) (Continuation stream false fragment) =
    Some (record { stream = begun.stream; end = begun.end; octets = begun.octets ++ fragment })
step_begun (Some begun) frame = None

-- none is no fault
pub none_some : {Goal : Type 0} (fault : BlockFault) → ◌≡◌ {A = Option BlockFault} None (Some fault)
    → Goal
none_some fault e = (cc)

-- One more item after items.
pub AreItems-push : (items : List Item) (frames : List Frame) (item : Item) (last : List Frame)
    → AreItems items frames → IsItem item last
    → AreItems (items ++ item ∷ []) (frames ++ last)
AreItems-push [] frames item last none whole =
    (last, [], rw none (sym (append-nil last)), whole, refl)
AreItems-push (other ∷ items) frames item last (first, others, joined, is_item, rest) whole = (
  first,
  others ++ last,
  rw joined (append_assoc first others last),
  is_item,
  AreItems-push items others item last rest whole,
)

module _ (frames : List Frame) (items : List Item) where
  -- The frame makes what was left an item.
  closes : (begun : Option Begun) (frame : Frame) (item : Item)
      → (groups : Groups frames items begun) → IsItem item (groups.left ++ frame ∷ [])
      → Groups (frames ++ frame ∷ []) (items ++ item ∷ []) None
  closes begun frame item groups whole = record {
    complete = groups.complete ++ (groups.left ++ frame ∷ []);
    left = [];
    joined = ap (λ (line : List Frame). line ++ frame ∷ []) groups.joined
        ∙ append_assoc groups.complete groups.left (frame ∷ []) ∙ sym (append-nil _);
    grouped = AreItems-push items groups.complete item
        (groups.left ++ frame ∷ []) groups.grouped whole;
    unfinished = refl;
  }

  -- The frame leaves a block that has begun.
  leaves : (begun : Option Begun) (frame : Frame) (after : Begun)
      → (groups : Groups frames items begun) → IsLeft (Some after) (groups.left ++ frame ∷ [])
      → Groups (frames ++ frame ∷ []) (items ++ []) (Some after)
  leaves begun frame after groups left = record {
    complete = groups.complete;
    left = groups.left ++ frame ∷ [];
    joined = ap (λ (line : List Frame). line ++ frame ∷ []) groups.joined
        ∙ append_assoc groups.complete groups.left (frame ∷ []);
    grouped = rw append-nil groups.grouped;
    unfinished = left;
  }

  -- outside blocks nothing is left
  nothing_left : (frame : Frame) → (groups : Groups frames items None)
      → groups.left ++ frame ∷ [] ≡ frame ∷ []
  nothing_left frame groups = ap (λ (line : List Frame). line ++ frame ∷ []) groups.unfinished

  -- A standalone frame is an item outside blocks.
  is_standalone_now : (frame : Frame) → is_standalone frame ≡ true → Groups frames items None
      → Groups (frames ++ frame ∷ []) (items ++ alone frame ∷ []) None
  is_standalone_now frame is_alone groups = closes None frame (alone frame) groups (
    is_alone,
    nothing_left frame groups,
  )

-- One more CONTINUATION after CONTINUATIONs.
AreContinuations-push : (stream : ℕ) (frames : List Frame) (octets fragment : List ℕ)
    → AreContinuations stream frames octets
    → AreContinuations stream (frames ++ Continuation stream false fragment ∷ [])
    (octets ++ fragment)
AreContinuations-push stream [] octets fragment none =
    (fragment, [], refl, rw none (sym (append-nil fragment)), refl)
AreContinuations-push stream (frame ∷ frames) octets fragment (first, others, is, joined, rest) = (
  first,
  others ++ fragment,
  is,
  rw joined (append_assoc first others fragment),
  AreContinuations-push stream frames others fragment rest,
)

-- One more CONTINUATION after a block that has begun.
IsBegun-push : (stream : ℕ) (end : Bool) (octets fragment : List ℕ) (frames : List Frame)
    → IsBegun stream end octets frames
    → IsBegun stream end (octets ++ fragment) (frames ++ Continuation stream false fragment ∷ [])
IsBegun-push stream end octets fragment frames begun = record {
  fragment = begun.fragment;
  pad = begun.pad;
  priority = begun.priority;
  following = begun.following ++ Continuation stream false fragment ∷ [];
  others = begun.others ++ fragment;
  opened = ap (λ (line : List Frame). line ++ Continuation stream false fragment ∷ []) begun.opened;
  continued = AreContinuations-push stream begun.following begun.others fragment begun.continued;
  joined = ap (λ (line : List ℕ). line ++ fragment) begun.joined
      ∙ append_assoc begun.fragment begun.others fragment;
}

-- a test against the limit that finds no fault
within_limit : (count : ℕ) (fault : BlockFault)
    → (if nat_lt max_block_octets count then Some fault else None) ≡ None → count ≤ max_block_octets
within_limit count fault sound = elim (cases_Bool (nat_lt max_block_octets count)) [
  | inl above ↦ none_some fault (sym (rw above at sound))
  | inr below ↦ ltb-false max_block_octets count below
]

-- a CONTINUATION that is no fault inside a block is of its stream, and the block stays within the
-- limit
pub within_block : (begun : Begun) (stream : ℕ) (whole : Bool) (fragment : List ℕ)
    → fault_inside begun (Continuation stream whole fragment) ≡ None
    → (stream ≡ begun.stream) × (length (begun.octets ++ fragment) ≤ max_block_octets)
unfolding fault_inside
within_block begun stream whole fragment sound = elim (cases_Bool (stream == begun.stream)) [
  | inl same ↦ (
    eqb-true stream begun.stream same,
    rw length-append (within_limit (length begun.octets + length fragment) TooLong
        (rw same at sound)),
  )
  | inr other ↦ none_some Interrupted (sym (rw other at sound))
]

-- A frame without fault continues a grouping.
pub Groups-step : (frames : List Frame) (items : List Item) (begun : Option Begun) (frame : Frame)
    → Groups frames items begun → next_fault begun frame ≡ None
    → Groups (frames ++ frame ∷ []) (items ++ step_items begun frame) (step_begun begun frame)
unfolding fault_outside fault_inside is_standalone
Groups-step frames items None (Data stream end octets pad) groups sound =
    is_standalone_now frames items (Data stream end octets pad) refl groups
Groups-step frames items None (Headers stream end true fragment pad priority) groups sound =
    closes frames items None (Headers stream end true fragment pad priority)
    (block stream end fragment) groups (
      inl (record {
        pad = pad;
        priority = priority;
        one = nothing_left frames items (Headers stream end true fragment pad priority) groups;
      }),
      within_limit (length fragment) TooLong sound,
    )
Groups-step frames items None (Headers stream end false fragment pad priority) groups sound =
    leaves frames items None (Headers stream end false fragment pad priority)
    (record { stream = stream; end = end; octets = fragment }) groups (
      record {
        fragment = fragment;
        pad = pad;
        priority = priority;
        following = [];
        others = [];
        opened = nothing_left frames items (Headers stream end false fragment pad priority) groups;
        continued = refl;
        joined = sym (append-nil fragment);
      },
      within_limit (length fragment) TooLong sound,
    )
Groups-step frames items None (Priority stream octets) groups sound =
    is_standalone_now frames items (Priority stream octets) refl groups
Groups-step frames items None (Reset stream code) groups sound =
    is_standalone_now frames items (Reset stream code) refl groups
Groups-step frames items None (Settings ack pairs) groups sound =
    is_standalone_now frames items (Settings ack pairs) refl groups
Groups-step frames items None (Ping ack octets) groups sound =
    is_standalone_now frames items (Ping ack octets) refl groups
Groups-step frames items None (GoAway last code debug) groups sound =
    is_standalone_now frames items (GoAway last code debug) refl groups
Groups-step frames items None (WindowUpdate stream increment) groups sound =
    is_standalone_now frames items (WindowUpdate stream increment) refl groups
Groups-step frames items None (Continuation stream whole fragment) groups sound =
    none_some Stray (sym sound)
Groups-step frames items None (Unknown kind flags stream payload) groups sound =
    is_standalone_now frames items (Unknown kind flags stream payload) refl groups
Groups-step frames items (Some begun) (Continuation stream true fragment) groups sound =
    let within = within_block begun stream true fragment sound in
    closes frames items (Some begun) (Continuation stream true fragment)
    (block begun.stream begun.end (begun.octets ++ fragment)) groups (
      inr (record {
        preceding = groups.left;
        prefix = begun.octets;
        last = fragment;
        begun = groups.unfinished.0;
        ended = ap (λ (n : ℕ). groups.left ++ Continuation n true fragment ∷ []) within.0;
        joined = refl;
      }),
      within.1,
    )
Groups-step frames items (Some begun) (Continuation stream false fragment) groups sound =
    let within = within_block begun stream false fragment sound in
    leaves frames items (Some begun) (Continuation stream false fragment)
    (record { stream = begun.stream; end = begun.end; octets = begun.octets ++ fragment })
    groups (
      subst (λ (n : ℕ). IsBegun begun.stream begun.end (begun.octets ++ fragment)
          (groups.left ++ Continuation n false fragment ∷ [])) (sym within.0)
          (IsBegun-push begun.stream begun.end begun.octets fragment groups.left
          groups.unfinished.0),
      within.1,
    )
Groups-step frames items (Some begun) (Data stream end octets pad) groups sound =
    none_some Interrupted (sym sound)
Groups-step frames items (Some begun) (Headers stream end whole fragment pad priority) groups
    sound = none_some Interrupted (sym sound)
Groups-step frames items (Some begun) (Priority stream octets) groups sound =
    none_some Interrupted (sym sound)
Groups-step frames items (Some begun) (Reset stream code) groups sound =
    none_some Interrupted (sym sound)
Groups-step frames items (Some begun) (Settings ack pairs) groups sound =
    none_some Interrupted (sym sound)
Groups-step frames items (Some begun) (Ping ack octets) groups sound =
    none_some Interrupted (sym sound)
Groups-step frames items (Some begun) (GoAway last code debug) groups sound =
    none_some Interrupted (sym sound)
Groups-step frames items (Some begun) (WindowUpdate stream increment) groups sound =
    none_some Interrupted (sym sound)
Groups-step frames items (Some begun) (Unknown kind flags stream payload) groups sound =
    none_some Interrupted (sym sound)
