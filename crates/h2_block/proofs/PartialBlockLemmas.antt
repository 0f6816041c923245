-- What a call makes of a partial block, from what it did.
use Rattle.std.proofs.Common.{◌≡◌, ℕ, ◌+◌, ◌<◌, ◌≤◌, Bool, List, [], ◌∷◌, ◌++◌, length, Option}
use Rattle.std.proofs.Common.{None, Some, MatchOption, refl, ap, sym, ◌∙◌, inl, inr, Bor}
use Rattle.std.proofs.lemmas.Bool.{lt-ltb, le-ltb, eq-eqb, ne_eqb, cases_lt}
use Rattle.h2_frame.specs.Frames.{Frame, Headers, Continuation, frame_of}
use Rattle.h2_frame.specs.declared.frame.FrameRef.{FrameRef}
use Rattle.h2_frame.specs.declared.frame.FrameRef.TheVariants as lent
use Rattle.h2_block.specs.declared.fault.BlockFault.{BlockFault}
use Rattle.h2_block.specs.declared.fault.BlockFault.TheVariants as faults
use Rattle.h2_block.specs.declared.partial_block.PartialBlock.{PartialBlock}
use Rattle.h2_block.specs.Grouping.{Item, alone, Begun, max_block_octets, fault_outside}
use Rattle.h2_block.specs.Grouping.{fault_inside, next_fault}
use Rattle.h2_block.specs.Gather.{GatherState, GatherRepresents, GatherFaults, GatherFails}
use Rattle.h2_block.specs.PartialBlock.{gather_state_of}
use Rattle.h2_block.proofs.GroupLemmas.{step_items, step_begun, none_some, Groups-step}

-- A frame without fault was taken.
pub continues : (old new : GatherState) (frame : Frame) (more : List Item) → new.fault ≡ None
    → next_fault old.begun frame ≡ None
    → more ≡ step_items old.begun frame → new.begun ≡ step_begun old.begun frame
    → (frames : List Frame) (items : List Item) → GatherRepresents old frames items
    → GatherRepresents new (frames ++ frame ∷ []) (items ++ more)
continues old new frame more sound no_fault added begun frames items represented = record {
  sound = sound;
  split = rw (added, begun) (Groups-step frames items old.begun frame represented.split no_fault);
}

-- what holds where there was no fault yet
without : {First : Type 0} (Again : BlockFault → Type 0) (known : Option BlockFault) → known ≡ None
    → First → MatchOption known First Again
without Again None none first = first
without Again (Some fault) none first = none_some fault (sym none)

-- a fault, but for lack of memory, ends the frames
fails : (old : GatherState) (frame : Frame) (fault : BlockFault) (new : GatherState)
    → old.fault ≡ None → (fault ≡ faults.Memory → ⊥)
    → GatherFaults old frame fault new → GatherFails old frame fault new
fails old frame faults.Interrupted new sound never fails_with =
    without (λ known. new ≡ old) old.fault sound fails_with
fails old frame faults.Stray new sound never fails_with =
    without (λ known. new ≡ old) old.fault sound fails_with
fails old frame faults.TooLong new sound never fails_with =
    without (λ known. new ≡ old) old.fault sound fails_with
fails old frame faults.Memory new sound never fails_with = absurd (never refl)

-- A frame at fault ends the frames.
pub fails_with : (old new : PartialBlock) (fault : BlockFault) (frame : Frame) → old.fault ≡ None
    → (fault ≡ faults.Memory → ⊥)
    → new ≡ record old { opening = None; octets = new.octets; fault = Some fault }
    → next_fault (gather_state_of old).begun frame ≡ Some fault
    → GatherFails (gather_state_of old) frame fault (gather_state_of new)
fails_with old new fault frame sound never after faulty =
    fails (gather_state_of old) frame fault (gather_state_of new) sound never (record {
      known = ap (λ (partial : PartialBlock). partial.fault) after;
      none_begun = ap (λ (partial : PartialBlock). (gather_state_of partial).begun) after;
      faulty = faulty;
      at = λ frames items represented. record {
        preceding = frames;
        last = frame;
        begun = (gather_state_of old).begun;
        joined = refl;
        grouped = represented.split;
        faulty = faulty;
      };
    })

module _ (stream : ℕ) (end whole : Bool) (fragment : List ℕ) (pad : Option ℕ) where
  -- HEADERS above the limit are too long
  pub headers_too_long : (priority : Option (List ℕ)) → max_block_octets < length fragment
      → fault_outside (Headers stream end whole fragment pad priority) ≡ Some faults.TooLong
  unfolding fault_outside
  headers_too_long priority above = rw (lt-ltb max_block_octets (length fragment) above) refl

  -- HEADERS within the limit are no fault
  pub headers_sound : (priority : Option (List ℕ)) → length fragment ≤ max_block_octets
      → fault_outside (Headers stream end whole fragment pad priority) ≡ None
  unfolding fault_outside
  headers_sound priority within = rw (le-ltb max_block_octets (length fragment) within) refl

module _ (begun : Begun) (whole : Bool) (fragment : List ℕ) where
  -- a CONTINUATION of the block's stream with which the block is above the limit is too long
  pub continuation_too_long : max_block_octets < length begun.octets + length fragment
      → fault_inside begun (Continuation begun.stream whole fragment) ≡ Some faults.TooLong
  unfolding fault_inside
  continuation_too_long above = rw (
    eq-eqb begun.stream begun.stream refl,
    lt-ltb max_block_octets (length begun.octets + length fragment) above,
  ) refl

  -- a CONTINUATION of the block's stream with which the block is within the limit is no fault
  pub continuation_sound : length begun.octets + length fragment ≤ max_block_octets
      → fault_inside begun (Continuation begun.stream whole fragment) ≡ None
  unfolding fault_inside
  continuation_sound within = rw (
    eq-eqb begun.stream begun.stream refl,
    le-ltb max_block_octets (length begun.octets + length fragment) within,
  ) refl

-- HEADERS have no fault but that they are too long
pub headers_reported : (stream : ℕ) (end whole : Bool) (fragment : List ℕ) (pad : Option ℕ)
    (priority : Option (List ℕ)) (fault : BlockFault)
    → fault_outside (Headers stream end whole fragment pad priority) ≡ Some fault
    → (fault ≡ faults.TooLong) × (max_block_octets < length fragment)
headers_reported stream end whole fragment pad priority fault faulty =
    elim (cases_lt max_block_octets (length fragment)) [
      | inl above ↦
          let reported : ◌≡◌ {A = Option BlockFault} (Some fault) (Some faults.TooLong) = sym faulty
          ∙ headers_too_long stream end whole fragment pad priority above in
          ((cc), above)
      | inr within ↦
          none_some fault (sym (headers_sound stream end whole fragment pad priority within)
          ∙ faulty)
    ]

-- a CONTINUATION of the block's stream has no fault but that it is too long
pub continuation_reported : (begun : Begun) (whole : Bool) (fragment : List ℕ) (fault : BlockFault)
    → fault_inside begun (Continuation begun.stream whole fragment) ≡ Some fault
    → (fault ≡ faults.TooLong) × (max_block_octets < length begun.octets + length fragment)
continuation_reported begun whole fragment fault faulty =
    elim (cases_lt max_block_octets (length begun.octets + length fragment)) [
      | inl above ↦
          let reported : ◌≡◌ {A = Option BlockFault} (Some fault) (Some faults.TooLong) = sym faulty
          ∙ continuation_too_long begun whole fragment above in
          ((cc), above)
      | inr within ↦ none_some fault (sym (continuation_sound begun whole fragment within) ∙ faulty)
    ]

-- Outside blocks what is neither HEADERS nor a CONTINUATION passes.
pub other_passes : (frame : FrameRef)
    → ((stream : ℕ) (end whole : Bool) (fragment : Bor (List ℕ)) (pad : Option ℕ)
    (priority : Option (List ℕ)) → frame ≡ lent.Headers stream end whole fragment pad priority → ⊥)
    → ((stream : ℕ) (whole : Bool) (fragment : Bor (List ℕ))
    → frame ≡ lent.Continuation stream whole fragment → ⊥)
    → (fault_outside (frame_of frame) ≡ None)
    × (alone (frame_of frame) ∷ [] ≡ step_items None (frame_of frame))
    × (None ≡ step_begun None (frame_of frame))
unfolding fault_outside
other_passes (lent.Data stream end octets pad) headers continuation = (refl, refl, refl)
other_passes (lent.Headers stream end whole fragment pad priority) headers continuation =
    absurd (headers stream end whole fragment pad priority refl)
other_passes (lent.Priority stream octets) headers continuation = (refl, refl, refl)
other_passes (lent.Reset stream code) headers continuation = (refl, refl, refl)
other_passes (lent.Settings ack pairs) headers continuation = (refl, refl, refl)
other_passes (lent.Ping ack octets) headers continuation = (refl, refl, refl)
other_passes (lent.GoAway last code debug) headers continuation = (refl, refl, refl)
other_passes (lent.WindowUpdate stream increment) headers continuation = (refl, refl, refl)
other_passes (lent.Continuation stream whole fragment) headers continuation =
    absurd (continuation stream whole fragment refl)
other_passes (lent.Unknown kind flags stream payload) headers continuation = (refl, refl, refl)

-- Inside a block a frame that is no CONTINUATION interrupts it.
pub other_interrupts : (begun : Begun) (frame : FrameRef)
    → ((stream : ℕ) (whole : Bool) (fragment : Bor (List ℕ))
    → frame ≡ lent.Continuation stream whole fragment → ⊥)
    → fault_inside begun (frame_of frame) ≡ Some faults.Interrupted
unfolding fault_inside
other_interrupts begun (lent.Data stream end octets pad) continuation = refl
other_interrupts begun (lent.Headers stream end whole fragment pad priority) continuation = refl
other_interrupts begun (lent.Priority stream octets) continuation = refl
other_interrupts begun (lent.Reset stream code) continuation = refl
other_interrupts begun (lent.Settings ack pairs) continuation = refl
other_interrupts begun (lent.Ping ack octets) continuation = refl
other_interrupts begun (lent.GoAway last code debug) continuation = refl
other_interrupts begun (lent.WindowUpdate stream increment) continuation = refl
other_interrupts begun (lent.Continuation stream whole fragment) continuation =
    absurd (continuation stream whole fragment refl)
other_interrupts begun (lent.Unknown kind flags stream payload) continuation = refl

-- A CONTINUATION of another stream interrupts a block.
pub other_stream_interrupts : (begun : Begun) (stream : ℕ) (whole : Bool) (fragment : List ℕ)
    → (stream ≡ begun.stream → ⊥)
    → fault_inside begun (Continuation stream whole fragment) ≡ Some faults.Interrupted
unfolding fault_inside
other_stream_interrupts begun stream whole fragment differs =
    rw (ne_eqb stream begun.stream differs) refl

-- a CONTINUATION outside blocks is stray
pub continuation_stray : (stream : ℕ) (whole : Bool) (fragment : List ℕ)
    → fault_outside (Continuation stream whole fragment) ≡ Some faults.Stray
unfolding fault_outside
continuation_stray stream whole fragment = refl

-- one frame has one fault
pub one_fault_of : (fault other : BlockFault) (known : Option BlockFault) → known ≡ Some fault
    → known ≡ Some other → fault ≡ other
one_fault_of fault other known reported again =
    let same : ◌≡◌ {A = Option BlockFault} (Some fault) (Some other) = sym reported ∙ again in (cc)

-- no fault is none
pub no_fault_of : {Goal : Type 0} (fault : BlockFault) (known : Option BlockFault) → known ≡ None
    → known ≡ Some fault → Goal
no_fault_of fault known none reported = none_some fault (sym none ∙ reported)
