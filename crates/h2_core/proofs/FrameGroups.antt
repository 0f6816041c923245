-- What a gatherer does with a frame is the step of the rules.
use Rattle.h2_core.proofs.Names.{◌≡◌, ◌<◌, ◌≤◌, ◌^◌, ◌+◌, ℕ, ◌==◌, not, Bool, true, false}
use Rattle.h2_core.proofs.Names.{if◌then◌else◌, List, [], ◌∷◌, ◌++◌, length, Option, Some, None}
use Rattle.h2_core.proofs.Names.{inl, inr, refl, sym, ap, subst, append-nil, length-append, ◌⊎◌}
use Rattle.h2_core.proofs.Names.{arith, Frame, Data, Headers, Priority, Ping, GoAway, WindowUpdate}
use Rattle.h2_core.proofs.Names.{Continuation, Unknown, refusal, BlockFault, Item, alone, block}
use Rattle.h2_core.proofs.Names.{Begun, Groups, next_fault, max_block_octets, ReportsFault}
use Rattle.h2_core.proofs.Names.{FrameStep, fails_with, begins_block, completes, fault_outside}
use Rattle.h2_core.proofs.Names.{fault_inside, is_standalone, grouped}
use Rattle.h2_block.specs.Grouping.{IsBegun}
use Rattle.std.proofs.Common.{nat_lt, Ok, ltb-false, eqb-true}
use Rattle.h2_frame.specs.Frames.{Reset, Settings}
use Rattle.h2_block.specs.declared.gathered.Gathered.{Gathered}
use Rattle.h2_block.specs.Gather.{GatherState, GatherContinues, gathered_items, GatherFails}
use Rattle.h2_block.specs.Gather.{GatherFaults}
use Rattle.h2_core.proofs.FrameWritable.{headers_number, continuation_number}
use Rattle.h2_block.proofs.RunLemmas.{one_grouping_lem}
use Rattle.h2_block.specs.declared.fault.BlockFault.TheVariants as faults

-- A block that has begun is within the limit.
abbrev pub IsShort : Option Begun → Type 0
IsShort begun = (one : Begun) → begun ≡ Some one → length one.octets ≤ max_block_octets

-- frames that are a block which has begun, or none
abbrev pub frames_begun : Option Begun → List Frame
frames_begun None = []
frames_begun (Some begun) = Headers begun.stream begun.end false begun.octets None None ∷ []

one_begun : (begun : Begun)
    → IsBegun begun.stream begun.end begun.octets (frames_begun (Some begun))
one_begun begun =
    record {
      fragment = begun.octets;
      pad = None;
      priority = None;
      following = [];
      others = [];
      opened = refl;
      continued = refl;
      joined = sym (append-nil begun.octets);
    }

-- They group so.
pub begun_groups : (begun : Option Begun) → IsShort begun → Groups (frames_begun begun) [] begun
begun_groups None short =
    record { complete = []; left = []; joined = refl; grouped = refl; unfinished = refl }
begun_groups (Some begun) short =
    record {
      complete = [];
      left = frames_begun (Some begun);
      joined = refl;
      grouped = refl;
      unfinished = (one_begun begun, short begun refl);
    }

-- The frames are what the step says.
abbrev AreStep : List Frame → FrameStep → Type 0
AreStep frames (fails_with code) = ⊥
AreStep frames (begins_block begun) = Groups frames [] (Some begun)
AreStep frames (completes item) = Groups frames (item ∷ []) None

alone_step : (frame : Frame) → is_standalone frame ≡ true
    → Groups (frame ∷ []) (alone frame ∷ []) None
alone_step frame single =
    record {
      complete = frame ∷ [];
      left = [];
      joined = refl;
      grouped = (frame ∷ [], [], refl, (single, refl), refl);
      unfinished = refl;
    }

-- HEADERS, which is a block by itself or begins one.
headers_step : (stream : ℕ) (end whole : Bool) (fragment : List ℕ) (pad : Option ℕ)
    (priority : Option (List ℕ)) → length fragment ≤ max_block_octets
    → AreStep (Headers stream end whole fragment pad priority ∷ [])
    (grouped None (Headers stream end whole fragment pad priority))
unfolding grouped
headers_step stream end true fragment pad priority short =
    record {
      complete = Headers stream end true fragment pad priority ∷ [];
      left = [];
      joined = refl;
      grouped = (
        Headers stream end true fragment pad priority ∷ [],
        [],
        refl,
        (inl (record { pad = pad; priority = priority; one = refl }), short),
        refl,
      );
      unfinished = refl;
    }
headers_step stream end false fragment pad priority short =
    record {
      complete = [];
      left = Headers stream end false fragment pad priority ∷ [];
      joined = refl;
      grouped = refl;
      unfinished = (
        record {
          fragment = fragment;
          pad = pad;
          priority = priority;
          following = [];
          others = [];
          opened = refl;
          continued = refl;
          joined = sym (append-nil fragment);
        },
        short,
      );
    }

-- CONTINUATION of the block that has begun, which ends it or not.
continuation_step : (begun : Begun) (stream : ℕ) (whole : Bool) (fragment : List ℕ)
    → stream ≡ begun.stream → length (begun.octets ++ fragment) ≤ max_block_octets
    → AreStep (frames_begun (Some begun) ++ Continuation stream whole fragment ∷ [])
    (grouped (Some begun) (Continuation stream whole fragment))
unfolding grouped
continuation_step begun stream true fragment same short =
    record {
      complete = frames_begun (Some begun) ++ Continuation stream true fragment ∷ [];
      left = [];
      joined = refl;
      grouped = (
        frames_begun (Some begun) ++ Continuation stream true fragment ∷ [],
        [],
        refl,
        (
          inr (record {
            preceding = frames_begun (Some begun);
            prefix = begun.octets;
            last = fragment;
            begun = one_begun begun;
            ended = ap (λ (s : ℕ). frames_begun (Some begun) ++ Continuation s true fragment ∷ [])
                same;
            joined = refl;
          }),
          short,
        ),
        refl,
      );
      unfinished = refl;
    }
continuation_step begun stream false fragment same short =
    record {
      complete = [];
      left = frames_begun (Some begun) ++ Continuation stream false fragment ∷ [];
      joined = refl;
      grouped = refl;
      unfinished = (
        record {
          fragment = begun.octets;
          pad = None;
          priority = None;
          following = Continuation stream false fragment ∷ [];
          others = fragment;
          opened = refl;
          continued = (
            fragment,
            [],
            ap (λ (s : ℕ). Continuation s false fragment) same,
            sym (append-nil fragment),
            refl,
          );
          joined = refl;
        },
        short,
      );
    }

unfaulty : (b : Bool) (fault : BlockFault)
    → (if b then Some fault else None) ≡ None → b ≡ false
unfaulty true fault is = cc
unfaulty false fault is = refl

unfaulty_inside : (same long : Bool)
    → (if not same then Some faults.Interrupted else if long then Some faults.TooLong else None)
    ≡ None → (same ≡ true) × (long ≡ false)
unfaulty_inside false long is = cc
unfaulty_inside true true is = cc
unfaulty_inside true false is = (refl, refl)

-- A frame without a fault changes the block that has begun as the rules say.
pub step_groups : (begun : Option Begun) (frame : Frame) → next_fault begun frame ≡ None
    → AreStep (frames_begun begun ++ frame ∷ []) (grouped begun frame)
unfolding fault_outside fault_inside grouped is_standalone
step_groups None (Headers stream end whole fragment pad priority) good =
    headers_step stream end whole fragment pad priority
    (ltb-false max_block_octets (length fragment)
    (unfaulty (nat_lt max_block_octets (length fragment)) faults.TooLong good))
step_groups None (Continuation stream whole fragment) good = cc
step_groups None frame good = alone_step frame refl
step_groups (Some begun) (Continuation stream whole fragment) good =
    let parts = unfaulty_inside (stream == begun.stream)
    (nat_lt max_block_octets (length begun.octets + length fragment)) good in
    let short : length begun.octets + length fragment ≤ max_block_octets =
    ltb-false max_block_octets (length begun.octets + length fragment) parts.1 in
    continuation_step begun stream whole fragment (eqb-true stream begun.stream parts.0)
    (omega (arith, short, length-append begun.octets fragment))
step_groups (Some begun) frame good = cc

-- A call that takes a frame says that the frame has no fault.
no_fault : (begun : Option Begun) (frame : Frame) (gathered : Gathered) (fault : Option BlockFault)
    → next_fault begun frame ≡ fault → ReportsFault begun frame (Ok gathered) → fault ≡ None
no_fault begun frame gathered None is reports = refl
no_fault begun frame gathered (Some fault) is reports =
    let wrong = reports fault is in cc

pub taken_unfaulty : (begun : Option Begun) (frame : Frame) (gathered : Gathered)
    → ReportsFault begun frame (Ok gathered) → next_fault begun frame ≡ None
taken_unfaulty begun frame gathered reports =
    no_fault begun frame gathered (next_fault begun frame) refl reports

-- What the gatherer groups after the call.
pub record Gathers (old new : GatherState) (frame : Frame) (gathered : Gathered) : Type 0 where
  pub faultless : next_fault old.begun frame ≡ None
  pub sound : new.fault ≡ None
  pub groups : Groups (frames_begun old.begun ++ frame ∷ []) (gathered_items gathered) new.begun

pub gathers : (old new : GatherState) (frame : Frame) (gathered : Gathered)
    → old.fault ≡ None → IsShort old.begun → ReportsFault old.begun frame (Ok gathered)
    → GatherContinues old frame gathered new → Gathers old new frame gathered
gathers old new frame gathered up short reports continues =
    record {
      faultless = taken_unfaulty old.begun frame gathered reports;
      sound = (continues (frames_begun old.begun) []
          (record { sound = up; split = begun_groups old.begun short })).sound;
      groups = (continues (frames_begun old.begun) []
          (record { sound = up; split = begun_groups old.begun short })).split;
    }

-- The items that a step completes, and what has begun after it.
abbrev pub StepIs : FrameStep → List Item → Option Begun → Type 0
StepIs (fails_with code) items begun = ⊥
StepIs (begins_block one) items begun = (items ≡ []) × (begun ≡ Some one)
StepIs (completes item) items begun = (items ≡ item ∷ []) × (begun ≡ None)

-- The step of the rules is what the gatherer returns, and what has begun.
step_is : (step : FrameStep) (frames : List Frame) (items : List Item) (begun : Option Begun)
    → AreStep frames step → Groups frames items begun → StepIs step items begun
step_is (fails_with code) frames items begun are groups = are
step_is (begins_block one) frames items begun are groups =
    one_grouping_lem frames items [] begun (Some one) groups are
step_is (completes item) frames items begun are groups =
    one_grouping_lem frames items (item ∷ []) begun None groups are

pub gathered_step : (old new : GatherState) (frame : Frame) (gathered : Gathered)
    → Gathers old new frame gathered
    → StepIs (grouped old.begun frame) (gathered_items gathered) new.begun
gathered_step old new frame gathered h =
    step_is (grouped old.begun frame) (frames_begun old.begun ++ frame ∷ [])
    (gathered_items gathered) new.begun (step_groups old.begun frame h.faultless) h.groups

-- The gatherer's result determines the step.
pub record Begins (step : FrameStep) (begun : Option Begun) : Type 0 where
  pub one : Begun
  pub step_is : step ≡ begins_block one
  pub begun_is : begun ≡ Some one

pub more_step : (step : FrameStep) (begun : Option Begun) → StepIs step [] begun
    → Begins step begun
more_step (fails_with code) begun h = absurd h
more_step (begins_block one) begun h = record { one = one; step_is = refl; begun_is = h.1 }
more_step (completes item) begun h = let wrong = h.0 in cc

pub one_step : (step : FrameStep) (item : Item) (begun : Option Begun)
    → StepIs step (item ∷ []) begun → (step ≡ completes item) × (begun ≡ None)
one_step (fails_with code) item begun h = absurd h
one_step (begins_block one) item begun h = let wrong = h.0 in cc
one_step (completes other) item begun h =
    let same = h.0 in let is : other ≡ item = cc in (ap completes is, h.1)

-- A frame that passes is no part of a block, outside blocks.
pub alone_only : (begun : Option Begun) (frame : Frame) → next_fault begun frame ≡ None
    → grouped begun frame ≡ completes (alone frame)
    → (is_standalone frame ≡ true) × (begun ≡ None)
unfolding fault_outside fault_inside grouped is_standalone
alone_only None (Headers stream end true fragment pad priority) good is = cc
alone_only None (Headers stream end false fragment pad priority) good is = cc
alone_only None (Continuation stream whole fragment) good is = cc
alone_only None frame good is = (refl, refl)
alone_only (Some begun) (Continuation stream true fragment) good is = cc
alone_only (Some begun) frame good is = cc

-- The stream of a block that a frame completes.
abbrev block_stream : FrameStep → ℕ
block_stream (completes (block stream end octets)) = stream
block_stream step = 1

abbrev IsNumber : ℕ → Type 0
IsNumber id = (1 ≤ id) × (id < 2 ^ 31)

one_number : IsNumber 1
one_number = (omega arith, omega arith)

stream_number : (begun : Option Begun) (frame : Frame) → next_fault begun frame ≡ None
    → refusal frame ≡ None → IsNumber (block_stream (grouped begun frame))
unfolding fault_outside fault_inside grouped
stream_number None (Headers stream end true fragment pad priority) good writable =
    headers_number stream end true fragment pad priority writable
stream_number None frame good writable = one_number
stream_number (Some begun) (Continuation stream true fragment) good writable =
    let parts = unfaulty_inside (stream == begun.stream)
    (nat_lt max_block_octets (length begun.octets + length fragment)) good in
    subst (λ (n : ℕ). IsNumber n) (eqb-true stream begun.stream parts.0)
    (continuation_number stream true fragment writable)
stream_number (Some begun) frame good writable = one_number

pub block_number : (begun : Option Begun) (frame : Frame) (stream : ℕ) (end : Bool)
    (octets : List ℕ) → next_fault begun frame ≡ None → refusal frame ≡ None
    → grouped begun frame ≡ completes (block stream end octets)
    → (1 ≤ stream) × (stream < 2 ^ 31)
block_number begun frame stream end octets good writable is =
    subst (λ (s : FrameStep). IsNumber (block_stream s)) is
    (stream_number begun frame good writable)

-- A call that fails was refused memory, or the frame is at fault.
pub gather_fault : (old new : GatherState) (frame : Frame) (fault : BlockFault)
    → old.fault ≡ None → GatherFails old frame fault new
    → (fault ≡ faults.Memory) ⊎ (next_fault old.begun frame ≡ Some fault)
gather_fault old new frame faults.Memory up h = inl refl
gather_fault old new frame fault up h =
    let g : GatherFaults (record { begun = old.begun; fault = None }) frame fault new =
    rw up at h in
    inr g.faulty

-- The same, where the result is known.
pub gathers_at : (old new : GatherState) (frame : Frame) (gathered other : Gathered)
    → gathered ≡ other → old.fault ≡ None → IsShort old.begun
    → ReportsFault old.begun frame (Ok gathered) → GatherContinues old frame gathered new
    → Gathers old new frame other
gathers_at old new frame gathered other is up short reports continues =
    subst (λ (g : Gathered). Gathers old new frame g) is
    (gathers old new frame gathered up short reports continues)
