-- What a call answers, from what it made of its buffer.
use Rattle.h2_wire.proofs.Names.{◌≡◌, ℕ, ◌+◌, ◌<◌, length, length-drop, Bool, true, false, List, []}
use Rattle.h2_wire.proofs.Names.{drop, Option, None, Some, IfSome, Result, Ok, Err, refl, ap, arith}
use Rattle.h2_wire.proofs.Names.{inl, inr, take_all, Head, head_of, Frame, frame_of, Carries}
use Rattle.h2_wire.proofs.Names.{Encodes, Complete, HeadFault, WireFault, CutterState}
use Rattle.h2_wire.proofs.Names.{CutterRepresents, CutterPasses, CutterCompletes, octets_of}
use Rattle.h2_wire.specs.Streams.{preface, expected_preface}
use Rattle.std.proofs.Common.{◌^◌, lit<}
use Rattle.h2_frame.specs.declared.frame.FrameRef.{FrameRef}
use Rattle.h2_frame.specs.Encoding.{refusal}
use Rattle.h2_frame.proofs.RefusalLemmas.{refusal-carried}
use Rattle.h2_wire.specs.Cutter.{CutterAdvances}
use Rattle.h2_wire.proofs.StreamLemmas.{IsPartial-empty}
use Rattle.h2_wire.specs.declared.fault.WireFault.TheVariants as faults

-- A complete frame is one that can be written.
pub good_frame : (octets : List ℕ) (head : Head) (value : Frame) → head ≡ head_of octets
    → head.length < 2 ^ 24 → length octets ≡ 9 + head.length → Carries head (drop 9 octets) value
    → refusal value ≡ None
good_frame octets head value is bounded complete carried =
    refusal-carried octets (drop 9 octets) value (rw is at bounded)
    (rw (← is) (omega (arith, complete, length-drop 9 octets))) (rw is at carried)

-- all of the piece was used
pub advances_none : (old : CutterState) (piece : List ℕ) (used : ℕ) (new : CutterState)
    → CutterPasses old piece used new
    → CutterAdvances old piece (record { used = used; frame = None }) new
advances_none old piece used new more = record {
  continues = rw (take_all used piece (omega (arith, more.all))) more.continues;
  none_unparsed_after_a_frame = λ some. (cc);
}

-- a frame is lent
pub advances_some : (old : CutterState) (piece : List ℕ) (used : ℕ) (complete : Complete)
    (frame : FrameRef) (new : CutterState) → CutterCompletes old piece used complete new
    → Encodes (frame_of frame) (octets_of new piece complete)
    → CutterAdvances old piece (record { used = used; frame = Some frame }) new
advances_some old piece used complete frame new ends encodes = record {
  continues = ends.continues (frame_of frame) encodes;
  none_unparsed_after_a_frame = λ some. ends.none_unparsed;
}

-- Where a call answered otherwise than by a fault there was none before.
pub not_failed : {A B : Type 0} (fault : Option WireFault) (one : A) (other : B)
    → IfSome fault (λ known. ◌≡◌ {A = Result A WireFault} (Ok one) (Err known))
    → IfSome fault (λ known. ◌≡◌ {A = Result B WireFault} (Ok other) (Err known))
not_failed None one other failed = tt
not_failed (Some known) one other failed = (cc)

-- a fault that was answered below is answered above
pub failed_again : (A B : Type 0) (known : Option WireFault) (fault : WireFault)
    → IfSome known (λ first. ◌≡◌ {A = Result A WireFault} (Err fault) (Err first))
    → IfSome known (λ first. ◌≡◌ {A = Result B WireFault} (Err fault) (Err first))
failed_again A B None fault failed = tt
failed_again A B (Some first) fault failed = let same : fault ≡ first = cc in ap Err same

-- Where a call answered otherwise than by a fault no head was at fault.
pub not_checked : {A B : Type 0} (Checked : HeadFault → Type 0) (one : A) (other : B)
    → ((head : HeadFault) → Checked head
    → ◌≡◌ {A = Result A WireFault} (Ok one) (Err (faults.HeadFault head)))
    → (head : HeadFault) → Checked head
    → ◌≡◌ {A = Result B WireFault} (Ok other) (Err (faults.HeadFault head))
not_checked Checked one other checked head faulty = let never = checked head faulty in (cc)

-- a head at fault that was reported below is reported above
pub checked_again : (A B : Type 0) (Checked : HeadFault → Type 0) (fault : WireFault)
    → ((head : HeadFault) → Checked head
    → ◌≡◌ {A = Result A WireFault} (Err fault) (Err (faults.HeadFault head)))
    → (head : HeadFault) → Checked head
    → ◌≡◌ {A = Result B WireFault} (Err fault) (Err (faults.HeadFault head))
checked_again A B Checked fault checked head faulty =
    let reported = checked head faulty in let same : fault ≡ faults.HeadFault head = cc in
    ap Err same

-- what is known where memory was refused below is known above
pub memory_again : (A B Known : Type 0) (fault : WireFault)
    → (◌≡◌ {A = Result A WireFault} (Err fault) (Err faults.Memory) → Known)
    → ◌≡◌ {A = Result B WireFault} (Err fault) (Err faults.Memory) → Known
memory_again A B Known fault known refused =
    let same : fault ≡ faults.Memory = cc in known (ap Err same)

-- The empty stream, of a cutter that has used nothing.
pub represents_empty : (expects : Bool) (limit : ℕ)
    → CutterRepresents (record {
      limit = limit;
      greatest = limit;
      in_preface = expects;
      unparsed = [];
      kept = [];
      place = 0;
      fault = None;
    }) expects (λ _. limit) [] []
unfolding expected_preface preface
represents_empty true limit = record {
  sound = refl;
  split = inl (record {
    missing = preface;
    opens = refl;
    short = lit< tt;
    none = refl;
    all = refl;
  });
  in_preface = refl;
  place = refl;
  ahead = λ place later. refl;
}
represents_empty false limit = record {
  sound = refl;
  split = inr (record {
    part = [];
    joined = refl;
    sound = record { body = []; opened = refl; framed = refl };
    partial = IsPartial-empty limit;
  });
  in_preface = refl;
  place = refl;
  ahead = λ place later. refl;
}
