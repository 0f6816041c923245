-- What the cutter keeps of a frame that was answered doesn't count for what a call makes of it.
use Rattle.h2_wire.proofs.Names.{◌≡◌, ℕ, List, Bool, None, Result, Ok, Err, Option, Some}
use Rattle.h2_wire.proofs.Names.{MatchOption, sym, subst, Frame, WireFault, Complete, Advance}
use Rattle.h2_wire.proofs.Names.{Buffer, Limits, CutterState, CutterRepresents, CutterContinues}
use Rattle.h2_wire.proofs.Names.{CutterFaults, CutterFails, BufferTakes}
use Rattle.h2_wire.specs.Cutter.{Advances}
use Rattle.h2_wire.proofs.BufferLemmas.{fails_preface, fails_head, fails_payload}
use Rattle.h2_wire.specs.declared.fault.WireFault.TheVariants as faults

-- the state with other octets kept
abbrev with_kept : CutterState → List ℕ → CutterState
with_kept state kept = record state { kept = kept }

represents : (state : CutterState) (kept : List ℕ) (expects : Bool) (limits : Limits)
    (stream : List ℕ) (so_far : List Frame)
    → CutterRepresents (with_kept state kept) expects limits stream so_far
    → CutterRepresents state expects limits stream so_far
represents state kept expects limits stream so_far before = record {
  sound = before.sound;
  split = before.split;
  in_preface = before.in_preface;
  place = before.place;
  ahead = before.ahead;
}

continues : (state : CutterState) (kept used : List ℕ) (frames : List Frame) (new : CutterState)
    → CutterContinues state used frames new
    → CutterContinues (with_kept state kept) used frames new
continues state kept used frames new after = record {
  sound = after.sound;
  same_limit = after.same_limit;
  same_greatest = after.same_greatest;
  represents = λ expects limits stream so_far before.
      after.represents expects limits stream so_far
      (represents state kept expects limits stream so_far before);
}

faults_now : (state : CutterState) (kept piece : List ℕ) (fault : WireFault) (new : CutterState)
    → CutterFaults state piece fault new → CutterFaults (with_kept state kept) piece fault new
faults_now state kept piece fault new after = record {
  known = after.known;
  none_unparsed = after.none_unparsed;
  in_preface = after.in_preface;
  same_limit = after.same_limit;
  same_greatest = after.same_greatest;
  at = λ expects limits stream so_far before.
      after.at expects limits stream so_far
      (represents state kept expects limits stream so_far before);
}

-- where there is no fault yet, a first one is met
first : (fault : Option WireFault) (Meets : Type 0) (Stays : WireFault → Type 0) → fault ≡ None
    → MatchOption fault Meets Stays → Meets
first None Meets Stays none holds = holds
first (Some known) Meets Stays none holds = (cc)

module _ (state : CutterState) (kept piece : List ℕ) where
  fails : (fault : WireFault) (new : CutterState) → state.fault ≡ None
      → CutterFails state piece fault new → CutterFails (with_kept state kept) piece fault new
  fails faults.Memory new none same = same
  fails faults.BadPreface new none failed = fails_preface (with_kept state kept) piece new none
      (faults_now state kept piece faults.BadPreface new
      (first state.fault (CutterFaults state piece faults.BadPreface new) (λ known. new ≡ state)
      none failed))
  fails (faults.HeadFault code) new none failed =
      fails_head (with_kept state kept) piece code new none
      (faults_now state kept piece (faults.HeadFault code) new
      (first state.fault (CutterFaults state piece (faults.HeadFault code) new)
      (λ known. new ≡ state) none failed))
  fails (faults.PayloadFault code) new none failed =
      fails_payload (with_kept state kept) piece code new none
      (faults_now state kept piece (faults.PayloadFault code) new
      (first state.fault (CutterFaults state piece (faults.PayloadFault code) new)
      (λ known. new ≡ state) none failed))

  answers : (used : ℕ) (frame : Option Complete)
      (new : CutterState) → Advances state piece (Ok (record { used = used; frame = frame })) new
      → Advances (with_kept state kept) piece (Ok (record { used = used; frame = frame })) new
  answers used None new passes = record {
    all = passes.all;
    continues = continues state kept piece _ new passes.continues;
  }
  answers used (Some frame) new ends = record {
    within = ends.within;
    some = ends.some;
    lies = ends.lies;
    none_unparsed = ends.none_unparsed;
    continues = λ value encodes. continues state kept _ _ new (ends.continues value encodes);
  }

  advances : (result : Result Advance WireFault) (new : CutterState) → state.fault ≡ None
      → Advances state piece result new → Advances (with_kept state kept) piece result new
  advances (Ok advance) new none makes = answers advance.used advance.frame new makes
  advances (Err fault) new none makes = fails fault new none makes

-- A call that forgets what is kept first.
pub takes_forgotten : (old state : CutterState) (piece : List ℕ)
    (result : Result Advance WireFault) (new : Buffer)
    → old ≡ record state { kept = old.kept } → state.fault ≡ None
    → BufferTakes state piece result new → BufferTakes old piece result new
takes_forgotten old state piece result new same none takes =
    subst (λ (o : CutterState). BufferTakes o piece result new) (sym same)
    (record {
      invariant = takes.invariant;
      makes = advances state old.kept piece result _ none takes.makes;
    })
