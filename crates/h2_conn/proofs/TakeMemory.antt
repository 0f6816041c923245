-- Memory is refused for a cause: what a cutter and an end say of it, as a log does.
use Rattle.h2_conn.proofs.Names.{◌≡◌, ◌≢◌, ◌∙◌, ◌++◌, ℕ, nat_le, List, [], true, false, None}
use Rattle.h2_conn.proofs.Names.{Result, Err, suc, length, refl, ap, sym, arith, nat_tests}
use Rattle.h2_conn.proofs.Names.{Frame, alone, block, WireFault, CutterState, Values, FrameStep}
use Rattle.h2_conn.proofs.Names.{fails_with, begins_block, completes, frame_step, verdict_of, Log}
use Rattle.h2_conn.proofs.Names.{acked, limits_from, log_view, payload_limit, Verdict, View, End}
use Rattle.h2_conn.proofs.Names.{end_view, with_begun, Represents, step_alike, views_alike}
use Rattle.h2_conn.proofs.Names.{PartsFit, rules, Counts}
use Rattle.h2_frame.specs.declared.head_faults.HeadFault.{HeadFault}
use Rattle.h2_wire.specs.declared.cut.Advance.{Advance}
use Rattle.h2_wire.specs.Streams.{GoesPastPreface}
use Rattle.h2_wire.specs.Cutter.{FaultsAtHead, BeginsWithFrame}
use Rattle.h2_spec_log.specs.Log.{waiting, output, unreleased}
use Rattle.h2_spec_log.specs.Memory.{KeepsOctets, cutter_of, frame_needs_memory, needs_memory}
use Rattle.h2_spec_log.specs.Memory.{step_needs_memory}
use Rattle.h2_laws_machine.proofs.AlikeFrames.{verdict_alike}
use Rattle.h2_wire.specs.declared.fault.WireFault.TheVariants as faults

-- What the cutter says where memory was refused to it.
pub record CutterLacks (cutter : CutterState) (piece : List ℕ) : Type 0 where
  pub some : piece ≢ []
  pub past_preface : cutter.in_preface ≡ true → GoesPastPreface (cutter.unparsed ++ piece)
  pub no_faulty_head : (fault : HeadFault) → FaultsAtHead cutter piece fault → ⊥
  pub cut_in_two : BeginsWithFrame cutter piece → ⊥

-- It follows from the clauses of the call.
pub cutter_lacks : (cutter : CutterState) (piece : List ℕ) (result : Result Advance WireFault)
    → result ≡ Err faults.Memory → cutter.fault ≡ None
    → ((fault : HeadFault) → FaultsAtHead cutter piece fault
    → result ≡ Err (faults.HeadFault fault))
    → (cutter.in_preface ≡ true → result ≡ Err faults.Memory
    → GoesPastPreface (cutter.unparsed ++ piece))
    → (BeginsWithFrame cutter piece → result ≢ Err faults.Memory)
    → (cutter.fault ≡ None → piece ≡ [] → result ≢ Err faults.Memory)
    → CutterLacks cutter piece
cutter_lacks cutter piece result is sound checked preface lent none = search rules

not_above : (n : ℕ) → nat_le (suc n) n ≡ false
not_above n = grind (arith, nat_tests)

-- the limit in force at the next octet
limit_now : (log : Log)
    → limits_from log (suc (length log.input)) ≡ payload_limit (acked log) log.sent
limit_now log = rw not_above refl

-- The cutter is the log's.
limit_same : {counts : Counts} (values : Values) (cutter : CutterState) (e : End) (log : Log)
    → PartsFit values cutter counts e log → log.failed ≡ None
    → cutter.limit ≡ (cutter_of log).limit
limit_same values cutter e log p up = search rules

pub keeps_octets : {counts : Counts} (values : Values) (cutter : CutterState) (e : End) (log : Log)
    (piece : List ℕ) → PartsFit values cutter counts e log → log.failed ≡ None
    → CutterLacks cutter piece → KeepsOctets log piece
keeps_octets values cutter e log piece p up lacks =
    let limit : cutter.limit ≡ (cutter_of log).limit = limit_same values cutter e log p up in
    let inside : cutter.in_preface ≡ (cutter_of log).in_preface = (p.cut up).in_preface in
    let unparsed : cutter.unparsed ≡ log.unparsed = p.unparsed up in
    let sound : cutter.fault ≡ None = (p.cut up).sound in
    search rules

-- Steps need memory alike where their frames do.
needs_alike : (one other : View) (step : FrameStep)
    → ((frame : Frame)
    → needs_memory one (verdict_of one None (alone frame)) (alone frame)
    ≡ needs_memory other (verdict_of other None (alone frame)) (alone frame))
    → step_needs_memory one step ≡ step_needs_memory other step
needs_alike one other (fails_with code) same = refl
needs_alike one other (begins_block begun) same = refl
needs_alike one other (completes (block stream end octets)) same = refl
needs_alike one other (completes (alone frame)) same = same frame

module _ (values : Values) (e : End) (log : Log) where
  -- Outside of field blocks a frame needs memory by the end as it does by the log.
  frame_alike : (frame : Frame) → Represents values e log → e.failed ≡ None
      → needs_memory (end_view (with_begun e None)) (verdict_of (end_view (with_begun e None)) None
      (alone frame)) (alone frame) ≡ needs_memory (log_view (record log { begun = None }))
      (verdict_of (log_view (record log { begun = None })) None (alone frame)) (alone frame)
  unfolding waiting output unreleased
  frame_alike frame represents up =
      let before : Log = record log { begun = None } in
      ap (λ (verdict : Verdict). needs_memory (end_view (with_begun e None)) verdict (alone frame))
      (verdict_alike values e log None (alone frame) represents up)
      ∙ ap (λ (view : View). needs_memory view (verdict_of (log_view before) None (alone frame))
      (alone frame)) (views_alike values e log represents up)

  -- A frame that may take memory by the end does so by the log.
  pub frame_needs : (frame : Frame) → Represents values e log → e.failed ≡ None
      → step_needs_memory (end_view (with_begun e None)) (frame_step (end_view e) frame) ≡ true
      → frame_needs_memory log frame ≡ true
  frame_needs frame represents up needs =
      sym (ap (step_needs_memory (log_view (record log { begun = None })))
      (step_alike values e log frame represents up))
      ∙ sym (needs_alike (end_view (with_begun e None)) (log_view (record log { begun = None }))
      (frame_step (end_view e) frame) (λ one. frame_alike one represents up)) ∙ needs
