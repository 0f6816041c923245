use Rattle.h2_core.proofs.Names.{◌≡◌, ◌++◌, ℕ, List, [], Option, inl, inr, refl, sym, ap, subst}
use Rattle.h2_core.proofs.Names.{◌∙◌, Code, FrameRef, encoding_of, Frame, GoAway, frame_of}
use Rattle.h2_core.proofs.Names.{block_fault_code, Begun, alone, block, grouped, completes, End}
use Rattle.h2_core.proofs.Names.{with_begun, end_of, IsSoundEnd, TakesBlock}
use Rattle.std.proofs.Common.{Ok}
use Rattle.h2_core.proofs.Names.{◌∷◌, None, Item}
use Rattle.h2_block.specs.Gather.{gathered_items}
use Rattle.h2_block.specs.declared.gathered.Gathered.{Gathered}
use Rattle.h2_block.specs.declared.gathered.Gathered.TheVariants.{More}
use Rattle.h2_core.proofs.FrameGroups.{Gathers, gathers, gathered_step, gathers_at, more_step}
use Rattle.h2_core.proofs.FrameGroups.{one_step}
use Rattle.h2_core.proofs.FrameGroups.{alone_only, block_number, gather_fault}
use Rattle.h2_core.proofs.FrameTaking.{begun_sound, step_grouped, step_faulty, more_taken}
use Rattle.h2_core.proofs.FrameTaking.{block_frame, frame_fails}
use Rattle.h2_core.proofs.FrameFailures.{alike, memory_fails}
use Rattle.h2_core.proofs.FrameMemory.{gathering_lacks}
use Rattle.h2_core.proofs.endpoint.Endpoint.gather_frame.Goals.{In-Ok}
use Rattle.h2_core.proofs.endpoint.Endpoint.gather_frame.Goals as goal

-- What the gatherer did with a frame that it took, and that it is the step of the rules.
module _ (c : In-Ok) (gathered : Gathered) (is : c.in-Ok.gathered ≡ gathered) where
  taken : Gathers c.args.self.now.gather c.take.new.self (frame_of c.args.frame) gathered
  taken = gathers_at c.args.self.now.gather c.take.new.self (frame_of c.args.frame) c.in-Ok.gathered
      gathered is (c.args.self.now.gathers c.requires.up) c.requires.sound.ranges.begun
      (c.in-Ok.ensures.reported (c.args.self.now.gathers c.requires.up)) c.in-Ok.ensures.takes

  one : (item : Item) → gathered_items gathered ≡ item ∷ []
      → (grouped c.args.self.now.gather.begun (frame_of c.args.frame) ≡ completes item)
      × (c.take.new.self.begun ≡ None)
  one item items = one_step _ item c.take.new.self.begun
      (rw items at (gathered_step c.args.self.now.gather c.take.new.self (frame_of c.args.frame)
      gathered taken))

pub invariant_of-self : goal.invariant_of-self
invariant_of-self c =
    let g = gathers c.args.self.now.gather c.take.new.self (frame_of c.args.frame) c.in-Ok.gathered
    (c.args.self.now.gathers c.requires.up) c.requires.sound.ranges.begun
    (c.in-Ok.ensures.reported (c.args.self.now.gathers c.requires.up)) c.in-Ok.ensures.takes in
    assumption (g, c.args.self.now)

pub returns-in-Err : goal.returns-in-Err
returns-in-Err c =
    let e : End = end_of c.args.self.now in
    let frame : Frame = frame_of c.args.frame in
    let code : Code = c.code-code.result in
    let waits = c.end_with_goaway.ensures.waiting
    ∙ ap (λ (n : ℕ). e.output.waiting ++ encoding_of (GoAway e.streams.last_processed n []))
    c.number.ensures in
    let failed = alike e _ code e.streams.last_processed refl refl refl refl refl waits in
    elim (gather_fault c.args.self.now.gather c.take.new.self frame c.in-Err.fault
    (c.args.self.now.gathers c.requires.up) c.in-Err.ensures.takes) [
      | inl m ↦
          inr (gathering_lacks e _ frame c.in-Err.fault code c.requires.started m
          (c.in-Err.ensures.reported (c.args.self.now.gathers c.requires.up))
          (λ none single.
          let wrong = c.in-Err.ensures.alone (c.args.self.now.gathers c.requires.up) none single
          in cc)
          (memory_fails e _ code (c.code-code.ensures ∙ ap block_fault_code m) failed))
      | inr bad ↦
          inl (frame_fails e _ frame (block_fault_code c.in-Err.fault) code
          (step_faulty e frame c.in-Err.fault c.requires.started bad) c.code-code.ensures failed)
    ]

pub take_block-requires-clause-sound : goal.take_block-requires-clause-sound
take_block-requires-clause-sound c =
    let h = one (goal.at.take_block-requires-clause-sound c).In-Ok _ c.in-Block.is _ refl in
    subst (λ (b : Option Begun). IsSoundEnd (with_begun (end_of c.args.self.now) b)) (sym h.1)
    (begun_sound (end_of c.args.self.now) c.requires.sound)

pub take_block-requires-clause-number : goal.take_block-requires-clause-number
take_block-requires-clause-number c =
    let at = (goal.at.take_block-requires-clause-number c).In-Ok in
    block_number c.args.self.now.gather.begun (frame_of c.args.frame) c.in-Block.stream
    c.in-Block.end c.in-Block.octets.items (taken at _ c.in-Block.is).faultless c.requires.good
    (one at _ c.in-Block.is _ refl).0

pub returns-in-More : goal.returns-in-More
returns-in-More c =
    let e : End = end_of c.args.self.now in
    let frame : Frame = frame_of c.args.frame in
    let g = taken (goal.at.returns-in-More c).In-Ok _ c.in-More.is in
    let m = more_step (grouped c.args.self.now.gather.begun frame) c.take.new.self.begun
    (gathered_step c.args.self.now.gather c.take.new.self frame More g) in
    more_taken e _ frame m.one c.args.self.now.list
    (step_grouped e frame c.requires.started g.faultless ∙ m.step_is)
    (ap (with_begun e) m.begun_is) c.requires.up

pub returns-in-Block : goal.returns-in-Block
returns-in-Block c =
    let e : End = end_of c.args.self.now in
    let frame : Frame = frame_of c.args.frame in
    let at = (goal.at.returns-in-Block c).In-Ok in
    let g = taken at _ c.in-Block.is in
    let h = one at _ c.in-Block.is _ refl in
    let list = c.take_block.new.self.list in
    let new : End = end_of c.take_block.new.self in
    block_frame e new frame c.in-Block.stream c.in-Block.end c.in-Block.octets.items list
    c.take_block.result (step_grouped e frame c.requires.started g.faultless ∙ h.0)
    (subst (λ (b : Option Begun). TakesBlock (with_begun e b) c.in-Block.stream c.in-Block.end
    c.in-Block.octets.items list c.take_block.result new) h.1
    (subst (λ (o : List ℕ). TakesBlock (with_begun e c.take.new.self.begun) c.in-Block.stream
    c.in-Block.end o list c.take_block.result new) c.deref.ensures.value c.take_block.ensures))

-- No frame passes, since none that comes here is no part of a block outside blocks.
pub unreachable-requires : goal.unreachable-requires
unreachable-requires c =
    let frame : Frame = frame_of c.args.frame in
    let begun : Option Begun = c.args.self.now.gather.begun in
    let at = (goal.at.unreachable-requires c).In-Ok in
    let g = taken at _ c.in-Pass.is in
    let h = one at _ c.in-Pass.is _ refl in
    let same : c.in-Pass.field-0 ≡ c.args.frame =
    c.in-Ok.ensures.passed c.in-Pass.field-0 (ap Ok c.in-Pass.is) in
    let step : grouped begun frame ≡ completes (alone frame) =
    h.0 ∙ ap (λ (f : FrameRef). completes (alone (frame_of f))) same in
    let single = alone_only begun frame g.faultless step in
    let part = c.requires.part single.1 in
    let whole = single.0 in
    cc
