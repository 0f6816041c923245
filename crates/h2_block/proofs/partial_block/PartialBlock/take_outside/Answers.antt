-- Outside blocks HEADERS begins one, a CONTINUATION is stray, and any other frame passes.
use Rattle.std.proofs.Common.{◌∷◌, [], refl, true, false, ◌≡◌}
use Rattle.std.proofs.lemmas.Bool.{false≢true}
use Rattle.h2_frame.specs.Frames.{frame_of}
use Rattle.h2_block.specs.declared.fault.BlockFault.TheVariants as faults
use Rattle.h2_block.specs.Grouping.{alone, is_standalone}
use Rattle.h2_block.specs.PartialBlock.{gather_state_of}
use Rattle.h2_block.proofs.PartialBlockLemmas.{continues, fails_with, headers_reported}
use Rattle.h2_block.proofs.PartialBlockLemmas.{continuation_stray, one_fault_of, no_fault_of}
use Rattle.h2_block.proofs.PartialBlockLemmas.{other_passes}
use Rattle.h2_block.proofs.partial_block.PartialBlock.take_outside.Goals as goal

pub returns-in-Headers-clause-reported : goal.returns-in-Headers-clause-reported
returns-in-Headers-clause-reported c = λ fault faulty.
    let found = rw c.in-Headers.is at faulty in
    let reported =
    headers_reported c.in-Headers.stream c.in-Headers.end c.in-Headers.whole
    c.in-Headers.fragment.now c.in-Headers.pad c.in-Headers.priority fault found in
    rw reported.0 (c.begin.ensures.reported reported.1)

pub returns-in-Continuation-clause-reported : goal.returns-in-Continuation-clause-reported
returns-in-Continuation-clause-reported c = λ fault faulty.
    let found = rw c.in-Continuation.is at faulty in
    let same = one_fault_of faults.Stray fault _
    (continuation_stray c.in-Continuation.stream c.in-Continuation.whole
    c.in-Continuation.fragment.now) found in
    rw (c.fail.ensures.fault, same) refl

pub returns-in-Continuation-clause-takes : goal.returns-in-Continuation-clause-takes
returns-in-Continuation-clause-takes c =
    rw c.fail.ensures.fault
    (fails_with c.args.self.now c.fail.new.self faults.Stray
    (frame_of c.args.frame) c.requires.sound (λ e. (cc)) c.fail.ensures.after
    (rw (c.requires.outside, c.in-Continuation.is)
    (continuation_stray c.in-Continuation.stream c.in-Continuation.whole
    c.in-Continuation.fragment.now)))

pub returns-in_default : goal.returns-in_default
returns-in_default c =
    let old = gather_state_of c.args.self.now in
    let frame = frame_of c.args.frame in
    let passes = other_passes c.args.frame c.in_default.not-Headers c.in_default.not-Continuation in
    record {
      reported = λ fault faulty. no_fault_of fault _ passes.0 faulty;
      alone = λ is_standalone_now. refl;
      passed = λ other same. (cc);
      takes = continues old old frame (alone frame ∷ []) c.requires.sound
          (rw c.requires.outside passes.0) (rw c.requires.outside passes.1)
          (rw c.requires.outside passes.2);
      ended = tt;
      invariant = c.requires.invariant;
    }

pub returns-in-Headers-clause-alone : goal.returns-in-Headers-clause-alone
unfolding is_standalone
returns-in-Headers-clause-alone c = λ is_standalone_now.
    let inside : false ≡ true = rw c.in-Headers.is at is_standalone_now in
    absurd (false≢true inside)

pub returns-in-Continuation-clause-alone : goal.returns-in-Continuation-clause-alone
unfolding is_standalone
returns-in-Continuation-clause-alone c = λ is_standalone_now.
    rw c.in-Continuation.is at is_standalone_now
