-- Inside a block a CONTINUATION of its stream continues it, and anything else interrupts it.
use Rattle.std.proofs.Common.{◌≡◌, Some, refl}
use Rattle.h2_frame.specs.Frames.{frame_of}
use Rattle.h2_block.specs.declared.fault.BlockFault.TheVariants as faults
use Rattle.h2_block.specs.Grouping.{Begun, next_fault}
use Rattle.h2_block.specs.PartialBlock.{gather_state_of}
use Rattle.h2_block.proofs.PartialBlockLemmas.{fails_with, continuation_reported, one_fault_of}
use Rattle.h2_block.proofs.PartialBlockLemmas.{other_interrupts, other_stream_interrupts}
use Rattle.h2_block.proofs.partial_block.PartialBlock.take_inside.Goals as goal
use Rattle.h2_block.proofs.partial_block.PartialBlock.take_inside.Goals.{
  in_default-via-in-Continuation+else-stream-opening,
}
use Rattle.h2_block.proofs.partial_block.PartialBlock.take_inside.Goals.{in_default-via-in_default}

pub returns-in-Continuation-clause-reported : goal.returns-in-Continuation-clause-reported
returns-in-Continuation-clause-reported c = λ fault faulty.
    let old = c.args.self.now in
    let opening = c.args.opening in
    let begun : Begun = record {
      stream = opening.stream;
      end = opening.end;
      octets = old.octets.items;
    } in
    let found = rw (c.requires.inside, c.in-Continuation.is, c.if-stream-opening.true) at faulty in
    let reported =
    continuation_reported begun c.in-Continuation.whole c.in-Continuation.fragment.now fault
    found in
    rw reported.0 (c.extend.ensures.reported (rw old.octets.ok.0 reported.1))

interrupts : (c : goal.After-fail)
    → next_fault (gather_state_of c.args.self.now).begun (frame_of c.args.frame)
    ≡ Some faults.Interrupted
interrupts c =
    let old = c.args.self.now in
    let opening = c.args.opening in
    let begun : Begun = record {
      stream = opening.stream;
      end = opening.end;
      octets = old.octets.items;
    } in
    elim c.in_default.branch [
      | in_default-via-in-Continuation+else-stream-opening w ↦
          rw (c.requires.inside, w.in-Continuation.is)
          (other_stream_interrupts begun w.in-Continuation.stream w.in-Continuation.whole
          w.in-Continuation.fragment.now w.if-stream-opening.false)
      | in_default-via-in_default w ↦
          rw c.requires.inside (other_interrupts begun c.args.frame w.in_default.not-Continuation)
    ]

pub returns-in_default-clause-reported : goal.returns-in_default-clause-reported
returns-in_default-clause-reported c = λ fault faulty.
    let same = one_fault_of faults.Interrupted fault _ (interrupts c) faulty in
    rw (c.fail.ensures.fault, same) refl

pub returns-in_default-clause-takes : goal.returns-in_default-clause-takes
returns-in_default-clause-takes c =
    rw c.fail.ensures.fault
    (fails_with c.args.self.now c.fail.new.self faults.Interrupted
    (frame_of c.args.frame) c.requires.sound (λ e. (cc)) c.fail.ensures.after
    (interrupts c))
