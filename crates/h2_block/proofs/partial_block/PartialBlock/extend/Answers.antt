-- A CONTINUATION continues the block, ends it, or makes it too long.
use Rattle.std.proofs.Common.{◌+◌, ◌<◌, ◌≤◌, ◌∷◌, [], length, refl, arith}
use Rattle.h2_frame.specs.Frames.{Continuation}
use Rattle.h2_block.specs.Grouping.{block, Begun}
use Rattle.h2_block.specs.declared.fault.BlockFault.TheVariants as faults
use Rattle.h2_block.specs.PartialBlock.{gather_state_of}
use Rattle.h2_block.proofs.PartialBlockLemmas.{continues, fails_with, continuation_too_long}
use Rattle.h2_block.proofs.PartialBlockLemmas.{continuation_sound}
use Rattle.h2_block.proofs.partial_block.PartialBlock.extend.Goals as goal

pub returns-then-fragment-len-clause-takes : goal.returns-then-fragment-len-clause-takes
returns-then-fragment-len-clause-takes c =
    let old = c.args.self.now in
    let opening = c.args.opening in
    let begun : Begun = record {
      stream = opening.stream;
      end = opening.end;
      octets = old.octets.items;
    } in
    let above : 65552 < length old.octets.items + length c.args.fragment.now =
    omega (arith, c.if-fragment-len.true, c.len.ensures, old.octets.ok.0) in
    rw c.fail.ensures.fault
    (fails_with old c.fail.new.self faults.TooLong
    (Continuation opening.stream c.args.whole c.args.fragment.now)
    c.requires.sound (λ e. (cc)) c.fail.ensures.after
    (rw c.requires.inside (continuation_too_long begun c.args.whole c.args.fragment.now above)))

pub returns-then-not-whole-clause-takes : goal.returns-then-not-whole-clause-takes
returns-then-not-whole-clause-takes c =
    let old = c.args.self.now in
    let opening = c.args.opening in
    let begun : Begun = record {
      stream = opening.stream;
      end = opening.end;
      octets = old.octets.items;
    } in
    let within : length old.octets.items + length c.args.fragment.now ≤ 65552 =
    omega (
      arith,
      c.if-fragment-len.false,
      c.len.ensures,
      old.octets.ok.0,
      c.requires.invariant.bounded,
    ) in
    continues (gather_state_of old) (gather_state_of c.append.new.self)
    (Continuation opening.stream c.args.whole c.args.fragment.now) []
    (rw c.in_ok-append.ensures.same c.requires.sound)
    (rw c.requires.inside (continuation_sound begun c.args.whole c.args.fragment.now within))
    (rw (c.requires.inside, c.if-not-whole.true) refl)
    (rw (
      c.in_ok-append.ensures.ok,
      c.in_ok-append.ensures.same,
      c.requires.inside,
      c.if-not-whole.true,
    ) refl)

pub returns-clause-takes : goal.returns-clause-takes
returns-clause-takes c =
    let old = c.args.self.now in
    let opening = c.args.opening in
    let begun : Begun = record {
      stream = opening.stream;
      end = opening.end;
      octets = old.octets.items;
    } in
    let within : length old.octets.items + length c.args.fragment.now ≤ 65552 =
    omega (
      arith,
      c.if-fragment-len.false,
      c.len.ensures,
      old.octets.ok.0,
      c.requires.invariant.bounded,
    ) in
    continues (gather_state_of old) (gather_state_of c.end.new.self)
    (Continuation opening.stream c.args.whole c.args.fragment.now)
    (block opening.stream opening.end c.end.result.items ∷ [])
    (rw (c.end.ensures.after, c.in_ok-append.ensures.same) c.requires.sound)
    (rw c.requires.inside (continuation_sound begun c.args.whole c.args.fragment.now within))
    (rw (
      c.end.ensures.octets,
      c.in_ok-append.ensures.ok,
      c.requires.inside,
      c.if-not-whole.false,
    ) refl)
    (rw (c.end.ensures.after, c.requires.inside, c.if-not-whole.false) refl)
