-- HEADERS begins a block, is a complete one, or is too long.
use Rattle.std.proofs.Common.{◌∷◌, [], refl}
use Rattle.h2_frame.specs.Frames.{Headers}
use Rattle.h2_block.specs.Grouping.{block}
use Rattle.h2_block.specs.declared.fault.BlockFault.TheVariants as faults
use Rattle.h2_block.specs.PartialBlock.{gather_state_of}
use Rattle.h2_block.proofs.PartialBlockLemmas.{continues, fails_with, headers_too_long}
use Rattle.h2_block.proofs.PartialBlockLemmas.{headers_sound}
use Rattle.h2_block.proofs.partial_block.PartialBlock.begin.Goals as goal

pub returns-then-fragment-gt-MAX_BLOCK-clause-takes
    : goal.returns-then-fragment-gt-MAX_BLOCK-clause-takes
returns-then-fragment-gt-MAX_BLOCK-clause-takes c = λ pad priority.
    let opening = c.args.opening in
    let fragment = c.args.fragment.now in
    rw c.fail.ensures.fault
    (fails_with c.args.self.now c.fail.new.self faults.TooLong
    (Headers opening.stream opening.end c.args.whole fragment pad priority)
    c.requires.sound (λ e. (cc)) c.fail.ensures.after
    (rw c.requires.outside
    (headers_too_long opening.stream opening.end c.args.whole fragment pad priority
    c.if-fragment-gt-MAX_BLOCK.true)))

pub returns-then-whole-clause-takes : goal.returns-then-whole-clause-takes
returns-then-whole-clause-takes c = λ pad priority.
    let old = gather_state_of c.args.self.now in
    let opening = c.args.opening in
    let fragment = c.args.fragment.now in
    continues old old (Headers opening.stream opening.end c.args.whole fragment pad priority)
    (block opening.stream opening.end c.in_ok-copy.field-0.items ∷ [])
    c.requires.sound
    (rw c.requires.outside
    (headers_sound opening.stream opening.end c.args.whole fragment pad priority
    c.if-fragment-gt-MAX_BLOCK.false))
    (rw (c.requires.outside, c.if-whole.true, c.in_ok-copy.ensures.ok) refl)
    (rw (c.requires.outside, c.if-whole.true) refl)
