use Rattle.hpack_text.proofs.Names.{ℕ, List, ◌+◌, ◌*◌, ◌%◌, ◌^◌, ◌≤◌, ◌++◌, ap, ◌∙◌, pow_mono}
use Rattle.hpack_text.proofs.Names.{arith}
use Rattle.hpack_text.proofs.WriteLemmas.{Appends-none, Appends-same, Appends-word, IsShiftedIn}
use Rattle.hpack_text.proofs.WriteLemmas.{shifted_in_same, top_word}
use Rattle.hpack_text.proofs.huffman.writer.append_code.Goals as goal
use Rattle.hpack_text.proofs.huffman.writer.append_code.Goals.{After-from}

-- The bits of the code follow those that are pending.
shifted : (c : After-from)
    → IsShiftedIn c.args.pending.count c.args.code.count c.args.pending.value c.args.code.value
    (c.args.pending.value * 2 ^ c.args.code.count % 2 ^ 64 + c.from.result)
shifted c =
    shifted_in_same _ _ _ _ _ (omega arith) c.args.pending.within c.requires.within c.from.ensures

pub overflow_add-value : goal.overflow_add-value
overflow_add-value c =
    let few : c.args.pending.count + c.args.code.count ≤ 61 = omega arith in
    let most : 2 ^ (c.args.pending.count + c.args.code.count) ≤ 2 ^ 61 = pow_mono few in
    omega (arith, (shifted (goal.at.overflow_add-value c).After-from).within, most)

pub invariant_of-result : goal.invariant_of-result
invariant_of-result c =
    let within = (shifted (goal.at.invariant_of-result c).After-from).within in
    record { few = c.if-count-lt32.true; within = within }

pub returns-then-count-lt32-clause-ok : goal.returns-then-count-lt32-clause-ok
returns-then-count-lt32-clause-ok c =
    let same = (shifted (goal.at.returns-then-count-lt32-clause-ok c).After-from).same in
    Appends-same _ _ _ _ _ same (Appends-none _ _)

pub overflow_cast-word : goal.overflow_cast-word
overflow_cast-word c =
    let within = (shifted (goal.at.overflow_cast-word c).After-from).within in
    omega (arith, (top_word _ _ c.if-count-lt32.false (omega arith) within).small)

pub overflow_cast-word-2 : goal.overflow_cast-word-2
overflow_cast-word-2 c =
    let within = (shifted (goal.at.overflow_cast-word-2 c).After-from).within in
    omega (arith, (top_word _ _ c.if-count-lt32.false (omega arith) within).small)

pub invariant_of-result-2 : goal.invariant_of-result-2
invariant_of-result-2 c =
    let within = (shifted (goal.at.invariant_of-result-2 c).After-from).within in
    let top = top_word _ _ c.if-count-lt32.false (omega arith) within in
    record { few = omega arith; within = top.within }

pub returns-clause-ok : goal.returns-clause-ok
returns-clause-ok c =
    let bits = shifted (goal.at.returns-clause-ok c).After-from in
    let top = top_word _ _ c.if-count-lt32.false (omega arith) bits.within in
    let appended = c.in_ok-extend_from_slice.ensures.items
    ∙ ap (λ (xs : List ℕ). c.args.out.now.items ++ xs) c.to_be_bytes.ensures in
    Appends-same _ _ _ _ _ bits.same (Appends-word _ _ _ _ _ top.same appended)
