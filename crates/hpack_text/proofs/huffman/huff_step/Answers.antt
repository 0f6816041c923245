use Rattle.hpack_text.proofs.Names.{◌≡◌, ℕ, ◌++◌, ap₂, subst, sym, ◌∙◌, code, prefix_of, stepped}
use Rattle.hpack_text.proofs.StateLemmas.{no_end_within, no_end_at_symbol}
use Rattle.hpack_text.proofs.huffman.huff_step.Goals as goal

pub returns-then-step-lt-HAS_SYMBOL : goal.returns-then-step-lt-HAS_SYMBOL
returns-then-step-lt-HAS_SYMBOL c =
    let next = c.next_state-next.result in
    let bit_list = stepped c.args.state c.args.half in
    let e : bit_list ≡ prefix_of next =
    subst (λ n. stepped c.args.state c.args.half ≡ prefix_of n) (sym c.next_state-next.ensures)
    (c.step_at-step.ensures.within c.if-step-lt-HAS_SYMBOL.true) in
    (e, no_end_within next bit_list c.next_state-next.type_inv e)

pub returns : goal.returns
returns c =
    let next = c.next_state-next.result in
    let symbol = c.symbol_of.result in
    let bit_list = stepped c.args.state c.args.half in
    let e : bit_list ≡ code symbol ++ prefix_of next =
    c.step_at-step.ensures.symbol c.if-step-lt-HAS_SYMBOL.false c.if-step-ge-END.false
    ∙ ap₂ (λ (s : ℕ) (n : ℕ). code s ++ prefix_of n) (sym c.symbol_of.ensures)
    (sym c.next_state-next.ensures) in
    (e, no_end_at_symbol symbol next bit_list c.symbol_of.type_inv e)
