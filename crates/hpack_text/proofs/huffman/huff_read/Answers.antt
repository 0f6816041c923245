use Rattle.hpack_text.proofs.Names.{ap, ◌∙◌, ◌++◌, List, ℕ, err_from_is_err_and}
use Rattle.hpack_text.proofs.CodeLemmas.{one_text_lem, only_huff_memory}
use Rattle.hpack_text.proofs.huffman.huff_read.Goals as goal

pub returns-in_err-append_text-clause-only : goal.returns-in_err-append_text-clause-only
returns-in_err-append_text-clause-only c = λ text encoded.
    let p = err_from_is_err_and c.from_residual.result c.from_residual.ensures.1 in
    rw (p.1, p.2) (only_huff_memory c.args.octets.now text _ encoded
    c.in_err-append_text.ensures.answer)

pub returns-clause-only : goal.returns-clause-only
returns-clause-only c = λ text encoded.
    let read = c.in_ok-append_text.ensures.answer in
    read.1 ∙ (ap (λ (xs : List ℕ). xs ++ read.0) c.new-text.ensures.items
    ∙ one_text_lem read.0 text c.args.octets.now read.2 encoded)
