use Rattle.hpack_text.proofs.Names.{ap, ◌∙◌, ◌++◌, List, ℕ, err_from_is_err_and}
use Rattle.hpack_text.proofs.StringLemmas.{only_memory, only_one_str}
use Rattle.hpack_text.proofs.strings.read_string.Goals as goal

pub returns-in_err-count-clause-only : goal.returns-in_err-count-clause-only
returns-in_err-count-clause-only c = λ text count within encoded.
    let p = err_from_is_err_and c.from_residual.result c.from_residual.ensures.1 in
    rw (p.1, p.2) (only_memory c.args.octets.now text count _ encoded c.in_err-count.ensures.answer)

pub returns-clause-only : goal.returns-clause-only
returns-clause-only c = λ text count within encoded.
    let read = c.in_ok-count.ensures.answer in
    let (texts, counts) = only_one_str c.args.octets.now text read.0 count c.in_ok-count.count
    (read.2, read.3) within encoded in
    (read.1 ∙ (ap (λ (xs : List ℕ). xs ++ read.0) c.new-text.ensures.items ∙ texts), counts)
