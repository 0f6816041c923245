use Rattle.hpack_text.proofs.Names.{◌≡◌, ℕ, ◌+◌, ◌*◌, ap₂, get_or, subst, sym, arith, IsHalfStep}
use Rattle.hpack_text.specs.declared.huffman.steps.TheConstants.{STEPS}
use Rattle.hpack_text.proofs.StateLemmas.{table_step}
use Rattle.hpack_text.proofs.huffman.steps.step_at.Goals as goal

pub returns : goal.returns
returns c =
    let place : c.args.state * 16 + c.args.half ≡ c.from.result * 16 + c.from-2.result =
    ap₂ (λ (s : ℕ) (h : ℕ). s * 16 + h) (sym c.from.ensures) (sym c.from-2.ensures) in
    subst (λ m. IsHalfStep c.args.state c.args.half (get_or STEPS m 0)) place
    (table_step c.args.state c.args.half (omega arith) c.requires)
