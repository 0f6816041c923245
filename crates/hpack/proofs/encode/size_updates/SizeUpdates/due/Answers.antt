use Rattle.hpack.proofs.Names.{◌∙◌, ℕ, [], ◌∷◌, sym, ap, arith}
use Rattle.hpack.proofs.ChoiceLemmas.{updates_fell, updates_changed, updates_rose, updates_not_due}
use Rattle.hpack.proofs.encode.size_updates.SizeUpdates.due.Goals as goal

pub returns-then-limit-least-clause-due : goal.returns-then-limit-least-clause-due
returns-then-limit-least-clause-due c = λ state maximum least limit.
    ap (λ (n : ℕ). n ∷ []) (sym least)
    ∙ updates_fell state (omega (arith, maximum, least, c.if-least-maximum.true))
    (limit ∙ (c.if-limit-least.true ∙ sym least))

pub returns-then-least-maximum-clause-due : goal.returns-then-least-maximum-clause-due
returns-then-least-maximum-clause-due c = λ state maximum least limit.
    ap (λ (n : ℕ). n ∷ c.args.limit ∷ []) (sym least)
    ∙ (ap (λ (n : ℕ). state.least ∷ n ∷ []) (sym limit)
    ∙ updates_changed state (omega (arith, maximum, least, c.if-least-maximum.true))
    (λ e. c.if-limit-least.false (sym limit ∙ (e ∙ least))))

pub returns-then-maximum-limit-clause-due : goal.returns-then-maximum-limit-clause-due
returns-then-maximum-limit-clause-due c = λ state maximum least limit.
    ap (λ (n : ℕ). n ∷ []) (sym limit)
    ∙ updates_rose state (omega (arith, maximum, least, c.if-least-maximum.false))
    (omega (arith, maximum, limit, c.if-maximum-limit.true))

pub returns-clause-due : goal.returns-clause-due
returns-clause-due c = λ state maximum least limit.
    updates_not_due state (omega (arith, maximum, least, c.if-least-maximum.false))
    (omega (arith, maximum, limit, c.if-maximum-limit.false))
