-- The phase after parts, step by step.
use Rattle.h2_message.proofs.Names.{◌≡◌, ℕ, ◌<◌, ◌≤◌, Bool, true, false, List, [], ◌∷◌, ◌++◌}
use Rattle.h2_message.proofs.Names.{Option, None, Some, refl, sym, ap, ◌∙◌, arith, unwrap_or}
use Rattle.h2_message.proofs.Names.{lt-ltb, le-ltb, Reads, Phase, Part, is_short, phase_after}
use Rattle.h2_message.proofs.Names.{phase_after_all}

-- After a part that is not taken nothing is.
pub after_none : (reads : Reads) (parts : List (Part × Bool))
    → phase_after_all reads None parts ≡ None
unfolding phase_after_all
after_none reads [] = refl
after_none reads (part ∷ parts) = refl

-- The parts that follow are taken from the phase after those before.
pub after_both : (reads : Reads) (phase : Option Phase) (parts more : List (Part × Bool))
    → phase_after_all reads phase (parts ++ more)
    ≡ phase_after_all reads (phase_after_all reads phase parts) more
unfolding phase_after_all
after_both reads None parts more =
    after_none reads (parts ++ more) ∙ sym (after_none reads more)
    ∙ ap (λ (phase : Option Phase). phase_after_all reads phase more) (sym (after_none reads parts))
after_both reads (Some phase) [] more = refl
after_both reads (Some phase) (part ∷ parts) more =
    after_both reads (phase_after reads phase part) parts more

-- Whether octets are still to come, by how many are.
pub is_short_above : (left : Option ℕ) → 0 < unwrap_or left 0 → is_short left ≡ true
unfolding is_short
is_short_above None more = absurd (omega arith)
is_short_above (Some number) more = lt-ltb 0 number more

pub not_short_at : (left : Option ℕ) → unwrap_or left 0 ≤ 0 → is_short left ≡ false
unfolding is_short
not_short_at None none = refl
not_short_at (Some number) none = le-ltb 0 number none
