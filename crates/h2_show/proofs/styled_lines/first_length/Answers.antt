-- The first space ends the first word.
use Rattle.h2_show.proofs.Names.{ℕ, ap, length, Option}
use Rattle.std.specs.Prelude.{unwrap_or}
use Rattle.h2_show.proofs.styled_lines.first_length.Goals as goal

pub returns-in-Some-clause-value : goal.returns-in-Some-clause-value
returns-in-Some-clause-value c =
    ap (λ (found : Option ℕ). unwrap_or found (length c.args.words.now)) c.in-Some.ensures

pub returns-in-None-clause-value : goal.returns-in-None-clause-value
returns-in-None-clause-value c =
    ap (λ (found : Option ℕ). unwrap_or found (length c.args.words.now)) c.in-None.ensures
