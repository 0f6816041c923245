-- What the words give where a parse succeeds.
use Rattle.h2_args.proofs.Names.{◌≡◌, ◌∙◌, true, sym, ap, List, [], Some, None, App, Row, Text}
use Rattle.h2_args.proofs.Names.{app_of, fault_of, found_of, is_simple_and_free, rows_of, is_empty}
use Rattle.h2_args.proofs.Names.{Command, ArgMatches}
use Rattle.std.specs.Prelude.{if◌then◌else◌}
use Rattle.clap.specs.Words.{HasMatchesOf, Kinds, is_simple, matches_of}
use Rattle.h2_args.specs.Words.{given_by}

-- At an `Ok` the words give what the matches found say.
pub given_by-Ok : {T : Type 0} (a : App) (read : List Row → T) (words : List Text) (c : Command)
    (m : ArgMatches) → app_of c ≡ a → is_simple a ≡ true → is_simple_and_free a ≡ true
    → HasMatchesOf (app_of c) words m
    → (is_simple_and_free (app_of c) ≡ true → fault_of (app_of c) words ≡ [])
    → given_by a read words ≡ Some (read (rows_of (found_of m)))
given_by-Ok {T} a read words c m e simple free matches faults =
    let none : fault_of a words ≡ [] =
    ap (λ (x : App). fault_of x words) (sym e) ∙ faults (ap is_simple_and_free e ∙ free) in
    let rows : matches_of a words ≡ rows_of (found_of m) =
    ap (λ (x : App). matches_of x words) (sym e) ∙ sym (matches (ap is_simple e ∙ simple)).0 in
    ap (λ (kinds : Kinds). if is_empty kinds then Some (read (matches_of a words)) else None) none
    ∙ ap (λ (found : List Row). Some (read found)) rows
