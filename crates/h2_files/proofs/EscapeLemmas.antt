-- Escapes, one octet after another.
use Rattle.std.proofs.Common.{◌≡◌, ◌≢◌, ℕ, zero, suc, ◌<◌, ◌-◌, ◌∷◌, true, false, List, refl}
use Rattle.std.proofs.Common.{arith, eqb, ap}
use Rattle.std.proofs.lemmas.Bool.{eqb-true, false_from_ne_true}
use Rattle.std.specs.Char.{is_ascii_hexdigit}
use Rattle.h2_files.specs.Paths.{are_escapes}

-- A digit that is due.
pub digit_due : (due octet : ℕ) (rest : List ℕ) → 0 < due → is_ascii_hexdigit octet ≡ true
    → are_escapes due (octet ∷ rest) ≡ are_escapes (due - 1) rest
digit_due zero octet rest some digit = absurd (omega arith)
digit_due (suc due) octet rest some digit =
    let same : due ≡ suc due - 1 = omega arith in rw digit (ap (λ n. are_escapes n rest) same)

-- A `%` where no digit is due, and another octet.
pub percent : (octet : ℕ) (rest : List ℕ) → octet ≡ 37
    → are_escapes 0 (octet ∷ rest) ≡ are_escapes 2 rest
percent octet rest is = rw is refl

pub no_percent : (octet : ℕ) (rest : List ℕ) → octet ≢ 37
    → are_escapes 0 (octet ∷ rest) ≡ are_escapes 0 rest
no_percent octet rest other =
    let fails : eqb octet 37 ≡ false =
    false_from_ne_true _ (λ same. other (eqb-true octet 37 same)) in
    rw fails refl
