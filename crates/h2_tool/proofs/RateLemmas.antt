-- What `{:06}` writes.
use Rattle.std.proofs.Common.{◌≡◌, ◌∙◌, ◌++◌, ◌-◌, ℕ, [], List, ap, arith, append-nil, false}
use Rattle.std.proofs.Common.{length}
use Rattle.std.proofs.Common.{Err, Ok, OnOk, Option, Result}
use Rattle.std.proofs.KnownBytes.{Appends-trans}
use Rattle.std.specs.Io.KnownBytes.{Appends}
use Rattle.std.specs.Prelude.{replicate}
use Rattle.std.specs.Fmt.{char_count, format_spec, padded_integral}

-- zeros before the digits
pub padded_six : (numeral : List ℕ)
    → padded_integral (format_spec 32 0 4 6 18446744073709551615) false [] numeral
    ≡ replicate (6 - length numeral) 48 ++ numeral
unfolding padded_integral char_count
padded_six numeral =
    let short : 6 - length numeral - 0 - 0 ≡ 6 - length numeral = omega arith in
    ap (λ (count : ℕ). replicate count 48 ++ (numeral ++ [])) short
    ∙ ap (λ (rest : List ℕ). replicate (6 - length numeral) 48 ++ rest) (append-nil numeral)

-- three texts were written one after another
pub three_written : {E : Type 0} (result : Result (Unit {0}) E)
    (start one two ended : Option (List ℕ)) (first second third : List ℕ)
    → Appends start one first → Appends one two second → OnOk result (Appends two ended third)
    → OnOk result (Appends start ended ((first ++ second) ++ third))
three_written (Err error) start one two ended first second third a b told = tt
three_written (Ok ok) start one two ended first second third a b told =
    Appends-trans start two ended (first ++ second) third
    (Appends-trans start one two first second a b) told
