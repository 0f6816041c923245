-- Texts of digits, and the numbers that they write.
use Rattle.std.proofs.Common.{◌≡◌, ℕ, zero, suc, ◌<◌, ◌^◌, ◌&&◌, List, [], ◌∷◌, Bool, true, false}
use Rattle.std.proofs.Common.{rules, arith, Some, None, length, Result, Ok, Err, refl, sym}
use Rattle.std.proofs.Common.{IsUtf8, if◌then◌else◌, ap, get_or}
use Rattle.std.proofs.lemmas.Bool.{lt-ltb}
use Rattle.std.proofs.lemmas.Str.{IsUtf8-from_ascii}
use Rattle.std.proofs.lemmas.Str.Parse.{IsNumeralModel, numerals_by_value}
use borrow.Author.Tests.{ltb-true, tests}
use Rattle.std.specs.Char.{is_ascii_digit}
use Rattle.std.specs.List.{list_all}
use Rattle.std.specs.Result.{OkIff, result_ok}
use Rattle.std.specs.Str.Parse.{digits_value}
use Rattle.h2_files.specs.Ranges.{number_of_digits}

-- Digits alone are what the test passes.
pub digits_are : IsNumeralModel (λ ds. list_all is_ascii_digit ds ≡ true) (digits_value 10)
digits_are = numerals_by_value _ (search rules)

-- Digits are ASCII.
are_ascii : (ds : List ℕ) → list_all is_ascii_digit ds ≡ true → (i : ℕ) → get_or ds i 0 < 128
are_ascii [] all i = omega arith
are_ascii (d ∷ ds) all zero = search (rules, tests)
are_ascii (d ∷ ds) all (suc i) = are_ascii ds (search (rules, tests)) i

-- Digits are UTF-8.
pub are_text : (ds : List ℕ) → list_all is_ascii_digit ds ≡ true → IsUtf8 ds
are_text ds all = IsUtf8-from_ascii ds (are_ascii ds all)

-- What is not of digits alone writes no number.
pub no_digits : (ds : List ℕ) → list_all is_ascii_digit ds ≡ false → number_of_digits ds ≡ None
unfolding number_of_digits
no_digits ds other = rw other refl

-- one of two tests fails
both : (one two : Bool) (v : ℕ) → (one ≡ true → two ≡ true → ⊥)
    → (if one && two then Some v else None) ≡ None
both true true v never = absurd (never refl refl)
both true false v never = refl
both false two v never = refl

-- What `parse` reads of digits is the number that they write.
pub number_from : {E : Type 0} (ds : List ℕ) (r : Result ℕ E) → list_all is_ascii_digit ds ≡ true
    → OkIff r ((0 < length ds) × (digits_value 10 ds < 2 ^ 64)) (digits_value 10 ds)
    → result_ok r ≡ number_of_digits ds
unfolding number_of_digits
number_from ds (Ok x) all (within, is) =
    rw (all, lt-ltb 0 (length ds) within.0, lt-ltb (digits_value 10 ds) (2 ^ 64) within.1)
    (ap Some is)
number_from ds (Err e) all none =
    rw all (sym (both _ _ _ (λ some small. none (ltb-true _ _ some, ltb-true _ _ small))))
