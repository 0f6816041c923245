-- The line of `h2 loop --each-way`: megabytes, and seconds.
use Rattle.std.specs.Prelude.{ℕ, ◌-◌, ◌/◌, ◌%◌, List, ◌++◌, codes, decimal, length, replicate}

-- a number in six digits, or in more where it needs them
-- rule: engines (own) With --each-way loop says how many megabytes went, and in what time
abbrev pub six_digits : ℕ → List ℕ
six_digits number = replicate (6 - length (decimal number)) 48 ++ decimal number

-- a number of millionths in units, with six digits after the point
-- rule: engines (own) With --each-way loop says how many megabytes went, and in what time
abbrev pub units_of_millionths : ℕ → List ℕ
units_of_millionths number =
    decimal (number / 1000000) ++ codes "." ++ six_digits (number % 1000000)

-- a number of millionths in units, and what follows
-- rule: engines (own) With --each-way loop says how many megabytes went, and in what time
abbrev pub units_and : ℕ → (unit : List ℕ) → List ℕ
units_and number unit = units_of_millionths number ++ unit

-- the line of so many octets posted, and so many got, in so many microseconds
-- rule: engines (own) With --each-way loop says how many megabytes went, and in what time
abbrev pub rates_line : (posted got micros : ℕ) → List ℕ
rates_line posted got micros = units_and posted (codes " MB posted, ")
    ++ units_and got (codes " MB got, ") ++ units_and micros (codes " s\n")
