-- The date of a file (RFC 9110, sections 5.6.7 and 8.8.2).
use Rattle.std.specs.Prelude.{◌≡◌, ◌≤◌, ℕ, List, Option, MatchOption}
use Rattle.httpdate.specs.Date.{date_text, unix_secs}
use Rattle.httpdate.specs.declared.date.HttpDate.{HttpDate}

-- A text is the date of a second, in the form that is sent (5.6.7), and there is none from the
-- year 10000 on.
abbrev pub IsLastModified : (modified : ℕ) → Option (List ℕ) → Type 0
IsLastModified modified text =
    MatchOption text (253_402_300_800 ≤ modified)
    (λ octets. (date : HttpDate) × (unix_secs date ≡ modified) × (octets ≡ date_text date))
