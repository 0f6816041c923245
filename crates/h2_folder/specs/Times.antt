-- The dates of an answer (RFC 9110, sections 6.6.1 and 8.8.2).
use Rattle.std.specs.Prelude.{◌≡◌, ◌≢◌, ◌⊎◌, ◌==◌, ℕ, min, List, Option, None, if◌then◌else◌}
use Rattle.h2_files.specs.Dates.{IsLastModified}

-- A text is the date of the second in which an answer is made; there is none where that second is
-- not known, as 0, nor from the year 10000 on.
abbrev pub IsDateOf : (now : ℕ) → Option (List ℕ) → Type 0
IsDateOf now date = ((now ≡ 0) × (date ≡ None)) ⊎ ((now ≢ 0) × IsLastModified now date)

-- The second that `last-modified` states: the one in which the file was modified, and never one
-- later than that of `date` (8.8.2.1).
-- rule: HTTP 8.8.2.1 `last-modified` is never later than `date`
abbrev pub stated_second : (modified now : ℕ) → ℕ
stated_second modified now = if now == 0 then modified else min modified now
