-- The size of a window, as words write it.
use Rattle.std.specs.Prelude.{◌≡◌, ◌==◌, ◌*◌, ◌-◌, ◌&&◌, ℕ, nat_le, if◌then◌else◌, List, length}
use Rattle.std.specs.Prelude.{take, slice_index, Option, Some, None, option_and_then}
use Rattle.h2_files.specs.Ranges.{number_of_digits}

-- what a last octet multiplies by: `k` by 1,024, `m` by 1,048,576
-- rule: engines (own) The size of --window is a number of octets, with k or m for more
abbrev pub unit_after : (last : ℕ) → ℕ
unit_after last = if last == 107 then 1024 else if last == 109 then 1048576 else 1

abbrev pub unit_of : (text : List ℕ) → ℕ
unit_of text = unit_after (slice_index text (length text - 1))

-- the digits before the letter, if there is one
abbrev pub digits_of : (text : List ℕ) → List ℕ
digits_of text = if unit_of text == 1 then text else take (length text - 1) text

-- so many times this many octets, if that is a window: from 1 to 2^31 - 1 (RFC 9113, section 6.9.1)
-- rule: engines (own) The size of --window is a number of octets, with k or m for more
unfoldable pub window_times : (number unit : ℕ) → Option ℕ
window_times number unit =
    if nat_le 1 (number * unit) && nat_le (number * unit) 2147483647
    then Some (number * unit)
    else None

-- the size that a text writes
-- rule: engines (own) The size of --window is a number of octets, with k or m for more
unfoldable pub window_size : (text : List ℕ) → Option ℕ
window_size text = option_and_then (λ number. window_times number (unit_of text))
    (number_of_digits (digits_of text))

-- the size that is asked for: the usual one, where no text is given
-- rule: engines (own) The size of --window is a number of octets, with k or m for more
abbrev pub window_or : (text : Option (List ℕ)) → (usual : ℕ) → Option ℕ
window_or (Some text) usual = window_size text
window_or None usual = Some usual
