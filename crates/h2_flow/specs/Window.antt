-- In which range a window is.
use Rattle.std.specs.Prelude.{◌^◌, ◌||◌, Bool, ℤ, pos, int_lt, ◌-ℤ◌}
use Rattle.h2_spec_log.specs.Windows.{greatest_window}

-- Whether a window is above 2^31 - 1 (RFC 9113, section 6.9.1), or below -2^31: initial windows are
-- at most 2^31 - 1, so that no settings shift one of them below that (section 6.9.2).
-- rule: 6.9.1 (own) h2_flow: a window is filled up to 2^31-1
-- rule: 6.9.2 (own) h2_flow: a window may be negative, and is shifted
-- rule: 6.9.2 (own) h2_flow: a shift above 2^31-1 is refused
-- rule: 6.9.2 (own) h2_flow: a shift below -2^31 is refused
abbrev pub is_out_of_range : ℤ → Bool
is_out_of_range window = int_lt (pos greatest_window) window || int_lt window (pos 0 -ℤ pos (2
    ^ 31))
