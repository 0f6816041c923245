-- When credit is returned.
use Rattle.std.specs.Prelude.{◌&&◌, ◌||◌, Bool, ℤ, pos, int_le, int_lt, ◌+ℤ◌}
use Rattle.h2_spec_log.specs.Windows.{first_window}

-- Whether credit for so many octets is due in a window of which so many are left: once it is as much
-- as is left, half of the window, and in a window below 65,535 octets always (own; RFC 9113,
-- section 6.9, leaves it to the receiver).
-- rule: 6.9 (own) Credit is returned by half of a window
abbrev pub is_credit_due : (used left : ℤ) → Bool
is_credit_due used left =
    int_lt (pos 0) used && (int_le left used || int_lt (left +ℤ used) (pos first_window))
