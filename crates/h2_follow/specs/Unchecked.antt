-- Where a side is no longer checked in whole: the SETTINGS of the other allow it a greater table than
-- is kept, or longer frames than are taken, so that a fault of it may be none.
-- contract: h2_follow::follow_input
use Rattle.std.specs.Prelude.{ℕ, nat_lt, not, ◌&&◌, ◌||◌, Bool, if◌then◌else◌, List, [], codes}
use Rattle.h2_show.specs.Blocks.{show_table_limit}
use Rattle.h2_follow.specs.InForce.{Bound, frame_bound, table_bound}

-- whether a side may use a greater table than is kept, of 65,536 octets, or send longer frames than
-- are taken, of 1,048,576
-- rule: follow (own) Where SETTINGS allow a side more than is read, a line says so once
abbrev pub allows_unread : Bound → Bool
allows_unread bound =
    nat_lt 1048576 (frame_bound 0 bound) || nat_lt show_table_limit (table_bound bound)

-- the line that says so, once; `noted` says that it was printed before
-- rule: follow (own) Where SETTINGS allow a side more than is read, a line says so once
abbrev pub unchecked_line : (noted : Bool) → Bound → List ℕ
unchecked_line noted bound =
    if not noted && allows_unread bound then codes "not checked\n" else []

-- whether it was printed by then
abbrev pub noted_with : (noted : Bool) → Bound → Bool
noted_with noted bound = noted || allows_unread bound
