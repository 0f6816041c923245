-- How much driving is left between two ends: what waits, what is under way, and credit that is not
-- returned (RFC 9113, sections 6.5, 6.7 and 6.9).
use Rattle.std.specs.Prelude.{ℕ, ◌+◌, ◌*◌, ◌-◌, if◌then◌else◌, length}
use Rattle.h2_block.specs.Grouping.{Item}
use Rattle.h2_spec_log.specs.Items.{data_of, one_ping, total, greatest_block}
use Rattle.h2_spec_log.specs.Settings.{one_settings}
use Rattle.h2_spec_log.specs.States.{openings}
use Rattle.h2_spec_log.specs.Log.{Log, active, owed}
use Rattle.h2_laws_log.specs.Sums.{sum_below}
use Rattle.h2_ends.specs.Ends.{EndLog, tokens_waiting}

-- 1 for SETTINGS or PING without ACK, which is to be answered (sections 6.5.3 and 6.7)
abbrev pub one_to_answer : Item → ℕ
one_to_answer item = one_settings item + one_ping item

-- what an item counts that is under way: 1, and 1 more where it is to be answered, and 2 more for
-- each octet that it takes of the windows
abbrev pub work_of_item : Item → ℕ
work_of_item item = 1 + (one_to_answer item + 2 * data_of item)

-- what is under way counts: all that the writer has sent, without what the reader has received,
-- which is the first of it (`items_are_carried`)
abbrev pub work_under_way : (writer reader : Log) → ℕ
work_under_way writer reader =
    total work_of_item writer.sent - total work_of_item reader.received

-- a number above those of all streams that an end has used
abbrev pub above_streams : Log → ℕ
above_streams log = greatest_block (openings log.role log.received log.sent) + 1

-- credit that an end has not returned: what is owed on its streams, and what is unreturned
abbrev pub credit_left : Log → ℕ
credit_left log = sum_below (above_streams log) (owed log) + log.unreturned

-- how many tokens wait on a stream; none on one that is not active
unfoldable pub tokens_on : EndLog → ℕ → ℕ
tokens_on end i = if active end.log i then length (tokens_waiting end i) else 0

-- how many wait at an end
abbrev pub tokens_left : EndLog → ℕ
tokens_left end = sum_below (above_streams end.log) (tokens_on end)

-- the work that is left at two ends: 3 for each token that waits, 2 for each octet of credit that
-- is not returned, and what is under way. An octet that waits counts as much as DATA of its own
-- that has it; DATA counts more than the credit that comes of it; and credit no less than the
-- WINDOW_UPDATEs that return it.
-- rule (law): joined (own) Two ends that are driven get quiet, and all that was accepted arrives
abbrev pub work_left : (one other : EndLog) → ℕ
work_left one other =
    (3 * tokens_left one + (2 * credit_left one.log + work_under_way one.log other.log))
    + (3 * tokens_left other + (2 * credit_left other.log + work_under_way other.log one.log))
