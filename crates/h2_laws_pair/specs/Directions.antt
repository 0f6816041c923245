-- One direction between two ends: what one has sent and the other has received.
use Rattle.std.specs.Prelude.{◌≡◌, ◌≢◌, ℕ, ◌+◌, ◌<◌, true, false, List, [], ◌++◌, pos, ◌+ℤ◌, None}
use Rattle.std.specs.List.{list_any}
use Rattle.h2_block.specs.Grouping.{Item}
use Rattle.h2_spec_log.specs.Items.{data_on, data_of, ends, increment_on, total, greatest_block}
use Rattle.h2_spec_log.specs.Log.{Log, state, active, owed, granted, send_window}
use Rattle.h2_spec_log.specs.States.{ClosedByUs, openings}
use Rattle.h2_spec_log.specs.Settings.{value_read}
use Rattle.h2_spec_log.specs.Windows.{first_window, connection_send_window}
use Rattle.h2_laws_log.specs.Sums.{sum_below}
use Rattle.h2_laws_pair.specs.Pairs.{Half, given_out}

-- The octets that came in, those that were lost, and those on the pipe are, in order, those that
-- the other end gave out. None is lost as long as the reader hasn't failed.
pub record CarriesOctets (writer reader : Half) : Type 0 where
  pub carried : reader.log.input ++ (reader.lost ++ reader.incoming) ≡ given_out writer.log
  pub none_lost : reader.log.failed ≡ None → reader.lost ≡ []

-- Items under way, newest first: those that one end has sent and the other hasn't received.
abbrev pub AreUnderWay : (writer reader : Log) (way : List Item) → Type 0
AreUnderWay writer reader way = writer.sent ≡ way ++ reader.received

-- The connection's window (RFC 9113, section 6.9): what the writer may send, DATA under way, the
-- increments that come back, what the reader owes on its streams (of numbers below a bound), and
-- what is unreturned there, are 65,535 octets and what the reader widened it by.
-- rule (law): joined (own) The header tables of joined ends agree, no window is lost
abbrev pub ConservesConnection : (writer reader : Log) (way back : List Item) (bound : ℕ) → Type 0
ConservesConnection writer reader way back bound =
    (connection_send_window writer.received writer.sent +ℤ pos (total data_of way))
    +ℤ pos (total (increment_on 0) back + (sum_below bound (owed reader) + reader.unreturned))
    ≡ pos (granted reader)

-- The numbers of all streams of an end are below the bound.
abbrev pub BoundsStreams : Log → ℕ → Type 0
BoundsStreams log bound = greatest_block (openings log.role log.received log.sent) < bound

-- A stream that is active at the writer, that the reader hasn't closed by itself, and of which it
-- hasn't read the end.
pub record IsCarried (writer reader : Log) (i : ℕ) : Type 0 where
  pub active : active writer i ≡ true
  pub stays : state reader i ≢ ClosedByUs
  pub goes_on : list_any (ends i) reader.received ≡ false

-- A stream's window: what the writer may send on it, its DATA under way, the increments that come
-- back, and what the reader owes, are the initial window that the writer has received last.
-- rule (law): joined (own) The header tables of joined ends agree, no window is lost
abbrev pub ConservesStream : (writer reader : Log) (way back : List Item) (i : ℕ) → Type 0
ConservesStream writer reader way back i =
    (send_window writer i +ℤ pos (total (data_on i) way))
    +ℤ pos (total (increment_on i) back + owed reader i)
    ≡ pos (value_read 4 first_window writer.received)
