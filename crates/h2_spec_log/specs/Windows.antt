-- The windows of streams and of the connection, in both directions (RFC 9113, sections 6.9.1 and
-- 6.9.2). A stream's window may be negative, since settings lower it.
use Rattle.std.specs.Prelude.{ℕ, ◌+◌, ◌-◌, ◌^◌, nat_lt, ◌&&◌, Bool, ℤ, pos, ◌-ℤ◌, List}
use Rattle.h2_block.specs.Grouping.{Item}
use Rattle.h2_spec_log.specs.Items.{data_on, data_of, increment_on, total}
use Rattle.h2_spec_log.specs.Settings.{value_read, own_value}

-- the window of the connection at first, and of a stream before any SETTINGS
-- rule: 6.9.2 A new stream has its initial windows
abbrev pub first_window : ℕ
first_window = 65535

-- the greatest window
-- rule: 6.9.1 (own) h2_flow: a window gives as many octets as it has
abbrev pub greatest_window : ℕ
greatest_window = 2 ^ 31 - 1

-- what this end was given to send on a stream: the initial window that was read last, and the
-- increments
-- rule: 6.9.2 INITIAL_WINDOW_SIZE shifts the window of each stream
unfoldable pub given_on : ℕ → List Item → ℕ
given_on i received = value_read 4 first_window received + total (increment_on i) received

-- what this end was given to send on the connection
unfoldable pub given_on_connection : List Item → ℕ
given_on_connection received = first_window + total (increment_on 0) received

-- what this end gave the peer to send on a stream, `count` of its SETTINGS having been acknowledged
-- rule: 6.9.2 INITIAL_WINDOW_SIZE shifts the window of each stream
unfoldable pub granted_on : ℕ → ℕ → List Item → ℕ
granted_on i count sent = own_value 4 first_window count sent + total (increment_on i) sent

-- what this end gave the peer to send on the connection
unfoldable pub granted_on_connection : List Item → ℕ
granted_on_connection sent = first_window + total (increment_on 0) sent

-- a window: what was given, less what was taken
abbrev pub window : ℕ → ℕ → ℤ
window given consumed = pos given -ℤ pos consumed

-- how much this end may send on a stream
-- rule: 6.9.2 INITIAL_WINDOW_SIZE shifts the window of each stream
abbrev pub send_window_of : ℕ → List Item → List Item → ℤ
send_window_of i received sent = window (given_on i received) (total (data_on i) sent)

-- how much this end may send on the connection
abbrev pub connection_send_window : List Item → List Item → ℤ
connection_send_window received sent = window (given_on_connection received) (total data_of sent)

-- how much the peer may send on a stream, `count` of the own SETTINGS having been acknowledged
-- rule: 6.9.1 DATA above its stream's window is FLOW_CONTROL_ERROR (scope: own)
abbrev pub recv_window_of : ℕ → ℕ → List Item → List Item → ℤ
recv_window_of i count received sent = window (granted_on i count sent) (total (data_on i) received)

-- how much the peer may send on the connection
-- rule: 6.9.1 DATA above the connection's window is FLOW_CONTROL_ERROR
abbrev pub connection_recv_window : List Item → List Item → ℤ
connection_recv_window received sent = window (granted_on_connection sent) (total data_of received)

-- Whether so many octets more, after those that were taken, pass what was given. DATA of no octets
-- passes no window.
abbrev pub passes : ℕ → ℕ → ℕ → Bool
passes count given consumed = nat_lt 0 count && nat_lt given (consumed + count)

-- Whether a window is above the greatest, where so much was given and taken.
-- rule: 6.9.2 A shift of a window above 2^31-1 is FLOW_CONTROL_ERROR
abbrev pub is_above_greatest : ℕ → ℕ → Bool
is_above_greatest given consumed = nat_lt (greatest_window + consumed) given
