-- Windows of two ends: what is under way is what the totals of the two ends differ by.
use Rattle.h2_spec_log.specs.Windows.{window, send_window_of, recv_window_of}
use Rattle.h2_spec_log.specs.Windows.{connection_recv_window}
use Rattle.h2_laws_log.proofs.Names
use Names.{ap, ints, Item, data_on, data_of, increment_on, total, value_read, own_value, ◌≡◌, ℕ}
use Names.{◌+◌, List, [], ◌∷◌, ◌++◌, pos, ◌+ℤ◌, ◌-ℤ◌, ◌∙◌, arith, first_window, given_on}
use Names.{given_on_connection, granted_on, granted_on_connection, connection_send_window, rules}

-- the sum over two lists, one after the other
pub total-append : (f : Item → ℕ) (xs ys : List Item) → total f (xs ++ ys) ≡ total f xs + total f ys
unfolding total
total-append f [] ys = omega arith
total-append f (x ∷ xs) ys = omega (arith, total-append f xs ys)

-- What was given less what was taken, with what is under way, is what was granted less what has
-- come.
meets : (given last_processed way back granted come : ℕ) → last_processed ≡ way + come → granted
    ≡ back + given
    → ((pos given -ℤ pos last_processed) +ℤ pos way) +ℤ pos back ≡ pos granted -ℤ pos come
meets given last_processed way back granted come sent_data gave = omega (arith, ints)

-- the window of the connection at both ends
pub connection_meets : (received sent other_received other_sent way back : List Item) → sent
    ≡ way ++ other_received → other_sent ≡ back ++ received
    → (connection_send_window received sent +ℤ pos (total data_of way)) +ℤ pos (total
    (increment_on 0) back) ≡ connection_recv_window other_received other_sent
unfolding given_on_connection granted_on_connection
connection_meets received sent other_received other_sent way back sent_data gave =
    search (rules, total-append, meets)

-- a stream's window at both ends, by the initial window that was read last
pub stream_meets_read : (i : ℕ) (received sent other_received other_sent way back : List Item)
    → sent ≡ way ++ other_received → other_sent ≡ back ++ received
    → (send_window_of i received sent +ℤ pos (total (data_on i) way)) +ℤ pos (total
    (increment_on i) back)
    ≡ window (value_read 4 first_window received + total (increment_on i) other_sent) (total
    (data_on i) other_received)
unfolding given_on
stream_meets_read i received sent other_received other_sent way back sent_data gave =
    search (rules, total-append, meets)

-- the same, by the initial window that was sent
pub stream_meets : (i count : ℕ) (received sent other_received other_sent way back : List Item)
    → sent ≡ way ++ other_received → other_sent ≡ back ++ received
    → value_read 4 first_window received ≡ own_value 4 first_window count other_sent
    → (send_window_of i received sent +ℤ pos (total (data_on i) way)) +ℤ pos (total
    (increment_on i) back) ≡ recv_window_of i count other_received other_sent
unfolding granted_on
stream_meets i count received sent other_received other_sent way back sent_data gave same =
    stream_meets_read i received sent other_received other_sent way back sent_data gave
    ∙ ap (λ (first : ℕ). window (first + total (increment_on i) other_sent)
    (total (data_on i) other_received)) same
