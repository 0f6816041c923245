-- What is owed on all streams, by what an end's log says of each; and the connection's window, by
-- its log.
use Rattle.std.specs.FinMap as map
use Rattle.h2_laws_machine.proofs.Names
use Names.{◌≡◌, unreleased, owed_entry, owed_total, StreamView, Represents, sum_below}
use Names.{ℕ, ◌+◌, ◌<◌, ℤ, pos, ◌+ℤ◌, ◌-ℤ◌, None, refl, ap, ◌∙◌, ints, Item, ends, Log, End}
use Names.{Bool, true, false, List, ◌++◌, arith, list_any, data_of, total, Values, active, entry_by}
use Names.{if◌then◌else◌, increment_on, send_window, connection_send_window, connection_recv_window}
use Rattle.h2_laws_log.proofs.WindowsOfTwoEnds.{connection_meets}
use Rattle.h2_spec_log.specs.Log.{recv_window, owed, granted}
use Rattle.h2_laws_machine.proofs.OwedSums.{total-sum, same_sum}

-- What is owed on what is kept of a number, by whether it is active and was reset.
owed_by : (is_active was_reset : Bool) (stream : StreamView)
    → owed_entry (entry_by is_active was_reset stream) ≡ (if is_active then stream.owed else 0)
owed_by false true stream = refl
owed_by active was_reset stream = refl

-- what is kept of an active stream, as its log says
abbrev kept_stream : Log → ℕ → StreamView
kept_stream log i = record {
  send_window = send_window log i;
  recv_window = recv_window log i;
  owed = unreleased log i;
  ended_in = list_any (ends i) log.received;
  ended_out = list_any (ends i) log.sent;
}

-- What is owed on all streams of an end is the sum of what its log says is owed on each.
pub owed_on_all : (values : Values) (e : End) (log : Log) (n : ℕ) → Represents values e log
    → e.failed ≡ None → e.streams.highest < n
    → owed_total e.streams.entries ≡ sum_below n (owed log)
unfolding owed unreleased
owed_on_all values e log n represents up above =
    total-sum n e.streams.entries (λ i from. represents.used i (omega arith)) ∙ same_sum n
    (λ i. owed_entry (map.get e.streams.entries i)) (owed log)
    (λ i below. ap owed_entry (represents.streams.entries i) ∙ owed_by _ _ (kept_stream log i))

-- What was given less what has come, with what is owed and unreturned, is the whole window.
window_by : (recv_window come given owing unreturned whole : ℕ)
    → recv_window + (owing + unreturned) ≡ whole → recv_window + come ≡ given
    → (pos given -ℤ pos come) +ℤ pos (owing + unreturned) ≡ pos whole
window_by recv_window come given owing unreturned whole is came = omega (arith, ints)

-- What the peer may send on the connection, by an end's log, is all of what it was granted but what
-- is owed and unreturned.
pub window_of_a_log : (values : Values) (e : End) (log : Log) (n : ℕ) → Represents values e log
    → e.failed ≡ None → e.streams.highest < n
    → connection_recv_window log.received log.sent +ℤ pos (sum_below n (owed log) + log.unreturned)
    ≡ pos (granted log)
window_of_a_log values e log n represents up above =
    let run = represents.running up in
    window_by _ _ _ _ log.unreturned (granted log) (omega (
      arith,
      represents.whole,
      owed_on_all values e log n represents up above,
      run.windows.unreturned,
      run.windows.granted,
    )) run.windows.recv

-- What is under way may be added in two steps.
pub in_steps : (send_window : ℤ) (back others : ℕ)
    → send_window +ℤ pos (back + others) ≡ (send_window +ℤ pos back) +ℤ pos others
in_steps send_window back others = omega (arith, ints)

-- The connection's window is conserved.
pub window_is_conserved : (values others : Values) (e other : End) (log theirs : Log)
    (way back : List Item) (n : ℕ)
    → Represents values e log → Represents others other theirs → e.failed ≡ None
    → other.failed ≡ None → other.streams.highest < n
    → log.sent ≡ way ++ theirs.received → theirs.sent ≡ back ++ log.received
    → (connection_send_window log.received log.sent +ℤ pos (total data_of way))
    +ℤ pos (total (increment_on 0) back + (sum_below n (owed theirs) + theirs.unreturned))
    ≡ pos (granted theirs)
window_is_conserved values others e other log theirs way back n represents represented up too above
    sent_data gave =
    in_steps _ _ (sum_below n (owed theirs) + theirs.unreturned) ∙ ap
    (λ (z : ℤ). z +ℤ pos (sum_below n (owed theirs) + theirs.unreturned))
    (connection_meets log.received log.sent theirs.received theirs.sent way back sent_data gave)
    ∙ window_of_a_log others other theirs n represented too above
