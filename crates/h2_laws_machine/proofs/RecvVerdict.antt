-- The verdict of an item is the same at an end as at its log.
use Rattle.std.specs.FinMap as map
use Rattle.h2_laws_machine.proofs.Names
use Names.{◌≡◌, ◌≢◌, ℕ, ◌≤◌, ◌+◌, ◌%◌, Bool, true, false, not, ◌==◌, nat_lt, nat_le, ◌&&◌, ◌||◌}
use Names.{pos, Option, Some, None, refl, ap, sym, ◌∙◌, arith, list_any, nat_tests, end_view, End}
use Names.{active_entry, stream_in, stream_at, is_beyond, state_by_entry, state_at, Streams}
use Names.{log_view, data_on, ends, resets, increment_on, is_block_on, one_ping, is_goaway, total}
use Names.{flow_on, one_pong, reported_total, greatest_processed, reports_unprocessed, is_server}
use Names.{settings_count, openings, is_used, is_above, is_closed_by_us, when, given_on_connection}
use Names.{granted_on_connection, Log, active, released, unreleased, active_count, max_streams}
use Names.{Decoded, verdict_of_block, AllowedHistory, StreamView, entry_by, goaway_sent_last}
use Names.{resets_used, active_used, when_some, connection_send_window, connection_recv_window}
use Rattle.h2_spec_log.specs.States.{state_by, stream_state}
use Rattle.h2_laws_machine.proofs.LogCore.{said, Core, core, Going, confirmed, active_by_items}
use Rattle.h2_laws_machine.proofs.LogCore.{greatest_used, StreamsOf}
use Rattle.h2_laws_machine.proofs.ViewsAgree.{stream_same, max_streams_agree, window_agrees}

-- Nothing was read of a number, nor written but perhaps increments.
pub record IsUnread (i : ℕ) (c : Core) : Type 0 where
  pub unreset : list_any (resets i) c.received ≡ false
  pub unended : list_any (ends i) c.received ≡ false
  pub increments : total (increment_on i) c.received ≡ 0
  pub come : total (data_on i) c.received ≡ 0
  pub ended : list_any (ends i) c.sent ≡ false
  pub sent_data : total (data_on i) c.sent ≡ 0

-- What every log has that comes about, as long as the connection hasn't failed.
pub record Sound (c : Core) : Type 0 where
  pub with_sent : AllowedHistory c.role c.received c.sent
  -- all openings have odd numbers, so that a number is used just if it is odd and no greater than
  -- the greatest
  pub used : (i : ℕ) → is_used c.role i c.received c.sent
      ≡ (i % 2 == 1 && nat_le i (greatest_used c))
  -- there is one own GOAWAY at most
  pub above : (i : ℕ) → is_above c.role i c.sent ≡ (is_server c.role && is_beyond i
      (when (list_any is_goaway c.sent) (goaway_sent_last c.sent)))
  -- what comes on an idle stream is a fault
  pub unread : (i : ℕ) → i ≢ 0 → is_used c.role i c.received c.sent ≡ false → IsUnread i c
  pub unnamed : is_server c.role ≡ true → (i : ℕ) → list_any (reports_unprocessed i) c.reported
      ≡ false
  -- at a server: the last stream of the GOAWAY was used, and so was each that was taken; each
  -- active one was taken
  pub last : is_server c.role ≡ true → list_any is_goaway c.sent ≡ true → goaway_sent_last c.sent ≤
      greatest_used c
  pub last_processed : is_server c.role ≡ true → greatest_processed c.reported ≤ greatest_used c
  pub active_taken : is_server c.role ≡ true → (i : ℕ) → active_by_items c i ≡ true
      → i ≤ greatest_processed c.reported
  -- one PING awaits its answer at most, and one SETTINGS their acknowledgment
  pub pings : total one_ping c.sent ≤ reported_total one_pong c.reported + 1
  pub settings : settings_count c.sent ≤ confirmed c + 1
  pub released : (i : ℕ) → released i c.calls ≤ reported_total (flow_on i) c.reported
  pub unopened : (i : ℕ) → list_any (is_block_on i) (openings c.role c.received c.sent) ≡ false
      → reported_total (flow_on i) c.reported ≡ 0

-- What is kept of an active stream is what the log says of it.
pub entry_said : (streams : Streams) (c : Core) (i : ℕ) → StreamsOf streams c
    → active_by_items c i ≡ true → map.get streams.entries i ≡ Some (active_entry (said c i))
entry_said streams c i are active =
    are.entries i ∙ ap (λ (b : Bool). entry_by b (list_any (resets i) c.sent) (said c i)) active

-- The same at an end.
pub active_said : (e : End) (c : Core) (i : ℕ) → Going e c → active_by_items c i ≡ true
    → map.get e.streams.entries i ≡ Some (active_entry (said c i))
active_said e c i g active = entry_said e.streams c i g.streams active

-- The same of the stream.
pub stream_said : (e : End) (c : Core) (i : ℕ) → Going e c → active_by_items c i ≡ true
    → stream_at e i ≡ Some (said c i)
stream_said e c i g active = ap stream_in (active_said e c i g active)

-- where no stream is active, no stream is kept
none_in : (w : Bool) (s : StreamView) → stream_in (entry_by false w s) ≡ None
none_in true s = refl
none_in false s = refl

-- Where a stream isn't active, none is kept.
pub none_said : (e : End) (c : Core) (i : ℕ) → Going e c → active_by_items c i ≡ false
    → stream_at e i ≡ None
none_said e c i g dead =
    ap stream_in (g.streams.entries i ∙ ap (λ (b : Bool). entry_by b (list_any (resets i) c.sent)
    (said c i)) dead) ∙ none_in _ (said c i)

-- the state by the entry is that by what was read and written
state_parts : (active was_reset used above idle : Bool) (s : StreamView)
    → (active ≡ true → used ≡ true) → (was_reset ≡ true → used ≡ true)
    → idle ≡ not used → state_by_entry (entry_by active was_reset s) idle above ≡ state_by used
    active (was_reset || above)
state_parts true w true above idle s active resets is = refl
state_parts true w false above idle s active resets is = let wrong : false ≡ true = active refl in
    cc
state_parts false true true above idle s active resets is = refl
state_parts false true false above idle s active resets is = let wrong : false ≡ true = resets refl
    in cc
state_parts false false true true idle s active resets is = rw is refl
state_parts false false true false idle s active resets is = rw is refl
state_parts false false false above idle s active resets is = rw is refl

-- A number is idle where it is even or above the greatest.
idle_by : (i n : ℕ) → (i % 2 == 0 || nat_lt n i) ≡ not (i % 2 == 1 && nat_le i n)
idle_by i n = grind (arith, nat_tests)

-- The state of a number is the same at an end as at its log.
pub state_same : (e : End) (c : Core) (i : ℕ) → e.role ≡ c.role → Sound c → Going e c
    → state_at e i ≡ stream_state c.role i c.received c.sent c.reported
unfolding is_closed_by_us
state_same e c i role sound g =
    rw (g.streams.entries i, g.streams.highest, g.goaway.last_sent, role, ← (sound.above i))
    (state_parts (active_by_items c i) _ _ (is_above c.role i c.sent)
    (i % 2 == 0 || nat_lt (greatest_used c) i) (said c i) (active_used c.role i c.received c.sent
    c.reported) (resets_used c.role i c.received c.sent sound.with_sent)
    (idle_by i (greatest_used c) ∙ ap not (sym (sound.used i))))

-- The peer may send as much on the connection as the log says; and so may this end.
pub recv_same : (e : End) (c : Core) → Going e c → pos e.windows.recv ≡ connection_recv_window
    c.received c.sent
recv_same e c g = window_agrees _ _ (granted_on_connection c.sent) g.windows.recv

pub send_same : (e : End) (c : Core) → Going e c → pos e.windows.send ≡ connection_send_window
    c.received c.sent
send_same e c g = window_agrees _ _ (given_on_connection c.received) g.windows.send

-- The verdict on a field block is the same at an end as at its log.
pub block_verdict_same : (e : End) (log : Log) (i : ℕ) (decoded : Option Decoded)
    → e.role ≡ log.role → Sound (core log)
    → Going e (core log) → verdict_of_block (end_view e) i decoded ≡ verdict_of_block (log_view log)
    i decoded
unfolding max_streams active_count unreleased
block_verdict_same e log i None role sound g = refl
block_verdict_same e log i (Some decoded) role sound g =
    rw (
      state_same e (core log) i role sound g,
      stream_same e.streams (core log) i g.streams,
      role,
      max_streams_agree _ _ (max_streams log) g.own.in_force.max_streams,
      g.streams.active_count,
      g.goaway.last_sent,
      when_some (list_any is_goaway log.sent) (goaway_sent_last log.sent),
    ) refl
