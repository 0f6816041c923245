-- What items on one active stream make of an end: a stream continues, or is closed.
use Rattle.std.specs.FinMap as map
use Rattle.h2_laws_machine.proofs.Names
use Names.{◌≡◌, ◌≢◌, ℕ, ◌+◌, ◌-◌, max, true, List, ℤ, refl, sym, ap, ◌∙◌, Item, Role, ends}
use Names.{nat_lt, false_from_ne_true, given_on_connection, granted_on_connection, goaway_sent_last}
use Names.{◌&&◌, Bool, false, data_of, resets, total, openings, is_above, given_on, window, Streams}
use Names.{both_ways, list_any, is_goaway, one_ping, one_reset, own_value, StreamView, lasts_parts}
use Names.{data_on, is_block_on, first_window, newest_ping, OwnSettings, active_entry, active_parts}
use Names.{increment_on, greatest_block, settings_count, granted_on, RepresentsOwn, active_by_parts}
use Rattle.h2_laws_machine.proofs.LogCore.{Core, CoreFacts, Advances, StreamsOf, active_by_items}
use Rattle.h2_laws_machine.proofs.LogCore.{confirmed, said}
use Rattle.h2_laws_machine.proofs.SentQuietItems.{active_like}
use Rattle.h2_laws_machine.proofs.StreamsSame.{SameAt, same_stream, streams_set, streams_closed}
use Rattle.h2_laws_machine.proofs.StreamsSame.{said_over}

-- Newer items on a stream: blocks and DATA of so many octets, and whether this end has ended it
-- after them.
pub record Adds (role : Role) (received : List Item) (id : ℕ) (sent news : List Item) (n : ℕ)
    (end : Bool) : Type 0 where
  pub blocks : (i : ℕ) → list_any (is_block_on i) (openings role received news)
      ≡ list_any (is_block_on i) (openings role received sent)
  pub greatest : greatest_block (openings role received news) ≡ greatest_block
      (openings role received sent)
  pub above : (i : ℕ) → is_above role i news ≡ is_above role i sent
  pub ends_other : (i : ℕ) → i ≢ id → list_any (ends i) news ≡ list_any (ends i) sent
  pub ends_here : list_any (ends id) news ≡ end
  pub resets : (i : ℕ) → list_any (resets i) news ≡ list_any (resets i) sent
  pub data_other : (i : ℕ) → i ≢ id → total (data_on i) news ≡ total (data_on i) sent
  pub data_here : total (data_on id) news ≡ n + total (data_on id) sent
  pub data_all : total data_of news ≡ n + total data_of sent
  pub increments : (i : ℕ) → total (increment_on i) news ≡ total (increment_on i) sent
  pub own : (k first count : ℕ) → own_value k first count news ≡ own_value k first count sent
  pub settings : settings_count news ≡ settings_count sent
  pub goaway : list_any is_goaway news ≡ list_any is_goaway sent
  pub last : goaway_sent_last news ≡ goaway_sent_last sent
  pub pings : total one_ping news ≡ total one_ping sent
  pub newest : newest_ping news ≡ newest_ping sent
  pub reset_count : total one_reset news ≡ total one_reset sent

-- the core with them
abbrev pub with_news : Core → List Item → Core
with_news c news = record c { sent = news }

-- Own settings are the same after them.
own_adds : (own : OwnSettings) (role : Role) (received : List Item) (id count : ℕ)
    (sent news : List Item) (n : ℕ) (end : Bool) → Adds role received id sent news n end
    → RepresentsOwn own role count sent → RepresentsOwn own role count news
own_adds own role received id count sent news n end a g =
    let w = g.in_force in
    let counted = a.settings in
    record {
      in_force = record {
        table_limit = w.table_limit ∙ sym (a.own 1 4096 count);
        initial_window = w.initial_window ∙ sym (a.own 4 first_window count);
        max_streams = λ server. w.max_streams server ∙ sym (a.own 3 100 (max 1 count));
        max_frame = w.max_frame ∙ sym (a.own 5 16384 count);
      };
      awaits = g.awaits ∙ ap (nat_lt count) (sym counted);
      awaited = λ values is.
          let v = g.awaited values is in
          record {
            table_limit = rw counted (a.own 1 4096 (settings_count sent) ∙ v.table_limit);
            initial_window = rw counted (a.own 4 first_window (settings_count sent)
                ∙ v.initial_window);
            max_streams = λ server. rw counted (a.own 3 100 (settings_count sent)
                ∙ v.max_streams server);
            max_frame = rw counted (a.own 5 16384 (settings_count sent) ∙ v.max_frame);
          };
    }

-- The log says the same of other numbers.
adds_same : (c : Core) (id : ℕ) (news : List Item) (n : ℕ) (end : Bool)
    → Adds c.role c.received id c.sent news n end → (j : ℕ) → j ≢ id → SameAt j c (with_news c news)
unfolding granted_on
adds_same c id news n end a j other = record {
  active = active_like c.role j c.received c.sent news c.reported (a.blocks j) (a.above j)
      (a.ends_other j other) (a.resets j);
  was_reset = a.resets j;
  stream = λ alive. rw (
    a.own 4 first_window (confirmed c),
    a.increments j,
    a.data_other j other,
    a.ends_other j other,
  ) refl;
}

-- The stream stays active, unless both sides have ended it.
pub active_here : (c : Core) (id : ℕ) (news : List Item) (n : ℕ) (end : Bool)
    → active_by_items c id ≡ true → (list_any (ends id) c.received && end) ≡ false
    → Adds c.role c.received id c.sent news n end → active_by_items (with_news c news) id ≡ true
active_here c id news n end active_is goes a =
    let parts = active_parts c.role id c.received c.sent c.reported active_is in
    let lasts = lasts_parts id c.received c.sent parts.lasts in
    active_by_parts _ _ _ _ _ parts.odd (a.blocks id ∙ parts.opened) (a.above id ∙ parts.below)
    (rw (a.ends_here) goes) lasts.unreset (a.resets id ∙ lasts.kept) parts.unnamed

-- The stream is closed, where both have.
pub closed_here : (c : Core) (id : ℕ) (news : List Item) (n : ℕ) (end : Bool)
    → (list_any (ends id) c.received && end) ≡ true
    → Adds c.role c.received id c.sent news n end → active_by_items (with_news c news) id ≡ false
closed_here c id news n end over a =
    false_from_ne_true _ (λ active_is.
    let lasts = lasts_parts _ _ _ (active_parts _ _ _ _ _ active_is).lasts in
    both_ways _ lasts.ended (rw (a.ends_here) over))

-- the stream that continues, with another send window
abbrev pub stream_with : Core → ℕ → ℤ → Bool → StreamView
stream_with c id send_window end = record (said c id) { send_window = send_window; ended_out = end }

-- It is what the log says.
stream_with_said : (c : Core) (id : ℕ) (news : List Item) (n : ℕ) (end : Bool) (send_window : ℤ)
    → send_window ≡ window (given_on id c.received) (n + total (data_on id) c.sent)
    → Adds c.role c.received id c.sent news n end
    → stream_with c id send_window end ≡ said (with_news c news) id
unfolding granted_on
stream_with_said c id news n end send_window is a =
    same_stream _ (said (with_news c news) id) (is ∙ ap (window _) (sym a.data_here))
    (rw (a.own 4 first_window (confirmed c), a.increments id) refl) refl refl (sym a.ends_here)

-- What an end keeps after them, by what they make of the streams.
adds_advance : (h : CoreFacts) (c : Core) (id : ℕ) (news : List Item) (n : ℕ) (end : Bool)
    (streams : Streams) (send : ℕ) → Adds c.role c.received id c.sent news n end
    → send + (n + total data_of c.sent) ≡ given_on_connection c.received
    → StreamsOf streams (with_news c news) → Advances h c
    → Advances (record h { streams = streams; windows = record h.windows { send = send } })
    (with_news c news)
unfolding granted_on_connection
adds_advance h c id news n end streams send a conserved are g = record {
  reading = g.reading;
  encoder = g.encoder;
  streams = are;
  windows = record {
    send = rw (a.data_all) conserved;
    recv = rw (a.increments 0) g.windows.recv;
    granted = g.windows.granted;
    unreturned = g.windows.unreturned;
  };
  peer = g.peer;
  own = own_adds h.own c.role c.received id (confirmed c) c.sent news n end a g.own;
  goaway = record {
    last_sent = g.goaway.last_sent ∙ rw (a.goaway, a.last) refl;
    least_received = g.goaway.least_received;
  };
  ping = g.ping ∙ rw (a.pings, a.newest) refl;
}

-- The stream continues.
pub set_advances : (h : CoreFacts) (c : Core) (id : ℕ) (news : List Item) (n : ℕ) (end : Bool)
    (send_window : ℤ) (send : ℕ) → active_by_items c id ≡ true
    → (list_any (ends id) c.received && end) ≡ false
    → send_window ≡ window (given_on id c.received) (n + total (data_on id) c.sent)
    → Adds c.role c.received id c.sent news n end
    → send + (n + total data_of c.sent) ≡ given_on_connection c.received → Advances h c
    → Advances (record h {
      streams = record h.streams {
        entries = map.insert h.streams.entries id (active_entry (stream_with c id send_window end));
      };
      windows = record h.windows { send = send };
    }) (with_news c news)
set_advances h c id news n end send_window send active_is goes is a conserved g =
    adds_advance h c id news n end _ send a conserved (streams_set _ _ _ _ (with_news c news)
    (adds_same c id news n end a) active_is (active_here c id news n end active_is goes a)
    (stream_with_said c id news n end send_window is a) a.greatest refl a.reset_count g.streams) g

-- The stream is closed.
pub over_advances : (h : CoreFacts) (c : Core) (id : ℕ) (news : List Item) (n : ℕ) (end : Bool)
    (s : StreamView) (send : ℕ) → active_by_items c id ≡ true
    → (list_any (ends id) c.received && end) ≡ true
    → Adds c.role c.received id c.sent news n end
    → send + (n + total data_of c.sent) ≡ given_on_connection c.received → Advances h c
    → Advances (record h {
      streams = record h.streams {
        entries = map.remove (map.insert h.streams.entries id (active_entry s)) id;
        active_count = h.streams.active_count - 1;
      };
      windows = record h.windows { send = send };
    }) (with_news c news)
over_advances h c id news n end s send active_is over a conserved g =
    let dead = closed_here c id news n end over a in
    let kept = (lasts_parts id c.received c.sent
    (active_parts c.role id c.received c.sent c.reported active_is).lasts).kept in
    adds_advance h c id news n end _ send a conserved (streams_closed _ _ _ _ _ (with_news c news)
    (adds_same c id news n end a) active_is dead
    (said_over h.streams.entries id (active_entry s) c (with_news c news) g.streams.entries
    (adds_same c id news n end a) dead (a.resets id ∙ kept))
    a.greatest refl (g.streams.resets ∙ sym a.reset_count) g.streams) g
