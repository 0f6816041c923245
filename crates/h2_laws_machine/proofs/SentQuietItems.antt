-- What an item that is sent leaves of each subject of an end.
use Rattle.h2_laws_machine.proofs.Names
use Names.{◌≡◌, ◌≢◌, ℕ, ◌+◌, nat_lt, true, false, List, ◌∷◌, Option, refl, sym, ap, ◌∙◌, arith}
use Names.{zero-add, list_any, Item, Role, Client, Server, data_of, increment_on, is_block_on, ends}
use Names.{resets, one_reset, one_ping, is_goaway, is_goaway_below, total, greatest_block, Event}
use Names.{one_settings, own_value, openings, is_above, is_over, is_active, first_window}
use Names.{granted_on, granted_on_connection, EncoderState, Act, Answer, newest_ping, released}
use Names.{ConnectionWindows, Streams, OwnSettings, GoAways, goaway_sent_last, RepresentsWindows}
use Names.{RepresentsOwn, RepresentsGoAways, Widen, Done, widened}
use Rattle.h2_laws_machine.proofs.ItemsApart.{IsApart}
use Rattle.h2_laws_machine.proofs.LogCore.{Core, CoreFacts, Advances, StreamsOf, PingOf, confirmed}
use Rattle.h2_laws_machine.proofs.LogCore.{active_by_items}
use Rattle.h2_laws_machine.proofs.OneItemMore.{total_quiet, any_quiet, own_quiet, settings_quiet}
use Rattle.h2_laws_machine.proofs.StreamsSame.{SameAt, active_some, streams_same}

-- the core with an item that was sent
abbrev pub sends : Core → Item → Core
sends c item = record c { sent = item ∷ c.sent }

-- Whether a stream is active hangs on these.
pub active_like : (role : Role) (i : ℕ) (received sent news : List Item) (reported : List Event)
    → list_any (is_block_on i) (openings role received news) ≡ list_any (is_block_on i)
    (openings role received sent)
    → is_above role i news ≡ is_above role i sent → list_any (ends i) news ≡ list_any (ends i) sent
    → list_any (resets i) news ≡ list_any (resets i) sent
    → is_active role i received news reported ≡ is_active role i received sent reported
unfolding is_active is_over
active_like role i received sent news reported blocks above ended reset =
    rw (blocks, above, ended, reset) refl

-- Streams are active as before, where an item is sent that is no block, no end and no reset of
-- them, and no GOAWAY.
pub active_wrote : (role : Role) (i : ℕ) (item : Item) (received sent : List Item)
    (reported : List Event) → is_block_on i item ≡ false → ends i item ≡ false
    → resets i item ≡ false → is_goaway_below i item ≡ false → is_active role i received
    (item ∷ sent) reported ≡ is_active role i received sent reported
unfolding is_active is_over is_above
active_wrote Client i item received sent reported blocks ended was below = rw (blocks, ended, was)
    refl
active_wrote Server i item received sent reported blocks ended was below = rw (below, ended, was)
    refl

-- An item that has no last stream.
pub above_quiet : (role : Role) (i : ℕ) (item : Item) (sent : List Item)
    → is_goaway_below i item ≡ false
    → is_above role i (item ∷ sent) ≡ is_above role i sent
unfolding is_above
above_quiet Client i item sent none = refl
above_quiet Server i item sent none = any_quiet (is_goaway_below i) item sent none

-- The greatest number that was used is as before, where an item is sent that is no block.
pub used_wrote : (role : Role) (item : Item) (received sent : List Item) → ((items : List Item)
    → greatest_block (item ∷ items) ≡ greatest_block items)
    → greatest_block (openings role received (item ∷ sent)) ≡ greatest_block (openings role received
    sent)
used_wrote Client item received sent none = none sent
used_wrote Server item received sent none = refl

-- The log says the same of a number after an item that touches nothing of it, its receive window
-- included.
pub same_sent : (j : ℕ) (c : Core) (item : Item) → IsApart j item → is_goaway_below j item ≡ false
    → (active_by_items c j ≡ true → increment_on j item ≡ 0)
    → own_value 4 first_window (confirmed c) (item ∷ c.sent)
    ≡ own_value 4 first_window (confirmed c) c.sent → SameAt j c (sends c item)
unfolding total granted_on
same_sent j c item a below gives own = record {
  active = active_wrote c.role j item c.received c.sent c.reported a.blocks a.ended a.was_reset
      below;
  was_reset = any_quiet (resets j) item c.sent a.was_reset;
  stream = λ alive. rw (own, gives alive, a.flow, a.ended, zero-add, zero-add) refl;
}

-- An item that touches nothing of any stream but perhaps receive windows.
pub record LeavesStreams (item : Item) : Type 0 where
  pub apart : (j : ℕ) → IsApart j item
  pub below : (j : ℕ) → is_goaway_below j item ≡ false
  pub greatest : (items : List Item) → greatest_block (item ∷ items) ≡ greatest_block items
  pub reset : one_reset item ≡ 0

-- The streams are as before, where such an item is sent that leaves receive windows.
pub streams_sent : (s : Streams) (c : Core) (item : Item) → LeavesStreams item
    → ((j : ℕ) → j ≢ 0 → increment_on j item ≡ 0)
    → own_value 4 first_window (confirmed c) (item ∷ c.sent)
    ≡ own_value 4 first_window (confirmed c) c.sent → StreamsOf s c → StreamsOf s (sends c item)
streams_sent s c item q gives own g =
    streams_same s c (sends c item)
    (λ j. same_sent j c item (q.apart j) (q.below j) (λ alive. gives j (active_some c j alive)) own)
    (used_wrote c.role item c.received c.sent q.greatest) refl (total_quiet one_reset _ _ q.reset) g

-- The connection's windows, where an item is sent that isn't DATA.
pub windows_sent : (windows : ConnectionWindows) (received sent : List Item)
    (calls : List (Act × Answer)) (unreturned : ℕ) (item : Item) (recv : ℕ) → data_of item ≡ 0
    → recv ≡ windows.recv + increment_on 0 item
    → RepresentsWindows windows received sent calls unreturned
    → RepresentsWindows (record windows { recv = recv }) received (item ∷ sent) calls unreturned
unfolding granted_on_connection total
windows_sent windows received sent calls unreturned item recv none more g = record {
  send = omega (arith, none, g.send);
  recv = omega (arith, more, g.recv);
  granted = g.granted;
  unreturned = g.unreturned;
}

-- Own settings, where an item is sent that isn't SETTINGS.
pub own_sent : (own : OwnSettings) (role : Role) (count : ℕ) (sent : List Item) (item : Item)
    → one_settings item ≡ 0 → RepresentsOwn own role count sent
    → RepresentsOwn own role count (item ∷ sent)
own_sent own role count sent item none g =
    let w = g.in_force in
    let counted = settings_quiet _ _ none in
    record {
      in_force = record {
        table_limit = w.table_limit ∙ sym (own_quiet 1 4096 _ _ _ none);
        initial_window = w.initial_window ∙ sym (own_quiet 4 first_window _ _ _ none);
        max_streams = λ server. w.max_streams server ∙ sym (own_quiet 3 100 _ _ _ none);
        max_frame = w.max_frame ∙ sym (own_quiet 5 16384 _ _ _ none);
      };
      awaits = g.awaits ∙ ap (nat_lt count) (sym counted);
      awaited = λ values is.
          let a = g.awaited values is in
          record {
            table_limit = rw counted (own_quiet 1 4096 _ _ _ none ∙ a.table_limit);
            initial_window = rw counted (own_quiet 4 first_window _ _ _ none ∙ a.initial_window);
            max_streams = λ server. rw counted (own_quiet 3 100 _ _ _ none ∙ a.max_streams server);
            max_frame = rw counted (own_quiet 5 16384 _ _ _ none ∙ a.max_frame);
          };
    }

-- The GOAWAYs, where an item is sent that is none.
pub goaways_sent : (goaway : GoAways) (received sent : List Item) (item : Item)
    → is_goaway item ≡ false → goaway_sent_last (item ∷ sent) ≡ goaway_sent_last sent
    → RepresentsGoAways goaway received sent → RepresentsGoAways goaway received (item ∷ sent)
goaways_sent goaway received sent item none last g =
    record { last_sent = rw (none, last) g.last_sent; least_received = g.least_received }

-- The own PING that awaits its answer, where an item is sent that is no own PING.
pub ping_sent : (ping : Option (List ℕ)) (c : Core) (item : Item) → one_ping item ≡ 0
    → newest_ping (item ∷ c.sent) ≡ newest_ping c.sent → PingOf ping c → PingOf ping (sends c item)
unfolding total
ping_sent ping c item none newest g = rw (none, zero-add, newest) g

-- An item that changes nothing of what an end keeps, but perhaps receive windows.
pub record IsQuietOut (item : Item) : Type 0 where
  pub streams : LeavesStreams item
  pub leaves : is_goaway item ≡ false
  pub newest : (items : List Item) → goaway_sent_last (item ∷ items) ≡ goaway_sent_last items
  pub ping : (items : List Item) → newest_ping (item ∷ items) ≡ newest_ping items
  pub pings : one_ping item ≡ 0
  pub settings : one_settings item ≡ 0
  pub flow_of : data_of item ≡ 0

-- What an end keeps is as before, where such an item is sent, but for the streams and the receive
-- window.
pub quiet_sent : (h : CoreFacts) (c : Core) (item : Item) (streams : Streams) (recv : ℕ)
    → IsQuietOut item → recv ≡ h.windows.recv + increment_on 0 item
    → StreamsOf streams (sends c item) → Advances h c
    → Advances (record h { streams = streams; windows = record h.windows { recv = recv } })
    (sends c item)
quiet_sent h c item streams recv q more are g =
    assumption (
      are,
      windows_sent h.windows c.received c.sent c.calls c.unreturned item recv q.flow_of more
          g.windows,
      own_sent h.own c.role (confirmed c) c.sent item q.settings g.own,
      goaways_sent h.goaway c.received c.sent item q.leaves (q.newest c.sent) g.goaway,
      ping_sent h.ping c item q.pings (q.ping c.sent) g.ping,
      g,
    )

-- It is as before but for the receive window, where the item leaves the windows of streams.
pub quiet_wrote : (h : CoreFacts) (c : Core) (item : Item) (recv : ℕ) → IsQuietOut item
    → ((j : ℕ) → j ≢ 0 → increment_on j item ≡ 0) → recv ≡ h.windows.recv + increment_on 0 item
    → Advances h c
    → Advances (record h { windows = record h.windows { recv = recv } }) (sends c item)
quiet_wrote h c item recv q gives more g =
    quiet_sent h c item h.streams recv q more (streams_sent h.streams c item q.streams gives
    (own_quiet 4 first_window (confirmed c) item c.sent q.settings) g.streams) g

-- More or less is unreturned.
pub unreturned_advances : (h : CoreFacts) (c : Core) (unreturned given : ℕ) → unreturned ≡ given
    → Advances h c
    → Advances (record h { windows = record h.windows { unreturned = unreturned } })
    (record c { unreturned = given })
unreturned_advances h c unreturned given same g = assumption (same, g)

-- The streams don't hang on calls that release nothing.
pub called_streams : (s : Streams) (c : Core) (calls : List (Act × Answer))
    → ((i : ℕ) → released i calls ≡ released i c.calls) → StreamsOf s c
    → StreamsOf s (record c { calls = calls })
called_streams s c calls same g =
    streams_same s c (record c { calls = calls })
    (λ j. record { active = refl; was_reset = refl; stream = λ alive. rw (same j) refl }) refl refl
    refl g

-- The connection's windows don't hang on calls that widen nothing.
called_windows : (windows : ConnectionWindows) (received sent : List Item)
    (before calls : List (Act × Answer)) (unreturned : ℕ) → widened calls ≡ widened before
    → RepresentsWindows windows received sent before unreturned
    → RepresentsWindows windows received sent calls unreturned
called_windows windows received sent before calls unreturned same g =
    record { send = g.send; recv = g.recv; granted = rw same g.granted; unreturned = g.unreturned }

-- A call that releases nothing, and widens nothing, changes no more than the encoder.
pub called_advances : (h : CoreFacts) (c : Core) (calls : List (Act × Answer))
    (encoder : EncoderState) → ((i : ℕ) → released i calls ≡ released i c.calls)
    → widened calls ≡ widened c.calls → Advances h c
    → Advances (record h { encoder = encoder }) (record c { calls = calls; encoder = encoder })
called_advances h c calls encoder same wide g =
    assumption (
      called_streams h.streams c calls same g.streams,
      called_windows h.windows c.received c.sent c.calls calls c.unreturned wide g.windows,
      g,
    )

-- The connection's window is to be widened.
pub granted_advances : (h : CoreFacts) (c : Core) (count : ℕ) → Advances h c
    → Advances (record h { windows = record h.windows { granted = h.windows.granted + count } })
    (record c { calls = (Widen count, Done) ∷ c.calls })
unfolding widened released
granted_advances h c count g =
    let calls : List (Act × Answer) = (Widen count, Done) ∷ c.calls in
    let windows : RepresentsWindows (record h.windows { granted = h.windows.granted + count })
    c.received c.sent calls c.unreturned = record {
      send = g.windows.send;
      recv = g.windows.recv;
      granted = omega (arith, g.windows.granted);
      unreturned = g.windows.unreturned;
    } in
    assumption (windows, called_streams h.streams c calls (λ i. refl) g.streams, g)
