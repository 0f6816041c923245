-- What reading an item makes of each subject of an end, by what it makes of the streams.
use Rattle.h2_laws_machine.proofs.Names
use Names.{◌≡◌, ℕ, ◌+◌, List, [], ◌∷◌, refl, sym, ◌∙◌, arith, Item, ends, total, Event, Role}
use Names.{Act, Answer}
use Names.{true, least_goaway, increment_on, one_settings, first_window, PeerSettings, active_parts}
use Names.{false, list_any, data_of, openings, is_over, given_on, GoAways, Streams, Client, Server}
use Names.{zero-add, allowed_by, data_on, is_block_on, is_goaway, value_read, is_active, value_kept}
use Names.{both_ways, false_from_ne_true, given_on_connection, ConnectionWindows, RepresentsWindows}
use Names.{resets, greatest_block, settings_count, RepresentsPeer, RepresentsGoAways, active_before}
use Rattle.h2_laws_machine.proofs.ItemsApart.{IsApart}
use Rattle.h2_laws_machine.proofs.LogCore.{Core, CoreFacts, Advances, StreamsOf, active_by_items}
use Rattle.h2_laws_machine.proofs.StreamsSame.{SameAt, streams_same}

-- the core with an item that was read
abbrev pub reads : Core → Item → Core
reads c item = record c { received = item ∷ c.received }

-- Streams are active as before, where an item is read that is no block, no end and no reset of
-- them.
pub active_read : (role : Role) (i : ℕ) (item : Item) (received sent : List Item)
    (reported : List Event) → is_block_on i item ≡ false → ends i item ≡ false
    → resets i item ≡ false → is_active role i (item ∷ received) sent reported ≡ is_active role i
    received sent reported
unfolding is_active is_over
active_read Client i item received sent reported blocks ended was = rw (ended, was) refl
active_read Server i item received sent reported blocks ended was = rw (blocks, ended, was) refl

-- The greatest number that was used is as before, where an item is read that is no block.
pub used_read : (role : Role) (item : Item) (received sent : List Item) → ((items : List Item)
    → greatest_block (item ∷ items) ≡ greatest_block items)
    → greatest_block (openings role (item ∷ received) sent) ≡ greatest_block (openings role received
    sent)
used_read Client item received sent none = refl
used_read Server item received sent none = none received

-- An item that is neither SETTINGS nor GOAWAY.
pub record IsCommon (item : Item) : Type 0 where
  pub leaves : is_goaway item ≡ false
  pub least : (items : List Item) → least_goaway (item ∷ items) ≡ least_goaway items
  pub settings : one_settings item ≡ 0

-- What the peer's settings say, where an item is read that isn't SETTINGS.
pub peer_read : (peer : PeerSettings) (received : List Item) (item : Item) → one_settings item ≡ 0
    → RepresentsPeer peer received → RepresentsPeer peer (item ∷ received)
unfolding settings_count allowed_by
peer_read peer received item none g =
    let value3 : value_read 3 1000 (item ∷ received) ≡ value_read 3 1000 received =
    value_kept 3 1000 item received none in
    record {
      initial_window = g.initial_window ∙ sym (value_kept 4 first_window item received none);
      max_streams = rw (none, zero-add, value3) g.max_streams;
      max_frame = g.max_frame ∙ sym (value_kept 5 16384 item received none);
    }

-- The GOAWAYs, where an item is read that is none.
pub goaways_read : (goaway : GoAways) (received sent : List Item) (item : Item) → IsCommon item
    → RepresentsGoAways goaway received sent → RepresentsGoAways goaway (item ∷ received) sent
goaways_read goaway received sent item q g = record {
  last_sent = g.last_sent;
  least_received = rw (q.leaves, q.least received) g.least_received;
}

-- The connection's windows, where an item is read.
pub windows_read : (windows : ConnectionWindows) (received sent : List Item)
    (calls : List (Act × Answer)) (unreturned : ℕ) (item : Item) (send recv : ℕ)
    → send ≡ windows.send + increment_on 0 item
    → recv + data_of item ≡ windows.recv → RepresentsWindows windows received sent calls
    unreturned
    → RepresentsWindows (record windows { send = send; recv = recv }) (item ∷ received) sent calls
    unreturned
unfolding total given_on_connection
windows_read windows received sent calls unreturned item send recv wider less g = record {
  send = omega (arith, wider, g.send);
  recv = omega (arith, less, g.recv);
  granted = g.granted;
  unreturned = g.unreturned;
}

-- What an end keeps where an item is read that is neither SETTINGS nor GOAWAY, by what it makes of
-- the streams and of windows.
pub read_step : (h : CoreFacts) (c : Core) (item : Item) (streams : Streams) (send recv : ℕ)
    → IsCommon item → StreamsOf streams (reads c item) → send ≡ h.windows.send + increment_on 0 item
    → recv + data_of item ≡ h.windows.recv → Advances h c
    → Advances (record h {
      streams = streams;
      windows = record h.windows { send = send; recv = recv };
    }) (reads c item)
read_step h c item streams send recv q are wider less g =
    assumption (
      are,
      windows_read h.windows c.received c.sent c.calls c.unreturned item send recv wider less
          g.windows,
      peer_read h.peer c.received item q.settings g.peer,
      goaways_read h.goaway c.received c.sent item q g.goaway,
      g,
    )

-- The log says the same of a number after an item that is read and touches nothing of it.
pub same_read : (j : ℕ) (c : Core) (item : Item) → one_settings item ≡ 0 → IsApart j item
    → increment_on j item ≡ 0 → SameAt j c (reads c item)
unfolding total given_on
same_read j c item none a gives =
    let value4 : value_read 4 first_window (item ∷ c.received) ≡ value_read 4 first_window
    c.received = value_kept 4 first_window item c.received none in
    let gave : increment_on j item + total (increment_on j) c.received ≡ total (increment_on j)
    c.received = omega (arith, gives) in
    let came : data_on j item + total (data_on j) c.received ≡ total (data_on j) c.received =
    omega (arith, a.flow) in
    record {
      active = active_read c.role j item c.received c.sent c.reported a.blocks a.ended a.was_reset;
      was_reset = refl;
      stream = λ alive. rw (value4, gave, came, a.ended) refl;
    }

-- An item that changes nothing of what an end keeps, where it is read.
pub record IsQuietIn (item : Item) : Type 0 where
  pub common : IsCommon item
  pub apart : (j : ℕ) → IsApart j item
  pub gives : (j : ℕ) → increment_on j item ≡ 0
  pub greatest : (items : List Item) → greatest_block (item ∷ items) ≡ greatest_block items
  pub flow_of : data_of item ≡ 0

-- What an end keeps is as before, where such an item is read.
pub quiet_read : (h : CoreFacts) (c : Core) (item : Item) → IsQuietIn item → Advances h c
    → Advances h (reads c item)
quiet_read h c item q g =
    read_step h c item h.streams h.windows.send h.windows.recv q.common (streams_same _ _ _
    (λ j. same_read j c item q.common.settings (q.apart j) (q.gives j))
    (used_read c.role item c.received c.sent q.greatest) refl refl g.streams)
    (omega (arith, q.gives 0)) (omega (arith, q.flow_of)) g

-- The log says the same of a number that isn't active, before and after.
pub same_dead : (j : ℕ) (c : Core) (item : Item) → active_by_items c j ≡ false
    → active_by_items (reads c item) j ≡ false → SameAt j c (reads c item)
same_dead j c item dead still = record {
  active = still ∙ sym dead;
  was_reset = refl;
  stream = λ alive. absurd (both_ways (active_by_items c j) dead alive);
}

-- what stands among the openings stood there before an item that is none
opened_before : (role : Role) (j : ℕ) (item : Item) (received sent : List Item) → is_block_on j item
    ≡ false
    → list_any (is_block_on j) (openings role (item ∷ received) sent) ≡ true
    → list_any (is_block_on j) (openings role received sent) ≡ true
opened_before Client j item received sent none here = here
opened_before Server j item received sent none here = rw none at here

-- A stream that isn't active isn't active after an item that is read and is no block of it.
pub stays_dead : (c : Core) (j : ℕ) (item : Item) → is_block_on j item ≡ false → active_by_items c j
    ≡ false → active_by_items (reads c item) j ≡ false
stays_dead c j item none dead =
    false_from_ne_true (active_by_items (reads c item) j) (λ alive. both_ways (active_by_items c j)
    dead (active_before c.role j (item ∷ []) [] c.received c.sent [] c.reported alive
    (opened_before c.role j item c.received c.sent none (active_parts _ _ _ _ _ alive).opened)))
