-- What each small change of an end keeps.
use Rattle.std.specs.FinMap as map
use Rattle.h2_laws_machine.proofs.Names
use Names.{◌≡◌, length, Option, is_some, block, Begun, Values, Decoded, end_view, stream_at, is_one}
use Names.{◌≢◌, ℕ, ◌+◌, ◌-◌, ◌<◌, ◌≤◌, drop, Some, None, Code, Item, End, fail, Block}
use Names.{Bool, settings_fault, greatest_number, greatest_window, NoneAboveHighest, IsValidEncoder}
use Names.{List, max_resets, StreamView, owed_entry, with_begun, set_stream, new_stream, max_active}
use Names.{EncoderState, max_block_octets, ConnectionWindows, with_table_after, apply_own_settings}
use Names.{alone, AreInRange, active_entry, reset_entry, with_encoder, queue_output, apply_settings}
use Rattle.h2_laws_machine.proofs.RulesAtEnds.{HasSpace}
use Rattle.h2_laws_machine.proofs.StreamRanges.{WindowsFit}

-- What is known of an item: a block's stream has 31 bits, and the block is what was seen of it.
abbrev pub Known : End → Option Decoded → Item → Type 0
Known e decoded (block i end octets) =
    (i ≤ greatest_number) × ((one : Decoded) → decoded ≡ Some one
    → Block e.reading.table e.own.in_force.table_limit octets one.fields one.after)
Known e decoded (alone frame) = Unit {0}

-- an end without what it keeps of an active stream
abbrev pub without_entry : End → ℕ → End
without_entry e i = record e {
  streams = record e.streams {
    entries = map.remove e.streams.entries i;
    active_count = e.streams.active_count - 1;
  };
}

-- A stream that is in range stays so where it is changed.
abbrev pub StaysInRange : End → ℕ → (stream next : StreamView) → Type 0
StaysInRange e i stream next =
    i ≢ 0 → e.peer.initial_window ≤ greatest_window
    → e.own.in_force.initial_window ≤ greatest_window
    → WindowsFit e.peer.initial_window e.own.in_force.initial_window stream
    → WindowsFit e.peer.initial_window e.own.in_force.initial_window next

-- What each small change of an end keeps. `P more e` holds of an end that hasn't failed, but for so
-- many octets of its receive window that are still to be returned, and `Q` of any end. Of a call
-- it may need that its arguments are within their types, and of a frame what was seen of it: then
-- `Typed` and `Seen` are what always holds, and else what never does.
pub record IsEndInvariant (Typed Seen : Type 0) (P : ℕ → End → Type 0) (Q : End → Type 0)
    : Type 0 where
  -- an end that is up and has Q has P, with nothing still to be returned
  pub up : (e : End) → e.failed ≡ None → Q e → P 0 e
  -- what has P, with nothing still to be returned, has Q
  pub kept : (e : End) → P 0 e → Q e
  -- the connection fails, and GOAWAY is sent
  pub failed : (e : End) (code : Code) (last : ℕ) → P 0 e → Q (fail code last e)
  -- octets of the output are put out
  pub put_out : (e : End) (count : ℕ) → Q e
      → Q (record e { output = record e.output { waiting = drop count e.output.waiting } })
  -- items join the output, where they fit if the call's arguments are within their types
  pub joined : (e : End) (more : ℕ) (items : List Item) → (Typed → HasSpace e items) → P more e
      → P more (queue_output e items)
  -- the encoder changes, by a block or by limits, and is as valid as before
  pub encoded : (e : End) (encoder : EncoderState)
      → (IsValidEncoder e.output.encoder → IsValidEncoder encoder) → P 0 e
      → P 0 (with_encoder e encoder)
  -- a field block begins, goes on or is complete, with as many octets as may be gathered
  pub begun : (e : End) (begun : Option Begun)
      → ((one : Begun) → begun ≡ Some one → length one.octets ≤ max_block_octets) → P 0 e
      → P 0 (with_begun e begun)
  -- an item is read, and with it what its block makes of the table of fields
  pub table : (e : End) (decoded : Option Decoded) (item : Item) → (Seen → Known e decoded item)
      → P 0 e → P 0 (with_table_after e decoded item)
  -- streams up to a greater number are used, and the last one processed is one of these
  pub numbered : (e : End) (highest last : ℕ) → e.streams.highest ≤ highest
      → (Seen → e.streams.highest ≤ greatest_number → highest ≤ greatest_number)
      → (e.streams.last_processed ≤ e.streams.highest → last ≤ highest) → P 0 e
      → P 0 (record e { streams = record e.streams { highest = highest; last_processed = last } })
  -- octets pass between the receive window, what is unreturned and what is still to be
  -- returned, all in all as many, but for what the window is widened by; and neither it nor the
  -- send window grows further than the greatest
  pub windows : (e : End) (more later : ℕ) (windows : ConnectionWindows)
      → (windows.recv + (windows.unreturned + later)) + e.windows.granted
      ≡ (e.windows.recv + (e.windows.unreturned + more)) + windows.granted
      → (e.windows.send ≤ greatest_window → windows.send ≤ greatest_window)
      → (e.windows.granted ≤ greatest_window → windows.granted ≤ greatest_window) → P more e
      → P later (record e { windows = windows })
  -- an active stream is changed, and what is owed on it becomes still to be returned, or was
  pub set : (e : End) (more later i : ℕ) (stream next : StreamView) → stream_at e i ≡ Some stream
      → next.owed + later ≡ stream.owed + more → StaysInRange e i stream next → P more e
      → P later (set_stream e i next)
  -- an active stream is over, and what is owed on it is still to be returned
  pub removed : (e : End) (i : ℕ) (stream : StreamView) → stream_at e i ≡ Some stream → P 0 e
      → P (0 + owed_entry (map.get e.streams.entries i)) (without_entry e i)
  -- a stream that was used is reset, active or not, and what is owed on it is still to be
  -- returned
  pub was_reset : (e : End) (i more : ℕ) → (NoneAboveHighest e → i ≤ e.streams.highest)
      → e.streams.resets < max_resets → P more e
      → P (more + owed_entry (map.get e.streams.entries i)) (record e {
        streams = record e.streams {
          entries = map.insert e.streams.entries i reset_entry;
          active_count = e.streams.active_count - is_one (is_some (stream_at e i));
          resets = e.streams.resets + 1;
        };
      })
  -- a stream is opened that wasn't used, and fewer were active than may be
  pub opened : (e : End) (i : ℕ) (ended_in ended_out : Bool) (highest last : ℕ)
      → (NoneAboveHighest e → stream_at e i ≡ None) → e.streams.highest ≤ highest → i ≤ highest
      → (Seen → e.streams.highest ≤ greatest_number → highest ≤ greatest_number)
      → (e.streams.last_processed ≤ e.streams.highest → last ≤ highest) → i ≢ 0
      → (e.own.in_force.max_streams ≤ max_active → e.peer.max_streams ≤ max_active
      → e.streams.active_count < max_active)
      → P 0 e
      → P 0 (record e {
        streams = record e.streams {
          entries = map.insert e.streams.entries i (active_entry (new_stream e ended_in ended_out));
          active_count = e.streams.active_count + 1;
          highest = highest;
          last_processed = last;
        };
      })
  -- the peer's SETTINGS apply, which have no fault
  pub settings : (e : End) (pairs : List (ℕ × ℕ)) → settings_fault (end_view e) pairs ≡ None
      → P 0 e → P 0 (apply_settings e pairs)
  -- own SETTINGS are acknowledged, and are in force
  pub enforced : (e : End) (values : Values) → e.own.awaited ≡ Some values → P 0 e
      → P 0 (apply_own_settings e (Some values))
  -- own SETTINGS are sent, within their bounds, and await their acknowledgment
  pub awaits : (e : End) (values : Values) → (Typed → AreInRange values) → P 0 e
      → P 0 (record e { own = record e.own { awaited = Some values } })
  -- GOAWAY is sent, with the last stream that was processed
  pub goaway_sent : (e : End) → P 0 e
      → P 0 (record e { goaway = record e.goaway { sent = Some e.streams.last_processed } })
  -- a PING awaits its answer or no more, and the least last stream of received GOAWAYs is this
  pub beside : (e : End) (ping : Option (List ℕ)) (received : Option ℕ) → P 0 e
      → P 0 (record e { ping = ping; goaway = record e.goaway { received = received } })
