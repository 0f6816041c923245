-- The values of an end are in their ranges at first, and after each frame and each call.
use Rattle.h2_laws_machine.proofs.Names
use Names.{◌≡◌, ℕ, ◌+◌, ◌-◌, ◌≤◌, ◌∷◌, refl, ap, ◌∙◌, Code, Item, Act, Role, End}
use Names.{◌==◌, length, Option, nat_cmp, Entries, Decoded, end_view, any_above, new_end, same_some}
use Names.{nat_lt, IsTypedAct, refusal_of, StreamView, stream_in, stream_at, owed_entry, after_call}
use Names.{◌&&◌, List, [], Bool, true, false, Some, None, arith, Frame, Begun, alone, block, Values}
use Names.{if◌then◌else◌, stream_of, ProtocolError, settings_fault, most_max_frame, greatest_window}
use Names.{table_size, AreInRange, value_after, OwnSettings, close_stream, after_frame, IsDecodedAt}
use Names.{max_block_octets, greatest_number, with_table_after, FlowControlError, ValuesAreInRange}
use Rattle.std.proofs.Common.{◌^◌, ltb-false}
use Rattle.h2_spec_log.specs.Limits.{max_table_limit}
use Rattle.h2_spec_log.specs.Settings.{peer_of, value_fault}
use Rattle.h2_laws_machine.specs.Ranges.{StreamIsInRange}
use Rattle.h2_spec_log.specs.ItemRules.{first_fault}
use Rattle.h2_laws_machine.proofs.EveryCall.{call_keeps}
use Rattle.h2_laws_machine.proofs.EveryEnd.{returned_keeps, frame_keeps}
use Rattle.h2_laws_machine.proofs.EndInvariants.{Known, IsEndInvariant, without_entry}
use Rattle.h2_laws_machine.proofs.StreamRanges.{StreamsFit, set_fits, reset_fits, removed_fits}
use Rattle.h2_laws_machine.proofs.StreamRanges.{send_shifted_fits, recv_shifted_fits, NoneAbove}
use Rattle.h2_laws_machine.proofs.StreamRanges.{none_above, none_above_same, new_fits_stream}
use Rattle.h2_laws_machine.proofs.TableRanges.{block_within}
use Rattle.std.specs.FinMap as map

-- the ranges of the greatest number that was used, of the last that was processed, and of the last
-- of an own GOAWAY
abbrev pub NumbersFit : (highest last_processed : ℕ) (goaway_sent : Option ℕ) → Type 0
NumbersFit highest last_processed goaway_sent =
    (highest ≤ greatest_number) × (last_processed ≤ highest)
    × ((last : ℕ) → goaway_sent ≡ Some last → last ≤ greatest_number)

-- those of the own initial window, of the limit of the table, of the values that come next, and of
-- the greatest frame
abbrev pub OwnFit : OwnSettings → Type 0
OwnFit own =
    (own.in_force.initial_window ≤ greatest_window) × (own.in_force.table_limit ≤ max_table_limit)
    × ((values : Values) → own.awaited ≡ Some values → AreInRange values)
    × (own.in_force.max_frame ≤ most_max_frame)

-- those of the block that has begun, and of the table's size and maximum
abbrev pub ReadingFits : Option Begun → Entries → Type 0
ReadingFits begun table =
    ((one : Begun) → begun ≡ Some one → length one.octets ≤ max_block_octets)
    × (table_size table.entries ≤ table.maximum) × (table.maximum ≤ max_table_limit)

-- The ranges of an end: of numbers of streams, of the connection's windows, of the peer's
-- initial window, of own settings, of streams, and of what was read.
abbrev pub Fits : End → Type 0
Fits e =
    NumbersFit e.streams.highest e.streams.last_processed e.goaway.sent
    × ((e.windows.send ≤ greatest_window) × (e.windows.granted ≤ greatest_window))
    × (e.peer.initial_window ≤ greatest_window) × OwnFit e.own
    × StreamsFit e.peer.initial_window e.own.in_force.initial_window e.streams.entries
    × ReadingFits e.reading.begun e.reading.table

-- Nothing is there where nothing can be.
none_at : (x : Option StreamView) → ((stream : StreamView) → x ≡ Some stream → ⊥) → x ≡ None
none_at None never = refl
none_at (Some stream) never = absurd (never stream refl)

-- Values in range are so by these.
pub fits : (e : End) → ValuesAreInRange e → Fits e
fits e h =
    let streams : StreamsFit e.peer.initial_window e.own.in_force.initial_window e.streams.entries =
    λ i stream is. (
      λ zero. let gone : stream_at e i ≡ None = ap (stream_at e) zero ∙ h.connection in absurd (cc),
      assumption (h.streams i stream is),
    ) in
    assumption (streams, h)

-- And the other way round.
pub are_in_range : (e : End) → Fits e → ValuesAreInRange e
are_in_range e h =
    let streams : (i : ℕ) (stream : StreamView) → stream_at e i ≡ Some stream
    → StreamIsInRange e stream = λ i stream is. assumption (h.4 i stream is) in
    assumption (streams, none_at (stream_at e 0) (λ stream is. (h.4 0 stream is).0 refl), h)

-- The table after an item is in range.
table_fits : (e : End) (decoded : Option Decoded) (item : Item) → Known e decoded item → Fits e
    → Fits (with_table_after e decoded item)
table_fits e decoded (alone frame) known h = h
table_fits e None (block i end octets) known h = h
table_fits e (Some one) (block i end octets) known h =
    let within = block_within _ _ octets one.fields one.after (known.1 one refl) h.5.1 in
    (h.0, h.1, h.2, h.3, h.4, (h.5.0, within.0, omega (arith, within.1, h.3.1)))

-- An initial window is in range, and brings no stream's send window above the greatest.
abbrev Shifts : End → ℕ → Type 0
Shifts e value = (value ≤ greatest_window) × NoneAbove e.peer.initial_window value e.streams.entries

-- Where no pair is at fault, neither the first is nor those that follow.
first_none : (x : Option Code) (overflows : Bool) (following : Option Code)
    → first_fault x overflows following ≡ None
    → (x ≡ None) × (overflows ≡ false) × (following ≡ None)
first_none (Some code) overflows following is = absurd (cc)
first_none None true following is = absurd (cc)
first_none None false following is = (refl, refl, is)

-- A value without fault is no initial window above the greatest, by the tests.
value_within : (push window size : Bool)
    → (if push then Some ProtocolError else if window then Some FlowControlError
    else if size then Some ProtocolError else None) ≡ None → window ≡ false
value_within true window size is = cc
value_within false true size is = cc
value_within false false size is = refl

-- The initial window after a pair, by the test whether it sets that.
pair_by : (e : End) (value before : ℕ) (b : Bool)
    → (b && nat_lt (2 ^ 31 - 1) value) ≡ false
    → (b && any_above e.peer.initial_window value (map.entries e.streams.entries)) ≡ false
    → Shifts e before → Shifts e (if b then value else before)
pair_by e value before true within none h = (
  ltb-false (2 ^ 31 - 1) value within,
  none_above e.peer.initial_window value e.streams.entries none,
)
pair_by e value before false within none h = h

-- The initial window after SETTINGS without fault.
value_fits : (e : End) (pairs : List (ℕ × ℕ)) (before : ℕ)
    → settings_fault (end_view e) pairs ≡ None → Shifts e before
    → Shifts e (value_after 4 before pairs)
unfolding settings_fault value_after value_fault
value_fits e [] before is h = h
value_fits e (pair ∷ pairs) before is h =
    let parts = first_none (value_fault (peer_of e.role) pair) _ _ is in
    value_fits e pairs (if pair.0 == 4 then pair.1 else before) parts.2
    (pair_by e pair.1 before (pair.0 == 4) (value_within _ _ _ parts.0) parts.1 h)

-- Each small change keeps the values in their ranges.
ranges_kept : IsEndInvariant (Unit {0}) (Unit {0}) (λ (more : ℕ) (e : End). Fits e) Fits
ranges_kept = record {
  up = λ e up h. h;
  kept = λ e h. h;
  failed = λ e code last h. h;
  put_out = λ e count h. h;
  joined = λ e more items fits h. h;
  encoded = λ e encoder valid h. h;
  begun = λ e begun few h. (h.0, h.1, h.2, h.3, h.4, (few, h.5.1, h.5.2));
  table = λ e decoded item known h. table_fits e decoded item (known tt) h;
  numbered = λ e highest last most range less h.
      ((range tt h.0.0, less h.0.1, h.0.2), h.1, h.2, h.3, h.4, h.5);
  windows = λ e more later windows same most wide h.
      (h.0, (most h.1.0, wide h.1.1), h.2, h.3, h.4, h.5);
  set = λ e more later i stream next active same stays h.
      let one = h.4 i stream active in
      let all = set_fits _ _ _ i next one.0 (stays one.0 h.2 h.3.0 one.1) h.4 in
      (h.0, h.1, h.2, h.3, all, h.5);
  removed = λ e i stream active h. (h.0, h.1, h.2, h.3, removed_fits _ _ _ i h.4, h.5);
  was_reset = λ e i more used few h. (h.0, h.1, h.2, h.3, reset_fits _ _ _ i h.4, h.5);
  opened = λ e i ended_in ended_out highest last none most within range less apart few h.
      let new = new_fits_stream _ _ ended_in ended_out h.2 in
      let all = set_fits _ _ _ i _ apart new h.4 in
      ((range tt h.0.0, less h.0.1, h.0.2), h.1, h.2, h.3, all, h.5);
  settings = λ e pairs good h.
      let shifts : Shifts e (value_after 4 e.peer.initial_window pairs) =
      value_fits e pairs e.peer.initial_window good (h.2, none_above_same _ _ _ h.4) in
      (h.0, h.1, shifts.0, h.3, send_shifted_fits _ _ _ _ shifts.1 h.4, h.5);
  enforced = λ e values awaited h.
      let range : AreInRange values = h.3.2 values awaited in
      let own : OwnFit (record { in_force = values; awaited = None }) =
      (range.initial_window, range.table_limit, λ others is. absurd (cc), range.max_frame) in
      (h.0, h.1, h.2, own, recv_shifted_fits _ _ _ _ h.4, h.5);
  awaits = λ e values range h.
      let own : OwnFit (record e.own { awaited = Some values }) =
      (h.3.0, h.3.1, λ others. same_some AreInRange values others (range tt), h.3.3) in
      (h.0, h.1, h.2, own, h.4, h.5);
  goaway_sent = λ e h.
      let most : e.streams.last_processed ≤ greatest_number = omega (arith, h.0.0, h.0.1) in
      let sent : NumbersFit e.streams.highest e.streams.last_processed
      (Some e.streams.last_processed) =
      (h.0.0, h.0.1, λ last. same_some (λ (n : ℕ). n ≤ greatest_number) _ last most) in
      (sent, h.1, h.2, h.3, h.4, h.5);
  beside = λ e ping received h. h;
}

-- A stream is over.
pub closed_fits : (e : End) (i more : ℕ) → Fits e → Fits (close_stream e i more)
closed_fits e i more h =
    returned_keeps ranges_kept (more + owed_entry (map.get e.streams.entries i)) (without_entry e i)
    (h.0, h.1, h.2, h.3, removed_fits _ _ _ i h.4, h.5)

-- A frame was read.
pub frame_in_range : (e : End) (decoded : Option Decoded) (frame : Frame)
    → stream_of frame ≤ greatest_number → IsDecodedAt e decoded frame → ValuesAreInRange e
    → ValuesAreInRange (after_frame e decoded frame)
frame_in_range e decoded frame most seen h =
    are_in_range _ (frame_keeps ranges_kept _ _ _ (λ known. most) (λ known. seen) (fits e h))

-- A call that isn't refused was made.
pub call_fits : (e : End) (act : Act) → refusal_of (end_view e) act ≡ None → IsTypedAct act
    → Fits e → Fits (after_call e act)
call_fits e act is typed = call_keeps ranges_kept e act is (λ good. typed)

-- The values of a new end are in their ranges.
pub new_fits : (role : Role) (values : Values) → AreInRange values → Fits (new_end role values)
unfolding new_end
new_fits role values in_range = (
  (omega arith, omega arith, λ last is. absurd (cc)),
  (omega arith, omega arith),
  omega arith,
  (
    omega arith,
    omega arith,
    λ others is. same_some AreInRange values others in_range is,
    omega arith,
  ),
  λ i stream is.
      let none : stream_in (map.get map.empty i) ≡ None = ap stream_in (map.get-empty nat_cmp i) in
      absurd (cc),
  (λ one is. absurd (cc), omega arith, omega arith),
)
