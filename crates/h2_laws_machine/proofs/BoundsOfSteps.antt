-- What is bounded at one end is so at first, and stays so after each frame and each call.
use Rattle.h2_laws_machine.proofs.Names
use Names.{◌≡◌, ℕ, ◌+◌, ◌≤◌, List, [], ◌∷◌, ◌++◌, length, drop, Option, Some, None, Bool, true}
use Names.{false, arith, length-append, length-drop, code_number, Frame, GoAway, Settings, Code}
use Names.{Item, alone, Values, AreInRange, Act, IsTypedAct, refusal_of, Decoded, encoding_of_items}
use Names.{max_output, max_resets, Role, End, OwnSettings, end_view, close_stream, fail}
use Names.{after_frame, after_call, new_end, size-goaway, max_active, same_some, IsValidEncoder}
use Names.{expected_preface, opening_pairs, goaway_size, IsBounded}
use Rattle.h2_wire.specs.Streams.{preface}
use Rattle.h2_laws_log.proofs.ItemSizes.{size-opening}
use Rattle.h2_laws_machine.proofs.EveryCall.{call_keeps}
use Rattle.h2_laws_machine.proofs.EveryEnd.{returned_keeps, frame_keeps}
use Rattle.h2_laws_machine.proofs.EndInvariants.{IsEndInvariant, without_entry}

-- the bounds of own values, in force and to come
abbrev pub OwnWithin : OwnSettings → Type 0
OwnWithin own =
    (own.in_force.max_streams ≤ max_active)
    × ((values : Values) → own.awaited ≡ Some values → AreInRange values)

-- The bounds of an end that hasn't failed: of output that waits, of streams that were reset, that
-- are active and that the peer allows, of own values, and of the encoder.
abbrev pub Up : End → Type 0
Up e =
    (length e.output.waiting ≤ max_output) × (e.streams.resets ≤ max_resets)
    × (e.streams.active_count ≤ max_active) × (e.peer.max_streams ≤ max_active) × OwnWithin e.own
    × IsValidEncoder e.output.encoder

-- An end that is bounded and hasn't failed is within the bounds.
pub is_up : (e : End) → e.failed ≡ None → IsBounded e → Up e
is_up e up bounded = assumption (bounded.up up, bounded)

-- An end within the bounds is bounded.
pub is_bounded : (e : End) → Up e → IsBounded e
is_bounded e h =
    let output : length e.output.waiting ≤ max_output + goaway_size = omega (arith, h.0) in
    assumption (output, h)

-- An end is bounded that differs in its output, which is, from one that is bounded.
other_output : (e : End) (failed : Option Code) (waiting : List ℕ)
    → (failed ≡ None → length waiting ≤ max_output) → length waiting ≤ max_output + goaway_size
    → IsBounded e
    → IsBounded (record e { failed = failed; output = record e.output { waiting = waiting } })
other_output e failed waiting up output h = assumption (up, output, h)

-- The output of an end that fails exceeds its bound by a GOAWAY alone.
pub failed_bounded : (e : End) (code : Code) (last : ℕ) → Up e → IsBounded (fail code last e)
failed_bounded e code last h =
    let octets : List ℕ =
    encoding_of_items (end_view e).max_payload (alone (GoAway last (code_number code) []) ∷ []) in
    other_output e (Some code) (e.output.waiting ++ octets) (λ failed. cc)
    (omega (arith, length-append {A = ℕ}, size-goaway)) (is_bounded e h)

-- Each small change keeps to the bounds.
bounds_kept : IsEndInvariant (Unit {0}) ⊥ (λ (more : ℕ) (e : End). Up e) IsBounded
bounds_kept = record {
  up = is_up;
  kept = is_bounded;
  failed = failed_bounded;
  put_out = λ e count h. other_output e e.failed (drop count e.output.waiting)
      (λ up. omega (arith, h.up up, length-drop count e.output.waiting))
      (omega (arith, h.output, length-drop count e.output.waiting)) h;
  joined = λ e more items fits h.
      let new : List ℕ = encoding_of_items (end_view e).max_payload items in
      (omega (arith, fits tt h.0, length-append e.output.waiting new), h.1, h.2, h.3, h.4, h.5);
  encoded = λ e encoder valid h. (h.0, h.1, h.2, h.3, h.4, valid h.5);
  begun = λ e begun few h. h;
  table = λ e decoded item known h. h;
  numbered = λ e highest last most range less h. h;
  windows = λ e more later windows same most wide h. h;
  set = λ e more later i stream next active same stays h. h;
  removed = λ e i stream active h. (h.0, h.1, omega (arith, h.2), h.3, h.4, h.5);
  was_reset = λ e i more used few h.
      (h.0, omega (arith, few), omega (arith, h.2), h.3, h.4, h.5);
  opened = λ e i ended_in ended_out highest last none most within range less apart few h.
      (h.0, h.1, omega (arith, few h.4.0 h.3), h.3, h.4, h.5);
  settings = λ e pairs good h. (h.0, h.1, h.2, omega arith, h.4, h.5);
  enforced = λ e values awaited h.
      (h.0, h.1, h.2, h.3, ((h.4.1 values awaited).max_streams, λ others is. absurd (cc)), h.5);
  awaits = λ e values range h.
      (h.0, h.1, h.2, h.3, (h.4.0, λ next. same_some AreInRange values next (range tt)), h.5);
  goaway_sent = λ e h. h;
  beside = λ e ping received h. h;
}

-- A stream is over.
pub ended_up : (e : End) (i more : ℕ) → Up e → Up (close_stream e i more)
ended_up e i more h =
    returned_keeps bounds_kept _ (without_entry e i) (h.0, h.1, omega (arith, h.2), h.3, h.4, h.5)

-- A frame was read.
pub frame_bounded : (e : End) (decoded : Option Decoded) (frame : Frame) → e.failed ≡ None
    → IsBounded e → IsBounded (after_frame e decoded frame)
frame_bounded e decoded frame up bounded =
    frame_keeps bounds_kept e decoded frame (λ never. absurd never) (λ never. absurd never)
    (is_up e up bounded)

-- A call that isn't refused was made.
pub call_bounded : (e : End) (act : Act) → refusal_of (end_view e) act ≡ None → IsTypedAct act
    → IsBounded e → IsBounded (after_call e act)
call_bounded e act is typed = call_keeps bounds_kept e act is (λ good. typed)

-- The opening takes few octets.
opening_few : (expects : Bool) → length (expected_preface expects) ≤ 24
unfolding expected_preface preface
opening_few true = omega arith
opening_few false = omega arith

-- A new end is bounded.
pub new_bounded : (role : Role) (values : Values) → AreInRange values
    → IsBounded (new_end role values)
unfolding new_end
new_bounded role values in_range =
    let settings : List Item = alone (Settings false (opening_pairs role values)) ∷ [] in
    is_bounded (new_end role values) (
      omega (arith, opening_few, size-opening, length-append {A = ℕ}),
      omega arith,
      omega arith,
      omega arith,
      (in_range.max_streams, λ others is. same_some AreInRange values others in_range is),
      record {
        least = omega arith;
        limit = omega arith;
        maximum = omega arith;
        within = omega arith;
      },
    )
