-- The verdict on WINDOW_UPDATE, by what the code asks.
use Rattle.h2_core.proofs.Names.{◌≡◌, ◌≢◌, ℕ, ◌+◌, ◌<◌, ◌≤◌, ◌==◌, true, false, ◌⊎◌, pos, Some}
use Rattle.h2_core.proofs.Names.{None, refl, sym, arith, ◌∙◌, inl, inr, nat_tests, ints, Code}
use Rattle.h2_core.proofs.Names.{ProtocolError, FlowControlError, WindowUpdate, alone, StreamView}
use Rattle.h2_core.proofs.Names.{State, Idle, Active, greatest_window, ConnectionFault, StreamFault}
use Rattle.h2_core.proofs.Names.{NoEvent, verdict_of, overflows_by, End, end_view, state_at}
use Rattle.h2_core.proofs.Names.{stream_at, widen_send_window, verdict_by_rules, replies_to}
use Rattle.h2_spec_log.specs.ItemRules.{overflows_stream}
use Rattle.h2_spec_log.specs.States.{ClosedByUs, Closed}
use Rattle.h2_spec_log.specs.Verdicts.{connection_update_verdict, update_verdict}
use Rattle.h2_core.proofs.ItemVerdicts.{quiet_verdict, fault_stands}
use Rattle.h2_core.proofs.ItemStatuses.{active_state}
use Rattle.h2_core.proofs.Names.{rules}

-- Whether an increment is too much for the connection's window.
passes : (send increment : ℕ) → greatest_window < send + increment
    → overflows_by increment (pos send) ≡ true
passes send increment much = grind (arith, ints)

fits : (send increment : ℕ) → send + increment ≤ greatest_window
    → overflows_by increment (pos send) ≡ false
fits send increment few = grind (arith, ints)

-- On the connection: no octets are a fault.
pub empty_is_fault : (e : End) (increment : ℕ) → increment ≡ 0
    → verdict_of (end_view e) None (alone (WindowUpdate 0 increment))
    ≡ ConnectionFault ProtocolError
unfolding verdict_by_rules connection_update_verdict
empty_is_fault e increment none =
    fault_stands (end_view e) (WindowUpdate 0 increment) ProtocolError (rw none refl)

-- So is too great a window.
pub great_is_fault : (e : End) (increment : ℕ) → increment ≢ 0
    → greatest_window < e.windows.send + increment
    → verdict_of (end_view e) None (alone (WindowUpdate 0 increment))
    ≡ ConnectionFault FlowControlError
unfolding verdict_by_rules connection_update_verdict
great_is_fault e increment some much =
    let nonzero : (increment == 0) ≡ false = grind (arith, nat_tests) in
    fault_stands (end_view e) (WindowUpdate 0 increment) FlowControlError
    (rw (nonzero, passes e.windows.send increment much) refl)

-- Any other increment has no event.
pub widens_connection : (e : End) (increment : ℕ) → increment ≢ 0
    → e.windows.send + increment ≤ greatest_window
    → verdict_of (end_view e) None (alone (WindowUpdate 0 increment)) ≡ NoEvent
unfolding verdict_by_rules connection_update_verdict replies_to
widens_connection e increment some few =
    let nonzero : (increment == 0) ≡ false = grind (arith, nat_tests) in
    quiet_verdict (end_view e) (WindowUpdate 0 increment) NoEvent
    (rw (nonzero, fits e.windows.send increment few) refl) refl refl

module _ (e : End) (id increment : ℕ) where
  -- On a stream the verdict goes by its state.
  by_state : (state : State) → id ≢ 0 → state_at e id ≡ state
      → verdict_by_rules (end_view e) None (alone (WindowUpdate id increment)) ≡ update_verdict
      state increment (overflows_stream increment (stream_at e id))
  unfolding verdict_by_rules
  by_state state some is = search rules

  -- On an idle stream it is a connection error.
  pub idle_update : id ≢ 0 → Idle ≡ state_at e id
      → verdict_of (end_view e) None (alone (WindowUpdate id increment)) ≡ ConnectionFault
      ProtocolError
  unfolding update_verdict
  idle_update some is = fault_stands (end_view e) (WindowUpdate id increment) ProtocolError
      (by_state Idle some (sym is))

  -- On a closed one it has no event.
  pub closed_update : id ≢ 0 → (state_at e id ≡ ClosedByUs) ⊎ (state_at e id ≡ Closed)
      → verdict_of (end_view e) None (alone (WindowUpdate id increment)) ≡ NoEvent
  unfolding update_verdict replies_to
  closed_update some (inl is) = quiet_verdict (end_view e) (WindowUpdate id increment) NoEvent
      (by_state ClosedByUs some is) refl refl
  closed_update some (inr is) = quiet_verdict (end_view e) (WindowUpdate id increment) NoEvent
      (by_state Closed some is) refl refl

  -- On an active one: no octets are a stream error.
  pub empty_resets : (stream : StreamView) (code : Code) → id ≢ 0 → stream_at e id ≡ Some stream
      → increment ≡ 0 → code ≡ ProtocolError
      → verdict_by_rules (end_view e) None (alone (WindowUpdate id increment)) ≡ StreamFault code
  unfolding update_verdict
  empty_resets stream code some active none is =
      by_state Active some (active_state e id stream active) ∙ rw (none, is) refl

  -- So is too great a window.
  pub great_resets : (stream : StreamView) (code : Code) → id ≢ 0 → stream_at e id ≡ Some stream
      → increment ≢ 0 → overflows_by increment stream.send_window ≡ true → code ≡ FlowControlError
      → verdict_by_rules (end_view e) None (alone (WindowUpdate id increment)) ≡ StreamFault code
  unfolding update_verdict
  great_resets stream code some active more much is =
      let nonzero : (increment == 0) ≡ false = grind (arith, nat_tests) in
      by_state Active some (active_state e id stream active) ∙ rw (nonzero, active, much, is) refl

  -- Any other increment has no event.
  pub widens_stream : (stream : StreamView) → id ≢ 0 → stream_at e id ≡ Some stream → increment ≢ 0
      → overflows_by increment stream.send_window ≡ false
      → verdict_of (end_view e) None (alone (WindowUpdate id increment)) ≡ NoEvent
  unfolding update_verdict replies_to
  widens_stream stream some active more few =
      let nonzero : (increment == 0) ≡ false = grind (arith, nat_tests) in
      quiet_verdict (end_view e) (WindowUpdate id increment) NoEvent
      (by_state Active some (active_state e id stream active)
      ∙ rw (nonzero, active, few) refl) refl refl

-- An increment on a number without a stream changes nothing.
pub widen_none : (e : End) (id increment : ℕ) → id ≢ 0 → stream_at e id ≡ None
    → widen_send_window e id increment (stream_at e id) ≡ e
widen_none e id increment some none = search rules
