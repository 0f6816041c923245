-- The verdict on RST_STREAM, by the state of its stream.
use Rattle.h2_core.proofs.Names.{◌≡◌, ◌⊎◌, ℕ, None, refl, sym, ap, inl, inr, ProtocolError, alone}
use Rattle.h2_core.proofs.Names.{State, Idle, Active, ConnectionFault, NoEvent, Reported}
use Rattle.h2_core.proofs.Names.{verdict_of, End, end_view, state_at, verdict_by_rules, replies_to}
use Rattle.h2_frame.specs.Frames.{Reset}
use Rattle.h2_spec_log.specs.States.{ClosedByUs, Closed}
use Rattle.h2_spec_log.specs.Verdicts.{reset_verdict}
use Rattle.h2_core.proofs.ItemVerdicts.{quiet_verdict, fault_stands, report_stands}

pub idle_reset : (e : End) (id code : ℕ) → Idle ≡ state_at e id
    → verdict_of (end_view e) None (alone (Reset id code)) ≡ ConnectionFault ProtocolError
unfolding verdict_by_rules reset_verdict
idle_reset e id code state =
    fault_stands (end_view e) (Reset id code) ProtocolError (ap reset_verdict (sym state))

pub active_reset : (e : End) (id code : ℕ) → Active ≡ state_at e id
    → verdict_of (end_view e) None (alone (Reset id code)) ≡ Reported
unfolding verdict_by_rules reset_verdict
active_reset e id code state =
    report_stands (end_view e) (Reset id code) (ap reset_verdict (sym state))

closed_verdict : (state : State) → (state ≡ ClosedByUs) ⊎ (state ≡ Closed)
    → reset_verdict state ≡ NoEvent
unfolding reset_verdict
closed_verdict state (inl is) = rw is refl
closed_verdict state (inr is) = rw is refl

pub closed_reset : (e : End) (id code : ℕ)
    → (state_at e id ≡ ClosedByUs) ⊎ (state_at e id ≡ Closed)
    → verdict_of (end_view e) None (alone (Reset id code)) ≡ NoEvent
unfolding verdict_by_rules replies_to
closed_reset e id code state =
    quiet_verdict (end_view e) (Reset id code) NoEvent (closed_verdict (state_at e id) state) refl
    refl
