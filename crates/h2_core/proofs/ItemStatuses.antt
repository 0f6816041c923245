-- What a status says of a number's state.
use Rattle.h2_core.proofs.Names.{◌≡◌, ◌⊎◌, ℕ, ◌%◌, ◌==◌, ◌||◌, Bool, Option, Some, None, refl, inl}
use Rattle.h2_core.proofs.Names.{inr, sym, ap, ◌∙◌, State, StreamView, StreamEntry, active_entry}
use Rattle.h2_core.proofs.Names.{reset_entry, End, stream_in, stream_at, state_by_entry, state_at}
use Rattle.h2_core.proofs.Names.{is_above_goaway}
use Rattle.std.proofs.Common.{nat_lt}
use Rattle.h2_core.specs.declared.status.Status.{Status}
use Rattle.h2_core.specs.declared.status.Status.TheVariants.{ClosedByUs, Closed}
use Rattle.h2_core.specs.Statuses.{state_of_status, stream_of_status}
use Rattle.std.specs.FinMap as map
use Rattle.h2_spec_log.specs.States as states

-- A number with either of these two statuses is closed.
pub closed_state : (status : Status) (state : State) → state_of_status status ≡ state
    → (status ≡ ClosedByUs) ⊎ (status ≡ Closed)
    → (state ≡ states.ClosedByUs) ⊎ (state ≡ states.Closed)
closed_state status state same (inl is) = inl (sym same ∙ ap state_of_status is)
closed_state status state same (inr is) = inr (sym same ∙ ap state_of_status is)

entry_active : (entry : Option StreamEntry) (idle above : Bool) (stream : StreamView)
    → stream_in entry ≡ Some stream → state_by_entry entry idle above ≡ states.Active
entry_active None idle above stream is = cc
entry_active (Some reset_entry) idle above stream is = cc
entry_active (Some (active_entry one)) idle above stream is = refl

-- A number with a stream is active.
pub active_state : (e : End) (i : ℕ) (stream : StreamView) → stream_at e i ≡ Some stream
    → state_at e i ≡ states.Active
active_state e i stream is =
    entry_active (map.get e.streams.entries i) (i % 2 == 0 || nat_lt e.streams.highest i)
    (is_above_goaway e i) stream is

-- Nothing is kept of a stream with a closed number.
pub closed_stream : (status : Status) (stream : Option StreamView)
    → stream_of_status status ≡ stream → (status ≡ ClosedByUs) ⊎ (status ≡ Closed)
    → stream ≡ None
closed_stream status stream same (inl is) = sym same ∙ ap stream_of_status is
closed_stream status stream same (inr is) = sym same ∙ ap stream_of_status is
