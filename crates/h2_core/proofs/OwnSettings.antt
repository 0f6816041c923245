-- SETTINGS of the peer, pair by pair: their fault, and the values after them.
use Rattle.h2_core.proofs.Names.{◌≡◌, ℕ, ◌==◌, ◌&&◌, true, false, List, [], ◌∷◌, Some, None, refl}
use Rattle.h2_core.proofs.Names.{Code, FlowControlError, with_value, peer_of, value_fault, View}
use Rattle.h2_core.proofs.Names.{settings_fault, with_values}
use Rattle.h2_flow.specs.declared.settings.Settings.{Settings}

-- A pair whose value is at fault is the first fault.
pub value_faults : (view : View) (left pairs : List (ℕ × ℕ)) (pair : ℕ × ℕ) (code : Code)
    → left ≡ pair ∷ pairs → value_fault (peer_of view.role) pair ≡ Some code
    → settings_fault view left ≡ Some code
unfolding settings_fault
value_faults view left pairs pair code is bad = rw (is, bad) refl

-- So is an initial window that brings a stream's above the greatest.
pub window_faults : (view : View) (left pairs : List (ℕ × ℕ)) (pair : ℕ × ℕ)
    → left ≡ pair ∷ pairs → value_fault (peer_of view.role) pair ≡ None
    → (pair.0 == 4 && view.overflows pair.1) ≡ true
    → settings_fault view left ≡ Some FlowControlError
unfolding settings_fault
window_faults view left pairs pair is good above = rw (is, good, above) refl

-- A pair without a fault leaves that of the others.
pub later_fault : (view : View) (left pairs : List (ℕ × ℕ)) (pair : ℕ × ℕ)
    → left ≡ pair ∷ pairs → value_fault (peer_of view.role) pair ≡ None
    → (pair.0 == 4 && view.overflows pair.1) ≡ false
    → settings_fault view left ≡ settings_fault view pairs
unfolding settings_fault
later_fault view left pairs pair is good below = rw (is, good, below) refl

-- None is left: there is no fault.
pub no_fault : (view : View) (left : List (ℕ × ℕ)) → left ≡ [] → settings_fault view left ≡ None
unfolding settings_fault
no_fault view left is = rw is refl

-- Values are taken in order.
pub next_value : (settings : Settings) (left pairs : List (ℕ × ℕ)) (pair : ℕ × ℕ)
    → left ≡ pair ∷ pairs
    → with_values settings left ≡ with_values (with_value settings pair) pairs
unfolding with_values
next_value settings left pairs pair is = rw is refl

pub last_value : (settings : Settings) (left : List (ℕ × ℕ)) → left ≡ []
    → with_values settings left ≡ settings
unfolding with_values
last_value settings left is = rw is refl
