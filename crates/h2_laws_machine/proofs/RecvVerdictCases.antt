-- What a verdict by the rules says of the state of an item's stream.
use Rattle.h2_laws_machine.proofs.Names
use Names.{◌≡◌, ◌⊎◌, ◌≢◌, ℕ, ◌==◌, Bool, true, false, if◌then◌else◌, refl, inl, inr, Code}
use Names.{ProtocolError, State, Idle, Active, ClosedByUs, ConnectionFault, StreamFault, NoEvent}
use Names.{Reported, block_verdict, opening_verdict, data_verdict, reset_verdict, update_verdict}
use Names.{connection_update_verdict, FlowControlError}

-- The stream of a block is active, or it is a new one that the peer may open, where this end has
-- sent GOAWAY or not.
abbrev pub OnActiveOrNew : State → (opens left wanted : Bool) → Type 0
OnActiveOrNew s opens left wanted = (s ≡ Active)
    ⊎ ((s ≡ Idle) × (opens ≡ true) × (left ≡ wanted))

-- A block that is reported is on an active stream or opens one.
pub block_is_reported : (s : State) (opens left full ended large : Bool)
    → block_verdict s opens left full ended large ≡ Reported → OnActiveOrNew s opens left false
unfolding block_verdict opening_verdict
block_is_reported Idle true false full ended large is = inr (refl, refl, refl)
block_is_reported Active opens left full ended large is = inl refl
block_is_reported s opens left full ended large is = cc

-- A block that is a fault of its stream is on an active one, or its number is new.
pub block_is_fault : (s : State) (opens left full ended large : Bool) (code : Code)
    → block_verdict s opens left full ended large ≡ StreamFault code
    → OnActiveOrNew s opens left false
unfolding block_verdict opening_verdict
block_is_fault Idle true false full ended large code is = inr (refl, refl, refl)
block_is_fault Active opens left full ended large code is = inl refl
block_is_fault s opens left full ended large code is = cc

-- A block that is ignored is on a stream that this end has closed, or its number is new after an
-- own GOAWAY.
pub block_is_ignored : (s : State) (opens left full ended large : Bool)
    → block_verdict s opens left full ended large ≡ NoEvent
    → (s ≡ ClosedByUs) ⊎ ((s ≡ Idle) × (opens ≡ true) × (left ≡ true))
unfolding block_verdict opening_verdict
block_is_ignored Idle true true full ended large is = inr (refl, refl, refl)
block_is_ignored Idle true false false ended true is = cc
block_is_ignored ClosedByUs opens left full ended large is = inl refl
block_is_ignored Active opens left full false true is = cc
block_is_ignored s opens left full ended large is = cc

-- DATA that is reported is on an active stream, and within the connection's window.
pub data_is_reported : (s : State) (passes ended more : Bool)
    → data_verdict s passes ended more ≡ Reported → (s ≡ Active) × (passes ≡ false)
unfolding data_verdict
data_is_reported ClosedByUs true ended more is = cc
data_is_reported Active false ended more is = (refl, refl)
data_is_reported s passes ended more is = cc

-- So is DATA that is a fault of its stream.
pub data_is_fault : (s : State) (passes ended more : Bool) (code : Code)
    → data_verdict s passes ended more ≡ StreamFault code → (s ≡ Active) × (passes ≡ false)
unfolding data_verdict
data_is_fault ClosedByUs true ended more code is = cc
data_is_fault Active false ended more code is = (refl, refl)
data_is_fault s passes ended more code is = cc

-- DATA that is ignored is on a stream that this end has closed, and within the connection's window.
pub data_is_ignored : (s : State) (passes ended more : Bool)
    → data_verdict s passes ended more ≡ NoEvent → (s ≡ ClosedByUs) × (passes ≡ false)
unfolding data_verdict
data_is_ignored ClosedByUs false ended more is = (refl, refl)
data_is_ignored Active false false true is = cc
data_is_ignored s passes ended more is = cc

-- RST_STREAM that is reported is on an active stream, that is ignored isn't, and none is a fault of
-- its stream.
pub reset_is_reported : (s : State) → reset_verdict s ≡ Reported → s ≡ Active
unfolding reset_verdict
reset_is_reported Active is = refl
reset_is_reported other is = cc

pub reset_is_ignored : (s : State) → reset_verdict s ≡ NoEvent → s ≢ Active
unfolding reset_verdict
reset_is_ignored Idle is = cc
reset_is_ignored Active is = cc
reset_is_ignored s is = λ same. cc

pub reset_is_fault : (s : State) (code : Code) → reset_verdict s ≢ StreamFault code
unfolding reset_verdict
reset_is_fault Idle code is = cc
reset_is_fault s code is = cc

-- A WINDOW_UPDATE is a fault of its stream only on an active one.
pub update_is_fault : (zero : Bool) (s : State) (increment : ℕ) (over above : Bool) (code : Code)
    → (if zero then connection_update_verdict increment over
    else update_verdict s increment above) ≡ StreamFault code → s ≡ Active
unfolding connection_update_verdict update_verdict
update_is_fault true s increment over above code is =
    absurd (none (increment == 0) over code is)
  where
    none : (a b : Bool) (code : Code)
        → (if a then ConnectionFault ProtocolError else if b then ConnectionFault FlowControlError
        else NoEvent) ≢ StreamFault code
    none true b code is = cc
    none false true code is = cc
    none false false code is = cc
update_is_fault false Active increment over above code is = refl
update_is_fault false other increment over above code is = cc

-- None is reported.
pub update_is_reported : (zero : Bool) (s : State) (increment : ℕ) (over above : Bool)
    → (if zero then connection_update_verdict increment over
    else update_verdict s increment above) ≢ Reported
unfolding connection_update_verdict update_verdict
update_is_reported true s increment over above is = by (increment == 0) over is where
  by : (a b : Bool)
      → (if a then ConnectionFault ProtocolError else if b then ConnectionFault FlowControlError
      else NoEvent) ≢ Reported
  by true b is = cc
  by false true is = cc
  by false false is = cc
update_is_reported false Active increment over above is = by (increment == 0) above is where
  by : (a b : Bool)
      → (if a then StreamFault ProtocolError else if b then StreamFault FlowControlError
      else NoEvent) ≢ Reported
  by true b is = cc
  by false true is = cc
  by false false is = cc
update_is_reported false other increment over above is = cc
