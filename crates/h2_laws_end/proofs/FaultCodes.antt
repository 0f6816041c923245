-- The codes with which an item's stream is at fault.
use Rattle.h2_laws_end.proofs.Names
use Names.{ℕ, ◌==◌, Bool, true, false, if◌then◌else◌, Option, Some, None, List, [], ◌∷◌, refl}
use Names.{arith, ◌≢◌, ap, Code, ProtocolError, InternalError, Data, Reset, Settings, Ping}
use Names.{WindowUpdate, Item, alone, block, State, Idle, Active, ClosedByUs, Closed, View, Verdict}
use Names.{ConnectionFault, StreamFault, NoEvent, Reported, Decoded, verdict_of_fault, verdict_of}
use Names.{cond_both, Role, nat_lt, ◌&&◌, ◌^◌, ◌-◌, is_server, FlowControlError, EnhanceYourCalm}
use Names.{data_verdict, reset_verdict, connection_update_verdict, update_verdict, block_verdict}
use Names.{opening_verdict, verdict_by_rules, settings_fault, fault_codes, ◌||◌}
use Rattle.std.specs.List.{Contains}
use Rattle.h2_frame.specs.declared.code.Code.TheVariants.{StreamClosed, RefusedStream}
use Rattle.h2_spec_log.specs.ItemRules.{first_fault}
use Rattle.h2_spec_log.specs.Settings.{value_fault, peer_of}
use Rattle.h2_laws_end.proofs.ReadVerdicts.{by_limits}

-- A fault of the stream has one of these codes, and one of the connection has not INTERNAL_ERROR.
abbrev pub HasCode : List Code → Verdict → Type 0
HasCode codes (ConnectionFault code) = code ≢ InternalError
HasCode codes (StreamFault code) = Contains codes code
HasCode codes NoEvent = Unit {0}
HasCode codes Reported = Unit {0}

-- DATA.
data_coded : (codes : List Code) (state : State) (passes ended above : Bool)
    → Contains codes StreamClosed → HasCode codes (data_verdict state passes ended above)
unfolding data_verdict
data_coded codes Idle passes ended above closed = λ is. cc
data_coded codes Closed passes ended above closed = λ is. cc
data_coded codes ClosedByUs true ended above closed = λ is. cc
data_coded codes ClosedByUs false ended above closed = tt
data_coded codes Active true ended above closed = λ is. cc
data_coded codes Active false true above closed = closed
data_coded codes Active false false true closed = λ is. cc
data_coded codes Active false false false closed = tt

-- A block that opens a stream.
opening_coded : (codes : List Code) (left full large : Bool) → Contains codes RefusedStream
    → Contains codes EnhanceYourCalm → HasCode codes (opening_verdict left full large)
unfolding opening_verdict
opening_coded codes true full large refused calm = tt
opening_coded codes false true large refused calm = refused
opening_coded codes false false true refused calm = calm
opening_coded codes false false false refused calm = tt

-- A block.
block_coded : (codes : List Code) (state : State) (opens left full ended large : Bool)
    → Contains codes StreamClosed → Contains codes RefusedStream → Contains codes EnhanceYourCalm
    → HasCode codes (block_verdict state opens left full ended large)
unfolding block_verdict
block_coded codes Idle true left full ended large closed refused calm =
    opening_coded codes left full large refused calm
block_coded codes Idle false left full ended large closed refused calm = λ is. cc
block_coded codes Closed opens left full ended large closed refused calm = λ is. cc
block_coded codes ClosedByUs opens left full ended large closed refused calm = tt
block_coded codes Active opens left full true large closed refused calm = closed
block_coded codes Active opens left full false true closed refused calm = calm
block_coded codes Active opens left full false false closed refused calm = tt

-- WINDOW_UPDATE of a stream, by its tests.
updated_by : (codes : List Code) (none above : Bool) → Contains codes ProtocolError
    → Contains codes FlowControlError
    → HasCode codes (if none then StreamFault ProtocolError
    else if above then StreamFault FlowControlError else NoEvent)
updated_by codes true above protocol flow = protocol
updated_by codes false true protocol flow = flow
updated_by codes false false protocol flow = tt

-- WINDOW_UPDATE of the connection, by its tests.
connection_by : (codes : List Code) (none above : Bool)
    → HasCode codes (if none then ConnectionFault ProtocolError
    else if above then ConnectionFault FlowControlError else NoEvent)
connection_by codes true above = λ is. cc
connection_by codes false true = λ is. cc
connection_by codes false false = tt

update_coded : (codes : List Code) (b : Bool) (state : State) (increment : ℕ) (one other : Bool)
    → Contains codes ProtocolError → Contains codes FlowControlError
    → HasCode codes (if b then connection_update_verdict increment one
    else update_verdict state increment other)
unfolding connection_update_verdict update_verdict
update_coded codes true state increment one other protocol flow = connection_by _ (increment == 0) _
update_coded codes false Active increment one other protocol flow =
    updated_by codes (increment == 0) other protocol flow
update_coded codes false Idle increment one other protocol flow = λ is. cc
update_coded codes false state increment one other protocol flow = tt

-- RST_STREAM.
reset_coded : (codes : List Code) (state : State) → HasCode codes (reset_verdict state)
unfolding reset_verdict
reset_coded codes Idle = λ is. cc
reset_coded codes state = tt

-- No value of SETTINGS is at fault with INTERNAL_ERROR.
abbrev IsOther : Option Code → Type 0
IsOther fault = fault ≢ Some InternalError

value_other : (from : Role) (pair : ℕ × ℕ) → IsOther (value_fault from pair)
unfolding value_fault
value_other from pair =
    cond_both (pair.0 == 2 && (nat_lt 1 pair.1 || (is_server from && pair.1 == 1)))
    (Some ProtocolError) _ IsOther (λ push is. cc)
    (λ none. cond_both (pair.0 == 4 && nat_lt (2 ^ 31 - 1) pair.1) (Some FlowControlError) _ IsOther
    (λ window is. cc)
    (λ none. cond_both (pair.0 == 5 && (nat_lt pair.1 16384 || nat_lt 16777215 pair.1))
    (Some ProtocolError) None IsOther (λ frame is. cc) (λ none is. cc)))

first_other : (fault : Option Code) (above : Bool) (following : Option Code) → IsOther fault
    → IsOther following → IsOther (first_fault fault above following)
first_other (Some code) above following one other = one
first_other None true following one other = λ is. cc
first_other None false following one other = other

settings_other : (view : View) (pairs : List (ℕ × ℕ)) → IsOther (settings_fault view pairs)
unfolding settings_fault
settings_other view [] = λ is. cc
settings_other view (pair ∷ pairs) =
    first_other _ _ _ (value_other (peer_of view.role) pair) (settings_other view pairs)

settings_coded : (codes : List Code) (fault : Option Code) → IsOther fault
    → HasCode codes (verdict_of_fault fault)
settings_coded codes None other = tt
settings_coded codes (Some code) other = λ is. other (ap Some is)

-- A reply.
reply_coded : (codes : List Code) (b : Bool) → HasCode codes (if b then Reported else NoEvent)
reply_coded codes true = tt
reply_coded codes false = tt

-- The first, the second and the third code of a list.
first_of : (a : Code) (codes : List Code) → Contains (a ∷ codes) a
first_of a codes = (0, omega arith, refl)

second_of : (a b : Code) (codes : List Code) → Contains (a ∷ b ∷ codes) b
second_of a b codes = (1, omega arith, refl)

third_of : (a b c : Code) (codes : List Code) → Contains (a ∷ b ∷ c ∷ codes) c
third_of a b c codes = (2, omega arith, refl)

-- By the rules.
rules_coded : (view : View) (decoded : Option Decoded) (item : Item)
    → HasCode (fault_codes item) (verdict_by_rules view decoded item)
unfolding verdict_by_rules fault_codes
rules_coded view None (block stream end octets) = λ is. cc
rules_coded view (Some decoded) (block stream end octets) =
    block_coded (StreamClosed ∷ RefusedStream ∷ EnhanceYourCalm ∷ []) (view.state stream) _ _ _ _ _
    (first_of StreamClosed (RefusedStream ∷ EnhanceYourCalm ∷ []))
    (second_of StreamClosed RefusedStream (EnhanceYourCalm ∷ []))
    (third_of StreamClosed RefusedStream EnhanceYourCalm [])
rules_coded view decoded (alone (Data stream end octets pad)) =
    data_coded (StreamClosed ∷ []) (view.state stream) _ _ _ (first_of StreamClosed [])
rules_coded view decoded (alone (Reset stream code)) = reset_coded [] (view.state stream)
rules_coded view decoded (alone (Settings false pairs)) = settings_coded [] _ (settings_other _ _)
rules_coded view decoded (alone (Settings true pairs)) = reply_coded [] view.settings_wait
rules_coded view decoded (alone (Ping true octets)) = reply_coded [] _
rules_coded view decoded (alone (WindowUpdate stream increment)) =
    update_coded (ProtocolError ∷ FlowControlError ∷ []) (stream == 0) _ _ _ _
    (first_of ProtocolError (FlowControlError ∷ [])) (second_of ProtocolError FlowControlError [])
rules_coded view decoded (alone frame) = tt

-- The verdict on an item.
pub verdict_coded : (view : View) (decoded : Option Decoded) (item : Item)
    → HasCode (fault_codes item) (verdict_of view decoded item)
verdict_coded view decoded item =
    by_limits (HasCode (fault_codes item)) view decoded item (λ is. cc) (rules_coded _ _ item)
