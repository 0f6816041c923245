-- The rule that a verdict on an item says is broken has the code of the verdict.
use Rattle.h2_conn.proofs.Names.{◌≡◌, ◌∙◌, ℕ, Bool, true, false, if◌then◌else◌, ◌||◌, nat_lt}
use Rattle.h2_conn.proofs.Names.{List, [], ◌∷◌, Option, Some, None, refl, sym, ap}
use Rattle.h2_conn.proofs.Names.{subst, Code, Item, alone, block, Verdict}
use Rattle.h2_conn.proofs.Names.{ConnectionFault, Decoded}
use Rattle.h2_conn.proofs.Names.{View, verdict_of, is_server, Role, Why}
use Rattle.h2_wire.proofs.ReadingLemmas.{one_some}
use Rattle.std.proofs.Common.{◌==◌, ◌&&◌, ◌^◌, ◌-◌}
use Rattle.std.proofs.lemmas.Bool.{cond_both, eqb-true, and_parts}
use Rattle.h2_frame.specs.declared.code.Code.TheVariants.{ProtocolError, FlowControlError}
use Rattle.h2_frame.specs.declared.code.Code.TheVariants.{StreamClosed, CompressionError}
use Rattle.h2_frame.specs.declared.code.Code.TheVariants.{EnhanceYourCalm}
use Rattle.h2_frame.specs.Frames.{Data, Settings, Ping, WindowUpdate, Reset}
use Rattle.h2_spec_log.specs.LogView.{overflows}
use Rattle.h2_spec_log.specs.Settings.{peer_of, value_fault}
use Rattle.h2_spec_log.specs.States.{State, Idle, Active, ClosedByUs, Closed}
use Rattle.h2_spec_log.specs.Verdicts.{StreamFault, NoEvent, Reported, data_verdict, reset_verdict}
use Rattle.h2_spec_log.specs.Verdicts.{connection_update_verdict, update_verdict, block_verdict}
use Rattle.h2_spec_log.specs.Verdicts.{opening_verdict}
use Rattle.h2_spec_log.specs.ItemRules.{first_fault, settings_fault, verdict_of_fault}
use Rattle.h2_spec_log.specs.ItemRules.{verdict_by_rules}
use Rattle.h2_laws_end.proofs.ReadVerdicts.{by_limits}
use Rattle.h2_conn.specs.Why.{code_of_why, rule_of_setting}
use Rattle.h2_conn.specs.Why.{first_at_fault, rule_of_pair}

-- It has this code.
abbrev pub Codes : Why → Code → Type 0
Codes why code = code_of_why why ≡ code

-- one of two, by a test
pub coded_if : (test : Bool) (one two : Why) (code : Code) → Codes one code → Codes two code
    → Codes (if test then one else two) code
coded_if true one two code a b = a
coded_if false one two code a b = b

-- Values of SETTINGS.

-- A value at fault has one of two codes, and breaks a rule that has it.
abbrev ValueCodes : ℕ → Option Code → Type 0
ValueCodes id None = Unit {0}
ValueCodes id (Some code) = Codes (rule_of_setting id) code

setting_codes : (id number : ℕ) (more : Bool) (code : Code) → Codes (rule_of_setting number) code
    → (id == number && more) ≡ true → ValueCodes id (Some code)
setting_codes id number more code known is =
    subst (λ (n : ℕ). Codes (rule_of_setting n) code)
    (sym (eqb-true id number (and_parts (id == number) more is).0)) known

value_codes : (from : Role) (pair : ℕ × ℕ) → ValueCodes pair.0 (value_fault from pair)
unfolding value_fault
value_codes from pair =
    cond_both (pair.0 == 2 && (nat_lt 1 pair.1 || (is_server from && pair.1 == 1)))
    (Some ProtocolError) _ (ValueCodes pair.0) (setting_codes pair.0 2 _ ProtocolError refl)
    (λ none. cond_both (pair.0 == 4 && nat_lt (2 ^ 31 - 1) pair.1) (Some FlowControlError) _
    (ValueCodes pair.0) (setting_codes pair.0 4 _ FlowControlError refl)
    (λ none. cond_both (pair.0 == 5 && (nat_lt pair.1 16384 || nat_lt 16777215 pair.1))
    (Some ProtocolError) None (ValueCodes pair.0) (setting_codes pair.0 5 _ ProtocolError refl)
    (λ none. tt)))

-- The codes that values have.
abbrev IsOfValues : Option Code → Type 0
IsOfValues None = Unit {0}
IsOfValues (Some ProtocolError) = Unit {0}
IsOfValues (Some FlowControlError) = Unit {0}
IsOfValues (Some _) = ⊥

value_of : (from : Role) (pair : ℕ × ℕ) → IsOfValues (value_fault from pair)
unfolding value_fault
value_of from pair =
    cond_both (pair.0 == 2 && (nat_lt 1 pair.1 || (is_server from && pair.1 == 1)))
    (Some ProtocolError) _ IsOfValues (λ push. tt)
    (λ none. cond_both (pair.0 == 4 && nat_lt (2 ^ 31 - 1) pair.1) (Some FlowControlError) _
    IsOfValues (λ window. tt)
    (λ none. cond_both (pair.0 == 5 && (nat_lt pair.1 16384 || nat_lt 16777215 pair.1))
    (Some ProtocolError) None IsOfValues (λ frame. tt) (λ none. tt)))

-- The rule that a pair breaks, or one after it, where this is the fault of all.
pair_codes : (id : ℕ) (fault : Option Code) (above : Bool) (rest : Option Code) (following : Why)
    (code : Code) → ValueCodes id fault → first_fault fault above rest ≡ Some code
    → (rest ≡ Some code → Codes following code)
    → Codes (rule_of_pair fault above id following) code
pair_codes id (Some fault) above rest following code known is other =
    known ∙ one_some fault code is
pair_codes id None true rest following code known is other = one_some FlowControlError code is
pair_codes id None false rest following code known is other = other is

pairs_codes : (view : View) (pairs : List (ℕ × ℕ)) (code : Code)
    → settings_fault view pairs ≡ Some code → Codes (first_at_fault view pairs) code
unfolding first_at_fault settings_fault
pairs_codes view [] code is = cc
pairs_codes view (pair ∷ pairs) code is =
    pair_codes pair.0 (value_fault (peer_of view.role) pair) _ (settings_fault view pairs) _ code
    (value_codes (peer_of view.role) pair) is (pairs_codes view pairs code)

-- Views of one role, in which the same windows overflow, say the same of SETTINGS.
pairs_same : (view other : View) (pairs : List (ℕ × ℕ)) → view.role ≡ other.role
    → ((initial : ℕ) → view.overflows initial ≡ other.overflows initial)
    → first_at_fault view pairs ≡ first_at_fault other pairs
unfolding first_at_fault
pairs_same view other [] role overflows = refl
pairs_same view other (pair ∷ pairs) role overflows =
    rw (role, overflows pair.1, pairs_same view other pairs role overflows) refl

-- The fault of SETTINGS.
first_of_values : (fault : Option Code) (above : Bool) (rest : Option Code) → IsOfValues fault
    → IsOfValues rest → IsOfValues (first_fault fault above rest)
first_of_values (Some code) above rest one other = one
first_of_values None true rest one other = tt
first_of_values None false rest one other = other

settings_of : (view : View) (pairs : List (ℕ × ℕ)) → IsOfValues (settings_fault view pairs)
unfolding settings_fault
settings_of view [] = tt
settings_of view (pair ∷ pairs) =
    first_of_values _ _ _ (value_of (peer_of view.role) pair) (settings_of view pairs)

-- Verdicts.

-- what holds of the code of a frame's fault: it is one of five, and this is said of it where it is
-- PROTOCOL_ERROR or FLOW_CONTROL_ERROR
abbrev pub CodeSays : (Code → Type 0) → Code → Type 0
CodeSays P ProtocolError = P ProtocolError
CodeSays P FlowControlError = P FlowControlError
CodeSays P StreamClosed = Unit {0}
CodeSays P CompressionError = Unit {0}
CodeSays P EnhanceYourCalm = Unit {0}
CodeSays P _ = ⊥

abbrev pub VerdictSays : (Code → Type 0) → Verdict → Type 0
VerdictSays P (ConnectionFault code) = CodeSays P code
VerdictSays P (StreamFault code) = Unit {0}
VerdictSays P NoEvent = Unit {0}
VerdictSays P Reported = Unit {0}

-- what holds of each code
abbrev Always : (Code → Type 0) → Type 0
Always P = (code : Code) → P code

data_says : (P : Code → Type 0) → Always P → (state : State) (passes ended above : Bool)
    → VerdictSays P (data_verdict state passes ended above)
unfolding data_verdict
data_says P p Idle passes ended above = p ProtocolError
data_says P p Closed passes ended above = tt
data_says P p ClosedByUs true ended above = p FlowControlError
data_says P p ClosedByUs false ended above = tt
data_says P p Active true ended above = p FlowControlError
data_says P p Active false true above = tt
data_says P p Active false false true = p FlowControlError
data_says P p Active false false false = tt

opening_says : (P : Code → Type 0) (left full large : Bool)
    → VerdictSays P (opening_verdict left full large)
unfolding opening_verdict
opening_says P true full large = tt
opening_says P false true large = tt
opening_says P false false true = tt
opening_says P false false false = tt

block_says : (P : Code → Type 0) → Always P → (state : State) (opens left full ended large : Bool)
    → VerdictSays P (block_verdict state opens left full ended large)
unfolding block_verdict
block_says P p Idle true left full ended large = opening_says P left full large
block_says P p Idle false left full ended large = p ProtocolError
block_says P p Closed opens left full ended large = p ProtocolError
block_says P p ClosedByUs opens left full ended large = tt
block_says P p Active opens left full true large = tt
block_says P p Active opens left full false true = tt
block_says P p Active opens left full false false = tt

reset_says : (P : Code → Type 0) → Always P → (state : State) → VerdictSays P (reset_verdict state)
unfolding reset_verdict
reset_says P p Idle = p ProtocolError
reset_says P p Active = tt
reset_says P p ClosedByUs = tt
reset_says P p Closed = tt

connection_says : (P : Code → Type 0) → Always P → (none above : Bool)
    → VerdictSays P (if none then ConnectionFault ProtocolError
    else if above then ConnectionFault FlowControlError else NoEvent)
connection_says P p true above = p ProtocolError
connection_says P p false true = p FlowControlError
connection_says P p false false = tt

stream_says : (P : Code → Type 0) (none above : Bool)
    → VerdictSays P (if none then StreamFault ProtocolError
    else if above then StreamFault FlowControlError else NoEvent)
stream_says P true above = tt
stream_says P false true = tt
stream_says P false false = tt

update_says : (P : Code → Type 0) → Always P → (connection : Bool) (state : State) (increment : ℕ)
    (one other : Bool) → VerdictSays P (if connection then connection_update_verdict increment one
    else update_verdict state increment other)
unfolding connection_update_verdict update_verdict
update_says P p true state increment one other = connection_says P p (increment == 0) one
update_says P p false Idle increment one other = p ProtocolError
update_says P p false Active increment one other = stream_says P (increment == 0) other
update_says P p false ClosedByUs increment one other = tt
update_says P p false Closed increment one other = tt

settings_says : (P : Code → Type 0) (fault : Option Code) → IsOfValues fault
    → ((code : Code) → fault ≡ Some code → P code) → VerdictSays P (verdict_of_fault fault)
settings_says P None one p = tt
settings_says P (Some ProtocolError) one p = p ProtocolError refl
settings_says P (Some FlowControlError) one p = p FlowControlError refl
settings_says P (Some code) one p = absurd one

reply_says : (P : Code → Type 0) (b : Bool) → VerdictSays P (if b then Reported else NoEvent)
reply_says P true = tt
reply_says P false = tt

-- What is said of an item where its fault has this code: of SETTINGS, that a pair breaks a rule
-- with it.
abbrev pub ItemSays : View → Item → Code → Type 0
ItemSays view (alone (Settings ack pairs)) code = Codes (first_at_fault view pairs) code
ItemSays view _ code = Unit {0}

-- nothing
abbrev Nothing : Code → Type 0
Nothing code = Unit {0}

rules_say : (view : View) (decoded : Option Decoded) (item : Item)
    → VerdictSays (ItemSays view item) (verdict_by_rules view decoded item)
unfolding verdict_by_rules
rules_say view None (block stream end octets) = tt
rules_say view (Some decoded) (block stream end octets) =
    block_says Nothing (λ code. tt) (view.state stream) _ _ _ _ _
rules_say view decoded (alone (Data stream end octets pad)) =
    data_says Nothing (λ code. tt) (view.state stream) _ _ _
rules_say view decoded (alone (Reset stream code)) =
    reset_says Nothing (λ code. tt) (view.state stream)
rules_say view decoded (alone (Settings false pairs)) =
    settings_says _ (settings_fault view pairs) (settings_of view pairs) (pairs_codes view pairs)
rules_say view decoded (alone (Settings true pairs)) =
    reply_says (ItemSays view (alone (Settings true pairs))) view.settings_wait
rules_say view decoded (alone (Ping true octets)) = reply_says Nothing _
rules_say view decoded (alone (WindowUpdate stream increment)) =
    update_says Nothing (λ code. tt) (stream == 0) (view.state stream) increment _ _
rules_say view decoded (alone frame) = tt

pub verdict_says : (view : View) (decoded : Option Decoded) (item : Item)
    → VerdictSays (ItemSays view item) (verdict_of view decoded item)
verdict_says view decoded item =
    by_limits (VerdictSays (ItemSays view item)) view decoded item tt (rules_say view decoded item)

-- Views of one role, in which the same windows overflow, say the same of an item.
pub item_same : (view other : View) (item : Item) (code : Code) → view.role ≡ other.role
    → ((initial : ℕ) → view.overflows initial ≡ other.overflows initial)
    → ItemSays view item code → ItemSays other item code
item_same view other (alone (Settings ack pairs)) code role overflows says =
    ap code_of_why (sym (pairs_same view other pairs role overflows)) ∙ says
item_same view other item code role overflows says = tt
