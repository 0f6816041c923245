-- What a verdict on an item says of the item's stream.
use Rattle.h2_laws_end.proofs.Names.{◌≡◌, true, refl, Code, Item, Idle, Log, View}
use Rattle.h2_laws_end.proofs.Names.{Bool, false, Verdict, NoEvent, State, Active, Closed, Decoded}
use Rattle.h2_laws_end.proofs.Names.{Option, StreamFault, Reported, log_view, cond_both, verdict_of}
use Rattle.h2_laws_end.proofs.Names.{ConnectionFault, ClosedByUs, verdict_by_rules, EnhanceYourCalm}
use Rattle.h2_laws_end.proofs.Names.{data_verdict, opening_verdict, block_verdict, reset_verdict}
use Rattle.h2_spec_log.specs.ItemRules.{over_limits}
pub use Rattle.h2_laws_log.proofs.LogViewLemmas.{closed_by_us_is}

-- what holds of a stream's fault, of an item of which nothing is reported, and of one that is
-- reported
abbrev pub Says : (fault silent report : Type 0) → Verdict → Type 0
Says fault silent report (ConnectionFault code) = Unit {0}
Says fault silent report (StreamFault code) = fault
Says fault silent report NoEvent = silent
Says fault silent report Reported = report

-- What holds of a fault of the connection, and of the verdict by the rules, holds of the verdict.
pub by_limits : (P : Verdict → Type 0) (view : View) (decoded : Option Decoded) (item : Item)
    → P (ConnectionFault EnhanceYourCalm) → P (verdict_by_rules view decoded item)
    → P (verdict_of view decoded item)
unfolding verdict_of over_limits
by_limits P view decoded item calm is = cond_both _ _ _ P (λ over. calm) (λ within. is)

-- What the verdict by the rules says, the verdict says.
pub says_of : (F S T : Type 0) (log : Log) (decoded : Option Decoded) (item : Item)
    → Says F S T (verdict_by_rules (log_view log) decoded item)
    → Says F S T (verdict_of (log_view log) decoded item)
says_of F S T log decoded item says = by_limits (Says F S T) (log_view log) decoded item tt says

-- The verdict on DATA says this.
pub says_data : (F S T : Type 0) (state : State) (passes ended above : Bool) → (state ≡ Active → F)
    → (state ≡ ClosedByUs → S) → (state ≡ Active → T)
    → Says F S T (data_verdict state passes ended above)
unfolding data_verdict
says_data F S T Idle passes ended above f s t = tt
says_data F S T Closed passes ended above f s t = tt
says_data F S T ClosedByUs true ended above f s t = tt
says_data F S T ClosedByUs false ended above f s t = s refl
says_data F S T Active true ended above f s t = tt
says_data F S T Active false true above f s t = f refl
says_data F S T Active false false true f s t = tt
says_data F S T Active false false false f s t = t refl

-- The verdict on a block that opens its stream says this, and so does that on any block.
says_opening : (F S T : Type 0) (left full large : Bool) → F → (left ≡ true → S)
    → (left ≡ false → T) → Says F S T (opening_verdict left full large)
unfolding opening_verdict
says_opening F S T true full large f s t = s refl
says_opening F S T false true large f s t = f
says_opening F S T false false true f s t = f
says_opening F S T false false false f s t = t refl

pub says_block : (F S T : Type 0) (state : State) (opens left full ended large : Bool)
    → (state ≡ Idle → opens ≡ true → F × (left ≡ true → S) × (left ≡ false → T))
    → (state ≡ Active → F × T) → (state ≡ ClosedByUs → S)
    → Says F S T (block_verdict state opens left full ended large)
unfolding block_verdict
says_block F S T Idle true left full ended large i a c =
    let all = i refl refl in says_opening F S T left full large all.0 all.1 all.2
says_block F S T Idle false left full ended large i a c = tt
says_block F S T Closed opens left full ended large i a c = tt
says_block F S T ClosedByUs opens left full ended large i a c = c refl
says_block F S T Active opens left full true large i a c = (a refl).0
says_block F S T Active opens left full false true i a c = (a refl).0
says_block F S T Active opens left full false false i a c = (a refl).1

-- The verdict on RST_STREAM says this.
pub says_reset : (F S T : Type 0) (state : State) → (state ≡ Active → T)
    → (state ≡ ClosedByUs → S) → (state ≡ Closed → S) → Says F S T (reset_verdict state)
unfolding reset_verdict
says_reset F S T Idle a c d = tt
says_reset F S T Active a c d = a refl
says_reset F S T ClosedByUs a c d = c refl
says_reset F S T Closed a c d = d refl

-- What holds in any case, a verdict says.
pub says_any : (A : Type 0) (verdict : Verdict) → A → Says A A A verdict
says_any A (ConnectionFault code) is = tt
says_any A other is = is

-- What no verdict has to say.
pub says_nothing : (verdict : Verdict) → Says (Unit {0}) (Unit {0}) (Unit {0}) verdict
says_nothing verdict = says_any (Unit {0}) verdict tt

-- What is said of each verdict but a fault of the connection holds where there is none.
pub says_one : {P : Type 0} (verdict : Verdict)
    → ((code : Code) → verdict ≡ ConnectionFault code → ⊥) → Says P P P verdict → P
says_one (ConnectionFault code) up says = absurd (up code refl)
says_one other up says = says
