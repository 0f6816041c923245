-- The SETTINGS_MAX_FRAME_SIZE that an end has received is 16,384 at least: a lower one is a fault,
-- and isn't among what was received.
use Rattle.h2_spec_log.specs.ItemRules.{first_fault}
use Rattle.h2_laws_log.proofs.Names
use Names.{subst, or_parts, ltb-false, Code, EnhanceYourCalm, Settings, Item, alone, block, Role}
use Names.{Values, value_fault, value_after, value_read, Log, max_payload_sent, max_payload_sent_by}
use Names.{log_view, Verdict, ConnectionFault, Decoded, settings_fault, verdict_by_rules}
use Names.{verdict_of, verdict_of_fault, read, with_sent, opened, called, IsLog, answer_of, ◌≡◌, ℕ}
use Names.{◌≤◌, ◌==◌, nat_lt, ◌&&◌, ◌||◌, Bool, true, false, if◌then◌else◌, List, [], ◌∷◌, Option}
use Names.{Some, None, refl, sym, arith, ProtocolError, FlowControlError, over_limits, rules}
use Rattle.h2_laws_log.proofs.LogInduction.{IsLogInvariant, kept_by_logs}
use Rattle.h2_laws_log.proofs.LogGrowth.{Grows, grows_wrote}

-- the value that was received last isn't below 16,384
abbrev IsEnough : List Item → Type 0
IsEnough received = 16384 ≤ value_read 5 16384 received

-- Where no pair is at fault the first isn't, nor are those after it.
none_at_fault : (first : Option Code) (above : Bool) (after : Option Code)
    → first_fault first above after ≡ None → (first ≡ None) × (after ≡ None)
none_at_fault (Some code) above after none = cc
none_at_fault None true after none = cc
none_at_fault None false after none = (refl, none)

-- A value without a fault has none of the faults of frame sizes.
no_size_fault : (push window size : Bool) → (if push then Some ProtocolError
    else if window then Some FlowControlError
    else if size then Some ProtocolError else None) ≡ None → size ≡ false
no_size_fault false false false none = refl
no_size_fault push window size none = cc

-- A pair without a fault sets no value below 16,384, by the test whether it names a frame size.
pair_enough : (value before : ℕ) (names : Bool)
    → (names && (nat_lt value 16384 || nat_lt 16777215 value)) ≡ false → 16384 ≤ before
    → 16384 ≤ (if names then value else before)
pair_enough value before true none enough = ltb-false value 16384 (or_parts _ _ none).0
pair_enough value before false none enough = enough

-- Pairs without a fault set none.
pub pairs_enough : (log : Log) (before : ℕ) (pairs : List (ℕ × ℕ))
    → settings_fault (log_view log) pairs ≡ None → 16384 ≤ before
    → 16384 ≤ value_after 5 before pairs
unfolding settings_fault value_after value_fault
pairs_enough log before [] none enough = enough
pairs_enough log before (pair ∷ pairs) none enough =
    let both = none_at_fault _ _ _ none in
    pairs_enough log (if pair.0 == 5 then pair.1 else before) pairs both.1
    (pair_enough pair.1 before (pair.0 == 5) (no_size_fault _ _ _ both.0) enough)

-- A verdict that is no fault of the connection is that of no fault.
no_fault : (fault : Option Code) (v : Verdict) → verdict_of_fault fault ≡ v
    → ((code : Code) → v ≡ ConnectionFault code → ⊥) → fault ≡ None
no_fault None v is up = refl
no_fault (Some code) v is up = absurd (up code (sym is))

-- An item that is no fault of the connection sets none.
item_enough : (log : Log) (decoded : Option Decoded) (item : Item) (v : Verdict)
    → verdict_by_rules (log_view log) decoded item ≡ v
    → ((code : Code) → v ≡ ConnectionFault code → ⊥) → IsEnough log.received
    → IsEnough (item ∷ log.received)
unfolding value_read verdict_by_rules
item_enough log decoded (block stream end octets) v is up enough = enough
item_enough log decoded (alone (Settings false pairs)) v is up enough =
    pairs_enough log _ pairs (no_fault _ v is up) enough
item_enough log decoded (alone frame) v is up enough = enough

-- A verdict after the limits that is no fault of the connection is that before them, by the test.
pub within_limits : (over : Bool) (rules v : Verdict)
    → (if over then ConnectionFault EnhanceYourCalm else rules) ≡ v
    → ((code : Code) → v ≡ ConnectionFault code → ⊥) → rules ≡ v
within_limits true rules v is up = absurd (up EnhanceYourCalm (sym is))
within_limits false rules v is up = is

-- A log that has grown has received the same.
grown_enough : (old new : Log) → Grows old new → IsEnough old.received → IsEnough new.received
grown_enough old new grows enough =
    subst (λ (received : List Item). IsEnough received) (sym grows.received) enough

-- Each change of a log keeps it.
enough_kept : (role : Role) (values : Values)
    → IsLogInvariant role values (λ log. IsEnough log.received)
unfolding opened with_sent value_read verdict_of over_limits
enough_kept role values = record {
  opening = λ in_range. omega arith;
  used = λ log octets unparsed enough. enough;
  framed = λ log frames enough. enough;
  begun = λ log begun enough. enough;
  replied = λ log decoded item verdict replies enough.
      grown_enough (read log decoded item) _ (grows_wrote (read log decoded item) _)
      (item_enough log decoded item verdict (within_limits _ _ verdict replies.is
      replies.up) replies.up enough);
  reported = λ log event events may enough. enough;
  unreturned = λ log count enough. enough;
  returned = λ log returns enough. enough;
  failed = λ log code last names enough. enough;
  sent = λ log act accepted enough.
      let base = called log act (answer_of (log_view log) act) in
      grown_enough base _ (grows_wrote base _) enough;
  called = λ log act answer is none enough. enough;
  given = λ log more enough. enough;
}

-- It is enough in every log that comes about.
frame_size_enough : (role : Role) (values : Values) (log : Log) → IsLog role values log
    → IsEnough log.received
frame_size_enough role values =
    kept_by_logs role values (λ log. IsEnough log.received) (enough_kept role values)

-- No payload is sent that is greater than the value that was received last.
pub sent_payload_fits : (role : Role) (values : Values) (log : Log) → IsLog role values log
    → max_payload_sent log ≤ value_read 5 16384 log.received
unfolding max_payload_sent_by
sent_payload_fits role values log is = omega (arith, frame_size_enough role values log is)
