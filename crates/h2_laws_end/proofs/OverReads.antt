-- What reading leaves of numbers that were used and of streams that are over; and of which streams
-- fields and octets are reported.
use Rattle.h2_laws_end.proofs.Names
use Names.{◌≡◌, state_is_active, closed_by_us_is, is_number_used, is_closed_by_us, verdict_by_rules}
use Names.{ℕ, true, List, [], ◌∷◌, Some, None, refl, sym, Data, Item, Idle, Log}
use Names.{Bool, Option, eqb-true, alone, block, Active, state, log_view, Decoded, IsOver, MayTake}
use Names.{subst, both_ways, peer_opens, active_used, used_more, used_here, TakeAnswer, is_block_on}
use Rattle.h2_laws_log.proofs.ReaderStates.{not_idle}
use Rattle.h2_laws_end.proofs.OverCalls.{past_of, over_of}
use Rattle.h2_laws_end.proofs.OverLists.{IsPast, WasUsed, past_sent, past_reported, past_read}
use Rattle.h2_laws_end.proofs.OverSteps.{Holds, HoldsRead, take_keeps}
use Rattle.h2_laws_end.proofs.ReadVerdicts.{Says, says_data, says_any, says_nothing, says_block}

-- A stream that is over is neither idle nor active.
past_not_idle : (log : Log) (i : ℕ) → Holds (IsPast i) log → state log i ≡ Idle → ⊥
past_not_idle log i past idle = not_idle _ _ _ past.was_used idle

past_not_active : (log : Log) (i : ℕ) → Holds (IsPast i) log → state log i ≡ Active → ⊥
past_not_active log i past active = both_ways _ past.not_active (state_is_active _ _ _ active)

-- An item that isn't a block on the stream.
other_read : (i : ℕ) (log : Log) (item : Item) → (is_block_on i item ≡ true → ⊥)
    → Holds (IsPast i) log → IsPast i log.role (item ∷ log.received) log.sent log.reported
other_read i log item other past = past_read _ _ _ _ _ item (λ here. absurd (other here)) past

-- The stream of a block is over where it is this one.
block_past : (i : ℕ) (log : Log) (stream : ℕ) (end : Bool) (octets : List ℕ)
    → Holds (IsPast i) log → is_block_on i (block stream end octets) ≡ true
    → (i ≡ stream) × Holds (IsPast stream) log
unfolding is_block_on
block_past i log stream end octets past here =
    let same : i ≡ stream = sym (eqb-true stream i here) in
    (same, subst (λ (j : ℕ). Holds (IsPast j) log) same past)

-- By the rules what is over stays so after an item that is read.
past_by_rules : (i : ℕ) (log : Log) (decoded : Option Decoded) (item : Item)
    → Holds (IsPast i) log
    → HoldsRead (IsPast i) log item (verdict_by_rules (log_view log) decoded item)
unfolding verdict_by_rules is_block_on
past_by_rules i log None (block stream end octets) past = tt
past_by_rules i log (Some decoded) (block stream end octets) past =
    let item = block stream end octets in
    let is_past : is_block_on i item ≡ true → Holds (IsPast stream) log = λ here.
    (block_past i log stream end octets past here).1 in
    let now = IsPast i log.role (item ∷ log.received) log.sent log.reported in
    let idle : state log stream ≡ Idle → now = λ idle. other_read i log item
    (λ here. past_not_idle log stream (is_past here) idle) past in
    let active : state log stream ≡ Active → now = λ active. other_read i log item
    (λ here. past_not_active log stream (is_past here) active) past in
    says_block now now now _ _ _ _ _ _ (λ is opens. (idle is, λ left. idle is, λ stays. idle is))
    (λ is. (active is, active is))
    (λ is. past_read i log.role log.received log.sent log.reported item
    (λ here. subst (λ (j : ℕ). is_closed_by_us log.role j log.sent ≡ true)
    (sym (block_past i log stream end octets past here).0) (closed_by_us_is _ _ _ is)) past)
past_by_rules i log decoded (alone frame) past =
    says_any _ _ (other_read i log (alone frame) (λ here. both_ways _ refl here) past)

-- What is over stays so after a call of `take`.
pub over_by_take : (log after : Log) (piece : List ℕ) (answer : TakeAnswer) (i : ℕ)
    → MayTake log piece answer after → IsOver log i → IsOver after i
over_by_take log after piece answer i may over =
    over_of after i (take_keeps i (IsPast i) (past_sent i) (past_reported i) (past_by_rules i)
    log after piece answer may (past_of log i over))

-- What was used stays so.
used_by_rules : (i : ℕ) (log : Log) (decoded : Option Decoded) (item : Item)
    → Holds (WasUsed i) log
    → HoldsRead (WasUsed i) log item (verdict_by_rules (log_view log) decoded item)
used_by_rules i log decoded item was =
    says_any _ _ (used_more log.role i (item ∷ []) [] log.received log.sent was)

pub used_by_take : (log after : Log) (piece : List ℕ) (answer : TakeAnswer) (i : ℕ)
    → MayTake log piece answer after → is_number_used log i ≡ true → is_number_used after i ≡ true
used_by_take log after piece answer i may was =
    take_keeps i (WasUsed i)
    (λ role received sent reported items none was. used_more role i [] items received sent was)
    (λ role received sent reported events was. was) (used_by_rules i) log after piece answer may was

-- The item is neither a block nor DATA, or this holds of its stream.
abbrev pub OfMessage : (ℕ → Type 0) → Item → Type 0
OfMessage P (block stream end octets) = P stream
OfMessage P (alone (Data stream end octets pad)) = P stream
OfMessage P (alone frame) = Unit {0}

-- A stream isn't over, and is used once the item is read.
abbrev pub IsInUse : Log → Item → ℕ → Type 0
IsInUse log item i =
    (Holds (IsPast i) log → ⊥) × WasUsed i log.role (item ∷ log.received) log.sent log.reported

-- An active stream is in use, and so is an idle one that the peer opens.
active_in_use : (log : Log) (item : Item) (i : ℕ) → state log i ≡ Active → IsInUse log item i
active_in_use log item i is =
    let active = state_is_active _ _ _ is in (
      λ past. both_ways _ past.not_active active,
      used_more log.role i (item ∷ []) [] log.received log.sent (active_used _ _ _ _ _ active),
    )

idle_in_use : (log : Log) (i : ℕ) (end : Bool) (octets : List ℕ) → state log i ≡ Idle
    → peer_opens (log_view log) i ≡ true → IsInUse log (block i end octets) i
idle_in_use log i end octets idle opens = (
  λ past. past_not_idle log i past idle,
  used_here log.role i end octets log.received log.sent opens,
)

-- By the rules what is reported of a message is of a stream in use.
pub in_use_by_rules : (log : Log) (decoded : Option Decoded) (item : Item)
    → Says (Unit {0}) (Unit {0}) (OfMessage (IsInUse log item) item)
    (verdict_by_rules (log_view log) decoded item)
unfolding verdict_by_rules
in_use_by_rules log None (block stream end octets) = tt
in_use_by_rules log (Some decoded) (block stream end octets) =
    says_block (Unit {0}) (Unit {0}) _ _ (peer_opens (log_view log) stream) _ _ _ _
    (λ idle opens. (tt, λ left. tt, λ stays. idle_in_use log stream end octets idle opens))
    (λ active. (tt, active_in_use log (block stream end octets) stream active)) (λ closed. tt)
in_use_by_rules log decoded (alone (Data stream end octets pad)) =
    says_data (Unit {0}) (Unit {0}) _ _ _ _ _ (λ active. tt) (λ closed. tt)
    (active_in_use log (alone (Data stream end octets pad)) stream)
in_use_by_rules log decoded (alone frame) =
    says_nothing (verdict_by_rules (log_view log) decoded (alone frame))
