-- What calls write on streams that are over: no block.
use Rattle.h2_laws_end.proofs.Names
use Names.{◌≡◌, ℕ, true, List, ◌∷◌, ◌++◌, refl, inl, inr, Item, Act, Open, Done, Log, View}
use Names.{Widen}
use Names.{◌==◌, list_any, both_ways, SendData, SendPing, MayAnswer, with_call, used_more, items_of}
use Names.{Bool, false, arith, ne_eqb, Field, alone, Answer, Release, Refuse, Number, Count, IsOver}
use Names.{if◌then◌else◌, or_from, false_from_ne_true, WindowUpdate, ChangeSettings, is_number_used}
use Names.{[], SendFields, ResetStream, SendGoAway, data_items, grows_call, any_either, is_block_on}
use Rattle.h2_laws_end.proofs.OverLists.{IsPast, past_sent}
use Rattle.h2_laws_end.proofs.OverNumbers.{open_answer, fields_active, used_below}
use Rattle.h2_laws_end.proofs.OverSteps.{Holds, call_keeps}
use Rattle.h2_laws_end.proofs.DataItems.{body_all, none_of_all}

-- Where neither of two lists has such an item, their line has none.
pub none_of_both : (p : Item → Bool) (one other : List Item) → list_any p one ≡ false
    → list_any p other ≡ false → list_any p (one ++ other) ≡ false
none_of_both p one other none no_other =
    false_from_ne_true _ (λ some. elim (any_either p one other some) [
      | inl here ↦ both_ways _ none here
      | inr there ↦ both_ways _ no_other there
    ])

-- What is written of a body is no block.
body_no_block : (i most id : ℕ) (octets : List ℕ) (end : Bool) (count : ℕ)
    → list_any (is_block_on i) (data_items most id octets end count) ≡ false
unfolding is_block_on
body_no_block i most id octets end count =
    none_of_all (is_block_on i) _ (body_all (λ item. is_block_on i item ≡ false) most id
    (λ one short. refl) octets end count (λ last short. refl))

-- Nor is credit, by whether the stream has ended.
credit_no_block : (i : ℕ) (b : Bool) (id count : ℕ)
    → list_any (is_block_on i) (alone (WindowUpdate 0 count) ∷
    (if b then [] else alone (WindowUpdate id count) ∷ [])) ≡ false
unfolding is_block_on
credit_no_block i true id count = refl
credit_no_block i false id count = refl

-- A call that opens no stream with the number, and writes no fields on it, writes no block on it.
pub items_no_block : (i : ℕ) (view : View) (act : Act) (answer : Answer)
    → ((fields : List Field) (end : Bool) (id : ℕ) → act ≡ Open fields end → answer ≡ Number id
    → (id == i) ≡ false)
    → ((id : ℕ) (fields : List Field) (end : Bool) → act ≡ SendFields id fields end
    → answer ≡ Done → (id == i) ≡ false)
    → list_any (is_block_on i) (items_of view act answer) ≡ false
unfolding items_of is_block_on
items_no_block i view (Open fields end) (Number id) opens writes =
    or_from _ _ (opens fields end id refl refl) refl
items_no_block i view (SendFields id fields end) Done opens writes =
    or_from _ _ (writes id fields end refl refl) refl
items_no_block i view (SendData id octets end) (Count count) opens writes =
    body_no_block i view.max_payload id octets end count
items_no_block i view (Release id count) Done opens writes = credit_no_block _ _ _ count
items_no_block i view (ResetStream id code) Done opens writes = refl
items_no_block i view (Refuse id code) Done opens writes = refl
items_no_block i view (SendPing octets) Done opens writes = refl
items_no_block i view SendGoAway Done opens writes = refl
items_no_block i view (ChangeSettings values) Done opens writes = refl
items_no_block i view (Widen count) Done opens writes = refl
items_no_block i view act answer opens writes = refl

-- So it is with any call on a stream that is over.
pub opens_other : (log : Log) (i : ℕ) (act : Act) (answer : Answer) → MayAnswer log act answer
    → is_number_used log i ≡ true → (fields : List Field) (end : Bool) (id : ℕ)
    → act ≡ Open fields end
    → answer ≡ Number id → (id == i) ≡ false
opens_other log i act answer may was fields end id is answers =
    let opens : MayAnswer log (Open fields end) (Number id) = rw (is, answers) at may in
    let next = open_answer log fields end id opens in
    let low = used_below log i next.0 was in
    let same = next.1 in
    ne_eqb id i (λ equal. omega (arith, low, same, equal))

writes_other : (log : Log) (i : ℕ) (act : Act) (answer : Answer) → MayAnswer log act answer
    → IsOver log i → (id : ℕ) (fields : List Field) (end : Bool) → act ≡ SendFields id fields end
    → answer ≡ Done → (id == i) ≡ false
writes_other log i act answer may over id fields end is answers =
    let writes : MayAnswer log (SendFields id fields end) Done = rw (is, answers) at may in
    let alive = fields_active log id fields end writes in
    ne_eqb id i (λ equal. both_ways _ over.not_active (rw equal at alive))

-- What is over, by the lists.
pub past_of : (log : Log) (i : ℕ) → IsOver log i → Holds (IsPast i) log
past_of log i over = record { was_used = over.was_used; not_active = over.not_active }

pub over_of : (log : Log) (i : ℕ) → Holds (IsPast i) log → IsOver log i
over_of log i past = record { was_used = past.was_used; not_active = past.not_active }

-- What is over stays so after a call.
pub over_by_call : (log : Log) (act : Act) (answer : Answer) (i : ℕ) → MayAnswer log act answer
    → IsOver log i → IsOver (with_call log act answer) i
over_by_call log act answer i may over =
    over_of _ _ (call_keeps _ (IsPast i) (past_sent i) _ _ _ (items_no_block _ _ _ _
    (opens_other _ _ _ _ may over.was_used) (writes_other _ _ _ _ may over)) (past_of _ _ over))

-- What was used stays so.
pub used_by_call : (log : Log) (act : Act) (answer : Answer) (i : ℕ) → is_number_used log i ≡ true
    → is_number_used (with_call log act answer) i ≡ true
used_by_call log act answer i was =
    let grows = grows_call log act answer in
    rw (grows.role, grows.received, grows.sent) (used_more _ _ [] grows.items _ log.sent was)
