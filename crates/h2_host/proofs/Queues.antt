-- The queue of turns, once a place was written, put into it or taken from it.
use Rattle.std.specs.Prelude.{◌≡◌, ◌≢◌, ◌<◌, ◌≤◌, ◌⊎◌, ◌++◌, ◌∷◌, [], ℕ, List, length, Bool}
use Rattle.std.specs.Prelude.{true, false, not, ◌&&◌, ◌||◌, Option, Some, slice_set}
use Rattle.std.specs.Prelude.{if◌then◌else◌, cond}
use Rattle.std.proofs.Common.{refl, sym, ap, subst, arith, inl, inr, ◌∙◌}
use Rattle.std.proofs.lemmas.Bool.{cases_eq}
use Rattle.std.proofs.lemmas.List.{append-nil, length-append}
use Rattle.std.proofs.lemmas.List.Sums.{sum_by_push}
use Rattle.h2_host.specs.declared.table.Slot.{Slot}
use Rattle.h2_host.specs.declared.token.Token.{Token}
use Rattle.h2_host.specs.Tokens.{slot_at}
use Rattle.h2_host.specs.Turns.{HasTurn, IsQueueOf, ReadyWait, WaitOnce, WaitsIn, is_due}
use Rattle.h2_host.specs.Turns.{is_ready_slot}
use Rattle.h2_host.specs.Turns.{queue_more, slot_queued}
use Rattle.h2_host.proofs.Places.{at_written, get_longer, get_unwritten, get_written}
use Rattle.h2_host.proofs.Places.{longer_cases, one_slot}
use Rattle.h2_host.proofs.Sums.{count_below, count_less, count_more, count_same}

-- Who waits in a queue waits in one that goes on.
pub waits_longer : (place : ℕ) (queue more : List ℕ) → WaitsIn place queue
    → WaitsIn place (queue ++ more)
unfolding WaitsIn
waits_longer place [] more never = absurd never
waits_longer place (one ∷ queue) more (inl same) = inl same
waits_longer place (one ∷ queue) more (inr later) = inr (waits_longer place queue more later)

-- The last one waits.
pub waits_last : (place : ℕ) (queue : List ℕ) → WaitsIn place (queue ++ place ∷ [])
unfolding WaitsIn
waits_last place [] = inl refl
waits_last place (one ∷ queue) = inr (waits_last place queue)

-- Who waits in a queue with one more is that one, or waited before.
pub waits_cases : (place last : ℕ) (queue : List ℕ) → WaitsIn place (queue ++ last ∷ [])
    → WaitsIn place queue ⊎ (last ≡ place)
unfolding WaitsIn
waits_cases place last [] (inl same) = inr same
waits_cases place last [] (inr never) = absurd never
waits_cases place last (one ∷ queue) (inl same) = inl (inl same)
waits_cases place last (one ∷ queue) (inr later) = elim (waits_cases place last queue later) [
  | inl before ↦ inl (inr before)
  | inr same ↦ inr same
]

-- One that does not wait is put at the end: no place waits twice.
pub once_more : (queue : List ℕ) (last : ℕ) → WaitOnce queue → (WaitsIn last queue → ⊥)
    → WaitOnce (queue ++ last ∷ [])
unfolding WaitOnce WaitsIn
once_more [] last once not_there = ((λ never. never), tt)
once_more (one ∷ queue) last once not_there = (
  (λ there. elim (waits_cases one last queue there) [
    | inl before ↦ once.0 before
    | inr same ↦ not_there (inl (sym same))
  ]),
  once_more queue last once.1 (λ later. not_there (inr later)),
)

-- A place that was written, marked as it was, changes no queue.
pub queue_kept : {P : Type 0} (slots : List (Slot P)) (queue : List ℕ) (place : ℕ)
    (slot next : Slot P) → IsQueueOf slots queue → slot_at slots place ≡ Some slot
    → next.queued ≡ slot.queued → IsQueueOf (slice_set slots place next) queue
queue_kept slots queue place slot next is at same = record {
  once = is.once;
  marked = λ other there.
      let was = is.marked other there in
      elim (cases_eq other place) [
        | inl here ↦
            let old =
            one_slot slots place was.0 slot (ap (slot_at slots) (sym here) ∙ was.1) at in (
              next,
              ap (slot_at (slice_set slots place next)) here
                  ∙ get_written slots place slot next at,
              same ∙ (sym (ap (λ (s : Slot _). s.queued) old) ∙ was.2),
            )
        | inr differs ↦ (was.0, get_unwritten slots place other next differs ∙ was.1, was.2)
      ];
  waits = λ other one there queued.
      elim (at_written slots place other slot next one at there) [
        | inl (here, written) ↦ is.waits other slot (ap (slot_at slots) here ∙ at)
            (sym same ∙ (sym (ap (λ (s : Slot _). s.queued) written) ∙ queued))
        | inr (differs, unwritten) ↦ is.waits other one unwritten queued
      ];
  count = is.count
      ∙ sym (count_same (λ (s : Slot _). s.queued) slots place slot next at same);
}

-- A place that is marked and put at the end of the queue.
pub queue_put : {P : Type 0} (slots : List (Slot P)) (queue : List ℕ) (place : ℕ)
    (slot next : Slot P) → IsQueueOf slots queue → slot_at slots place ≡ Some slot
    → slot.queued ≡ false → next.queued ≡ true
    → IsQueueOf (slice_set slots place next) (queue ++ place ∷ [])
queue_put slots queue place slot next is at never does =
    let not_there : WaitsIn place queue → ⊥ = λ there.
    let was = is.marked place there in
    let old = ap (λ (s : Slot _). s.queued) (one_slot slots place was.0 slot was.1 at) in
    let contrary : true ≡ false = sym was.2 ∙ (old ∙ never) in cc in
    record {
      once = once_more queue place is.once not_there;
      marked = λ other there. elim (cases_eq other place) [
        | inl here ↦ (
          next,
          ap (slot_at (slice_set slots place next)) here ∙ get_written slots place slot next at,
          does,
        )
        | inr differs ↦ elim (waits_cases other place queue there) [
          | inl before ↦
              let was = is.marked other before in
              (was.0, get_unwritten slots place other next differs ∙ was.1, was.2)
          | inr same ↦ absurd (differs (sym same))
        ]
      ];
      waits = λ other one there queued.
          elim (at_written slots place other slot next one at there) [
            | inl (here, written) ↦
                subst (λ p. WaitsIn p (queue ++ place ∷ [])) (sym here) (waits_last place queue)
            | inr (differs, unwritten) ↦
                waits_longer other queue (place ∷ []) (is.waits other one unwritten queued)
          ];
      count =
          let longer = length-append queue (place ∷ []) in
          let more = count_more (λ (s : Slot _). s.queued) slots place slot next at never does in
          let was = is.count in omega (arith, longer, more, was);
    }

-- A place that isn't in the queue is not the last that can be there.
pub queue_short : {P : Type 0} (slots : List (Slot P)) (queue : List ℕ) (place : ℕ)
    (slot : Slot P) → IsQueueOf slots queue → slot_at slots place ≡ Some slot
    → slot.queued ≡ false → length queue < length slots
queue_short slots queue place slot is at never =
    let below = count_below (λ (s : Slot _). s.queued) slots place slot at never in
    let was = is.count in omega (arith, below, was)

-- The same of a queue that nothing is put to.
queue_and_nothing : {P : Type 0} (slots : List (Slot P)) (queue : List ℕ) → IsQueueOf slots queue
    → IsQueueOf slots (queue ++ [])
queue_and_nothing slots queue is = subst (IsQueueOf slots) (sym (append-nil queue)) is

-- A place is written, and put into the queue where it is ready and isn't there.
queue_by : {P : Type 0} (slots : List (Slot P)) (queue : List ℕ) (place : ℕ) (slot : Slot P)
    (generation : ℕ) (party : Option P) (queued ready : Bool) → IsQueueOf slots queue
    → slot_at slots place ≡ Some slot → slot.queued ≡ queued
    → IsQueueOf
    (slice_set slots place
    (record { generation = generation; party = party; queued = queued || ready }))
    (queue ++ (if ready && not queued then place ∷ [] else []))
queue_by slots queue place slot generation party true true is at same =
    queue_and_nothing _ queue (queue_kept slots queue place slot _ is at (sym same))
queue_by slots queue place slot generation party true false is at same =
    queue_and_nothing _ queue (queue_kept slots queue place slot _ is at (sym same))
queue_by slots queue place slot generation party false true is at same =
    queue_put slots queue place slot _ is at same refl
queue_by slots queue place slot generation party false false is at same =
    queue_and_nothing _ queue (queue_kept slots queue place slot _ is at (sym same))

-- A place is written, and put into the queue where it is to be.
pub queue_written : {P : Type 0} (ready_of : P → Bool) (slots : List (Slot P)) (queue : List ℕ)
    (place : ℕ) (slot mid : Slot P) → IsQueueOf slots queue → slot_at slots place ≡ Some slot
    → mid.queued ≡ slot.queued
    → IsQueueOf (slice_set slots place (slot_queued ready_of mid))
    (queue ++ queue_more ready_of mid place)
queue_written ready_of slots queue place slot mid is at same =
    queue_by slots queue place slot mid.generation mid.party mid.queued
    (is_ready_slot ready_of mid) is at (sym same)

-- A place that is to be put into the queue isn't there.
due_not_queued : (ready queued : Bool) → (ready && not queued) ≡ true → queued ≡ false
due_not_queued true true is = cc
due_not_queued true false is = refl
due_not_queued false true is = cc
due_not_queued false false is = cc

-- There is memory for a place that is to be put there, where there is some for each.
pub space_for : {P : Type 0} (ready_of : P → Bool) (slots : List (Slot P)) (queue : List ℕ)
    (place capacity : ℕ) (slot mid : Slot P) → IsQueueOf slots queue
    → slot_at slots place ≡ Some slot → mid.queued ≡ slot.queued → length slots ≤ capacity
    → is_due ready_of mid ≡ true → length queue < capacity
space_for ready_of slots queue place capacity slot mid is at same space due =
    let never = due_not_queued (is_ready_slot ready_of mid) mid.queued due in
    let short = queue_short slots queue place slot is at (sym same ∙ never) in
    omega (arith, short, space)

-- Everybody but whoever is at this place waits where ready, or has the turn.
abbrev pub OthersWait : {P : Type 0} → (ready_of : P → Bool) → List (Slot P) → Option Token
    → (place : ℕ) → Type 0
OthersWait {P = P} ready_of slots turn place =
    (other : ℕ) (slot : Slot P) → other ≢ place → slot_at slots other ≡ Some slot
    → is_ready_slot ready_of slot ≡ true → (slot.queued ≡ true) ⊎ HasTurn turn other

-- What is put into the queue where it is ready, is there if it is ready.
queued_if_ready : (queued ready : Bool) → ready ≡ true → (queued || ready) ≡ true
queued_if_ready true ready is = refl
queued_if_ready false ready is = is

-- A place is written, and put into the queue where it is to be: whoever is ready waits.
pub ready_written : {P : Type 0} (ready_of : P → Bool) (slots : List (Slot P)) (place : ℕ)
    (slot mid : Slot P) (turn : Option Token) → OthersWait ready_of slots turn place
    → slot_at slots place ≡ Some slot
    → ReadyWait ready_of (slice_set slots place (slot_queued ready_of mid)) turn
ready_written ready_of slots place slot mid turn others at = λ other one there ready.
    elim (at_written slots place other slot (slot_queued ready_of mid) one at there) [
      | inl (here, written) ↦
          let is = ap (λ (s : Slot _). is_ready_slot ready_of s) written in
          let does = queued_if_ready mid.queued (is_ready_slot ready_of mid) (sym is ∙ ready) in
          inl (ap (λ (s : Slot _). s.queued) written ∙ does)
      | inr (differs, unwritten) ↦ others other one differs unwritten ready
    ]

-- A place is written that is not ready then.
pub ready_idle : {P : Type 0} (ready_of : P → Bool) (slots : List (Slot P)) (place : ℕ)
    (slot next : Slot P) (turn : Option Token) → OthersWait ready_of slots turn place
    → slot_at slots place ≡ Some slot → is_ready_slot ready_of next ≡ false
    → ReadyWait ready_of (slice_set slots place next) turn
ready_idle ready_of slots place slot next turn others at idle = λ other one there ready.
    elim (at_written slots place other slot next one at there) [
      | inl (here, written) ↦
          let is = ap (λ (s : Slot _). is_ready_slot ready_of s) written in
          let contrary : true ≡ false = sym ready ∙ (is ∙ idle) in
          absurd (let never = contrary in cc)
      | inr (differs, unwritten) ↦ others other one differs unwritten ready
    ]

-- Where everybody waits, everybody else does.
pub others_wait : {P : Type 0} (ready_of : P → Bool) (slots : List (Slot P)) (turn : Option Token)
    (place : ℕ) → ReadyWait ready_of slots turn → OthersWait ready_of slots turn place
others_wait ready_of slots turn place all = λ other slot differs at ready. all other slot at ready

-- The first place is taken from the queue, and marked so.
pub queue_popped : {P : Type 0} (slots : List (Slot P)) (queue : List ℕ) (place : ℕ)
    (slot next : Slot P) → IsQueueOf slots (place ∷ queue) → slot_at slots place ≡ Some slot
    → next.queued ≡ false → IsQueueOf (slice_set slots place next) queue
unfolding WaitOnce WaitsIn
queue_popped slots queue place slot next is at never =
    let once = is.once in
    let first = is.marked place (inl refl) in
    let does = ap (λ (s : Slot _). s.queued) (one_slot slots place slot first.0 at first.1)
    ∙ first.2 in
    record {
      once = once.1;
      marked = λ other there. elim (cases_eq other place) [
        | inl here ↦ absurd (once.0 (subst (λ p. WaitsIn p queue) here there))
        | inr differs ↦
            let was = is.marked other (inr there) in
            (was.0, get_unwritten slots place other next differs ∙ was.1, was.2)
      ];
      waits = λ other one there queued.
          elim (at_written slots place other slot next one at there) [
            | inl (here, written) ↦
                let contrary : true ≡ false =
                sym queued ∙ (ap (λ (s : Slot _). s.queued) written ∙ never) in
                absurd (let never = contrary in cc)
            | inr (differs, unwritten) ↦ elim (is.waits other one unwritten queued) [
              | inl same ↦ absurd (differs (sym same))
              | inr later ↦ later
            ]
          ];
      count =
          let less = count_less (λ (s : Slot _). s.queued) slots place slot next at does never in
          let was = is.count in omega (arith, less, was);
    }

-- A place that nobody has had is in no queue.
pub queue_made : {P : Type 0} (slots : List (Slot P)) (queue : List ℕ) (slot : Slot P)
    → IsQueueOf slots queue → slot.queued ≡ false → IsQueueOf (slots ++ slot ∷ []) queue
queue_made slots queue slot is never = record {
  once = is.once;
  marked = λ place there.
      let was = is.marked place there in (was.0, get_longer slots _ place was.0 was.1, was.2);
  waits = λ place one there queued. elim (longer_cases slots slot place one there) [
    | inl before ↦ is.waits place one before queued
    | inr same ↦
        let contrary : true ≡ false =
        sym queued ∙ (ap (λ (s : Slot _). s.queued) same ∙ never) in
        absurd (let never = contrary in cc)
  ];
  count =
      let more = sum_by_push (λ (s : Slot _). cond s.queued 1 0) slots slot in
      let none = ap {B = ℕ} (λ b. cond b 1 0) never in
      let was = is.count in omega (arith, more, none, was);
}
