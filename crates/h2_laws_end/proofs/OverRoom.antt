-- What calls leave of windows, and of what is owed.
use Rattle.h2_laws_end.proofs.Names
use Names.{◌≡◌, ℕ, ◌-◌, ◌≤◌, nat_lt, ◌&&◌, Bool, true, false, if◌then◌else◌, List, ◌∷◌, ◌++◌, pos}
use Names.{◌-ℤ◌, refl, sym, ◌∙◌, inl, inr, arith, list_any, ints, and_left, ltb-false, cases_Bool}
use Names.{nat_tests, Item, Act, Answer, Release, Done, is_block_on, data_on, Log, active, log_view}
use Names.{items_of, with_call, grows_call, unreleased_is, int_lt, and_right, le-ltb, flow_on}
use Names.{reported_total, data_of, total, given_on, given_on_connection, owed, released}
use Names.{unreleased, total_after, released_here, call_calls}
use Rattle.std.proofs.lemmas.Bool.{and_cases}
use Rattle.h2_laws_end.specs.Over.{has_room}
use Rattle.h2_laws_end.proofs.OverCalls.{items_no_block}
use Rattle.h2_laws_end.proofs.OverLists.{IsInactive, inactive_sent}
use Rattle.h2_laws_end.proofs.OverSteps.{call_keeps}

-- A window lets an octet through where less was taken than given.
pub window_test : (given consumed : ℕ) → int_lt (pos 0) (pos given -ℤ pos consumed)
    ≡ nat_lt consumed given
window_test given consumed = grind (arith, nat_tests, ints)

-- It doesn't after more was taken, where it didn't before.
no_room_after : (given consumed more : ℕ) → consumed ≤ more
    → int_lt (pos 0) (pos given -ℤ pos consumed) ≡ false
    → int_lt (pos 0) (pos given -ℤ pos more) ≡ false
no_room_after given consumed more le none =
    let few = ltb-false consumed given (sym (window_test given consumed) ∙ none) in
    window_test given more ∙ le-ltb more given (omega (arith, le, few))

-- What writes more gives no stream room.
no_room : (log : Log) (i : ℕ) (items : List Item)
    → has_room log i ≡ false
    → (int_lt (pos 0) (pos (given_on i log.received) -ℤ pos (total (data_on i)
    (items ++ log.sent)))
    && int_lt (pos 0) (pos (given_on_connection log.received) -ℤ pos (total data_of
    (items ++ log.sent)))) ≡ false
no_room log i items none =
    elim (and_cases _ _ none) [
      | inl here ↦ and_left _ _ (no_room_after _ _ _ (total_after (data_on i) items log.sent) here)
      | inr all ↦ and_right _ _ (no_room_after (given_on_connection log.received) _ _
          (total_after data_of items log.sent) all)
    ]

-- A call gives no stream room.
pub no_room_by_call : (log : Log) (act : Act) (answer : Answer) (i : ℕ)
    → has_room log i ≡ false → has_room (with_call log act answer) i ≡ false
no_room_by_call log act answer i none =
    let grows = grows_call log act answer in
    rw (grows.received, grows.sent) (no_room log i grows.items none)

-- What was released stays released.
pub released_more : (i : ℕ) (act : Act) (answer : Answer) (calls : List (Act × Answer))
    → released i calls ≤ released i ((act, answer) ∷ calls)
unfolding released
released_more i (Release id count) Done calls = omega arith
released_more i act answer calls = omega arith

-- A call that releases writes no block.
release_no_block : (log : Log) (id count i : ℕ) (answer : Answer)
    → list_any (is_block_on i) (items_of (log_view log) (Release id count) answer) ≡ false
release_no_block log id count i answer =
    items_no_block i (log_view log) (Release id count) answer
    (λ fields end other wrong answers. cc) (λ other fields end wrong answers. cc)

-- So a stream that isn't active isn't after it.
release_inactive : (log : Log) (id count i : ℕ) (answer : Answer) → active log i ≡ false
    → active (with_call log (Release id count) answer) i ≡ false
release_inactive log id count i answer =
    call_keeps _ (IsInactive i) (inactive_sent i) _ _ _ (release_no_block log id count i answer)

-- What is owed on a stream that isn't active, and on one that is.
pub owed_inactive : (log : Log) (i : ℕ) → active log i ≡ false → owed log i ≡ 0
unfolding owed
owed_inactive log i is = rw is refl

pub owed_active : (log : Log) (i : ℕ) → active log i ≡ true → owed log i ≡ unreleased log i
unfolding owed
owed_active log i is = rw is refl

owed_if : (b : Bool) (n : ℕ) → n ≡ 0 → (if b then n else 0) ≡ 0
owed_if true n none = none
owed_if false n none = refl

pub owed_none : (log : Log) (i : ℕ) → unreleased log i ≡ 0 → owed log i ≡ 0
unfolding owed
owed_none log i none = owed_if (active log i) (unreleased log i) none

-- What is left after a call, by the lists.
left_after : (log : Log) (id count i : ℕ) (answer : Answer)
    → unreleased (with_call log (Release id count) answer) i
    ≡ reported_total (flow_on i) log.reported
    - released i ((Release id count, answer) ∷ log.calls)
unfolding unreleased
left_after log id count i answer =
    rw (
      (grows_call log (Release id count) answer).reported,
      call_calls log (Release id count) answer,
    ) refl

-- Once all that is owed was released, nothing is.
pub none_owed : (log : Log) (id : ℕ)
    → owed (with_call log (Release id (owed log id)) Done) id ≡ 0
none_owed log id =
    let after = with_call log (Release id (owed log id)) Done in
    elim (cases_Bool (active log id)) [
      | inl alive ↦ owed_none after id (omega (
        arith,
        left_after log id (owed log id) id Done,
        released_here id (owed log id) log.calls,
        owed_active log id alive,
        unreleased_is log id,
      ))
      | inr over ↦ owed_inactive after id (release_inactive log id (owed log id) id Done over)
    ]

-- A call that releases makes nothing owed.
pub none_owed_more : (log : Log) (id count i : ℕ) (answer : Answer) → owed log i ≡ 0
    → owed (with_call log (Release id count) answer) i ≡ 0
none_owed_more log id count i answer none =
    let after = with_call log (Release id count) answer in
    elim (cases_Bool (active log i)) [
      | inl alive ↦ owed_none after i (omega (
        arith,
        none,
        left_after log id count i answer,
        released_more i (Release id count) answer log.calls,
        owed_active log i alive,
        unreleased_is log i,
      ))
      | inr over ↦ owed_inactive after i (release_inactive log id count i answer over)
    ]
