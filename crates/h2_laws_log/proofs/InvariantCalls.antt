-- The invariant of a log holds after a call, other than those that send fields and bodies.
use Rattle.std.proofs.lemmas.Bool.{eqb-false}
use Rattle.h2_spec_log.specs.CallRules.{may_fail_for_memory}
use Rattle.h2_laws_log.proofs.Names
use Names.{is_some, both_ways, and_parts, ltb-true, ltb-false, not-true, Code, InternalError}
use Names.{EnhanceYourCalm, Reset, Settings, Ping, GoAway, Item, alone, Role, Refusal, total}
use Names.{increment_on, one_answer, value_read, settings_count, one_ack, reported_total, Values}
use Names.{AreInRange, Act, Answer, Release, ResetStream, Refuse, SendPing, SendGoAway, Fail}
use Names.{Widen, widened, WindowUpdate, first_window, greatest_window, granted_on_connection}
use Names.{or_parts, ◌+◌, ◌≤◌}
use Names.{PutOut, ChangeSettings, Count, Done, OutOfMemory, Refused, Log, active, released, acked}
use Names.{last_processed, log_view, conditions, refusal_of, items_of, stream_of_act, changed_pairs}
use Names.{with_sent, with_reported, called, with_items, refused_with, with_call, AllowedHistory}
use Names.{writes, active_by_items, none_since, ◌≡◌, ◌≢◌, ℕ, zero, suc, zero-add, ◌==◌, ◌%◌, nat_lt}
use Names.{Bool, true, false, if◌then◌else◌, List, [], ◌∷◌, ◌++◌, Option, None, Some, refl, sym}
use Names.{◌∙◌, arith, refuse_fault, rules}
use Rattle.h2_laws_log.proofs.CallConditions.{first_none, none_holds, and_other}
use Rattle.h2_laws_log.proofs.CreditCases.{put_out_cases}
use Rattle.h2_laws_log.proofs.InvariantSteps.{give_represents, fails_represents, last_low}
use Rattle.h2_laws_log.proofs.InvariantSteps.{recalled_represents, step_log, update_elsewhere}
use Rattle.h2_laws_log.proofs.InvariantSteps.{update_here}
use Rattle.h2_laws_log.proofs.LogHistory.{History, history_of, active_in_view}
use Rattle.h2_laws_log.proofs.LogInvariant.{Good, Represents, NumbersFit, Moves}
use Rattle.h2_laws_log.proofs.LogViewLemmas.{when_some, stream_is_active}
use Rattle.h2_laws_log.proofs.ReaderStates.{active_parts, active_unnamed}
use Rattle.h2_laws_log.proofs.ReplyInvariant.{active_resets}
use Rattle.h2_laws_log.proofs.LogInduction.{WritesNone, refused, no_memory, fails_instead}
use Rattle.h2_laws_log.proofs.LogInduction.{ends_connection, puts_out}

-- An active stream is active by what was read and written.
pub active_is_active : (log : Log) (i : ℕ) → active log i ≡ true
    → active_by_items log.role i log.received log.sent ≡ true
active_is_active log i = active_unnamed log.role i log.received log.sent log.reported

-- an odd number isn't nothing
pub odd_some : (i : ℕ) → i % 2 == 1 ≡ true → i ≢ 0
odd_some zero odd = λ none. both_ways false refl odd
odd_some (suc i) odd = λ none. omega arith

-- An active stream's number isn't nothing.
pub active_some : (log : Log) (i : ℕ) → active log i ≡ true → i ≢ 0
active_some log i active = odd_some i
    (active_parts log.role i log.received log.sent log.reported active).odd

-- A step of a call that writes items which neither answer nor give.
pub writes_only : (v : History) (i : ℕ) (items : List Item) (calls : List (Act × Answer))
    → AllowedHistory v.role v.received (items ++ v.sent) → total one_ack items ≡ 0
    → total one_answer items ≡ 0 → ((j : ℕ) → total (increment_on j) items ≡ 0) → ((j : ℕ)
    → released j calls ≡ released j v.calls) → widened calls ≡ widened v.calls
    → Moves v i [] items [] calls 0
unfolding total settings_count reported_total
writes_only v i items calls with_sent acks answers gives same wide = search rules

-- The same of one item.
pub writes_one : (v : History) (i : ℕ) (item : Item) (calls : List (Act × Answer))
    → AllowedHistory v.role v.received (item ∷ v.sent) → one_ack item ≡ 0
    → one_answer item ≡ 0 → ((j : ℕ) → increment_on j item ≡ 0) → ((j : ℕ) → released j calls
    ≡ released j v.calls) → widened calls ≡ widened v.calls
    → Moves v i [] (item ∷ []) [] calls 0
unfolding total
writes_one v i item calls with_sent acks answers gives same wide =
    writes_only v i (item ∷ []) calls with_sent (omega (arith, acks)) (omega (arith, answers))
    (λ j. omega (arith, gives j)) same wide

-- The invariant holds after a call that writes.
pub items_represent : (role : Role) (log : Log) (act : Act) (answer : Answer) (items : List Item)
    → Represents role (history_of log) → log.failed ≡ None
    → items_of (log_view log) act answer ≡ items
    → Moves (history_of log) (stream_of_act act) [] items [] ((act, answer) ∷ log.calls) 0
    → Represents role (history_of (with_items log act answer))
unfolding with_items with_reported
items_represent role log act answer items represents up is moves =
    rw is (step_log _ _ _ _ [] _ [] _ 0 _ represents up refl moves (sym (zero-add _)))

-- the calls of acts that release nothing
pub released_refused : (j : ℕ) (act : Act) (refusal : Refusal) (calls : List (Act × Answer))
    → released j ((act, Refused refusal) ∷ calls) ≡ released j calls
unfolding released
released_refused j (Release id count) refusal calls = refl
released_refused j act refusal calls = refl

-- the calls of acts that widen nothing
pub widened_refused : (act : Act) (refusal : Refusal) (calls : List (Act × Answer))
    → widened ((act, Refused refusal) ∷ calls) ≡ widened calls
unfolding widened
widened_refused (Widen count) refusal calls = refl
widened_refused act refusal calls = refl

-- The invariant holds after a refused call.
pub refused_represents : (role : Role) (log : Log) (act : Act) (refusal : Refusal)
    → Represents role (history_of log)
    → Represents role (history_of (with_call log act (Refused refusal)))
unfolding with_call
refused_represents role log act refusal represents =
    recalled_represents role (history_of log) ((act, Refused refusal) ∷ log.calls)
    (λ j. released_refused j act refusal log.calls) (widened_refused act refusal log.calls)
    represents

-- Resetting a stream stands, whichever call does it.
reset_moves : (v : History) (i id code : ℕ) (calls : List (Act × Answer)) → Good v
    → AllowedHistory v.role v.received v.sent → active_in_view v id ≡ true
    → ((j : ℕ) → released j calls ≡ released j v.calls) → widened calls ≡ widened v.calls
    → Moves v i [] (alone (Reset id code) ∷ []) [] calls 0
unfolding one_ack one_answer increment_on
reset_moves v i id code calls good with_sent active same wide =
    writes_one v i (alone (Reset id code)) calls (writes (alone (Reset id code)) with_sent
    (good.returned, active_resets _ _ _ _ v.reported active)) refl refl (λ j. refl) same wide

-- The invariant holds after resetting a stream.
pub reset_represents : (role : Role) (log : Log) (id code : ℕ) → Represents role (history_of log)
    → refusal_of (log_view log) (ResetStream id code) ≡ None
    → Represents role (history_of (with_call log (ResetStream id code) Done))
unfolding conditions with_call items_of stream_of_act released widened
reset_represents role log id code represents none =
    let holds = none_holds _ none in
    let up = none_since log.failed holds.0 in
    items_represent role log (ResetStream id code) Done (alone
    (Reset id code) ∷ []) represents up refl
    (reset_moves (history_of log) _ id code _ (represents.good up) represents.with_sent
    (stream_is_active log id holds.1.0) (λ j. refl) refl)

-- a fault of refusing, by the tests that make it
pub no_fault : (b other : Bool) → (if b then Some InternalError
    else if other then Some EnhanceYourCalm else None) ≡ None → b ≡ false
no_fault true other none = absurd (cc)
no_fault false other none = refl

-- Refusing a stream stands, by the fault that it makes.
refuse_by : (role : Role) (log : Log) (id code : ℕ) (fault : Option Code)
    → Represents role (history_of log) → (log.failed ≡ None → NumbersFit (history_of log))
    → refusal_of (log_view log) (Refuse id code) ≡ None
    → refuse_fault (log_view log) code ≡ fault
    → Represents role (history_of (refused_with log (Refuse id code) Done fault))
unfolding conditions refused_with items_of stream_of_act released widened refuse_fault
refuse_by role log id code (Some fault) represents fit none is =
    let up = none_since log.failed (first_none _ _ _ none).0 in
    fails_represents role fault (last_processed log) (called log (Refuse id code) Done)
    (recalled_represents _ (history_of log) _ (λ j. refl) refl represents) up (last_low log (fit up))
refuse_by role log id code None represents fit none is =
    let holds = none_holds _ none in
    let up = none_since log.failed holds.0 in
    let other = no_fault (code == 2) _ is in
    items_represent role log (Refuse id code) Done (alone (Reset id code) ∷ []) represents up refl
    (reset_moves (history_of log) _ id code _ (represents.good up) represents.with_sent
    (stream_is_active log id (and_other (code == 2) _ holds.1.0 other)) (λ j. refl) refl)

-- The invariant holds after refusing a stream.
pub refuse_represents : (role : Role) (log : Log) (id code : ℕ) (answer : Answer)
    → Represents role (history_of log) → (log.failed ≡ None → NumbersFit (history_of log))
    → refusal_of (log_view log) (Refuse id code) ≡ None
    → answer ≡ Done → Represents role (history_of (with_call log (Refuse id code) answer))
unfolding with_call conditions released widened
refuse_represents role log id code answer represents fit none done = rw done
    (refuse_by role log id code (refuse_fault (log_view log) code) represents fit none refl)

-- The invariant holds after a call that ends the connection.
pub end_represents : (role : Role) (log : Log) (code : Code) (answer : Answer)
    → Represents role (history_of log) → (log.failed ≡ None → NumbersFit (history_of log))
    → refusal_of (log_view log) (Fail code) ≡ None → answer ≡ Done
    → Represents role (history_of (with_call log (Fail code) answer))
unfolding with_call conditions released widened
end_represents role log code answer represents fit none done =
    let up = none_since log.failed (first_none _ _ _ none).0 in
    rw done (fails_represents role code (last_processed log) (called log (Fail code) Done)
    (recalled_represents _ (history_of log) _ (λ j. refl) refl represents) up
    (last_low log (fit up)))

-- The invariant holds after a connection that fails in a call, which was refused an allocation and
-- can't be refused.
pub failed_represents : (role : Role) (log : Log) (act : Act)
    → may_fail_for_memory (log_view log) act ≡ true → Represents role (history_of log)
    → (log.failed ≡ None → NumbersFit (history_of log)) → refusal_of (log_view log) act ≡ None
    → Represents role (history_of (with_call log act OutOfMemory))
unfolding with_call conditions released widened may_fail_for_memory
failed_represents role log (Refuse id code) may represents fit none =
    let up = none_since log.failed (first_none _ _ _ none).0 in
    fails_represents role InternalError (last_processed log) (called log
    (Refuse id code) OutOfMemory)
    (recalled_represents role (history_of log) ((Refuse id code, OutOfMemory) ∷ log.calls)
    (λ j. refl) refl represents) up (last_low log (fit up))
failed_represents role log act may represents fit none = absurd (both_ways false refl may)

-- The invariant holds after sending a PING.
pub ping_represents : (role : Role) (log : Log) (octets : List ℕ)
    → Represents role (history_of log) → refusal_of (log_view log) (SendPing octets) ≡ None
    → Represents role (history_of (with_call log (SendPing octets) Done))
unfolding conditions with_call items_of stream_of_act released widened one_ack one_answer
    increment_on
ping_represents role log octets represents none =
    let holds = none_holds _ none in
    let up = none_since log.failed holds.0 in
    let good = represents.good up in
    let answered = ltb-false _ _ (sym (when_some _ _) ∙ holds.1.1.0) in
    let ponged = good.ponged in
    items_represent _ _ _ Done _ represents up refl (writes_one (history_of log) _ _ _
    (writes (alone (Ping false octets)) represents.with_sent (
      good.returned,
      omega (arith, answered, ponged),
    )) refl refl (λ j. refl) (λ j. refl) refl)

-- The invariant holds after leaving.
pub leave_represents : (role : Role) (log : Log) → Represents role (history_of log)
    → (log.failed ≡ None → NumbersFit (history_of log))
    → refusal_of (log_view log) SendGoAway ≡ None
    → Represents role (history_of (with_call log SendGoAway Done))
unfolding conditions with_call items_of stream_of_act released widened one_ack one_answer
    increment_on
leave_represents role log represents fit none =
    let holds = none_holds _ none in
    let up = none_since log.failed holds.0 in
    let good = represents.good up in
    items_represent _ _ SendGoAway Done _ represents up refl (writes_one (history_of log) _ _ _
    (writes (alone (GoAway (last_processed log) 0 [])) represents.with_sent (
      good.returned,
      record { no_greater = last_low log (fit up) },
    )) refl refl (λ j. refl) (λ j. refl) refl)

-- The invariant holds after changing settings.
pub change_represents : (role : Role) (log : Log) (values : Values)
    → Represents role (history_of log) → AreInRange values
    → refusal_of (log_view log) (ChangeSettings values) ≡ None
    → Represents role (history_of (with_call log (ChangeSettings values) Done))
unfolding conditions with_call items_of stream_of_act released widened one_ack one_answer
    increment_on
change_represents role log values represents ok none =
    let holds = none_holds _ none in
    let up = none_since log.failed holds.0 in
    let good = represents.good up in
    let applied = ltb-false (acked log) (settings_count log.sent) holds.1.1.0 in
    let read = good.acked in
    let pairs = changed_pairs log.role (value_read 5 16384 log.sent) values in
    items_represent role log (ChangeSettings values) Done (alone (Settings false pairs) ∷ [])
    represents up refl (writes_one (history_of log) _ (alone (Settings false pairs)) _
    (writes (alone (Settings false pairs)) represents.with_sent (
      good.returned,
      record {
        values = values;
        in_range = ok;
        changed = refl;
        none_waits = omega (arith, applied, read);
      },
    )) refl refl (λ j. refl) (λ j. refl) refl)

-- something is due
unreturned_some : (unreturned : ℕ) → nat_lt 0 unreturned ≡ true → unreturned ≢ 0
unreturned_some unreturned test = let some = ltb-true 0 unreturned test in λ none. omega arith

-- The invariant holds after taking output away.
pub put_out_represents : (role : Role) (log : Log) (count given : ℕ)
    → Represents role (history_of log)
    → Represents role (history_of (with_call log (PutOut count) (Count given)))
unfolding with_call with_sent released widened
put_out_represents role log count given represents =
    let next = called log (PutOut count) (Count given) in
    let same = recalled_represents _ (history_of log) _ (λ j. refl) refl represents in
    put_out_cases (λ ready. Represents role (history_of ready)) next
    (λ is. give_represents role (history_of next) same
    (none_since log.failed (not-true (is_some log.failed) (and_parts _ _ is).0))
    (unreturned_some log.unreturned (and_parts _ _ (and_parts _ _ is).1).0)) (λ is. same)

-- A call that is out of memory releases nothing.
pub released_out_of_memory : (i : ℕ) (act : Act) (calls : List (Act × Answer))
    → released i ((act, OutOfMemory) ∷ calls) ≡ released i calls
unfolding released
released_out_of_memory i (Release id count) calls = refl
released_out_of_memory i act calls = refl

-- Nor does any call that writes no items of its own.
pub released_none : (i : ℕ) (act : Act) (answer : Answer) (calls : List (Act × Answer))
    → WritesNone act answer → released i ((act, answer) ∷ calls) ≡ released i calls
unfolding released
released_none i _ _ calls (refused act refusal) = released_refused i act refusal calls
released_none i _ _ calls (no_memory act) = released_out_of_memory i act calls
released_none i _ _ calls (fails_instead id code) = refl
released_none i _ _ calls (ends_connection code) = refl
released_none i _ _ calls (puts_out count given) = refl

-- The same of what they widen.
pub widened_out_of_memory : (act : Act) (calls : List (Act × Answer))
    → widened ((act, OutOfMemory) ∷ calls) ≡ widened calls
unfolding widened
widened_out_of_memory (Widen count) calls = refl
widened_out_of_memory act calls = refl

-- To widen the connection's window is sound.
widen_moves : (v : History) (count : ℕ) → Good v → AllowedHistory v.role v.received v.sent
    → count ≢ 0 → (first_window + widened v.calls) + count ≤ greatest_window
    → Moves v 0 [] (alone (WindowUpdate 0 count) ∷ []) [] ((Widen count, Done) ∷ v.calls) 0
unfolding total one_ack one_answer widened released reported_total settings_count
    granted_on_connection
widen_moves v count good with_sent some low =
    let whole = good.whole 0 in
    record {
      with_sent = writes (alone (WindowUpdate 0 count)) with_sent (
        good.returned,
        record {
          some = some;
          active = λ wrong. absurd (wrong refl);
          read = λ wrong. absurd (wrong refl);
          within = λ same. omega (arith, whole, low);
        },
      );
      returned = refl;
      answered = refl;
      acked = omega arith;
      ponged = omega arith;
      named = λ j some. absurd (both_ways false refl some);
      gave = λ j some. omega (arith, update_elsewhere j count some);
      reported_read = λ j. omega arith;
      reported_open = λ j some. absurd (some refl);
      elsewhere = λ j other. refl;
      kept = λ j. omega arith;
      wider = omega arith;
      wide = λ before. omega (arith, low);
      out = omega (arith, update_here count);
      out_active = λ more. absurd (more (omega (arith, update_here count)));
      fits = omega arith;
    }

-- The invariant holds after widening the connection's window.
pub widen_represents : (role : Role) (log : Log) (count : ℕ) → Represents role (history_of log)
    → refusal_of (log_view log) (Widen count) ≡ None
    → Represents role (history_of (with_call log (Widen count) Done))
unfolding conditions with_call items_of stream_of_act
widen_represents role log count represents none =
    let holds = none_holds _ none in
    let up = none_since log.failed holds.0 in
    let narrow = or_parts (count == 0) _ holds.1.1.0 in
    items_represent role log (Widen count) Done (alone (WindowUpdate 0 count) ∷ []) represents up
    refl (widen_moves (history_of log) count (represents.good up) represents.with_sent
    (eqb-false count 0 narrow.0) (ltb-false greatest_window _ narrow.1))
