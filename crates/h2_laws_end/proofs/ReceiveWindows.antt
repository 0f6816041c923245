-- On an active stream that the peer hasn't ended, all DATA was reported, and what was released was
-- returned.
use Rattle.h2_laws_end.proofs.Names
use Names.{◌≡◌, ◌≢◌, ℕ, ◌+◌, ◌≤◌, Bool, true, false, List, [], ◌∷◌, ◌++◌, refl, inl, inr, arith}
use Names.{subst, sym, list_any, or_parts, or_from, cases_Bool, Code, code_number, GoAway, Item}
use Names.{alone, Role, Client, Server, data_on, is_block_on, ends, resets, Event, Act, Answer}
use Names.{openings, is_active, Log, active, with_sent, with_failure, total_none, total-append}
use Names.{active_parts, lasts_parts, history_of, active_before, total, increment_on, flow_on}
use Names.{reported_total, is_closed_by_us, released, History, reported_append, update_elsewhere}
use Rattle.h2_laws_log.proofs.ItemLists.{none_after}
use Rattle.h2_laws_log.proofs.LogHistory.{active_in_view, moved, give, wrote_view, fails_view}
use Rattle.h2_laws_log.proofs.LogInvariant.{above_before}

-- Whether the stream was opened.
abbrev pub opened_in : History → ℕ → Bool
opened_in v i = list_any (is_block_on i) (openings v.role v.received v.sent)

-- What stands of a stream: no more was released than reported; nothing was read, reported, released
-- or returned of a stream that wasn't opened; and on an active one that the peer hasn't ended all
-- DATA was reported, and what was released was returned.
pub record IsAccounted (v : History) (i : ℕ) : Type 0 where
  pub within : released i v.calls ≤ reported_total (flow_on i) v.reported
  pub unopened : opened_in v i ≡ false
      → (reported_total (flow_on i) v.reported ≡ 0) × (total (increment_on i) v.sent ≡ 0)
  pub unread : opened_in v i ≡ false → is_closed_by_us v.role i v.sent ≡ false
      → total (data_on i) v.received ≡ 0
  pub whole : active_in_view v i ≡ true → list_any (ends i) v.received ≡ false
      → (total (increment_on i) v.sent ≡ released i v.calls)
      × (reported_total (flow_on i) v.reported ≡ total (data_on i) v.received)

-- The same of a log of which these events are still to be reported.
abbrev pub PendingAccounted : ℕ → List Event → Log → Type 0
PendingAccounted i events log =
    IsAccounted (record (history_of log) { reported = events ++ log.reported }) i

-- It stands of a log with items that are sent, where it stands with these before the others.
pub sent_accounted : (i : ℕ) (events : List Event) (log : Log) (items : List Item)
    → IsAccounted (moved (history_of log) [] items events log.calls log.unreturned) i
    → PendingAccounted i events (with_sent log items)
sent_accounted i events log items is =
    subst (λ (v : History). IsAccounted (record v { reported = events ++ v.reported }) i)
    (sym (wrote_view log items)) is

-- What a step must keep to, for that.
pub record Steps (v : History) (i : ℕ) (reads items : List Item) (events : List Event)
    (calls : List (Act × Answer)) : Type 0 where
  pub within : released i calls ≤ reported_total (flow_on i) events + reported_total
      (flow_on i) v.reported
  pub unopened : opened_in v i ≡ false
      → list_any (is_block_on i) (openings v.role (reads ++ v.received) (items ++ v.sent)) ≡ false
      → (reported_total (flow_on i) events ≡ 0) × (total (increment_on i) items ≡ 0)
  pub unread : opened_in v i ≡ false → is_closed_by_us v.role i (items ++ v.sent) ≡ false
      → total (data_on i) reads ≡ 0
  pub whole : is_active v.role i (reads ++ v.received) (items ++ v.sent) (events ++ v.reported)
      ≡ true → list_any (ends i) (reads ++ v.received) ≡ false
      → (total (increment_on i) items + released i v.calls ≡ released i calls)
      × (reported_total (flow_on i) events ≡ total (data_on i) reads)

-- where no block stands among the openings, none stood before
unopened_before : (i : ℕ) (role : Role) (reads items received sent : List Item)
    → list_any (is_block_on i) (openings role (reads ++ received) (items ++ sent)) ≡ false
    → list_any (is_block_on i) (openings role received sent) ≡ false
unopened_before i Client reads items received sent none = none_after (is_block_on i) items sent none
unopened_before i Server reads items received sent none = none_after _ _ received none

-- what this end hasn't closed it hadn't closed before
closed_before : (role : Role) (i : ℕ) (items sent : List Item)
    → is_closed_by_us role i (items ++ sent) ≡ false → is_closed_by_us role i sent ≡ false
unfolding is_closed_by_us
closed_before role i items sent none =
    let parts = or_parts _ _ none in
    or_from _ _ (none_after (resets i) items sent parts.0) (above_before role i items sent parts.1)

-- an active stream isn't closed by this end
pub active_unclosed : (role : Role) (i : ℕ) (received sent : List Item) (reported : List Event)
    → is_active role i received sent reported ≡ true → is_closed_by_us role i sent ≡ false
unfolding is_closed_by_us
active_unclosed role i received sent reported active =
    let parts = active_parts role i received sent reported active in
    let lasts = lasts_parts i received sent parts.lasts in
    or_from _ _ lasts.kept parts.below

-- What was released is nothing where nothing was reported.
none_released : (a b : ℕ) → a ≤ b → b ≡ 0 → a ≡ 0
none_released a b le none = omega arith

-- A step keeps what stands.
pub step_keeps : (v : History) (i : ℕ) (reads items : List Item) (events : List Event)
    (calls : List (Act × Answer)) (unreturned : ℕ) → IsAccounted v i
    → Steps v i reads items events calls
    → IsAccounted (moved v reads items events calls unreturned) i
step_keeps v i reads items events calls unreturned before step = record {
  within = omega (arith, step.within, reported_append (flow_on i) events v.reported);
  unopened = λ none.
      let was = unopened_before i v.role reads items v.received v.sent none in
      let old = before.unopened was in
      let new = step.unopened was none in (
        omega (arith, old.0, new.0, reported_append (flow_on i) events v.reported),
        omega (arith, old.1, new.1, total-append (increment_on i) items v.sent),
      );
  unread = λ none unclosed.
      let was = unopened_before i v.role reads items v.received v.sent none in
      omega (
        arith,
        before.unread was (closed_before v.role i items v.sent unclosed),
        step.unread was unclosed,
        total-append (data_on i) reads v.received,
      );
  whole = λ active goes.
      let new = step.whole active goes in
      let flows = reported_append (flow_on i) events v.reported in
      let gives = total-append (increment_on i) items v.sent in
      let comes = total-append (data_on i) reads v.received in
      elim (cases_Bool (opened_in v i)) [
        | inl was ↦
            let old = before.whole (active_before v.role i reads items v.received v.sent events
            v.reported active was) (none_after (ends i) reads v.received goes) in (
              omega (arith, old.0, new.0, gives),
              omega (arith, old.1, new.1, flows, comes),
            )
        | inr none ↦
            let old = before.unopened none in
            let unread =
            before.unread none (closed_before v.role i items v.sent (active_unclosed
            v.role i (reads ++ v.received) (items ++ v.sent) (events ++ v.reported) active)) in
            let calls_none = none_released _ _ before.within old.0 in (
              omega (arith, old.1, new.0, gives, calls_none),
              omega (arith, old.0, new.1, flows, comes, unread),
            )
      ];
}

-- A step that has nothing to do with the stream's octets.
pub quiet_steps : (v : History) (i : ℕ) (reads items : List Item) (events : List Event)
    (calls : List (Act × Answer)) → IsAccounted v i → total (data_on i) reads ≡ 0
    → total (increment_on i) items ≡ 0 → reported_total (flow_on i) events ≡ 0
    → released i calls ≡ released i v.calls → Steps v i reads items events calls
quiet_steps v i reads items events calls before comes gives flows same = record {
  within = omega (arith, before.within, same);
  unopened = λ was none. (flows, gives);
  unread = λ none unclosed. comes;
  whole = λ active goes. (omega (arith, gives, same), omega (arith, comes, flows));
}

-- A total of one item.
pub total_one : (f : Item → ℕ) (item : Item) → f item ≡ 0 → total f (item ∷ []) ≡ 0
unfolding total
total_one f item none = omega (arith, none)

-- Events that aren't there have no flow.
pub flow_none : (i : ℕ) → reported_total (flow_on i) [] ≡ 0
unfolding reported_total
flow_none i = refl

-- Nor does a step that has nothing to do with it change what stands, of whatever is unreturned.
pub quiet_keeps : (v : History) (i : ℕ) (events : List Event) (calls : List (Act × Answer))
    (unreturned : ℕ) → IsAccounted v i → reported_total (flow_on i) events ≡ 0
    → released i calls ≡ released i v.calls
    → IsAccounted (moved v [] [] events calls unreturned) i
quiet_keeps v i events calls unreturned before flows same =
    step_keeps v i [] [] events calls unreturned before
    (quiet_steps v i [] [] events calls before (total_none _) (total_none _) flows same)

-- What is unreturned may be returned.
pub give_accounted : (v : History) (i : ℕ) → i ≢ 0 → IsAccounted v i → IsAccounted (give v) i
give_accounted v i some before =
    step_keeps _ _ [] _ [] _ 0 before (quiet_steps _ _ [] _ [] _ before (total_none _)
    (total_one _ _ (update_elsewhere _ _ some)) (flow_none i) refl)

-- GOAWAY returns nothing
goaway_gives : (i last code : ℕ) → increment_on i (alone (GoAway last code [])) ≡ 0
unfolding increment_on
goaway_gives i last code = refl

-- What stands still stands after a failure.
pub failure_keeps : (code : Code) (last : ℕ) (log : Log) (i : ℕ) → IsAccounted (history_of log) i
    → IsAccounted (history_of (with_failure code last log)) i
failure_keeps code last log i before =
    let after = step_keeps (history_of log) i [] (alone (GoAway last (code_number code) []) ∷ []) []
    log.calls log.unreturned before (quiet_steps (history_of log) _ [] _ [] _ before (total_none _)
    (total_one _ _ (goaway_gives i last (code_number code))) (flow_none i) refl) in
    rw (fails_view code last log) (record {
      within = after.within;
      unopened = after.unopened;
      unread = after.unread;
      whole = after.whole;
    })
