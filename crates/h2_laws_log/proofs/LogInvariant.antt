-- The invariant of every log: what was written was allowed, and, as long as the connection hasn't
-- failed, what keeps the next writing allowed.
use Rattle.h2_laws_log.proofs.Names
use Names.{list_any, both_ways, cases_Bool, Item, Role, Client, Server, total, increment_on}
use Names.{data_on, data_of, one_ping, one_answer, is_goaway, is_block_on, resets, is_goaway_below}
use Names.{is_server, settings_count, one_ack, Event, flow_on, reported_total, one_acked, one_pong}
use Names.{greatest_processed, reports_unprocessed, Act, Answer, is_active, is_used, openings}
use Names.{is_above, least_goaway, released, widened, first_window, greatest_window}
use Names.{HasAcknowledged, AllowedHistory, sum_below, ◌≡◌, ◌⊎◌}
use Names.{◌≢◌, ℕ, zero, suc, ◌+◌, ◌-◌, ◌≤◌, ◌&&◌, not, Bool, true, false, if◌then◌else◌, List}
use Names.{◌++◌, None, refl, inl, inr, arith, rules}
use Rattle.h2_laws_log.proofs.ItemLists.{none_after, any_after}
use Rattle.h2_laws_log.proofs.WindowsOfTwoEnds.{total-append}
use Rattle.h2_laws_log.proofs.ReaderStates.{active_parts, active_by_parts, lasts_parts}
use Rattle.h2_laws_log.proofs.LogHistory.{History, left, active_in_view, owes, owing, moved}
use Rattle.h2_laws_log.proofs.LogHistory.{reported_append, settings_append, any_either, sum_longer}
use Rattle.h2_laws_log.proofs.LogHistory.{sum_moves}

-- What holds of a view as long as the connection hasn't failed: all that was read is answered;
-- nothing was reported that wasn't read; increments were released, and stand for octets that were
-- read or by which the connection's window was widened, which is no wider than the greatest; no flow
-- was reported of a stream that wasn't opened.
pub record Good (v : History) : Type 0 where
  pub returned : HasAcknowledged v.received v.sent
  pub answered : total one_answer v.sent ≡ total one_ping v.received
  pub acked : reported_total one_acked v.reported ≤ total one_ack v.received
  pub ponged : reported_total one_pong v.reported ≤ total one_answer v.received
  pub named : (i : ℕ) → list_any (reports_unprocessed i) v.reported ≡ true
      → list_any is_goaway v.received ≡ true
  pub gave : (i : ℕ) → i ≢ 0 → total (increment_on i) v.sent ≤ released i v.calls
  pub reported_read : (i : ℕ) → reported_total (flow_on i) v.reported ≤ total (data_on i) v.received
  pub opened : (i : ℕ) → list_any (is_block_on i) (openings v.role v.received v.sent) ≡ false
      → reported_total (flow_on i) v.reported ≡ 0
  pub whole : (n : ℕ) → total (increment_on 0) v.sent + (sum_below n
      (owes v) + v.unreturned) ≤ total data_of v.received + widened v.calls
  pub wide : first_window + widened v.calls ≤ greatest_window

-- What stands of the view of every log.
pub record Represents (role : Role) (v : History) : Type 0 where
  pub own : v.role ≡ role
  pub with_sent : AllowedHistory v.role v.received v.sent
  pub good : v.failed ≡ None → Good v

-- What stands of the numbers of streams as long as the connection hasn't failed: the GOAWAY that
-- comes next names none above the last of one that was sent, and what the peer has reset is used.
pub record NumbersFit (v : History) : Type 0 where
  pub processed : (if is_server v.role then greatest_processed v.reported else 0)
      ≤ least_goaway v.sent
  pub reset_read : (i : ℕ) → list_any (resets i) v.received ≡ true
      → is_used v.role i v.received v.sent ≡ true

-- A step is sound: what it reads, writes and reports, on the stream `i`, and the calls after it.
-- `lost`: the octets that nobody will release.
pub record Moves (v : History) (i : ℕ) (reads items : List Item) (events : List Event)
    (calls : List (Act × Answer)) (discarded : ℕ) : Type 0 where
  pub with_sent : AllowedHistory v.role (reads ++ v.received) (items ++ v.sent)
  pub returned : total one_ack items ≡ settings_count reads
  pub answered : total one_answer items ≡ total one_ping reads
  pub acked : reported_total one_acked events ≤ total one_ack reads
  pub ponged : reported_total one_pong events ≤ total one_answer reads
  pub named : (j : ℕ) → list_any (reports_unprocessed j) events ≡ true
      → list_any is_goaway (reads ++ v.received) ≡ true
  pub gave : (j : ℕ) → j ≢ 0 → total (increment_on j) items + released j v.calls ≤ released j calls
  pub reported_read : (j : ℕ) → reported_total (flow_on j) events ≤ total (data_on j) reads
  pub reported_open : (j : ℕ) → reported_total (flow_on j) events ≢ 0
      → list_any (is_block_on j) (openings v.role v.received v.sent) ≡ true
  pub elsewhere : (j : ℕ) → j ≢ i → reported_total (flow_on j) events ≡ 0
  pub kept : (j : ℕ) → released j v.calls ≤ released j calls
  pub wider : widened v.calls ≤ widened calls
  pub wide : first_window + widened v.calls ≤ greatest_window
      → first_window + widened calls ≤ greatest_window
  pub out : ((reported_total (flow_on i) events + reported_total
      (flow_on i) v.reported) - released i calls) + (total (increment_on 0) items - (widened calls
      - widened v.calls))
      ≤ (reported_total (flow_on i) v.reported - released i v.calls) + reported_total
      (flow_on i) events
  pub out_active : total (increment_on 0) items - (widened calls - widened v.calls) ≢ 0
      → active_in_view v i ≡ true
  pub fits : reported_total (flow_on i) events + discarded ≤ total data_of reads

-- where a block wasn't among the openings, it isn't among those before
openings_before : (p : Item → Bool) (role : Role) (reads items received sent : List Item)
    → list_any p (openings role (reads ++ received) (items ++ sent)) ≡ false
    → list_any p (openings role received sent) ≡ false
openings_before p Client reads items received sent none = none_after p items sent none
openings_before p Server reads items received sent none = none_after p reads received none

-- what isn't above after more that was written, wasn't before
pub above_before : (role : Role) (j : ℕ) (items sent : List Item) → is_above role j (items ++ sent)
    ≡ false → is_above role j sent ≡ false
unfolding is_above
above_before Client j items sent none = refl
above_before Server j items sent none = none_after (is_goaway_below j) items sent none

-- Two bools that aren't both set in longer lists weren't.
both_before : (a b x y : Bool) → (a ≡ true → x ≡ true) → (b ≡ true → y ≡ true) → (x && y) ≡ false
    → (a && b) ≡ false
both_before false b x y ga gb none = refl
both_before true false x y ga gb none = refl
both_before true true false y ga gb none = absurd (both_ways false refl (ga refl))
both_before true true true y ga gb none = absurd (both_ways y none (gb refl))

-- What is active after a step was active before it, if it was opened before it.
pub active_before : (role : Role) (j : ℕ) (reads items received sent : List Item)
    (events reported : List Event)
    → is_active role j (reads ++ received) (items ++ sent) (events ++ reported) ≡ true
    → list_any (is_block_on j) (openings role received sent) ≡ true
    → is_active role j received sent reported ≡ true
active_before role j reads items received sent events reported active open_before =
    search (rules, active_parts, lasts_parts, active_by_parts, above_before, both_before, any_after)

-- what is owed and left owing, by whether the stream was active and is
moves_by : (before after : Bool) (one other flow out : ℕ) → (after ≡ true → (before
    ≡ true) ⊎ (one ≡ 0)) → (out ≢ 0 → before ≡ true)
    → other + out ≤ one + flow
    → (if after then other else 0) + ((if before && not after then other else 0) + out) ≤
    (if before then one else 0) + flow
moves_by true true one other flow out was active le = omega arith
moves_by true false one other flow out was active le = omega arith
moves_by false true one other flow out was active le = elim (was refl) [
  | inl wrong ↦ absurd (both_ways false refl wrong)
  | inr none ↦ omega arith
]
moves_by false false one other flow out was active le = search rules

-- what is owed elsewhere doesn't grow
pub less_by : (before after : Bool) (one other : ℕ) → (after ≡ true → (before ≡ true) ⊎ (one
    ≡ 0)) → other ≤ one
    → (if after then other else 0) ≤ (if before then one else 0)
less_by before false one other was le = omega arith
less_by true true one other was le = le
less_by false true one other was le = elim (was refl) [
  | inl wrong ↦ absurd (both_ways false refl wrong)
  | inr none ↦ omega arith
]

-- What is active after a step was active before it, or no flow of it was reported.
was_active : (v : History) (reads items : List Item) (events : List Event) (calls : List (Act
    × Answer)) (unreturned j : ℕ) → Good v
    → active_in_view (moved v reads items events calls unreturned) j ≡ true → (active_in_view v j
    ≡ true) ⊎ (reported_total (flow_on j) v.reported ≡ 0)
was_active v reads items events calls unreturned j good active =
    search (rules, cases_Bool, active_before)

-- What was released leaves nothing of nothing.
none_left : (a b : ℕ) → a ≡ 0 → a - b ≡ 0
none_left a b none = omega arith

-- the same of what is left
was_left : (v : History) (reads items : List Item) (events : List Event) (calls : List (Act
    × Answer)) (unreturned j : ℕ) → Good v
    → active_in_view (moved v reads items events calls unreturned) j ≡ true → (active_in_view v j
    ≡ true) ⊎ (reported_total (flow_on j) v.reported - released j v.calls ≡ 0)
was_left v reads items events calls unreturned j good active = elim
    (was_active v reads items events calls unreturned j good active) [
      | inl was ↦ inl was
      | inr none ↦ inr (none_left _ _ none)
    ]

-- What a step makes of what is owed on its stream.
owes_here : (v : History) (i : ℕ) (reads items : List Item) (events : List Event) (calls : List
    (Act × Answer)) (discarded unreturned : ℕ) → Good v
    → Moves v i reads items events calls discarded
    → owes (moved v reads items events calls unreturned) i + (owing v
    (moved v reads items events calls unreturned) i + (total (increment_on 0) items
    - (widened calls - widened v.calls)))
    ≤ owes v i + reported_total (flow_on i) events
unfolding owes owing left
owes_here v i reads items events calls discarded unreturned good moves =
    moves_by (active_in_view v i) (active_in_view (moved v reads items events calls unreturned) i)
    (reported_total (flow_on i) v.reported - released i v.calls)
    (reported_total (flow_on i) (events ++ v.reported) - released i calls) (reported_total
    (flow_on i) events) (total (increment_on 0) items - (widened calls - widened v.calls))
    (was_left v reads items events calls unreturned i good) moves.out_active (rw (reported_append
    (flow_on i) events v.reported) moves.out)

-- What a step makes of what is owed elsewhere.
owes_there : (v : History) (i : ℕ) (reads items : List Item) (events : List Event) (calls : List
    (Act × Answer)) (discarded unreturned : ℕ) → Good v
    → Moves v i reads items events calls discarded → (j : ℕ) → j ≢ i
    → owes (moved v reads items events calls unreturned) j ≤ owes v j
unfolding owes left
owes_there v i reads items events calls discarded unreturned good moves j other =
    less_by (active_in_view v j) (active_in_view (moved v reads items events calls unreturned) j) _
    _ (was_left v reads items events calls unreturned j good)
    (omega (arith, reported_append, moves.elsewhere j other, moves.kept j))

-- Nothing is reported of a stream that wasn't opened.
none_reported : (n : ℕ) (b : Bool) → (n ≢ 0 → b ≡ true) → b ≡ false → n ≡ 0
none_reported zero b reported none = refl
none_reported (suc n) b reported none = absurd (both_ways b none (reported (omega arith)))

-- the connection's octets after a step
whole_after : (v : History) (i : ℕ) (reads items : List Item) (events : List Event) (calls : List
    (Act × Answer)) (discarded unreturned : ℕ) → Good v
    → Moves v i reads items events calls discarded → unreturned
    ≡ v.unreturned + (discarded + owing v (moved v reads items events calls unreturned) i) → (n : ℕ)
    → total (increment_on 0) (items ++ v.sent) + (sum_below n (owes
    (moved v reads items events calls unreturned)) + unreturned) ≤ total data_of (reads
    ++ v.received) + widened calls
whole_after v i reads items events calls discarded unreturned good moves is n =
    let sums = sum_moves (suc i + n) i (owing v
    (moved v reads items events calls unreturned) i + (total (increment_on 0) items
    - (widened calls - widened v.calls)))
    (reported_total (flow_on i) events) (owes v) (owes
    (moved v reads items events calls unreturned)) (omega arith)
    (owes_there v i reads items events calls discarded unreturned good moves)
    (owes_here v i reads items events calls discarded unreturned good moves) in
    let longer = sum_longer n (suc i) (owes (moved v reads items events calls unreturned)) in
    let before = good.whole (suc i + n) in
    let wider = moves.wider in
    omega (arith, total-append)

-- A step keeps what is good.
step_good : (v : History) (i : ℕ) (reads items : List Item) (events : List Event)
    (calls : List (Act × Answer)) (discarded unreturned : ℕ) → Good v
    → Moves v i reads items events calls discarded → unreturned
    ≡ v.unreturned + (discarded + owing v (moved v reads items events calls unreturned) i)
    → Good (moved v reads items events calls unreturned)
step_good v i reads items events calls discarded unreturned good moves is = record {
  returned = omega (arith, total-append, settings_append);
  answered = omega (arith, total-append);
  acked = omega (arith, reported_append, total-append);
  ponged = omega (arith, reported_append, total-append);
  named = λ j with_reported. elim (any_either
      (reports_unprocessed j) events v.reported with_reported) [
        | inl now ↦ moves.named j now
        | inr before ↦ any_after is_goaway reads v.received (good.named j before)
      ];
  gave = λ j some. omega (arith, total-append, moves.gave j some, good.gave j some);
  reported_read = λ j.
      omega (arith, reported_append, total-append, moves.reported_read j, good.reported_read j);
  opened = λ j none.
      let before = openings_before (is_block_on j) v.role reads items v.received v.sent none in
      omega (
        arith,
        reported_append (flow_on j) events v.reported,
        good.opened j before,
        none_reported _ _ (moves.reported_open j) before,
      );
  whole = whole_after v i reads items events calls discarded unreturned good moves is;
  wide = moves.wide good.wide;
}

-- The invariant holds after a step keeps what.
pub step_represents : (role : Role) (v : History) (i : ℕ) (reads items : List Item)
    (events : List Event) (calls : List (Act × Answer)) (discarded unreturned : ℕ)
    → Represents role v → v.failed ≡ None → Moves v i reads items events calls discarded
    → unreturned ≡ v.unreturned + (discarded + owing v
    (moved v reads items events calls unreturned) i)
    → Represents role (moved v reads items events calls unreturned)
step_represents role v i reads items events calls discarded unreturned represents up moves is =
    record {
      own = represents.own;
      with_sent = moves.with_sent;
      good = λ still. step_good v i reads items events calls discarded unreturned (represents.good
          up) moves is;
    }
