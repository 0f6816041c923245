-- The invariant of a log holds after each way of going on.
use Rattle.h2_laws_log.proofs.Names
use Names.{ap, list_any, and_parts, ltb-true, ne_eqb, Code, GoAway, WindowUpdate, Item, alone, Role}
use Names.{Client, Server, total, increment_on, one_answer, is_block_on, one_ack, Event, flow_on}
use Names.{reported_total, Act, Answer, openings, Log, last_processed, least_goaway, released}
use Names.{widened, granted_on_connection}
use Names.{waiting, code_number, with_sent, with_reported, with_unreturned, with_failure}
use Names.{owed_at_close, full_output, writes, sum_below, ◌≡◌, ◌≢◌, ℕ, ◌+◌, ◌-◌, ◌≤◌, ◌&&◌, nat_lt}
use Names.{Bool, true, false, List, [], ◌∷◌, None, refl, sym, ◌∙◌, inl, arith, rules}
use Rattle.h2_laws_log.proofs.ReaderStates.{active_parts}
use Rattle.h2_laws_log.proofs.LogHistory.{History, history_of, left, active_in_view, owes, owing}
use Rattle.h2_laws_log.proofs.LogHistory.{moved, give, given_by, wrote_view, reports_view}
use Rattle.h2_laws_log.proofs.LogHistory.{with_unreturned_view, owing_view, fails_view, sum_less}
use Rattle.h2_laws_log.proofs.LogInvariant.{Good, Represents, NumbersFit, Moves, active_before}
use Rattle.h2_laws_log.proofs.LogInvariant.{less_by, step_represents}

-- an update of the connection's window isn't one of a stream's
pub update_elsewhere : (i count : ℕ) → i ≢ 0 → increment_on i (alone (WindowUpdate 0 count)) ≡ 0
unfolding increment_on
update_elsewhere i count some = rw (ne_eqb 0 i (λ same. some (sym same))) refl

-- an update of the connection's window is one
pub update_here : (count : ℕ) → increment_on 0 (alone (WindowUpdate 0 count)) ≡ count
unfolding increment_on
update_here count = refl

-- no block stands among more openings, where one more item is an update
opened_given : (role : Role) (i count : ℕ) (received sent : List Item)
    → list_any (is_block_on i) (openings role received (alone (WindowUpdate 0 count) ∷ sent))
    ≡ false
    → list_any (is_block_on i) (openings role received sent) ≡ false
unfolding is_block_on
opened_given Client i count received sent none = none
opened_given Server i count received sent none = none

-- opened before, if opened after
opened_back : (role : Role) (i count : ℕ) (received sent : List Item)
    → list_any (is_block_on i) (openings role received (alone (WindowUpdate 0 count) ∷ sent)) ≡ true
    → list_any (is_block_on i) (openings role received sent) ≡ true
unfolding is_block_on
opened_back Client i count received sent some = some
opened_back Server i count received sent some = some

-- what is owed doesn't grow where what is due is returned
owes_given : (v : History) (j : ℕ) → owes (give v) j ≤ owes v j
unfolding owes left
owes_given v j =
    less_by (active_in_view v j) (active_in_view (give v) j) (reported_total
    (flow_on j) v.reported - released j v.calls) (reported_total
    (flow_on j) v.reported - released j v.calls) (λ active. inl (active_before v.role j [] (alone
    (WindowUpdate 0 v.unreturned) ∷ []) v.received v.sent [] v.reported active
    (opened_back v.role j v.unreturned v.received v.sent (active_parts v.role j v.received (alone
    (WindowUpdate 0 v.unreturned) ∷ v.sent) v.reported active).opened))) (omega arith)

-- What is good stays so where what is due is returned.
give_good : (v : History) → Good v → Good (give v)
unfolding total one_ack one_answer
give_good v good = record {
  returned = omega (arith, good.returned);
  answered = omega (arith, good.answered);
  acked = good.acked;
  ponged = good.ponged;
  named = good.named;
  gave = λ i some. omega (arith, update_elsewhere i v.unreturned some, good.gave i some);
  reported_read = good.reported_read;
  opened = λ i none. good.opened i (opened_given v.role i v.unreturned v.received v.sent none);
  whole = λ n.
      let less : sum_below n (owes (give v)) ≤ sum_below n (owes v) = sum_less n (owes v)
      (owes (give v)) (λ j below. owes_given v j) in
      omega (arith, less, good.whole n, update_here v.unreturned);
  wide = good.wide;
}

-- What is due may be returned, where it isn't nothing.
pub give_represents : (role : Role) (v : History) → Represents role v → v.failed ≡ None
    → v.unreturned ≢ 0 → Represents role (give v)
unfolding granted_on_connection
give_represents role v represents up some =
    let good = represents.good up in
    let whole = good.whole 0 in
    let wide = good.wide in
    record {
      own = represents.own;
      with_sent = writes (alone (WindowUpdate 0 v.unreturned)) represents.with_sent (
        good.returned,
        record {
          some = some;
          active = λ wrong. absurd (wrong refl);
          read = λ wrong. absurd (wrong refl);
          within = λ same. omega (arith, whole, wide);
        },
      );
      good = λ still. give_good v good;
    }

-- The GOAWAY that comes next names no stream above the last one of a GOAWAY that was sent.
pub last_low : (log : Log) → NumbersFit (history_of log)
    → last_processed log ≤ least_goaway log.sent
unfolding last_processed
last_low log fit = fit.processed

-- The invariant holds after a failure whose GOAWAY names no greater stream than those before.
pub fails_represents : (role : Role) (code : Code) (last : ℕ) (log : Log)
    → Represents role (history_of log) → log.failed ≡ None → last ≤ least_goaway log.sent
    → Represents role (history_of (with_failure code last log))
fails_represents role code last log represents up low =
    rw (fails_view code last log) (record {
      own = represents.own;
      with_sent = writes (alone (GoAway last (code_number code) [])) represents.with_sent
          ((represents.good up).returned, record { no_greater = low });
      good = λ none. absurd (cc);
    })

-- what is owed hangs on what was released alone
owes_recalled : (v : History) (calls : List (Act × Answer)) (j : ℕ) → released j calls
    ≡ released j v.calls
    → owes (record v { calls = calls }) j ≤ owes v j
unfolding owes left
owes_recalled v calls j same = rw same (omega arith)

-- the same of what is good
recalled_good : (v : History) (calls : List (Act × Answer)) → ((j : ℕ) → released j calls
    ≡ released j v.calls) → widened calls ≡ widened v.calls → Good v
    → Good (record v { calls = calls })
recalled_good v calls same wide good = search (rules, owes, sum_less, owes_recalled)

-- A call that releases nothing, and widens nothing, changes nothing.
pub recalled_represents : (role : Role) (v : History) (calls : List (Act × Answer)) → ((j : ℕ)
    → released j calls ≡ released j v.calls) → widened calls ≡ widened v.calls → Represents role v
    → Represents role (record v { calls = calls })
recalled_represents role v calls same wide represents = record {
  own = represents.own;
  with_sent = represents.with_sent;
  good = λ up. recalled_good v calls same wide (represents.good up);
}

-- What is due may be returned after a step, before its events.
reported_given : (role : Role) (v : History) (reads items : List Item) (events : List Event)
    (calls : List (Act × Answer)) (unreturned : ℕ) (b : Bool)
    → v.failed ≡ None → (b ≡ true → unreturned ≢ 0)
    → Represents role (moved v reads items events calls unreturned)
    → Represents role (moved (given_by b (moved v reads items [] calls unreturned)) [] [] events
    (given_by b (moved v reads items [] calls unreturned)).calls
    (given_by b (moved v reads items [] calls unreturned)).unreturned)
reported_given role v reads items events calls unreturned true up some represents =
    give_represents role (moved v reads items events calls unreturned) represents up (some refl)
reported_given role v reads items events calls unreturned false up some represents = represents

-- what a stream leaves owing doesn't hang on what is due
owing_unreturned : (v : History) (reads items : List Item) (events : List Event) (calls : List
    (Act × Answer)) (unreturned other i : ℕ)
    → owing v (moved v reads items events calls unreturned) i
    ≡ owing v (moved v reads items events calls other) i
unfolding owing left
owing_unreturned v reads items events calls unreturned other i = refl

-- something more is due
more_unreturned : (unreturned more : ℕ) (b : Bool) → (nat_lt 0 more && b) ≡ true
    → unreturned + more ≢ 0
more_unreturned unreturned more b both = let some = ltb-true 0 more
    (and_parts _ _ both).0 in λ none. omega arith

-- The invariant holds after a sound step of a log.
pub step_log : (role : Role) (log base : Log) (i : ℕ) (reads items : List Item)
    (events : List Event) (calls : List (Act × Answer)) (discarded more : ℕ)
    → Represents role (history_of log) → log.failed ≡ None → history_of base
    ≡ moved (history_of log) reads [] [] calls log.unreturned
    → Moves (history_of log) i reads items events calls discarded → more
    ≡ discarded + owed_at_close log (with_reported (with_sent base items) events) i
    → Represents role (history_of (with_reported (with_unreturned more
    (with_sent base items)) events))
step_log role log base i reads items events calls discarded more represents up is moves counts =
    let b = nat_lt 0 more && nat_lt (waiting (with_sent base items)) full_output in
    let written : history_of (with_sent base items) ≡ moved (history_of log) reads items [] calls
    log.unreturned =
    wrote_view base items ∙ ap (λ (v : History). moved v [] items [] v.calls v.unreturned) is in
    let reported : history_of (with_reported (with_sent base items) events) ≡ moved (history_of log)
    reads items events calls log.unreturned = reports_view (with_sent base items) events ∙ ap
    (λ (v : History). moved v [] [] events v.calls v.unreturned) written in
    let owed : owed_at_close log (with_reported (with_sent base items) events) i
    ≡ owing (history_of log) (moved (history_of log) reads items events calls
    (log.unreturned + more)) i = owing_view log (with_reported (with_sent base items) events) i
    ∙ ap (λ (v : History). owing (history_of log) v i) reported ∙ owing_unreturned (history_of log)
    reads items events calls log.unreturned (log.unreturned + more) i in
    let returned : history_of (with_unreturned more (with_sent base items)) ≡ given_by b
    (moved (history_of log) reads items [] calls (log.unreturned + more)) = with_unreturned_view _ _
    ∙ ap (λ (v : History). given_by b (moved v [] [] [] v.calls (v.unreturned + more))) written in
    let all : history_of (with_reported (with_unreturned more (with_sent base items)) events)
    ≡ (λ (v : History). moved v [] [] events v.calls v.unreturned) (given_by b (moved
    (history_of log) reads items [] calls (log.unreturned + more))) =
    reports_view (with_unreturned more (with_sent base items)) events ∙ ap
    (λ (v : History). moved v [] [] events v.calls v.unreturned) returned in
    rw all (reported_given role (history_of log) reads items events calls
    (log.unreturned + more) b up
    (more_unreturned log.unreturned more (nat_lt (waiting (with_sent base items)) full_output))
    (step_represents role (history_of log) i reads items events calls discarded
    (log.unreturned + more) represents up moves
    (ap (λ (n : ℕ). log.unreturned + n) (counts ∙ ap (λ (n : ℕ). discarded + n) owed))))
