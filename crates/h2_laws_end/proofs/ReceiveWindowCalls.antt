-- What keeps a stream's receive window, and what is owed of it, in step: calls; and so every log.
use Rattle.h2_laws_end.proofs.Names
use Names.{◌≡◌, ◌≢◌, ℕ, ◌+◌, ◌-◌, ◌≤◌, ◌∷◌, pos, sym, ap, ◌∙◌, inl, inr, Act, Log, read, ◌+ℤ◌, owed}
use Names.{Widen}
use Names.{◌==◌, Bool, true, List, [], None, ◌-ℤ◌, refl, ints, Item, Role, ends, Done, IsLog, total}
use Names.{false, arith, Values, Answer, acked, active, called, flow_on, owed_on, items_of, opened}
use Names.{list_any, ne_eqb, cases_eq, SendData, ended_in, log_view, own_value, released, with_sent}
use Names.{both_ways, first_window, unreleased_is, pending_by_logs, update_elsewhere, released_here}
use Names.{ltb-false, Release, answer_of, total_none, is_active, unreleased, conditions, owed_there}
use Names.{UnprocessedEvent, next_unprocessed, stream_is_active, IsPendingInvariant, reported_total}
use Names.{refusal_of, active_parts, history_of, none_holds, increment_on, is_block_on, active_some}
use Rattle.h2_spec_log.specs.Windows.{granted_on}
use Rattle.h2_spec_log.specs.Log.{recv_window}
use Rattle.h2_laws_log.proofs.CallConditions.{neither_other}
use Rattle.h2_laws_log.proofs.InvariantCalls.{released_none}
use Rattle.h2_laws_log.proofs.LogViewLemmas.{stream_there}
use Rattle.h2_laws_log.proofs.DataOfCalls.{none_of_items}
use Rattle.h2_laws_log.proofs.ReleasedCredit.{updates, gives_elsewhere}
use Rattle.h2_laws_log.proofs.AllowedHistories.{increment_here}
use Rattle.h2_laws_log.proofs.InvariantSends.{data_gives}
use Rattle.h2_laws_end.proofs.ReceiveWindows.{IsAccounted, Steps, step_keeps, quiet_steps}
use Rattle.h2_laws_end.proofs.ReceiveWindows.{give_accounted, failure_keeps, flow_none}
use Rattle.h2_laws_end.proofs.ReceiveWindows.{PendingAccounted, quiet_keeps, sent_accounted}
use Rattle.h2_laws_end.proofs.ReceiveWindowSteps.{replied_keeps}

-- A call that releases and returns nothing.
call_steps : (log : Log) (i : ℕ) (items : List Item) (calls : List (Act × Answer))
    → IsAccounted (history_of log) i → total (increment_on i) items ≡ 0
    → released i calls ≡ released i log.calls → Steps (history_of log) i [] items [] calls
call_steps log i items calls before gives same =
    quiet_steps (history_of log) i [] items [] calls before (total_none _) gives (flow_none i) same

-- What a release returns to its stream, by the test whether the peer has ended it.
updates_here : (i count : ℕ) (ended : Bool) → i ≢ 0 → ended ≡ false
    → total (increment_on i) (updates i count ended) ≡ count
unfolding total
updates_here i count true some is = absurd (both_ways true is refl)
updates_here i count false some is = omega (
  arith,
  increment_here i count,
  update_elsewhere i count some,
)

-- What it returns to other streams.
updates_there : (id i count : ℕ) (ended : Bool) → i ≢ 0 → (id ≡ i → ⊥)
    → total (increment_on i) (updates id count ended) ≡ 0
unfolding total
updates_there id i count true some other = omega (arith, update_elsewhere i count some)
updates_there id i count false some other = omega (
  arith,
  gives_elsewhere id i count other,
  update_elsewhere i count some,
)

released_there : (id i count : ℕ) (calls : List (Act × Answer)) → (id ≡ i → ⊥)
    → released i ((Release id count, Done) ∷ calls) ≡ released i calls
unfolding released
released_there id i count calls other = rw (ne_eqb id i other) (omega arith)

-- A release returns to its stream what it releases, unless the peer has ended it.
release_here : (log : Log) (i count : ℕ) → i ≢ 0 → IsAccounted (history_of log) i
    → active log i ≡ true → count ≤ unreleased log i
    → Steps (history_of log) i [] (updates i count (ended_in ((log_view log).stream i))) []
    ((Release i count, Done) ∷ log.calls)
release_here log i count some before alive much =
    let opened_here = (active_parts log.role i log.received log.sent log.reported alive).opened in
    let more = released_here i count log.calls in
    record {
      within = omega (arith, before.within, more, much, unreleased_is log i, flow_none i);
      unopened = λ was none. absurd (both_ways _ was opened_here);
      unread = λ none unclosed. total_none _;
      whole = λ active goes.
          let same : ended_in ((log_view log).stream i) ≡ false =
          ap ended_in (stream_there log i alive) ∙ goes in (
            omega (
              arith,
              more,
              updates_here i count (ended_in ((log_view log).stream i)) some same,
            ),
            flow_none i ∙ sym (total_none _),
          );
    }

-- A release has nothing to do with other streams.
release_steps : (log : Log) (id count i : ℕ) → i ≢ 0 → IsAccounted (history_of log) i
    → active log id ≡ true → count ≤ unreleased log id
    → Steps (history_of log) i [] (updates id count (ended_in ((log_view log).stream id))) []
    ((Release id count, Done) ∷ log.calls)
release_steps log id count i some before alive much = elim (cases_eq id i) [
  | inl same ↦ rw same (release_here log i count some before (rw (← same) alive) (rw (← same) much))
  | inr other ↦ call_steps log i _ _ before (updates_there id i count _ some other)
      (released_there id i count log.calls other)
]

-- A call that is accepted.
accepted_steps : (log : Log) (act : Act) (i : ℕ) → i ≢ 0 → IsAccounted (history_of log) i
    → refusal_of (log_view log) act ≡ None
    → Steps (history_of log) i [] (items_of (log_view log) act (answer_of (log_view log) act)) []
    ((act, answer_of (log_view log) act) ∷ log.calls)
unfolding conditions items_of released total increment_on
accepted_steps log (SendData id octets end) i some before none =
    call_steps log i _ _ before (none_of_items _ (data_gives i) _ _ _ end _) refl
accepted_steps log (Release id count) i some before none =
    let holds = none_holds _ none in
    let alive = stream_is_active log id holds.1.0 in
    let owing = neither_other (count == 0) _ holds.1.1.1.0 in
    release_steps log id count i some before alive (omega (
      arith,
      ltb-false (owed_on ((log_view log).stream id)) count owing,
      owed_there log id alive,
    ))
accepted_steps log (Widen count) i some before none =
    call_steps log i _ _ before (omega (arith, update_elsewhere i count some)) refl
accepted_steps log act i some before none = call_steps log i _ _ before refl refl

module _ (role : Role) (values : Values) (i : ℕ) where
  -- It stands of a new log.
  begins_accounted : IsAccounted (history_of (opened role values)) i
  unfolding opened with_sent total reported_total released increment_on is_active is_block_on
  begins_accounted = record {
    within = omega arith;
    unopened = λ none. (refl, refl);
    unread = λ none unclosed. refl;
    whole = λ active goes. (refl, refl);
  }

  -- Each change keeps it.
  accounted_kept : i ≢ 0 → IsPendingInvariant role values (PendingAccounted i)
  unfolding with_sent reported_total flow_on
  accounted_kept some = record {
    opening = λ in_range. begins_accounted;
    used = λ log octets unparsed before. before;
    framed = λ log frames before. before;
    begun = λ log begun begins before. before;
    complete = λ log before. before;
    replied = replied_keeps role values i;
    named = λ log is up next before. quiet_keeps (history_of log) i
        (UnprocessedEvent (next_unprocessed log) ∷ []) log.calls log.unreturned before refl refl;
    reported = λ log event events may before. before;
    unreturned = λ events log count before. quiet_keeps _ i [] log.calls count before refl refl;
    returned = λ events log returns. give_accounted _ i some;
    failed = λ log code last names. failure_keeps code last log i;
    sent = λ log act accepted before. sent_accounted i []
        (called log act (answer_of (log_view log) act)) _
        (step_keeps (history_of log) i [] _ [] _ log.unreturned before
        (accepted_steps log act i some before accepted.none));
    called = λ log act answer is none before. quiet_keeps (history_of log) i [] _ log.unreturned
        before refl (released_none i act answer log.calls none);
    given = λ log more before. before;
  }

-- It stands of every log.
pub log_accounted : (role : Role) (values : Values) (log : Log) (i : ℕ) → i ≢ 0
    → IsLog role values log → IsAccounted (history_of log) i
log_accounted role values log i some =
    pending_by_logs role values (PendingAccounted i) (accounted_kept role values i some) log

-- So on an active stream that the peer hasn't ended what the peer may send and what is owed are the
-- initial window.
window_by : (initial gave read reported calls : ℕ) → gave ≡ calls → reported ≡ read
    → calls ≤ reported
    → (pos (initial + gave) -ℤ pos read) +ℤ pos (reported - calls) ≡ pos initial
window_by initial gave read reported calls one other le = omega (arith, ints)

pub window_is_initial : (role : Role) (values : Values) (log : Log) (i : ℕ) → IsLog role values log
    → active log i ≡ true → list_any (ends i) log.received ≡ false
    → recv_window log i +ℤ pos (owed log i)
    ≡ pos (own_value 4 first_window (acked log) log.sent)
unfolding owed unreleased granted_on
window_is_initial role values log i is alive goes =
    let before = log_accounted role values log i (active_some log i alive) is in
    let both = before.whole alive goes in
    rw alive (window_by (own_value 4 first_window (acked log) log.sent) _ _ _ _ both.0 both.1
    before.within)
