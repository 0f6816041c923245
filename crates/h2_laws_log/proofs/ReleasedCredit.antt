-- What is released of a stream is no more than was read, on the stream and on the connection.
use Rattle.std.proofs.lemmas.Bool.{eqb-false}
use Rattle.h2_laws_log.proofs.Names
use Names.{ap, both_ways, ne_eqb, or_parts, ltb-false, WindowUpdate, Item, alone, Role, total}
use Names.{increment_on, one_answer, settings_count, one_ack, flow_on, reported_total, Act, Answer}
use Names.{granted_on_connection, Release, Done, Log, released, widened, unreleased, ended_in, owed_on, log_view, conditions}
use Names.{refusal_of, items_of, stream_of_act, with_call, HasAcknowledged, AllowedHistory, writes}
use Names.{active_by_items, MayUpdateWindow, sum_below, none_since, ◌≡◌, ◌≢◌, ℕ, suc, ◌+◌, ◌-◌, ◌≤◌}
use Names.{◌==◌, nat_lt, Bool, true, false, if◌then◌else◌, List, [], ◌∷◌, ◌++◌, None, refl, sym}
use Names.{◌∙◌, arith}
use Rattle.h2_laws_log.proofs.ItemLists.{total_one, total_none}
use Rattle.h2_laws_log.proofs.CallConditions.{none_holds}
use Rattle.h2_laws_log.proofs.InvariantCalls.{active_is_active, active_some, items_represent}
use Rattle.h2_laws_log.proofs.InvariantSteps.{update_elsewhere, update_here}
use Rattle.h2_laws_log.proofs.LogHistory.{History, history_of, active_in_view, left, owes}
use Rattle.h2_laws_log.proofs.LogInvariant.{Good, Represents, Moves}
use Rattle.h2_laws_log.proofs.LogViewLemmas.{stream_is_active, owed_there}
use Rattle.h2_laws_log.proofs.AllowedHistories.{increment_here}

-- an update gives to no other stream
pub gives_elsewhere : (i j count : ℕ) → (i ≡ j → ⊥) → increment_on j (alone (WindowUpdate i count))
    ≡ 0
unfolding increment_on
gives_elsewhere i j count other = rw (ne_eqb i j other) refl

-- an update gives as much as a release
gives_released : (i j count : ℕ) (calls : List (Act × Answer))
    → increment_on j (alone (WindowUpdate i count)) + released j calls
    ≡ released j ((Release i count, Done) ∷ calls)
unfolding increment_on released
gives_released i j count calls = refl

-- a release releases so much
pub released_here : (i count : ℕ) (calls : List (Act × Answer))
    → released i ((Release i count, Done) ∷ calls) ≡ count + released i calls
released_here i count calls = sym (gives_released i i count calls)
    ∙ ap (λ (n : ℕ). n + released i calls) (increment_here i count)

-- what is owed on an active stream
pub owes_active : (v : History) (i : ℕ) → active_in_view v i ≡ true → owes v i
    ≡ reported_total (flow_on i) v.reported - released i v.calls
unfolding owes left
owes_active v i active = rw active refl

-- the same of a log
pub unreleased_is : (log : Log) (i : ℕ) → unreleased log i
    ≡ reported_total (flow_on i) log.reported - released i log.calls
unfolding unreleased
unreleased_is log i = refl

-- what is owed on one stream is no more than on all
pub owes_one : (v : History) (i : ℕ) → owes v i ≤ sum_below (suc i) (owes v)
unfolding sum_below
owes_one v i = omega arith

-- an update acknowledges nothing
update_ack : (i count : ℕ) → one_ack (alone (WindowUpdate i count)) ≡ 0
unfolding one_ack
update_ack i count = refl

-- an update answers nothing
update_answer : (i count : ℕ) → one_answer (alone (WindowUpdate i count)) ≡ 0
unfolding one_answer
update_answer i count = refl

-- what a release returns
pub record Gives (v : History) (i count : ℕ) : Type 0 where
  pub some : count ≢ 0
  pub number : i ≢ 0
  pub active : active_in_view v i ≡ true
  pub owed : count ≤ reported_total (flow_on i) v.reported - released i v.calls

-- the updates of a release, by the test whether the peer has ended the stream
abbrev pub updates : ℕ → ℕ → Bool → List Item
updates i count ended = alone (WindowUpdate 0 count) ∷ (if ended then [] else alone
    (WindowUpdate i count) ∷ [])

-- the connection may be returned as much
gives_all : (v : History) (i count : ℕ) (sent : List Item) → Good v → Gives v i count
    → HasAcknowledged v.received sent
    → total (increment_on 0) sent ≡ total (increment_on 0) v.sent
    → HasAcknowledged v.received sent × MayUpdateWindow v.role 0 count v.received sent
unfolding granted_on_connection
gives_all v i count sent good gives returned same =
    let whole = good.whole (suc i) in
    let wide = good.wide in
    let one = owes_one v i in
    let is = owes_active v i gives.active in
    let much = gives.owed in (
      returned,
      record {
        some = gives.some;
        active = λ wrong. absurd (wrong refl);
        read = λ wrong. absurd (wrong refl);
        within = λ zero. omega arith;
      },
    )

-- the updates of a release may be written
updates_written : (v : History) (i count : ℕ) (ended : Bool) → Good v
    → AllowedHistory v.role v.received v.sent → active_by_items v.role i v.received v.sent ≡ true
    → Gives v i count
    → AllowedHistory v.role v.received (updates i count ended ++ v.sent)
updates_written v i count true good with_sent active gives =
    writes (alone (WindowUpdate 0 count)) with_sent
    (gives_all v i count v.sent good gives good.returned refl)
updates_written v i count false good with_sent active gives =
    let gave = good.gave i gives.number in
    let reported = good.reported_read i in
    let much = gives.owed in
    let next = total_one (increment_on 0) (alone (WindowUpdate i count)) v.sent in
    let none = gives_elsewhere i 0 count gives.number in
    writes (alone (WindowUpdate 0 count)) (writes (alone (WindowUpdate i count)) with_sent (
      good.returned,
      record {
        some = gives.some;
        active = λ number. active;
        read = λ number. let some = gives.some in omega arith;
        within = λ zero. absurd (gives.number zero);
      },
    )) (gives_all _ _ _ _ good gives (omega (arith, total_one, update_ack)) (omega arith))

-- what the updates give, of each kind
updates_total : (f : Item → ℕ) (i count : ℕ) (ended : Bool)
    → total f (updates i count ended) ≤ f (alone (WindowUpdate 0 count)) + f (alone
    (WindowUpdate i count))
unfolding total
updates_total f i count true = omega arith
updates_total f i count false = omega arith

-- what the updates give the connection
updates_all : (i count : ℕ) (ended : Bool) → i ≢ 0
    → total (increment_on 0) (updates i count ended) ≡ count
unfolding total
updates_all i count true some = omega (arith, update_here count)
updates_all i count false some = omega (arith, update_here count, gives_elsewhere i 0 count some)

-- A release is sound.
release_moves : (v : History) (i count : ℕ) (ended : Bool) → Good v
    → AllowedHistory v.role v.received v.sent → active_by_items v.role i v.received v.sent ≡ true
    → Gives v i count
    → Moves v i [] (updates i count ended) [] ((Release i count, Done) ∷ v.calls) 0
unfolding reported_total settings_count widened
release_moves v i count ended good with_sent active gives =
    let all = updates_all i count ended gives.number in
    let here = released_here i count v.calls in
    let much = gives.owed in
    record {
      with_sent = updates_written v i count ended good with_sent active gives;
      returned = omega
          (arith, updates_total one_ack i count ended, update_ack 0 count, update_ack i count);
      answered = omega (arith, updates_total, update_answer, total_none);
      acked = omega arith;
      ponged = omega arith;
      named = λ j some. absurd (both_ways false refl some);
      gave = λ j some. omega (arith, updates_total, update_elsewhere, gives_released);
      reported_read = λ j. omega arith;
      reported_open = λ j some. absurd (some refl);
      elsewhere = λ j other. refl;
      kept = λ j. omega (arith, gives_released i j count v.calls);
      wider = omega arith;
      wide = λ before. before;
      out = omega arith;
      out_active = λ some. gives.active;
      fits = omega arith;
    }

-- The invariant holds after releasing.
pub release_represents : (role : Role) (log : Log) (id count : ℕ)
    → Represents role (history_of log) → refusal_of (log_view log) (Release id count) ≡ None
    → Represents role (history_of (with_call log (Release id count) Done))
unfolding conditions with_call items_of stream_of_act
release_represents role log id count represents none =
    let holds = none_holds _ none in
    let up = none_since log.failed holds.0 in
    let is_active_here = stream_is_active log id holds.1.0 in
    let stream = (log_view log).stream id in
    let owing = or_parts (count == 0) (nat_lt (owed_on stream) count) holds.1.1.1.0 in
    items_represent role log (Release id count) Done (updates id count (ended_in
    ((log_view log).stream id))) represents up refl
    (release_moves (history_of log) id count (ended_in ((log_view log).stream id))
    (represents.good up) represents.with_sent (active_is_active log id is_active_here) (record {
      some = eqb-false count 0 owing.0;
      number = active_some log id is_active_here;
      active = is_active_here;
      owed = omega (arith, ltb-false, owed_there, unreleased_is);
    }))
