-- The call that releases octets preserves that an end represents its log.
use Rattle.std.specs.FinMap as map
use Rattle.h2_laws_machine.proofs.Names
use Names.{◌≡◌, ◌≢◌, ℕ, ◌+◌, ◌-◌, ◌∷◌, pos, sym, ap, ◌∙◌, Log, Act, Done, End, View}
use Names.{◌==◌, list_any, given_on, widened, released, log_view, with_sent, with_call, StreamMap}
use Names.{total_one}
use Names.{Bool, Option, subst, ne_eqb, window, active, Answer, called, items_of, ended_in, get_set}
use Names.{true, List, ◌++◌, ◌+ℤ◌, Some, refl, arith, ints, Item, alone, Role, ends, total, Event}
use Names.{false, if◌then◌else◌, nat_cmp_total, with_unreturned, encoder_after_call, increment_here}
use Names.{WindowUpdate, increment_on, stream_of_log, owed_at_close, stream_of_act, after_release}
use Names.{data_on, first_window, granted_on, StreamEntry, active_entry, queue_output, stream_there}
use Names.{one_reset, own_value, is_active, unreleased, Release, with_items, StreamView, after_call}
use Rattle.h2_laws_log.proofs.ReleasedCredit.{released_here, updates}
use Rattle.h2_laws_machine.proofs.LogCore.{Core, core, CoreFacts, core_facts, Advances, confirmed}
use Rattle.h2_laws_machine.proofs.LogCore.{active_by_items, said, kept_back}
use Rattle.h2_laws_machine.proofs.OneItemMore.{total_quiet, own_quiet}
use Rattle.h2_laws_machine.proofs.OwedAtClose.{owes_active}
use Rattle.h2_laws_machine.proofs.RepresentedSteps.{Up, views_of_up, wrote_up, nothing_unreturned}
use Rattle.h2_laws_machine.proofs.RepresentedSteps.{wrote_active}
use Rattle.h2_laws_machine.proofs.SentConnectionItems.{update_other, widened_advances, computing}
use Rattle.h2_laws_machine.proofs.SentConnectionItems.{update_quiet}
use Rattle.h2_laws_machine.proofs.SentQuietItems.{sends, same_sent, used_wrote, active_wrote}
use Rattle.h2_laws_machine.proofs.SentQuietItems.{quiet_sent}
use Rattle.h2_laws_machine.proofs.StreamsSame.{same_stream, streams_set, active_some}

-- A number of a stream that is set twice, at each number.
twice_at : (v w x : Option StreamEntry) (b : Bool)
    → (if b then w else (if b then v else x)) ≡ (if b then w else x)
twice_at v w x true = refl
twice_at v w x false = refl

-- A stream that is set twice is set once.
set_twice : (m : StreamMap) (k : ℕ) (v w : StreamEntry)
    → map.insert (map.insert m k v) k w ≡ map.insert m k w
set_twice m k v w =
    map.same_map nat_cmp_total map.nat_cmp-IsAntisymmetric (map.insert (map.insert m k v) k w)
    (map.insert m k w) (λ q. get_set (map.insert m k v) k w q
    ∙ ap (λ (x : Option StreamEntry). if q == k then Some w else x) (get_set m k v q)
    ∙ twice_at (Some v) (Some w) (map.get m q) (q == k) ∙ sym (get_set m k w q))

-- octets that are released count where their stream is
released_more : (i id count : ℕ) (calls : List (Act × Answer)) → i ≢ id
    → released i ((Release id count, Done) ∷ calls) ≡ released i calls
unfolding released
released_more i id count calls other = rw (ne_eqb id i (λ same. other (sym same))) (omega arith)

-- the core with the call
abbrev with_release : Core → ℕ → ℕ → Core
with_release c id count = record c { calls = (Release id count, Done) ∷ c.calls }

-- what is kept back of the stream after it
kept_less : (c : Core) (id count : ℕ)
    → kept_back c id - count ≡ kept_back (with_release c id count) id
kept_less c id count = omega (arith, released_here id count c.calls)

-- The call is recorded, and less is owed.
owed_less_advances : (h : CoreFacts) (c : Core) (id count : ℕ) → active_by_items c id ≡ true
    → Advances h c
    → Advances (record h {
      streams = record h.streams {
        entries = map.insert h.streams.entries id
            (active_entry (record (said c id) { owed = kept_back c id - count }));
      };
    }) (with_release c id count)
unfolding widened
owed_less_advances h c id count active_is g =
    let next = record (said c id) { owed = kept_back c id - count } in
    let base = with_release c id count in
    assumption (
      streams_set h.streams id next c base (λ j other. record {
        active = refl;
        was_reset = refl;
        stream = λ alive. rw (released_more j id count c.calls other) refl;
      }) active_is active_is
          (same_stream next (said base id) refl refl (kept_less c id count) refl refl) refl refl
          refl g.streams,
      g,
    )

-- a window to which more was given
more_granted : (own more consumed count : ℕ)
    → window (own + (count + more)) consumed ≡ window (own + more) consumed +ℤ pos count
more_granted own more consumed count = omega (arith, ints)

-- The stream to which more was given is what the log says.
granted_said : (c : Core) (id count : ℕ)
    → record (said c id) { recv_window = (said c id).recv_window +ℤ pos count }
    ≡ said (sends c (alone (WindowUpdate id count))) id
unfolding computing granted_on
granted_said c id count =
    let item : Item = alone (WindowUpdate id count) in
    same_stream (record (said c id) { recv_window = (said c id).recv_window +ℤ pos count })
    (said (sends c item) id)
    (ap (window (given_on id c.received)) (sym (total_quiet (data_on id) item c.sent refl)))
    (let more : total (increment_on id) (item ∷ c.sent) ≡ count + total (increment_on id) c.sent =
    total_one (increment_on id) item c.sent ∙ ap (λ (n : ℕ). n + total (increment_on id) c.sent)
    (increment_here id count) in
    let own = own_quiet 4 first_window (confirmed c) item c.sent refl in
    sym (ap (λ (n : ℕ). window n (total (data_on id) c.received)) (rw (own, more) refl)
    ∙ more_granted (own_value 4 first_window (confirmed c) c.sent) _ _ count)) refl refl refl

-- The peer may send more on an active stream.
granted_advances : (h : CoreFacts) (c : Core) (id count : ℕ) → active_by_items c id ≡ true
    → Advances h c
    → Advances (record h {
      streams = record h.streams {
        entries = map.insert h.streams.entries id (active_entry (record (said c id)
            { recv_window = (said c id).recv_window +ℤ pos count }));
      };
    }) (sends c (alone (WindowUpdate id count)))
unfolding computing
granted_advances h c id count active_is g =
    let item : Item = alone (WindowUpdate id count) in
    let q = update_quiet id count in
    quiet_sent h c item _ h.windows.recv q
    (omega (arith, update_other 0 id count (λ same. active_some c id active_is (sym same))))
    (streams_set h.streams id _ c (sends c item)
    (λ j other. same_sent j c item (q.streams.apart j) (q.streams.below j) (λ alive. update_other j
    id count other) (own_quiet 4 first_window (confirmed c) item c.sent refl)) active_is
    (active_wrote c.role id item c.received c.sent c.reported refl refl refl refl ∙ active_is)
    (granted_said c id count) (used_wrote c.role item c.received c.sent q.streams.greatest) refl
    (total_quiet one_reset item c.sent refl) g.streams) g

-- An active stream stays so after them.
updates_active : (role : Role) (received sent : List Item) (reported : List Event) (id count : ℕ)
    (ended : Bool)
    → is_active role id received (updates id count ended ++ sent) reported ≡ is_active role id
    received sent reported
unfolding computing
updates_active role received sent reported id count true =
    active_wrote role id (alone (WindowUpdate 0 count)) received sent reported refl refl refl refl
updates_active role received sent reported id count false =
    active_wrote _ _ _ _ _ _ refl refl refl refl ∙ active_wrote _ _ _ _ _ _ refl refl refl refl

-- the stream after a release
abbrev stream_released : Core → ℕ → ℕ → Bool → StreamView
stream_released c id count ended =
    record (said c id) {
      owed = kept_back c id - count;
      recv_window = if ended then (said c id).recv_window else (said c id).recv_window +ℤ pos count;
    }

-- What is kept after a release, by the test.
release_advances : (h : CoreFacts) (c : Core) (id count : ℕ) (ended : Bool)
    → active_by_items c id ≡ true → Advances h c
    → Advances (record h {
      streams = record h.streams {
        entries = map.insert h.streams.entries id (active_entry (stream_released c id count ended));
      };
      windows = record h.windows { recv = h.windows.recv + count };
    })
    (record (with_release c id count) { sent = updates id count ended ++ c.sent })
release_advances h c id count true active_is g =
    widened_advances _ (with_release c id count) count (owed_less_advances h c id count active_is g)
release_advances h c id count false active_is g =
    let base = with_release c id count in
    let first = record (said c id) { owed = kept_back c id - count } in
    let next = stream_released c id count false in
    let given = granted_advances _ base id count active_is
    (owed_less_advances h c id count active_is g) in
    let meant : record (said base id) { recv_window = (said base id).recv_window +ℤ pos count }
    ≡ next =
    same_stream (record (said base id) { recv_window = (said base id).recv_window +ℤ pos count })
    next refl refl (sym (kept_less c id count)) refl refl in
    let once : map.insert (map.insert h.streams.entries id (active_entry first)) id
    (active_entry (record (said base id) { recv_window = (said base id).recv_window +ℤ pos count }))
    ≡ map.insert h.streams.entries id (active_entry next) =
    ap (λ (s : StreamView). map.insert (map.insert h.streams.entries id (active_entry first)) id
    (active_entry s)) meant ∙ set_twice _ _ (active_entry first) (active_entry next) in
    widened_advances (record h {
      streams = record h.streams { entries = map.insert h.streams.entries id (active_entry next) };
    }) (record base { sent = alone (WindowUpdate id count) ∷ c.sent }) count
    (subst (λ (m : StreamMap). Advances (record h { streams = record h.streams { entries = m } })
    (record base { sent = alone (WindowUpdate id count) ∷ c.sent })) once given)

-- Octets are released.
pub release_up : (e : End) (log : Log) (id count : ℕ) → active log id ≡ true → Up e log
    → Up (after_call e (Release id count)) (with_call log (Release id count) Done)
unfolding after_call with_call with_items items_of stream_of_act encoder_after_call unreleased
release_up e log id count active_is is =
    let base = called log (Release id count) Done in
    let ended = list_any (ends id) log.received in
    let items = updates id count ended in
    let released_one = record e {
      streams = record e.streams {
        entries = map.insert e.streams.entries id
            (active_entry (stream_released (core log) id count ended));
      };
      windows = record e.windows { recv = e.windows.recv + count };
    } in
    let made = wrote_up e released_one base items is.role is.up is.same refl is.waits is.started
    (release_advances (core_facts e) (core log) id count ended active_is is.going) in
    let still : active (with_sent base items) id ≡ true = wrote_active base items id
    ∙ updates_active log.role log.received log.sent log.reported id count ended ∙ active_is in
    let all : Up (after_release (queue_output e items) id count (Some (stream_of_log log id)))
    (with_unreturned (owed_at_close log (with_sent base items) id) (with_sent base items)) =
    nothing_unreturned _ _ _ id (owes_active log (with_sent base items) id still) made in
    let call = with_call log (Release id count) Done in
    let there : Up (after_release
    (queue_output e (updates id count (ended_in ((log_view log).stream id)))) id count
    ((log_view log).stream id)) call = subst (λ (stream : Option StreamView). Up
    (after_release (queue_output e (updates id count (ended_in stream))) id count stream)
    (with_unreturned (owed_at_close log (with_sent base (updates id count (ended_in stream))) id)
    (with_sent base (updates id count (ended_in stream))))) (sym (stream_there log id active_is))
    all in
    subst (λ (view : View). Up (after_release
    (queue_output e (updates id count (ended_in (view.stream id)))) id count
    (view.stream id)) call) (sym (views_of_up e log is)) there
