-- The next stream that is to be reported as unprocessed is the same at an end as at its log: the
-- least active number above the last one. So is the next active stream.
use Rattle.std.specs.FinMap as map
use Rattle.h2_laws_machine.proofs.Names
use Names.{◌≡◌, ℕ, Bool, true, false, nat_lt, ◌&&◌, if◌then◌else◌, Some, None, refl, sym, ap, ◌∙◌}
use Names.{arith, list_any, both_ways, and_parts, and_right, ltb-true, le-ltb, least_goaway, Log}
use Names.{active, next_active, next_unprocessed, Values, resets, is_goaway, is_server, openings}
use Names.{when, AllowedHistory, End, StreamEntry, active_entry, reset_entry, Streams, StreamView}
use Names.{first_active, unprocessed_of_end, Represents, entry_by, Role, Client, Server, last_none}
use Names.{least_block, is_active_entry, first_found}
use Rattle.h2_spec_machine.proofs.SortedEntries.{first_least, two_least}
use Rattle.h2_laws_log.proofs.NextStreams.{next_passes, next_found}
use Rattle.h2_laws_log.proofs.StreamNumbers.{client_low, least_none}
use Rattle.h2_laws_log.proofs.InvariantLogs.{written_is_allowed}
use Rattle.h2_laws_machine.proofs.LogCore.{said, core, Going, going, StreamsOf}
use Rattle.h2_laws_machine.proofs.RecvVerdict.{entry_said}

-- what is kept and living is an active stream
living_is_active : (active was : Bool) (s : StreamView) (x : StreamEntry)
    → entry_by active was s ≡ Some x
    → is_active_entry x ≡ true → active ≡ true
living_is_active true was s x is alive = refl
living_is_active false true s x is alive = let same : reset_entry ≡ x = cc in
    absurd (both_ways false refl (rw (← same) at alive))
living_is_active false false s x is alive = absurd (cc)

-- The first active number above another is the next active stream of the log.
pub next_active_same : (streams : Streams) (log : Log) (id : ℕ) → StreamsOf streams (core log)
    → first_active id (map.entries streams.entries) ≡ next_active log id
next_active_same streams log id are =
    two_least _ _ (λ some.
    let n : ℕ = first_active id (map.entries streams.entries) in
    let f = first_found _ _ (map.entries_sorted streams.entries) some in
    let kept : map.get streams.entries n ≡ Some f.x = map.get-entries streams.entries n ∙ f.found in
    let alive : active log n ≡ true = living_is_active (active log n) (list_any (resets n) log.sent)
    (said (core log) n) f.x (sym (are.entries n) ∙ kept) f.active in
    next_found log id n alive (ltb-true id n f.higher)) (λ some.
    let n : ℕ = next_active log id in
    let both = and_parts (active log n) (nat_lt id n) (next_passes log id some) in
    first_least id n (map.entries streams.entries) (active_entry (said (core log) n))
    (map.entries_sorted streams.entries)
    (sym (map.get-entries streams.entries n) ∙ entry_said streams (core log) n are both.0) refl
    (ltb-true id n both.1))

-- At a client it is the least one that was written.
least_same : (e : End) (log : Log) (last : ℕ) → log.role ≡ Client → Going e (core log)
    → first_active last (map.entries e.streams.entries) ≡ least_block (λ j. active log j && nat_lt
    last j) log.sent
unfolding next_active
least_same e log last client g =
    next_active_same e.streams log last g.streams
    ∙ ap (λ (role : Role). least_block (λ j. active log j && nat_lt last j)
    (openings role log.received log.sent)) client

-- The next stream at an end, by its role, and by whether a GOAWAY was read.
next_by : (e : End) (log : Log) (role : Role) (b : Bool) → e.role ≡ role → log.role ≡ role
    → list_any is_goaway log.received ≡ b
    → AllowedHistory log.role log.received log.sent → Going e (core log)
    → unprocessed_of_end role e.streams.entries (when b (least_goaway log.received))
    ≡ (if is_server role then 0 else least_block (λ j. active log j && nat_lt
    (least_goaway log.received) j) log.sent)
next_by e log Server true same is goaway with_sent g = refl
next_by e log Server false same is goaway with_sent g = refl
next_by e log Client true same is goaway with_sent g = least_same e log (least_goaway log.received)
    is g
next_by e log Client false same is goaway with_sent g =
    let client : AllowedHistory Client log.received log.sent = rw is at with_sent in
    sym (least_none (λ j. active log j && nat_lt (least_goaway log.received) j) log.sent (λ j below.
    and_right (active log j) (nat_lt (least_goaway log.received) j)
    (le-ltb (least_goaway log.received) j (omega (arith, last_none, client_low)))))

-- The next stream that is to be reported as unprocessed is the same.
pub next_same : (values : Values) (e : End) (log : Log) → Represents values e log
    → log.failed ≡ None
    → unprocessed_of_end e.role e.streams.entries e.goaway.received ≡ next_unprocessed log
unfolding next_unprocessed
next_same values e log s up =
    let r = s.running (s.failed ∙ up) in
    let with_sent : AllowedHistory log.role log.received log.sent = rw (s.role) at
    (written_is_allowed e.role values log s.came) in
    rw (r.goaway.least_received, s.role) (next_by e log log.role (list_any is_goaway log.received)
    s.role refl refl with_sent (going e log s.streams r))
