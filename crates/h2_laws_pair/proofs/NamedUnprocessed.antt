-- A stream that an end has reported as unprocessed is above the last stream of a GOAWAY that it has
-- read, and the end is a client (RFC 9113, section 6.8).
use Rattle.h2_laws_log.proofs.NextStreams.{least_passes, least_found}
use Rattle.h2_spec_log.specs.Events.{reports_unprocessed}
use Rattle.h2_laws_log.proofs.StreamNumbers.{block_below, client_low, next_of}
use Rattle.h2_laws_log.proofs.LogViewLemmas.{events_unnamed}
use Rattle.h2_laws_pair.proofs.Names
use Names.{◌≡◌, ◌≢◌, ◌⊎◌, inl, inr, ℕ, ◌≤◌, ◌<◌, ◌==◌, nat_lt, ◌&&◌, min, true, false, List, []}
use Names.{◌∷◌, ◌++◌, refl, sym, ap, ◌∙◌, arith, list_any, both_ways, and_from, and_parts, ltb-true}
use Names.{lt-ltb, eqb-true, or_left, or_right, or_cases, cases_Bool, nat_tests, GoAway, Item}
use Names.{alone, block, Role, Client, Server, Event, is_goaway_below, greatest_block, is_block_on}
use Names.{Values, is_server, AllowedHistory, Log, active, least_goaway, next_unprocessed, log_view}
use Names.{read, with_sent, opened, called, answer_of, replies_to, IsLog, log_represents}
use Names.{IsLogInvariant, kept_by_logs, MayReport, of_item, of_unprocessed, any_after, Grows}
use Names.{grows_wrote, any_either, active_parts, greatest_number, least_block, openings}

-- Each stream that was named unprocessed is above a GOAWAY's last one, at a client.
abbrev pub IsNamed : Log → Type 0
IsNamed log = (i : ℕ) → list_any (reports_unprocessed i) log.reported ≡ true
    → (is_server log.role ≡ false) × (list_any (is_goaway_below i) log.received ≡ true)

-- So it is where no stream more was named, and no less was read.
named_more : (old new : Log) (reads : List Item) (events : List Event) → new.role ≡ old.role
    → new.received ≡ reads ++ old.received → new.reported ≡ events ++ old.reported
    → ((i : ℕ) → list_any (reports_unprocessed i) events ≡ false) → IsNamed old → IsNamed new
named_more old new reads events role received reported names before i here =
    elim (any_either (reports_unprocessed i) events old.reported
    (sym (ap (list_any (reports_unprocessed i)) reported) ∙ here)) [
      | inl wrong ↦ absurd (both_ways (list_any (reports_unprocessed i) events) (names i) wrong)
      | inr was ↦
          let named = before i was in (
            ap is_server role ∙ named.0,
            ap (list_any (is_goaway_below i)) received ∙ any_after (is_goaway_below i) _ _ named.1,
          )
    ]

-- Where a log writes, it names none.
named_grows : (old new : Log) → Grows old new → IsNamed old → IsNamed new
named_grows old new grows =
    named_more old new [] [] grows.role grows.received grows.reported (λ i. refl)

-- Where a number is above the least last stream, a GOAWAY's last one is below it.
least_of : (last least i : ℕ) → min last least < i → nat_lt last i ≡ false → least < i
least_of last least i below none = grind (arith, nat_tests)

least_by : (last least i : ℕ) → min last least < i → (last < i) ⊎ (least < i)
least_by last least i below = elim (cases_Bool (nat_lt last i)) [
  | inl here ↦ inl (ltb-true last i here)
  | inr none ↦ inr (least_of last least i below none)
]

goaway_below : (items : List Item) (i : ℕ) → i ≤ greatest_number → least_goaway items < i
    → list_any (is_goaway_below i) items ≡ true
unfolding least_goaway is_goaway_below
goaway_below [] i low above = absurd (omega (arith, low, above))
goaway_below (block stream end octets ∷ items) i low above = goaway_below items i low above
goaway_below (alone (GoAway last code debug) ∷ items) i low above =
    elim (least_by last (least_goaway items) i above) [
      | inl here ↦ or_left (nat_lt last i) _ (lt-ltb last i here)
      | inr after ↦ or_right (nat_lt last i) _ (goaway_below items i low after)
    ]
goaway_below (alone frame ∷ items) i low above = goaway_below items i low above

-- A number that is no greater than the greatest that was opened has 31 bits, at a client.
opened_low : (role : Role) (i : ℕ) (received sent : List Item) → is_server role ≡ false
    → AllowedHistory role received sent → i ≤ greatest_block (openings role received sent)
    → i ≤ greatest_number
opened_low Client i received sent client history below = omega (arith, client_low _ _ history)
opened_low Server i received sent client history below = absurd (both_ways true client refl)

-- The next unprocessed stream is above the last stream of a GOAWAY that was read, at a client.
next_named : (log : Log) → AllowedHistory log.role log.received log.sent
    → next_unprocessed log ≢ 0 → (is_server log.role ≡ false)
    × (list_any (is_goaway_below (next_unprocessed log)) log.received ≡ true)
unfolding next_unprocessed
next_named log history some =
    let next = next_of log.role _ some in
    let role : is_server log.role ≡ false = ap is_server next.0 in
    let above = λ (j : ℕ). active log j && nat_lt (least_goaway log.received) j in
    let i = least_block above log.sent in
    let both = and_parts _ _ (least_passes above log.sent next.1) in
    let parts = active_parts _ _ _ _ _ both.0 in
    let low = opened_low _ _ _ _ role history (block_below _ _ parts.opened) in
    let high = ltb-true _ _ both.1 in
    (role, rw role (goaway_below _ _ low high))

-- What is reported next names a stream so, or none.
reported_named : (role : Role) (values : Values) (log : Log) (events : List Event)
    → MayReport role values log events → (i : ℕ) → list_any (reports_unprocessed i) events ≡ true
    → (is_server log.role ≡ false) × (list_any (is_goaway_below i) log.received ≡ true)
unfolding reports_unprocessed
reported_named role values log _ (of_item before decoded item verdict replies grows) i here =
    absurd (both_ways _ (events_unnamed before decoded verdict item i) here)
reported_named role values log _ (of_unprocessed before is up some grows) i here =
    let named = next_named before (log_represents role values before is).with_sent some in
    elim (or_cases (next_unprocessed before == i) false here) [
      | inl same ↦ rw (grows.role, grows.received, ← eqb-true _ i same) named
      | inr wrong ↦ absurd (both_ways false refl wrong)
    ]

-- Each change of a log keeps it.
named_kept : (role : Role) (values : Values) → IsLogInvariant role values IsNamed
unfolding opened with_sent
named_kept role values = record {
  opening = λ in_range i here. absurd (both_ways false refl here);
  used = λ log octets unparsed is. is;
  framed = λ log frames is. is;
  begun = λ log begun is. is;
  replied = λ log decoded item verdict replies is.
      let wrote = grows_wrote (read log decoded item) (replies_to verdict item) in
      named_more log (with_sent (read log decoded item) (replies_to verdict item)) (item ∷ [])
      [] wrote.role wrote.received wrote.reported (λ i. refl) is;
  reported = λ log event events may is i here.
      elim (any_either (reports_unprocessed i) (event ∷ events) log.reported here) [
        | inl now ↦ reported_named role values log (event ∷ events) may i now
        | inr was ↦ is i was
      ];
  unreturned = λ log count is. is;
  returned = λ log returns is. is;
  failed = λ log code last names is. is;
  sent = λ log act accepted is.
      named_grows (called log act (answer_of (log_view log) act)) _ (grows_wrote _ _) is;
  called = λ log act answer is_log none is. is;
  given = λ log more is. is;
}

-- Every log.
pub log_named : (role : Role) (values : Values) (log : Log) → IsLog role values log → IsNamed log
log_named role values = kept_by_logs role values IsNamed (named_kept role values)

-- At a client that has reported all unprocessed streams, none above a GOAWAY is active.
above_nonzero : (log : Log) (j : ℕ)
    → (active log j && nat_lt (least_goaway log.received) j) ≡ true → j ≢ 0
above_nonzero log j both none =
    let above : least_goaway log.received < j = ltb-true _ _ (and_parts _ _ both).1 in
    omega (arith, above, none)

pub none_above : (log : Log) (i : ℕ) → log.role ≡ Client → next_unprocessed log ≡ 0
    → least_goaway log.received < i → active log i ≡ true → ⊥
unfolding next_unprocessed
none_above log i client none above alive =
    let test = λ (j : ℕ). active log j && nat_lt (least_goaway log.received) j in
    let own : is_server log.role ≡ false = ap is_server client in
    let least : least_block test log.sent ≡ 0 = rw own at none in
    let opened : list_any (is_block_on i) log.sent ≡ true =
    rw client at (active_parts log.role i log.received log.sent log.reported alive).opened in
    (least_found test i log.sent (above_nonzero log)
    (and_from (active log i) _ alive (lt-ltb (least_goaway log.received) i above)) opened).0 least
