-- A stream that the peer doesn't process is reported at an end as at its log.
use Rattle.std.specs.FinMap as map
use Rattle.h2_laws_machine.proofs.Names
use Names.{◌≡◌, both_ways, cond_both, unreleased, owed_entry, Represents, active_parts, lasts_parts}
use Names.{◌≢◌, ℕ, ◌+◌, ◌-◌, not, [], ◌∷◌, refl, ap, sym, ◌∙◌, Log, End}
use Names.{true, zero-add, list_any, released, one_acked, one_pong, is_server, took_none, with_sent}
use Names.{false, false_from_ne_true, reports_unprocessed, close_unprocessed, KeepsConnectionWindow}
use Names.{◌==◌, List, length, None, eq-eqb, ne_eqb, or_left, active, Values, Event, flow_on, Frame}
use Names.{next_unprocessed, UnprocessedEvent, reported_total, with_unreturned, RepresentsWhileUp}
use Names.{processed_by, with_reported, owed_at_close, reported_one, return_credit, add_unreturned}
use Rattle.h2_laws_log.proofs.CreditCases.{credit_cases}
use Rattle.h2_laws_log.proofs.NextStreams.{next_is_active}
use Rattle.h2_laws_machine.proofs.ConservedBySteps.{holds, is_whole, ended, lacks_none}
use Rattle.h2_laws_machine.proofs.LogCore.{Core, core, CoreFacts, core_facts, Advances, Going}
use Rattle.h2_laws_machine.proofs.LogCore.{active_by_items, kept_back, going, runs}
use Rattle.h2_laws_machine.proofs.OwedAtClose.{owes_all}
use Rattle.h2_laws_machine.proofs.RecvEvents.{report, reported_by, reported_kept, active_reported}
use Rattle.h2_laws_machine.proofs.RecvEvents.{taken_kept}
use Rattle.h2_laws_machine.proofs.RecvReturnedCredit.{After, returned}
use Rattle.h2_laws_machine.proofs.RecvVerdict.{active_said}
use Rattle.h2_laws_machine.proofs.RecvWithoutFrame.{represents_by}
use Rattle.h2_laws_machine.proofs.StreamsSame.{streams_closed, SameAt, said_removed}
use Rattle.h2_laws_machine.proofs.WaitingOutput.{waits_of}

-- The event that names a stream unprocessed names it.
names_it : (n : ℕ) → reports_unprocessed n (UnprocessedEvent n) ≡ true
unfolding reports_unprocessed
names_it n = eq-eqb n n refl

-- It names no other.
names_other : (n j : ℕ) → j ≢ n → reports_unprocessed j (UnprocessedEvent n) ≡ false
unfolding reports_unprocessed
names_other n j other = ne_eqb n j (λ is. other (sym is))

-- The event neither acknowledges nor answers, reports no flow, and shows nothing taken.
no_ack : (n : ℕ) → one_acked (UnprocessedEvent n) ≡ 0
unfolding one_acked
no_ack n = refl

no_pong : (n : ℕ) → one_pong (UnprocessedEvent n) ≡ 0
unfolding one_pong
no_pong n = refl

no_flow : (n j : ℕ) → flow_on j (UnprocessedEvent n) ≡ 0
unfolding flow_on
no_flow n j = refl

not_taken : (n : ℕ) → processed_by (UnprocessedEvent n) ≡ 0
unfolding processed_by
not_taken n = refl

-- A stream that is named unprocessed isn't active.
named_dead : (c : Core) (n : ℕ) → active_by_items (report c (UnprocessedEvent n)) n ≡ false
named_dead c n =
    false_from_ne_true (active_by_items (report c (UnprocessedEvent n)) n) (λ alive.
    both_ways (list_any (reports_unprocessed n) (UnprocessedEvent n ∷ c.reported))
    (active_parts _ _ _ _ _ alive).unnamed (or_left _ _ (names_it n)))

-- Others are as they were.
others_same : (c : Core) (n j : ℕ) → j ≢ n → SameAt j c (report c (UnprocessedEvent n))
others_same c n j other =
    let acks : reported_total one_acked (UnprocessedEvent n ∷ c.reported) ≡ reported_total one_acked
    c.reported = reported_kept one_acked _ _ (no_ack n) in
    let flow : reported_total (flow_on j) (UnprocessedEvent n ∷ c.reported) ≡ reported_total
    (flow_on j) c.reported = reported_kept _ _ _ (no_flow _ _) in
    record {
      active = active_reported _ _ _ _ _ _ (names_other _ _ other);
      was_reset = refl;
      stream = λ alive. rw (acks, flow) refl;
    }

-- What an end keeps, once an active stream was named unprocessed.
unprocessed_advances : (h : CoreFacts) (c : Core) (n : ℕ) → active_by_items c n ≡ true
    → Advances h c
    → Advances (record h {
      streams = record h.streams {
        entries = map.remove h.streams.entries n;
        active_count = h.streams.active_count - 1;
      };
    }) (report c (UnprocessedEvent n))
unprocessed_advances h c n alive g =
    let parts = active_parts c.role n c.received c.sent c.reported alive in
    let event : Event = UnprocessedEvent n in
    reported_by h c event _ (no_ack n) (no_pong n) (streams_closed _ _ _ _ c
    (report c event) (others_same c n) alive (named_dead c n)
    (said_removed h.streams.entries n c (report c event) g.streams.entries (others_same c n)
    (named_dead c n) (lasts_parts n c.received c.sent parts.lasts).kept) refl
    (taken_kept (is_server c.role) event c.reported (not_taken n)) g.streams.resets g.streams) g

-- A part of an end that doesn't hang on windows and output doesn't hang on what is unreturned.
pub credit_leaves : {A : Type 0} (part : End → A) (e : End) (more : ℕ)
    → ((x : End) → part (return_credit x) ≡ part x)
    → ((n : ℕ) → part (record e { windows = record e.windows { unreturned = n } }) ≡ part e)
    → part (add_unreturned more e) ≡ part e
unfolding add_unreturned
credit_leaves part e more gives keeps =
    let kept = keeps (e.windows.unreturned + more) in
    cond_both _ _ _ (λ (x : End). part x ≡ part e) (λ is. gives _ ∙ kept) (λ is. kept)

-- The frames of a log don't hang on what is unreturned.
pub returned_frames : (log : Log) (more : ℕ) → (with_unreturned more log).frames ≡ log.frames
unfolding with_sent
returned_frames log more =
    credit_cases (λ next. next.frames ≡ log.frames) more log (λ returns. refl) (λ keeps. refl)

-- The frames of a log don't hang on events.
pub reported_frames : (log : Log) (events : List Event) → (with_reported log events).frames
    ≡ log.frames
unfolding with_reported
reported_frames log [] = refl
reported_frames log (event ∷ events) = refl

-- What the stream that is named leaves owing.
named_owing : (e : End) (log : Log) (n : ℕ) → active log n ≡ true → Going e (core log)
    → 0 + owed_entry (map.get e.streams.entries n) ≡ owed_at_close log
    (with_reported log (UnprocessedEvent n ∷ [])) n
unfolding with_reported unreleased reported_total flow_on
named_owing e log n alive g =
    let owed : owed_entry (map.get e.streams.entries n) ≡ kept_back (core log) n = ap owed_entry
    (active_said e (core log) n g alive) in
    let owing = owes_all _ _ n alive (named_dead (core log) n) in
    zero-add _ ∙ owed ∙ sym (owing ∙ ap (λ (x : ℕ). x - released n log.calls) (zero-add _))

-- A machine that reports a stream as unprocessed represents the log with it.
pub unprocessed_represents : (values : Values) (e : End) (log : Log) → Represents values e log
    → log.failed ≡ None → next_unprocessed log ≢ 0
    → Represents values (close_unprocessed e (next_unprocessed log)) (took_none log)
unprocessed_represents values e log s up some =
    let n : ℕ = next_unprocessed log in
    let r : RepresentsWhileUp e log = s.running (s.failed ∙ up) in
    let g : Going e (core log) = going e log s.streams r in
    let alive : active log n ≡ true = next_is_active log some in
    let waits = waits_of values e log s in
    let owed : ℕ = 0 + owed_entry (map.get e.streams.entries n) in
    let next : End = record e {
      streams = record e.streams {
        entries = map.remove e.streams.entries n;
        active_count = e.streams.active_count - 1;
      };
    } in
    let more : ℕ = owed_at_close log (with_reported log (UnprocessedEvent n ∷ [])) n in
    let b : After (close_unprocessed e n) (took_none log) = returned next log
    (UnprocessedEvent n ∷ []) owed more (named_owing e log n alive g) waits g.windows.unreturned
    (unprocessed_advances (core_facts e) (core log) n alive g) in
    let whole : KeepsConnectionWindow e = record { whole = s.whole; used = s.used } in
    let begun : (close_unprocessed e n).reading.started ≡ e.reading.started = credit_leaves
    (λ (x : End). x.reading.started) next owed (λ x. refl) (λ m. refl) in
    let role : (close_unprocessed e n).role ≡ e.role = credit_leaves (λ (x : End). x.role) next owed
    (λ x. refl) (λ m. refl) in
    represents_by values (close_unprocessed e n) (took_none log) (rw role
    (reported_one s.came up some)) b.waits b.streams
    (λ still. runs (close_unprocessed e n) (took_none log) (begun ∙ r.started
    ∙ ap (λ (fs : List Frame). not (length fs == 0)) (sym (reported_frames _ _
    ∙ returned_frames log more))) (b.going still))
    (is_whole (close_unprocessed e n) (ended e n 0 (lacks_none e (holds e whole))))
