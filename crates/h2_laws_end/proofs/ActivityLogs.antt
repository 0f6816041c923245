-- What holds of every log: of a number that wasn't used nothing was read or reported; and at a
-- server each active stream was processed.
use Rattle.h2_laws_end.proofs.Names
use Names.{◌≡◌, ◌≢◌, ℕ, ◌≤◌, true, false, List, [], ◌∷◌, ◌++◌, Option, None, refl, sym, ◌∙◌, inl}
use Names.{inr, arith, subst, list_any, both_ways, or_parts, or_from, eqb-true, false_from_ne_true}
use Names.{Code, InternalError, wire_fault_code, Item, Role, Client, Server, Values, Act, Answer}
use Names.{ends, resets, Event, UnprocessedEvent, is_used, is_active, Log, active, next_unprocessed}
use Names.{log_view, Verdict, ConnectionFault, Decoded, replies_to, verdict_of, events_of, IsLog}
use Names.{begins, took_some, took_one, met_fault, ran_out_of_memory, reported_one, called_one}
use Names.{active_parts, active_used, used_more, none_both, greatest_processed, processed_by, used}
use Names.{with_sent, opened}
use Rattle.h2_spec_log.specs.Events.{reports_unprocessed}
use Rattle.h2_laws_log.proofs.NextStreams.{next_is_active}
use Rattle.h2_laws_log.proofs.LogHistory.{processed_after}
use Rattle.h2_laws_end.specs.Over.{is_number_used as was_used}
use Rattle.h2_laws_end.proofs.ReadingCalls.{log_read}
use Rattle.h2_laws_end.proofs.ReadingRules.{LogIsLow}
use Rattle.h2_laws_end.proofs.ActivityFrames.{was_active, frame_opens, HasFields}
use Rattle.h2_laws_end.proofs.ActivityItems.{events_name_none, unused_kept}
use Rattle.h2_laws_end.proofs.ActivitySteps.{Adds, AfterFrame, stays_same, has_broken, was_broken}
use Rattle.h2_laws_end.proofs.ActivitySteps.{has_read, AfterCall, frame_used, none_adds, call_after}
use Rattle.h2_laws_end.proofs.ActivitySteps.{was_refused, was_accepted, frame_after, fault_after}

-- This is known of a number.
pub record IsKnown (i : ℕ) (role : Role) (received sent : List Item)
    (reported : List Event) : Type 0 where
  pub unreset : is_used role i received sent ≡ false → list_any (resets i) received ≡ false
  pub unended : is_used role i received sent ≡ false → list_any (ends i) received ≡ false
  pub unnamed : is_used role i received sent ≡ false
      → list_any (reports_unprocessed i) reported ≡ false
  pub processed : role ≡ Server → is_active role i received sent reported ≡ true
      → i ≤ greatest_processed reported

-- The same of a log.
abbrev pub LogIsKnown : ℕ → Log → Type 0
LogIsKnown i log = IsKnown i log.role log.received log.sent log.reported

-- What isn't used after a step wasn't before.
unused_before : (before after : Log) (reads items : List Item) (events : List Event) (i : ℕ)
    → Adds before after reads items events → was_used after i ≡ false → was_used before i ≡ false
unused_before before after reads items events i adds unused =
    false_from_ne_true _ (λ was. both_ways _ unused (rw (adds.role, adds.received, adds.sent)
    (used_more before.role i reads items before.received before.sent was)))

-- A step that reads nothing keeps this, where it names only streams that are used.
known_more : (before after : Log) (items : List Item) (events : List Event) (i : ℕ)
    → Adds before after [] items events
    → (was_used before i ≡ false → list_any (reports_unprocessed i) events ≡ false)
    → LogIsKnown i before → LogIsKnown i after
known_more before after items events i adds unnamed known =
    let unused = unused_before before after [] items events i adds in
    record {
      unreset = λ now. rw (adds.received) (known.unreset (unused now));
      unended = λ now. rw (adds.received) (known.unended (unused now));
      unnamed = λ now. rw (adds.reported) (none_both _ _ before.reported (unnamed (unused now))
          (known.unnamed (unused now)));
      processed = λ server alive.
          let was = sym adds.role ∙ server in
          let low = known.processed was
          (was_active before after [] items events i adds (λ same. refl)
          (λ client. let both : Server ≡ Client = sym was ∙ client in cc) alive) in
          let more = processed_after events before.reported in
          rw (adds.reported) (omega (arith, low, more));
    }

-- The greatest that was processed is no less than a stream of which fields were reported.
fields_processed : (before after : Log) (i : ℕ) → HasFields before after i
    → i ≤ greatest_processed after.reported
unfolding greatest_processed processed_by
fields_processed before after i fields = rw (fields.one) (omega arith)

-- An item that is read keeps this.
known_read : (before after : Log) (decoded : Option Decoded) (item : Item) (verdict : Verdict)
    (credit : List Item) (i : ℕ) → verdict_of (log_view before) decoded item ≡ verdict
    → ((code : Code) → verdict ≡ ConnectionFault code → ⊥)
    → Adds before after (item ∷ []) (credit ++ replies_to verdict item)
    (events_of (log_view before) decoded verdict item)
    → (after.role ≡ Server → active after i ≡ true → i ≤ greatest_processed after.reported)
    → LogIsKnown i before → LogIsKnown i after
known_read before after decoded item verdict credit i is on adds low known =
    let unused = unused_before before after (item ∷ []) _ _ i adds in
    let still : was_used after i ≡ false
    → is_used before.role i (item ∷ before.received) before.sent ≡ false =
    λ now. false_from_ne_true _ (λ was. both_ways _ now (rw (adds.role, adds.received, adds.sent)
    (used_more _ _ [] _ _ before.sent was))) in
    let kept : was_used after i ≡ false → (ends i item ≡ false) × (resets i item ≡ false) = λ now.
    or_parts _ _ (unused_kept before decoded item verdict i is on (still now)) in
    record {
      unreset = λ now. rw (adds.received) (or_from _ _ (kept now).1 (known.unreset (unused now)));
      unended = λ now. rw (adds.received) (or_from _ _ (kept now).0 (known.unended (unused now)));
      unnamed = λ now. rw (adds.reported) (none_both (reports_unprocessed i) _ before.reported
          (events_name_none (log_view before) decoded verdict item i) (known.unnamed (unused now)));
      processed = low;
    }

-- A frame keeps this.
known_frame : (before after : Log) (decoded : Option Decoded) (i : ℕ)
    → AfterFrame before decoded after → (before.failed ≡ after.failed → LogIsLow before)
    → LogIsKnown i before → LogIsKnown i after
known_frame before after decoded i (stays_same adds failed) low known =
    known_more before after [] [] i adds (λ unused. refl) known
known_frame before after decoded i (has_broken code last up adds failed) low known =
    known_more before after _ [] i adds (λ unused. refl) known
known_frame before after decoded i
    (has_read item verdict credit is on is_credit adds failed) low known =
    known_read before after decoded item verdict credit i is on adds (λ server alive.
    elim (frame_opens before after decoded i
    (has_read item verdict credit is on is_credit adds failed) low alive) [
      | inl was ↦
          let low = known.processed (sym adds.role ∙ server) was in
          let more = processed_after (events_of (log_view before) decoded verdict item)
          before.reported in
          rw (adds.reported) (omega (arith, low, more))
      | inr fields ↦ fields_processed before after i fields
    ]) known

-- A call keeps this.
known_call : (log after : Log) (act : Act) (answer : Answer) (i : ℕ)
    → AfterCall log act answer after → LogIsKnown i log → LogIsKnown i after
known_call log after act answer i (was_refused refusal is adds) known =
    known_more log after [] [] i adds (λ unused. refl) known
known_call log after act answer i (was_broken code adds failed) known =
    known_more log after _ [] i adds (λ unused. refl) known
known_call log after act answer i (was_accepted credit is_credit none is adds) known =
    known_more log after _ [] i adds (λ unused. refl) known

-- So is its number used.
named_used : (log : Log) (i : ℕ) → next_unprocessed log ≢ 0 → was_used log i ≡ false
    → list_any (reports_unprocessed i) (UnprocessedEvent (next_unprocessed log) ∷ []) ≡ false
unfolding reports_unprocessed
named_used log i some unused =
    or_from _ _ (false_from_ne_true _ (λ same. both_ways _ unused
    (subst (λ (j : ℕ). was_used log j ≡ true) (eqb-true (next_unprocessed log) i same)
    (active_used _ _ _ _ log.reported (next_is_active log some))))) refl

-- At first no stream is active at a server.
none_first : (role : Role) (i : ℕ) (sent : List Item) → role ≡ Server
    → is_active role i [] sent [] ≡ true → ⊥
none_first Server i sent server alive =
    both_ways false refl (active_parts Server i [] sent [] alive).opened
none_first Client i sent server alive = cc

known_first : (role : Role) (values : Values) (i : ℕ) → LogIsKnown i (opened role values)
unfolding opened with_sent
known_first role values i = record {
  unreset = λ unused. refl;
  unended = λ unused. refl;
  unnamed = λ unused. refl;
  processed = λ server alive. absurd (none_first role i _ server alive);
}

-- Every log.
pub known_of_logs : (role : Role) (values : Values) (log : Log) → IsLog role values log → (i : ℕ)
    → LogIsKnown i log
unfolding used
known_of_logs role values _ (begins in_range) i = known_first role values i
known_of_logs role values _ (took_some {log = log} is takes octets unparsed read) i =
    known_of_logs role values log is i
known_of_logs role values _ (took_one {log = log} is takes octets frame decoded read sees) i =
    known_frame (frame_used log octets frame) _ decoded i (frame_after log octets decoded frame)
    (λ same. (log_read role values log is).low takes.up) (known_of_logs role values log is i)
known_of_logs role values _ (met_fault {log = log} is takes octets fault at) i =
    known_frame log _ None i (fault_after log octets (wire_fault_code fault))
    (λ same. (log_read role values log is).low takes.up) (known_of_logs role values log is i)
known_of_logs role values _ (ran_out_of_memory {log = log} is up octets may) i =
    known_frame log _ None i (fault_after log octets InternalError)
    (λ same. (log_read role values log is).low up) (known_of_logs role values log is i)
known_of_logs role values _ (reported_one {log = log} is up some) i =
    known_more _ _ _ _ _ (none_adds log).2 (named_used _ _ some) (known_of_logs _ _ _ is _)
known_of_logs role values _ (called_one {log = log} is act answer typed may) i =
    known_call _ _ act answer _ (call_after log act answer may) (known_of_logs role values log is i)
