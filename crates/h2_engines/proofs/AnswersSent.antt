-- A server whose connection is up, and at which no stream is active, has sent each answer whole,
-- unless its stream was reset.
use Rattle.h2_message.specs.declared.malformed.Malformed.{Malformed}
use Rattle.h2_ends.specs.EndTakes.{with_malformed}
use Rattle.h2_engines.proofs.Names
use Names.{◌≡◌, ℕ, Bool, true, false, List, [], ◌∷◌, ◌++◌, Option, Some, None, refl, sym, ap, ◌∙◌}
use Names.{subst, inl, inr, length, drop, both_ways, Contains, Server, Values, Act, Answer}
use Names.{SendFields, ResetStream, Refuse, PutOut, Done, OutOfMemory, Event, ResetEvent, Log}
use Names.{is_server, log_after_take, call_calls, first_in, later_in, SentMessage, Part, Ok, EndLog}
use Names.{Handed, Passed, EndAnswer, end_with_log, EndMayTake, End, EndRepresents, new_end_log}
use Names.{is_head_alone, drop-append_seam, with_call, active, grows_call, Token, WasAsked}
use Names.{said_for, part_on, take_calls, is_too_large_body, IsResponding, WasReportedReset}
use Names.{AnswersAll, calm, opened, with_sent, parts_on, tokens_given, MayReply, MayRespond}
use Names.{part_of_event, tokens_out, ◌⊎◌, Said, said_tokens, HasSentWhole, memory_fails, MayTake}
use Names.{ends_no_frame, ends_frame, Failed, meets_fault, TakeAnswer, Took, reports_unprocessed}
use Rattle.h2_laws_pair.proofs.HeardMessages.{unended}
use Rattle.h2_ends.specs.EndTakes.{refusal_fails, runs_out_of_memory, hands_nothing, passes}
use Rattle.h2_ends.specs.EndTakes.{hands_out, end_with_handed, fails, refuses}
use Rattle.h2_laws_end.specs.Takes.{events_answered, has_failed, runs_out_of_memory as lacks_memory}
use Rattle.h2_laws_pair.proofs.Lists.{first_or_later, none_in}
use Rattle.h2_laws_pair.proofs.NamedUnprocessed.{log_named}
use Rattle.h2_engines.proofs.LinkInvariants.{SendsOrReleases, CallsKeep, pumped_keeps}
use Rattle.h2_engines.proofs.LinkInvariants.{released_keeps, responded_keeps, kept_role}
use Rattle.h2_engines.proofs.NoteBodies.{too_large_more}
use Rattle.h2_engines.proofs.SpokenStreams.{IsSpoken, goes_on, has_ended, was_reset, was_asked}
use Rattle.h2_engines.proofs.SpokenStreams.{was_named, spoken_by_logs}
use Rattle.h2_engines.specs.ServerHistories as server

-- A stream was reset and that was handed out, or its request is too large.
abbrev IsDropped : EndLog → ℕ → Type 0
IsDropped end i = WasReportedReset end i ⊎ (is_too_large_body (parts_on i end.handed) ≡ true)

-- So it is with each stream of which a reset was reported, or asked for.
record AreDropped (end : EndLog) : Type 0 where
  pub reported : (i code : ℕ) (ours : Bool) → Contains end.log.reported (ResetEvent i code ours)
      → WasReportedReset end i
  pub asked : (i code : ℕ) → WasAsked end.log.calls i code → IsDropped end i

-- It stays so where more is handed out.
data HandsMore (before after : EndLog) : Type 0 where
  no_more : after.handed ≡ before.handed → HandsMore before after
  one_more : (one : Handed) → after.handed ≡ one ∷ before.handed → HandsMore before after

reset_stays : {before after : EndLog} (i : ℕ) → HandsMore before after → WasReportedReset before i
    → WasReportedReset after i
reset_stays i (no_more same) (code, ours, here) = (code, ours, rw same here)
reset_stays {before} i (one_more one is) (code, ours, here) =
    (code, ours, rw is (later_in one before.handed (Passed (ResetEvent i code ours)) here))

large_with : (i : ℕ) (one : Handed) (handed : List Handed)
    → is_too_large_body (parts_on i handed) ≡ true
    → is_too_large_body (parts_on i (one ∷ handed)) ≡ true
unfolding parts_on
large_with i one handed large = too_large_more (parts_on i handed) (part_on i one) large

large_stays : {before after : EndLog} (i : ℕ) → HandsMore before after
    → is_too_large_body (parts_on i before.handed) ≡ true
    → is_too_large_body (parts_on i after.handed) ≡ true
large_stays i (no_more same) large = rw same large
large_stays {before} i (one_more one is) large = rw is (large_with i one before.handed large)

dropped_stays : {before after : EndLog} (i : ℕ) → HandsMore before after → IsDropped before i
    → IsDropped after i
dropped_stays i more (inl reset) = inl (reset_stays i more reset)
dropped_stays i more (inr large) = inr (large_stays i more large)

-- What was asked for before a call that resets nothing.
abbrev ResetsNothing : Act → Type 0
ResetsNothing act =
    (i code : ℕ) → (act ≡ ResetStream i code → ⊥) × (act ≡ Refuse i code → ⊥)

abbrev act_of : {A B : Type 0} → (A × B) → A
act_of both = both.0

asked_before : (log : Log) (act : Act) (answer : Answer) (i code : ℕ) → ResetsNothing act
    → WasAsked (with_call log act answer).calls i code → WasAsked log.calls i code
asked_before log act answer i code none (inl reset) =
    elim (first_or_later _ _ (ResetStream i code, Done) (rw (call_calls log act answer) at reset)) [
      | inl same ↦ absurd ((none i code).0 (ap act_of same))
      | inr later ↦ inl later
    ]
asked_before log act answer i code none (inr refused) =
    elim (first_or_later _ _ (Refuse i code, Done) (rw (call_calls log act answer) at refused)) [
      | inl same ↦ absurd ((none i code).1 (ap act_of same))
      | inr later ↦ inr later
    ]

-- Such a call keeps this, whether or not it hands something in.
call_drops : (end : EndLog) (after : EndLog) (act : Act) (answer : Answer) → ResetsNothing act
    → after.log ≡ with_call end.log act answer → after.handed ≡ end.handed → AreDropped end
    → AreDropped after
call_drops end after act answer none is same dropped =
    let more : HandsMore end after = no_more same in
    record {
      reported = λ i code ours here. reset_stays i more (dropped.reported i code ours (rw (
        is,
        (grows_call _ _ answer).reported,
      ) at here));
      asked = λ i code here. dropped_stays i more
          (dropped.asked i code (asked_before end.log act answer i code none (rw is at here)));
    }

sends_none : (act : Act) (answer : Answer) → SendsOrReleases act answer → ResetsNothing act
sends_none act OutOfMemory sends i code = absurd sends
sends_none (ResetStream id number) answer sends i code = absurd sends
sends_none (Refuse id number) answer sends i code = absurd sends
sends_none act answer sends i code = (λ same. cc, λ same. cc)

calls_drop : CallsKeep (λ one. one.log.failed ≡ None → AreDropped one)
calls_drop end act answer sends was up =
    call_drops end (end_with_log end (with_call end.log act answer)) act answer
    (sends_none act answer sends) refl refl (was ((grows_call end.log act answer).up up))

-- An answer that is accepted keeps it,
answer_drops : (before : EndLog) (id : ℕ) (message : SentMessage) (done : Unit {0}) (after : EndLog)
    → MayRespond before id message (Ok done) after
    → (before.log.failed ≡ None → AreDropped before) → after.log.failed ≡ None → AreDropped after
unfolding MayReply
answer_drops before id message done after may was up =
    let act = SendFields id message.head (is_head_alone message) in
    let log : after.log ≡ with_call before.log act Done = ap (λ (end : EndLog). end.log) may.5 in
    call_drops before after act Done (λ i code. (λ same. cc, λ same. cc)) log
    (ap (λ (end : EndLog). end.handed) may.5) (was ((grows_call _ _ Done).up (rw log at up)))

-- the reset of a stream whose request is too large,
reset_drops : (end : EndLog) (id : ℕ) (answer : Answer)
    → is_too_large_body (parts_on id end.handed) ≡ true → AreDropped end
    → AreDropped (end_with_log end (with_call end.log (ResetStream id calm) answer))
reset_drops end id answer large dropped =
    let act = ResetStream id calm in
    record {
      reported = λ i code ours here. dropped.reported i code ours
          (rw ((grows_call _ _ _).reported) at here);
      asked = λ i code here. asked_so i code (subst (λ (calls : List (Act × Answer)).
          WasAsked calls i code) (call_calls _ _ _) here);
    }
  where
    asked_so : (i code : ℕ) → WasAsked ((ResetStream id calm, answer) ∷ end.log.calls) i code
        → IsDropped end i
    asked_so i code (inl reset) = elim (first_or_later _ _ (ResetStream i code, Done) reset) [
      | inl same ↦
          let act : ResetStream id calm ≡ ResetStream i code = ap act_of same in
          let one : id ≡ i = cc in
          inr (subst (λ (j : ℕ). is_too_large_body (parts_on j end.handed) ≡ true) one large)
      | inr later ↦ dropped.asked i code (inl later)
    ]
    asked_so i code (inr refused) = elim (first_or_later _ _ (Refuse i code, Done) refused) [
      | inl same ↦ let act : ResetStream id calm ≡ Refuse i code = ap act_of same in absurd (cc)
      | inr later ↦ dropped.asked i code (inr later)
    ]

-- output that is put out,
put_drops : (end : EndLog) (count : ℕ) (answer : Answer) → AreDropped end
    → AreDropped (end_with_log end (with_call end.log (PutOut count) answer))
put_drops end count answer dropped =
    call_drops _ _ _ answer (λ i code. (λ same. cc, λ same. cc)) refl refl dropped

-- and octets that are taken: the connection was up,
was_up : {log after : Log} {piece : List ℕ} {count : ℕ} {event : Option Event}
    → MayTake log piece (Took count event) after → log.failed ≡ None
was_up (has_failed code failed answers same) = cc
was_up (reports_unprocessed up some answers same) = up
was_up (ends_no_frame takes unparsed part answers same) = takes.up
was_up (ends_frame takes octets unused joined frame decoded framed sees same answers) = takes.up
was_up (meets_fault takes octets unused joined fault at answers same) = cc
was_up (lacks_memory up octets unused joined may answers same) = cc

-- and what it reports is handed out, if it is no part of a message;
taken_reports : (before : EndLog) {log : Log} {piece : List ℕ} {count : ℕ} {event : Option Event}
    → MayTake before.log piece (Took count event) log
    → log.reported ≡ events_answered event ++ before.log.reported
taken_reports before {log} {piece} {count} {event} may = (log_after_take _ _ _ _ may).5

taken_asks : (before : EndLog) {log : Log} {piece : List ℕ} {answer : TakeAnswer} {i code : ℕ}
    → MayTake before.log piece answer log → WasAsked log.calls i code
    → WasAsked before.log.calls i code
taken_asks before {log} {piece} {answer} may here = rw (take_calls _ _ _ answer may) at here

not_part : {i code id : ℕ} {ours : Bool} {part : Part × Bool} (event : Event)
    → part_of_event event ≡ Some (id, part) → event ≡ ResetEvent i code ours → ⊥
unfolding part_of_event
not_part {i} {code} {ours} event is same = let wrong = rw same at is in cc

-- but for a part of a message with which that breaks a rule: its stream is refused.
module _ (before after : EndLog) {log : Log} {piece : List ℕ} {count : ℕ} {event : Event}
    (takes : MayTake before.log piece (Took count (Some event)) log)
    (dropped : AreDropped before) where
  part_reported : {id : ℕ} {part : Part × Bool} → part_of_event event ≡ Some (id, part)
      → HandsMore before after → (i code : ℕ) (ours : Bool)
      → Contains log.reported (ResetEvent i code ours) → WasReportedReset after i
  part_reported is more i code ours here =
      elim (first_or_later event before.log.reported (ResetEvent i code ours)
      (rw (taken_reports before takes) at here)) [
        | inl same ↦ absurd (not_part event is same)
        | inr later ↦ reset_stays i more (dropped.reported i code ours later)
      ]

  refused_drops : (id : ℕ) (part : Part × Bool) (said : Answer) (rule : Option Malformed)
      → part_of_event event ≡ Some (id, part)
      → after ≡ with_malformed (end_with_handed before (with_call log (Refuse id 1) said)
      (Passed (ResetEvent id 1 true))) id rule → AreDropped after
  refused_drops id part said rule is now =
      let handed : after.handed ≡ Passed (ResetEvent id 1 true) ∷ before.handed =
      ap (λ (end : EndLog). end.handed) now in
      let more : HandsMore before after = one_more (Passed (ResetEvent id 1 true)) handed in
      let calls : after.log.calls ≡ (Refuse id 1, said) ∷ log.calls =
      ap (λ (end : EndLog). end.log.calls) now ∙ call_calls log (Refuse id 1) said in
      let reported : after.log.reported ≡ log.reported =
      ap (λ (end : EndLog). end.log.reported) now
      ∙ (grows_call log (Refuse id 1) said).reported in
      record {
        reported = λ i code ours here. part_reported is more i code ours (rw reported at here);
        asked = λ i code here. asked_so handed more i code (subst
            (λ (calls : List (Act × Answer)). WasAsked calls i code) calls here);
      }
    where
      asked_so : after.handed ≡ Passed (ResetEvent id 1 true) ∷ before.handed
          → HandsMore before after → (i code : ℕ)
          → WasAsked ((Refuse id 1, said) ∷ log.calls) i code → IsDropped after i
      asked_so handed more i code (inl reset) =
          elim (first_or_later (Refuse id 1, said) log.calls (ResetStream i code, Done) reset) [
            | inl same ↦ let act : Refuse id 1 ≡ ResetStream i code = ap act_of same in absurd (cc)
            | inr later ↦ dropped_stays i more
                (dropped.asked i code (taken_asks before takes (inl later)))
          ]
      asked_so handed more i code (inr refused) =
          elim (first_or_later (Refuse id 1, said) log.calls (Refuse i code, Done) refused) [
            | inl same ↦
                let act : Refuse id 1 ≡ Refuse i code = ap act_of same in
                let one : id ≡ i = cc in
                inl (
                  1,
                  true,
                  subst (λ (j : ℕ). Contains after.handed (Passed (ResetEvent j 1 true))) one
                      (rw handed (first_in (Passed (ResetEvent id 1 true)) before.handed)),
                )
            | inr later ↦ dropped_stays i more
                (dropped.asked i code (taken_asks before takes (inr later)))
          ]

take_drops : (before : EndLog) (piece : List ℕ) (answer : EndAnswer) (after : EndLog)
    → EndMayTake before piece answer after → (before.log.failed ≡ None → AreDropped before)
    → after.log.failed ≡ None → AreDropped after
take_drops before piece answer after (fails code log takes said now) was up =
    let failed = (log_after_take before.log log piece (Failed code) takes).5 in
    let here : log.failed ≡ None = sym (ap (λ (end : EndLog). end.log.failed) now) ∙ up in
    let wrong : None ≡ Some code = sym here ∙ failed in cc
take_drops before piece answer after (hands_nothing count log takes said now) was up =
    let dropped = was (was_up takes) in
    rw now (record {
      reported = λ i code ours here.
          dropped.reported i code ours (rw (taken_reports before takes) at here);
      asked = λ i code here. dropped.asked i code (taken_asks before takes here);
    })
take_drops before piece answer after (passes count event log takes none said now) was up =
    let dropped = was (was_up takes) in
    let handed : after.handed ≡ Passed event ∷ before.handed =
    ap (λ (end : EndLog). end.handed) now in
    let more : HandsMore before after = one_more (Passed event) handed in
    let same = ap (λ (end : EndLog). end.log) now in
    record {
      reported = λ i code ours here. elim (first_or_later event before.log.reported
          (ResetEvent i code ours) (rw (same, taken_reports before takes) at here)) [
            | inl is ↦ (
              code,
              ours,
              rw handed (subst (λ (one : Event). Contains (Passed event ∷ before.handed)
                  (Passed one)) is (first_in (Passed event) before.handed)),
            )
            | inr later ↦ reset_stays i more (dropped.reported i code ours later)
          ];
      asked = λ i code here. dropped_stays i more
          (dropped.asked i code (taken_asks before takes (rw same at here)));
    }
take_drops before piece answer after (hands_out count event log takes id part is readable said now)
    was up =
    let dropped = was (was_up takes) in
    let more : HandsMore before after = one_more _ (ap (λ (end : EndLog). end.handed) now) in
    let same = ap (λ (end : EndLog). end.log) now in
    record {
      reported = λ i code ours here.
          part_reported before after takes dropped is more i code ours (rw same at here);
      asked = λ i code here. dropped_stays i more
          (dropped.asked i code (taken_asks before takes (rw same at here)));
    }
take_drops before piece answer after
    (refuses count event log takes id part is broken refused may goes said now) was up =
    refused_drops before after takes (was (was_up takes)) id part refused _ is now
take_drops before piece answer after
    (refusal_fails count event log takes id part is broken refused may code failed said now) was up
    =
    let here : (with_call log (Refuse id 1) refused).failed ≡ None =
    sym (ap (λ (end : EndLog). end.log.failed) now) ∙ up in
    let wrong : None ≡ Some code = sym here ∙ failed in cc
take_drops before piece answer after
    (runs_out_of_memory count id list ends log takes role none readable refused may said now) was up
    =
    let failed = memory_fails log id refused
    ((log_after_take before.log log piece (Took count _) takes).6) may in
    let here : (with_call log (Refuse id 2) refused).failed ≡ None =
    sym (ap (λ (end : EndLog). end.log.failed) now) ∙ up in
    let wrong = sym here ∙ failed in cc

-- Whatever has happened at a server.
new_dropped : (values : Values) → AreDropped (new_end_log Server values)
unfolding opened with_sent
new_dropped values =
    record {
      reported = λ i code ours here. absurd (none_in _ here);
      asked = λ i code here. elim here [
        | inl reset ↦ absurd (none_in _ reset)
        | inr refused ↦ absurd (none_in _ refused)
      ];
    }

dropped_by : {values : Values} {end : EndLog} → IsResponding values end → end.log.failed ≡ None
    → AreDropped end
dropped_by {values} (server.begins range) up = new_dropped values
dropped_by (server.takes {end = before} {after = after} was piece said may) up =
    take_drops before piece said after may (dropped_by was) up
dropped_by (server.answers {end = before} {after = after} was id message result whole fits asked
    may)
    up =
    responded_keeps (λ one. one.log.failed ≡ None → AreDropped one) calls_drop answer_drops before
    id message result after may (dropped_by was) up
dropped_by (server.resets {end = before} was id said large typed may) up =
    reset_drops before id said large
    (dropped_by was ((grows_call before.log (ResetStream id calm) said).up up))
dropped_by (server.releases {end = before} {after = after} was result may) up =
    released_keeps (λ one. one.log.failed ≡ None → AreDropped one) calls_drop before result after
    may (dropped_by was) up
dropped_by (server.pumps {end = before} {after = after} was result may) up =
    pumped_keeps (λ one. one.log.failed ≡ None → AreDropped one) calls_drop before result after
    may (dropped_by was) up
dropped_by (server.gives_out {end = before} was count said typed may) up =
    put_drops before count said
    (dropped_by was ((grows_call before.log (PutOut count) said).up up))

-- A stream on which an answer waits is active, or was reset.
nothing_said : (tokens : List Token) (token : Token) (others : List Token)
    → tokens_given None ≡ tokens ++ token ∷ others → ⊥
unfolding tokens_given
nothing_said [] token others is = cc
nothing_said (first ∷ tokens) token others is = cc

module _ {values : Values} {server : End} {end : EndLog} (responding : IsResponding values end)
    (represents : EndRepresents values server end) (up : end.log.failed ≡ None)
    (none_active : (i : ℕ) → active end.log i ≡ false) (answers : AnswersAll end) (i : ℕ)
    (unreset : WasReportedReset end i → ⊥) where
  goes_nowhere : (said : Said) (token : Token) (others : List Token)
      → said_for i end.accepted ≡ Some said
      → said_tokens said ≡ tokens_out end i ++ token ∷ others → IsSpoken i end.log → ⊥
  goes_nowhere said token others given waits (goes_on alive) =
      both_ways _ (none_active i) alive
  goes_nowhere said token others given waits (has_ended ended) =
      unended said (tokens_out end i) token others waits ended
  goes_nowhere said token others given waits (was_reset code ours here) =
      unreset ((dropped_by responding up).reported i code ours here)
  goes_nowhere said token others given waits (was_asked code asked) =
      elim ((dropped_by responding up).asked i code asked) [
        | inl reset ↦ unreset reset
        | inr large ↦ both_ways _
            (answers.none_else i (λ none. let wrong = sym none ∙ given in cc)).fits large
      ]
  goes_nowhere said token others given waits (was_named named) =
      both_ways _ (log_named _ values end.log represents.streams.conn.machine.came i named).0
      (ap is_server (kept_role responding))

  none_waits : (waiting : List Token) (said : Option Said)
      → said_for i end.accepted ≡ said → tokens_given said ≡ tokens_out end i ++ waiting
      → waiting ≡ []
  unfolding said_tokens tokens_given
  none_waits [] said given prefix = refl
  none_waits (token ∷ others) None given prefix =
      absurd (nothing_said (tokens_out end i) token others prefix)
  none_waits (token ∷ others) (Some said) given prefix =
      absurd (goes_nowhere said token others given prefix
      (spoken_by_logs _ values end.log i represents.streams.conn.machine.came up
      ((represents.streams.sent i).begun (λ none. let wrong = sym none ∙ given in cc))))

-- Each answer was sent whole.
pub sent_whole : {values : Values} {server : End} {end : EndLog} → IsResponding values end
    → EndRepresents values server end → end.log.failed ≡ None
    → ((i : ℕ) → active end.log i ≡ false) → AnswersAll end → HasSentWhole end
sent_whole {end} responding represents up none_active answers i unreset =
    let sends = represents.streams.sent i in
    ap (drop (length (tokens_out end i))) sends.prefix
    ∙ drop-append_seam (tokens_out end i) sends.waiting
    ∙ none_waits responding represents up none_active answers i unreset sends.waiting
    (said_for i end.accepted) refl sends.prefix
