-- A stream on which an end has sent something is active as long as the connection is up, unless
-- this end has sent the end of its message, or was asked to reset the stream, or has reported that
-- it was reset, or isn't processed.
use Rattle.h2_engines.proofs.Names
use Names.{◌≡◌, ℕ, Bool, true, false, List, [], ◌∷◌, ◌++◌, Option, None, Some, refl, sym, ap, ◌∙◌}
use Names.{subst, inl, inr, take, eq-eqb, both_ways, Contains, Code, Log, Values, Act, Answer}
use Names.{SendFields, ResetStream, Refuse, Count, Done, Event, ResetEvent, MayAnswer, log_view}
use Names.{call_calls, first_in, later_in, and_parts, or_parts, eqb-true, false_from_ne_true, alone}
use Names.{Role, Open, SendData, Number, active, with_call, grows_call, Token, tokens_sent}
use Names.{WasAsked, opened, used, with_sent, ◌≢◌, if◌then◌else◌, ◌==◌, ◌⊎◌, list_any, Reset, Item}
use Names.{call_tokens, cases_Bool, and_right, or_from, or_left, or_right, list_any-append}
use Names.{next_unprocessed, data_active, OctetToken, EndToken, tokens_of_call, end_tokens}
use Rattle.h2_laws_machine.specs.Machines.{log_after}
use Rattle.h2_spec_log.specs.LogSteps.{took_none, took_fault, took_frame, took_part}
use Rattle.h2_spec_log.specs.LogSteps.{took_out_of_memory}
use Rattle.h2_laws_pair.proofs.HeardMessages.{is_end, ended_tokens}
use Rattle.h2_spec_log.specs.Histories.{IsLog, called_one, begins, took_some, took_one, met_fault}
use Rattle.h2_spec_log.specs.Histories.{ran_out_of_memory, reported_one}
use Rattle.h2_spec_log.specs.ItemRules.{Decoded, replies_to, verdict_of, is_stream_fault}
use Rattle.h2_ends.proofs.ControlStart.{none_sent}
use Rattle.std.proofs.Common.{map as each}
use Rattle.std.proofs.lemmas.List.Elements.{Contains-append_left, Contains-append_right}
use Rattle.h2_frame.specs.Codes.{code_number}
use Rattle.h2_spec_log.specs.Events.{UnprocessedEvent, reports_unprocessed}
use Rattle.h2_spec_log.specs.ItemEffects.{events_of}
use Rattle.h2_spec_log.specs.Items.{ends, resets, stream_of_item}
use Rattle.h2_spec_log.specs.States.{is_active}
use Rattle.h2_spec_log.specs.Verdicts.{Verdict, ConnectionFault, StreamFault, NoEvent, Reported}
use Rattle.h2_spec_log.specs.View.{View}
use Rattle.h2_laws_log.proofs.ItemLists.{any_after}
use Rattle.h2_laws_log.proofs.LogHistory.{none_both}
use Rattle.h2_laws_log.proofs.ReaderStates.{active_parts, active_from, lasts_parts, lasts_from}
use Rattle.h2_laws_end.specs.Activity.{call_may_close}
use Rattle.h2_laws_end.specs.Written.{IsCredit}
use Rattle.h2_laws_end.proofs.ActivityCalls.{active_by_call}
use Rattle.h2_laws_end.proofs.ActivityFrames.{active_added}
use Rattle.h2_laws_end.proofs.ActivityItems.{closes_own, silent_keeps, events_name_none}
use Rattle.h2_laws_end.proofs.ActivityOpened.{active_by_open}
use Rattle.h2_laws_end.proofs.ActivityStays.{AreHarmless, harmless_append, harmless_credit}
use Rattle.h2_laws_end.proofs.ActivityStays.{harmless_replies, none_ends, opened_after}
use Rattle.h2_laws_end.proofs.ActivityStays.{stays_active}
use Rattle.h2_laws_end.proofs.ActivitySteps.{Adds, AfterFrame, stays_same, has_broken, has_read}
use Rattle.h2_laws_end.proofs.ActivitySteps.{frame_used, frame_after, none_adds}
use Rattle.h2_laws_end.proofs.OverNumbers.{fields_active}
use Rattle.h2_laws_end.proofs.Sendings.{log_sent}
use Rattle.h2_laws_pair.proofs.HeardCalls.{step_calls}
use Rattle.h2_laws_pair.proofs.HeardLists.{blocks_of_lists}
use Rattle.h2_laws_pair.proofs.HeardSent.{tokens_carried}
use Rattle.h2_laws_machine.specs.Machines as steps

-- What is known of a stream on which something was sent.
pub data IsSpoken (i : ℕ) (log : Log) : Type 0 where
  goes_on : active log i ≡ true → IsSpoken i log
  has_ended : list_any is_end (tokens_sent i log.calls) ≡ true → IsSpoken i log
  was_reset : (code : ℕ) (ours : Bool) → Contains log.reported (ResetEvent i code ours)
      → IsSpoken i log
  was_asked : (code : ℕ) → WasAsked log.calls i code → IsSpoken i log
  was_named : list_any (reports_unprocessed i) log.reported ≡ true → IsSpoken i log

-- An active stream that this end hasn't ended stays so, if what is read doesn't reset it.
stays_unended : (role : Role) (i : ℕ) (item : Item) (items received sent : List Item)
    (events reported : List Event) → is_active role i received sent reported ≡ true
    → list_any (ends i) sent ≡ false → resets i item ≡ false → AreHarmless role i items
    → list_any (reports_unprocessed i) events ≡ false
    → is_active role i (item ∷ received) (items ++ sent) (events ++ reported) ≡ true
stays_unended role i item items received sent events reported alive goes unreset harmless unnamed =
    let parts = active_parts role i received (items ++ sent) (events ++ reported)
    (stays_active role i [] items received sent events reported alive refl refl harmless unnamed) in
    let lasts = lasts_parts i received (items ++ sent) parts.lasts in
    active_from role i (item ∷ received) (items ++ sent) (events ++ reported) (record {
      odd = parts.odd;
      opened = opened_after role i (item ∷ []) [] received (items ++ sent) parts.opened;
      below = parts.below;
      lasts = lasts_from i (item ∷ received) (items ++ sent) (record {
        ended = and_right (list_any (ends i) (item ∷ received)) _
            (none_both (ends i) items sent (none_ends role i items harmless) goes);
        unreset = or_from _ _ unreset lasts.unreset;
        kept = lasts.kept;
      });
      unnamed = parts.unnamed;
    })

-- This was reported: that the stream was reset.
abbrev pub WasReported : Log → ℕ → Type 0
WasReported log i = (code : ℕ) × (ours : Bool) × Contains log.reported (ResetEvent i code ours)

-- A reset of the stream that is reported says so.
reset_said : (view : View) (decoded : Option Decoded) (item : Item) (i : ℕ)
    → resets i item ≡ true
    → (code : ℕ) × Contains (events_of view decoded Reported item) (ResetEvent i code false)
unfolding resets events_of
reset_said view decoded (alone (Reset stream code)) i here = (
  code,
  subst (λ (j : ℕ). Contains (ResetEvent stream code false ∷ []) (ResetEvent j code false))
      (eqb-true stream i here) (first_in (ResetEvent stream code false) []),
)
reset_said view decoded item i here = absurd (both_ways false refl here)

fault_said : (view : View) (decoded : Option Decoded) (code : Code) (item : Item) (i : ℕ)
    → (stream_of_item item == i) ≡ true
    → Contains (events_of view decoded (StreamFault code) item)
    (ResetEvent i (code_number code) true)
unfolding events_of
fault_said view decoded code item i here =
    subst (λ (j : ℕ). Contains (ResetEvent (stream_of_item item) (code_number code) true ∷ [])
    (ResetEvent j (code_number code) true)) (eqb-true (stream_of_item item) i here) (first_in _ [])

-- No item but one of its own stream resets a stream.
other_unreset : (i : ℕ) (item : Item) → (stream_of_item item == i) ≡ false
    → resets i item ≡ false
other_unreset i item other = false_from_ne_true _ (λ here.
    both_ways _ other (eq-eqb (stream_of_item item) i (closes_own i item
    (or_right (ends i item) _ here))))

-- An end that has failed isn't up.
pub is_down : (log : Log) {code : Code} → log.failed ≡ Some code → log.failed ≡ None → ⊥
is_down log {code} failed up = let wrong : None ≡ Some code = sym up ∙ failed in cc

-- After an item that is no fault of the connection an active stream that this end hasn't ended is
-- active, or it was reported that it was reset.
module _ (before after : Log) (decoded : Option Decoded) (i : ℕ) (alive : active before i ≡ true)
    (goes : list_any (ends i) before.sent ≡ false) where
  abbrev AfterItem : Item → Verdict → List Item → Type 0
  AfterItem item verdict credit =
      Adds before after (item ∷ []) (credit ++ replies_to verdict item)
      (events_of (log_view before) decoded verdict item)

  item_keeps : (item : Item) (verdict : Verdict) (credit : List Item) → IsCredit credit
      → AfterItem item verdict credit → resets i item ≡ false
      → (is_stream_fault verdict ≡ true → (stream_of_item item == i) ≡ false)
      → active after i ≡ true
  item_keeps item verdict credit is_credit adds unreset other =
      active_added before after (item ∷ []) _ _ i adds
      ∙ stays_unended before.role i item (credit ++ replies_to verdict item) before.received
      before.sent (events_of (log_view before) decoded verdict item) before.reported alive goes
      unreset
      (harmless_append before.role i credit (replies_to verdict item)
      (harmless_credit before.role i credit is_credit)
      (harmless_replies before.role i verdict item other))
      (events_name_none (log_view before) decoded verdict item i)

  item_says : (item : Item) (verdict : Verdict) (credit : List Item)
      → AfterItem item verdict credit → (code : ℕ) (ours : Bool)
      → Contains (events_of (log_view before) decoded verdict item) (ResetEvent i code ours)
      → WasReported after i
  item_says item verdict credit adds code ours here = (
    code,
    ours,
    rw (adds.reported) (Contains-append_left _ before.reported (ResetEvent i code ours) here),
  )

  item_read : (item : Item) (verdict : Verdict) (credit : List Item)
      → verdict_of (log_view before) decoded item ≡ verdict
      → ((code : Code) → verdict ≡ ConnectionFault code → ⊥) → IsCredit credit
      → AfterItem item verdict credit → (active after i ≡ true) ⊎ WasReported after i
  item_read item (ConnectionFault code) credit is on is_credit adds = absurd (on code refl)
  item_read item (StreamFault code) credit is on is_credit adds =
      elim (cases_Bool (stream_of_item item == i)) [
        | inl here ↦ inr (item_says item (StreamFault code) credit adds (code_number code) true
            (fault_said (log_view before) decoded code item i here))
        | inr other ↦ inl (item_keeps item (StreamFault code) credit is_credit adds
            (other_unreset i item other) (λ fault. other))
      ]
  item_read item NoEvent credit is on is_credit adds =
      inl (item_keeps item NoEvent credit is_credit adds
      (or_parts _ _ (silent_keeps before decoded item i is alive)).1
      (λ fault. absurd (both_ways false refl fault)))
  item_read item Reported credit is on is_credit adds =
      elim (cases_Bool (resets i item)) [
        | inl here ↦
            let said = reset_said (log_view before) decoded item i here in
            inr (item_says item Reported credit adds said.0 false said.1)
        | inr unreset ↦ inl (item_keeps item Reported credit is_credit adds unreset
            (λ fault. absurd (both_ways false refl fault)))
      ]

  -- So it is after a frame.
  pub frame_read : AfterFrame before decoded after → after.failed ≡ None
      → (active after i ≡ true) ⊎ WasReported after i
  frame_read (stays_same adds failed) up =
      inl (active_added before after [] [] [] i adds ∙ alive)
  frame_read (has_broken code last less adds failed) up =
      absurd (is_down after failed up)
  frame_read (has_read item verdict credit is on is_credit adds failed) up =
      item_read item verdict credit is on is_credit adds

-- What is reported of a frame.
pub frame_adds : {before after : Log} {decoded : Option Decoded} → AfterFrame before decoded after
    → (events : List Event) × (after.reported ≡ events ++ before.reported)
frame_adds (stays_same adds failed) = ([], adds.reported)
frame_adds (has_broken code last less adds failed) = ([], adds.reported)
frame_adds (has_read item verdict credit is on is_credit adds failed) = (_, adds.reported)

-- Where the end of a message wasn't sent, this end hasn't ended the stream.
pub unended_by : (role : Role) (values : Values) (log : Log) (i : ℕ) → IsLog role values log
    → list_any is_end (tokens_sent i log.calls) ≡ false → list_any (ends i) log.sent ≡ false
unended_by role values log i is goes =
    false_from_ne_true _ (λ here. both_ways _ goes (rw (tokens_carried _ _ _ _ is)
    (ended_tokens _ _ _ (blocks_of_lists _ _ _ _ (log_sent _ _ _ is)) here)))

-- What is known of a stream stays known where no call is made.
pub read_keeps : (role : Role) (values : Values) (before after : Log) (i : ℕ)
    → IsLog role values before → after.calls ≡ before.calls → (events : List Event)
    → after.reported ≡ events ++ before.reported
    → (active before i ≡ true → list_any (ends i) before.sent ≡ false → IsSpoken i after)
    → IsSpoken i before → IsSpoken i after
read_keeps role values before after i is calls events reported next (goes_on alive) =
    elim (cases_Bool (list_any is_end (tokens_sent i before.calls))) [
      | inl ended ↦ has_ended (rw calls ended)
      | inr goes ↦ next alive (unended_by role values before i is goes)
    ]
read_keeps role values before after i is calls events reported next (has_ended ended) =
    has_ended (rw calls ended)
read_keeps role values before after i is calls events reported next (was_reset code ours here) =
    was_reset code ours (rw reported (Contains-append_right _ _ (ResetEvent i code ours) here))
read_keeps role values before after i is calls events reported next (was_asked code asked) =
    was_asked code (rw calls asked)
read_keeps role values before after i is calls events reported next (was_named named) =
    was_named (rw reported (any_after (reports_unprocessed i) events before.reported named))

-- A call that may close a stream ends this side of it, or resets it.
call_sends : (log : Log) (act : Act) (answer : Answer) (i : ℕ)
    → list_any is_end (tokens_of_call i act answer) ≡ true → IsSpoken i (with_call log act answer)
call_sends log act answer i here =
    has_ended (ap (list_any is_end) (call_tokens i log act answer) ∙ any_after is_end _ _ here)

call_closes : (log : Log) (act : Act) (answer : Answer) (i : ℕ)
    → call_may_close i act answer ≡ true → IsSpoken i (with_call log act answer)
unfolding call_may_close tokens_of_call end_tokens is_end
call_closes log (SendFields id fields end) Done i here =
    let both = and_parts (id == i) end here in
    call_sends log (SendFields id fields end) Done i (rw (both.0, both.1) refl)
call_closes log (SendData id octets end) (Count count) i here =
    let both = and_parts (id == i) _ here in
    call_sends log (SendData id octets end) (Count count) i
    (rw (both.0, both.1) (any_after is_end (each OctetToken (take count octets)) (EndToken ∷ [])
    refl))
call_closes log (ResetStream id code) Done i here =
    was_asked code (inl (rw (call_calls log (ResetStream id code) Done) (subst (λ (j : ℕ).
    Contains ((ResetStream id code, Done) ∷ log.calls) (ResetStream j code, Done))
    (eqb-true id i here) (first_in (ResetStream id code, Done) log.calls))))
call_closes log (Refuse id code) Done i here =
    was_asked code (inr (rw (call_calls log (Refuse id code) Done) (subst (λ (j : ℕ).
    Contains ((Refuse id code, Done) ∷ log.calls) (Refuse j code, Done))
    (eqb-true id i here) (first_in (Refuse id code, Done) log.calls))))
call_closes log act answer i here = absurd (both_ways false refl here)

-- What is known of a stream stays known after a call.
call_asks : (log : Log) (act : Act) (answer : Answer) (i code : ℕ) → WasAsked log.calls i code
    → WasAsked (with_call log act answer).calls i code
call_asks log act answer i code (inl reset) = inl (rw (call_calls _ _ _) (later_in _ _ _ reset))
call_asks log act answer i code (inr refused) = inr (rw (call_calls _ _ _) (later_in _ _ _ refused))

pub call_keeps : (role : Role) (values : Values) (log : Log) (act : Act) (answer : Answer) (i : ℕ)
    → IsLog role values log → MayAnswer log act answer → IsSpoken i log
    → IsSpoken i (with_call log act answer)
call_keeps role values log act answer i is may (goes_on alive) =
    elim (cases_Bool (call_may_close i act answer)) [
      | inl closes ↦ call_closes log act answer i closes
      | inr stays ↦ goes_on (active_by_call role values log act answer i is may alive stays)
    ]
call_keeps role values log act answer i is may (has_ended ended) =
    has_ended (ap (list_any is_end) (call_tokens i log act answer) ∙ list_any-append is_end _ _
    ∙ or_left _ _ ended)
call_keeps role values log act answer i is may (was_reset code ours here) =
    was_reset code ours (rw ((grows_call log act answer).reported) here)
call_keeps role values log act answer i is may (was_asked code asked) =
    was_asked code (call_asks log act answer i code asked)
call_keeps role values log act answer i is may (was_named named) =
    was_named (rw ((grows_call log act answer).reported) named)

-- A call that sends something on a stream opens it, or finds it active.
then_only : (b : Bool) (tokens : List Token) → (if b then tokens else []) ≢ [] → b ≡ true
then_only true tokens some = refl
then_only false tokens some = absurd (some refl)

call_begins : (role : Role) (values : Values) (log : Log) (act : Act) (answer : Answer) (i : ℕ)
    → IsLog role values log → MayAnswer log act answer → tokens_of_call i act answer ≢ []
    → IsSpoken i (with_call log act answer)
unfolding tokens_of_call
call_begins role values log (Open fields end) (Number id) i is may some =
    let same = eqb-true id i (then_only (id == i) _ some) in
    goes_on (subst (λ (j : ℕ). active (with_call log (Open fields end) (Number id)) j ≡ true) same
    (active_by_open role values log fields end id is may))
call_begins role values log (SendFields id fields end) Done i is may some =
    let same = eqb-true id i (then_only (id == i) _ some) in
    call_keeps role values log (SendFields id fields end) Done i is may
    (goes_on (subst (λ (j : ℕ). active log j ≡ true) same (fields_active log id fields end may)))
call_begins role values log (SendData id octets end) (Count count) i is may some =
    let same = eqb-true id i (then_only (id == i) _ some) in
    call_keeps role values log (SendData id octets end) (Count count) i is may
    (goes_on (subst (λ (j : ℕ). active log j ≡ true) same (data_active _ _ _ _ count may)))
call_begins role values log act answer i is may some = absurd (some refl)

-- At first nothing was sent.
opened_silent : (role : Role) (values : Values) (i : ℕ)
    → tokens_sent i (opened role values).calls ≡ []
unfolding opened with_sent
opened_silent role values i = none_sent i

-- What was sent on a stream before a call, or with it.
some_before : (tokens more : List Token) → tokens ++ more ≢ []
    → (tokens ≢ []) ⊎ (more ≢ [])
some_before [] more some = inr some
some_before (token ∷ tokens) more some = inl (λ none. cc)

-- Every log.
pub spoken_by_logs : (role : Role) (values : Values) (log : Log) (i : ℕ) → IsLog role values log
    → log.failed ≡ None → tokens_sent i log.calls ≢ [] → IsSpoken i log
unfolding used log_after
spoken_by_logs role values _ i (begins in_range) up some = absurd (some (opened_silent _ _ i))
spoken_by_logs role values _ i (took_some {log = log} is takes octets unparsed read) up some =
    read_keeps role values log (took_part log octets unparsed) i is refl [] refl
    (λ alive goes. goes_on alive) (spoken_by_logs role values log i is up some)
spoken_by_logs role values _ i (took_one {log = log} is takes octets frame decoded read sees) up
    some =
    let after = frame_after log octets decoded frame in
    let adds = frame_adds after in
    let calls = step_calls log (steps.ends_frame octets frame decoded) (λ act said wrong. cc) in
    read_keeps role values log (took_frame log octets decoded frame) i is calls adds.0 adds.1
    (λ alive goes. elim (frame_read (frame_used log octets frame)
    (took_frame log octets decoded frame) decoded i alive goes after up) [
      | inl stays ↦ goes_on stays
      | inr said ↦ was_reset said.0 said.1 said.2
    ]) (spoken_by_logs role values log i is takes.up (rw calls at some))
spoken_by_logs role values _ i (met_fault {log = log} is takes octets fault at) up some =
    absurd (is_down (took_fault log octets fault) refl up)
spoken_by_logs role values _ i (ran_out_of_memory {log = log} is running octets may) up some =
    absurd (is_down (took_out_of_memory log octets) refl up)
spoken_by_logs role values _ i (reported_one {log = log} is running names) up some =
    let adds = none_adds log in
    let calls = step_calls log steps.reports_unprocessed (λ act said wrong. cc) in
    read_keeps role values log (took_none log) i is calls
    (UnprocessedEvent (next_unprocessed log) ∷ []) adds.2.reported
    (λ alive goes. named_keeps log adds.0 adds.1 adds.2 alive (cases_Bool _))
    (spoken_by_logs role values log i is running (rw calls at some))
  where
    named_keeps : (log : Log) (credit : List Item) → IsCredit credit
        → Adds log (took_none log) [] credit (UnprocessedEvent (next_unprocessed log) ∷ [])
        → active log i ≡ true
        → (reports_unprocessed i (UnprocessedEvent (next_unprocessed log)) ≡ true)
        ⊎ (reports_unprocessed i (UnprocessedEvent (next_unprocessed log)) ≡ false)
        → IsSpoken i (took_none log)
    named_keeps log credit is_credit adds alive (inl here) =
        was_named (rw (adds.reported) (or_left _ _ here))
    named_keeps log credit is_credit adds alive (inr other) =
        goes_on (active_added log (took_none log) [] credit
        (UnprocessedEvent (next_unprocessed log) ∷ []) i adds ∙ stays_active log.role i [] credit
        log.received log.sent (UnprocessedEvent (next_unprocessed log) ∷ []) log.reported alive refl
        refl (harmless_credit log.role i credit is_credit) (or_from _ _ other refl))
spoken_by_logs role values _ i (called_one {log = log} is act answer typed may) up some =
    let up_before = (grows_call log act answer).up up in
    elim (some_before _ _ (rw (call_tokens _ _ act answer) at some)) [
      | inl was ↦ call_keeps _ _ _ act answer _ is may (spoken_by_logs _ _ _ _ is up_before was)
      | inr now ↦ call_begins _ _ _ act answer _ is may now
    ]
