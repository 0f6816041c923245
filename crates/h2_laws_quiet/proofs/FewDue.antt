-- What becomes due in a step that writes items: credit goes out for DATA, or for a stream that is
-- over and owes nothing any more.
use Rattle.std.proofs.Common.{◌≡◌, ◌≢◌, ◌⊎◌, inl, inr, ℕ, ◌+◌, ◌≤◌, ◌<◌}
use Rattle.std.proofs.Common.{◌&&◌, not, Bool, true, false, List, [], ◌∷◌, ◌++◌}
use Rattle.std.proofs.Common.{length-append, Option, refl, sym, ap, ◌∙◌, arith}
use Rattle.std.proofs.Common.{if◌then◌else◌}
use Rattle.std.proofs.lemmas.Bool.Decides.{nat_tests}
use Rattle.h2_frame.specs.Frames.{Data, Reset, Settings, Ping, GoAway, WindowUpdate}
use Rattle.h2_frame.specs.Codes.{code_number}
use Rattle.h2_frame.specs.declared.code.Code.{Code}
use Rattle.hpack.specs.declared.types.field.Field.{Field}
use Rattle.h2_block.specs.Grouping.{Item, alone, block}
use Rattle.h2_spec_log.specs.declared.role.Role.{Role}
use Rattle.h2_spec_log.specs.declared.role.Role.TheVariants.{Client, Server}
use Rattle.h2_spec_log.specs.CallRules.{returns_credit}
unfoldable use Rattle.h2_spec_log.specs.Events.{flow_on, reported_total, reports_unprocessed}
use Rattle.h2_spec_log.specs.Events.{Event, DataEvent, FieldsEvent, ResetEvent}
use Rattle.h2_spec_log.specs.Events.{GoAwayEvent, AckedEvent, PongEvent}
unfoldable use Rattle.h2_spec_log.specs.ItemEffects.{events_of, discarded_flow}
use Rattle.h2_spec_log.specs.ItemEffects.{decoded_fields, least_last}
unfoldable use Rattle.h2_spec_log.specs.ItemRules.{replies_to}
use Rattle.h2_spec_log.specs.ItemRules.{Decoded}
unfoldable use Rattle.h2_spec_log.specs.Items.{data_of, ends, resets, is_block_on, is_goaway_below}
unfoldable use Rattle.h2_spec_log.specs.Items.{total, one_ping}
use Rattle.h2_spec_log.specs.Items.{encoding_of_items, stream_of_item}
use Rattle.h2_spec_log.specs.Limits.{full_output}
use Rattle.h2_spec_log.specs.Log.{Log, active, max_payload_sent}
use Rattle.h2_spec_log.specs.Log.{released}
unfoldable use Rattle.h2_spec_log.specs.Log.{owed, waiting, output, unreleased}
unfoldable use Rattle.h2_spec_log.specs.LogSteps.{with_sent, with_reported, owed_at_close, used}
unfoldable use Rattle.h2_spec_log.specs.LogSteps.{with_verdict, with_step, with_frame}
use Rattle.h2_spec_log.specs.LogSteps.{with_unreturned}
use Rattle.h2_spec_log.specs.LogView.{log_view}
unfoldable use Rattle.h2_spec_log.specs.Settings.{one_settings}
unfoldable use Rattle.h2_spec_log.specs.States.{count_below, is_active, is_over, is_above}
use Rattle.h2_spec_log.specs.Verdicts.{Verdict, ConnectionFault, StreamFault, NoEvent, Reported}
use Rattle.h2_laws_log.proofs.CreditCases.{credit_cases}
use Rattle.h2_laws_log.proofs.ItemSizes.{size-update}
use Rattle.h2_laws_log.proofs.LogHistory.{reported_append}
unfoldable use Rattle.h2_laws_end.specs.Activity.{take_has_data}
use Rattle.h2_laws_end.proofs.OverRoom.{owed_active, owed_inactive}
use Rattle.h2_laws_quiet.specs.Work.{one_to_answer}

-- 1 for DATA
unfoldable pub one_data : Item → ℕ
one_data (alone (Data stream end octets pad)) = 1
one_data item = 0

-- More becomes due: credit goes out, or nothing.
pub record Due (log next : Log) (more : ℕ) : Type 0 where
  pub waits : waiting log ≤ waiting next
  pub most : (waiting next ≡ waiting log) ⊎ ((more ≢ 0) × (waiting next ≤ waiting log + 13))
  pub stays : waiting next < full_output → log.unreturned ≡ 0 → next.unreturned ≡ 0
  pub same_received : next.received ≡ log.received
  pub same_reported : next.reported ≡ log.reported
  pub same_role : next.role ≡ log.role
  pub over : (role : Role) (j : ℕ) (received : List Item) (reported : List Event)
      → is_active role j received log.sent reported ≡ false
      → is_active role j received next.sent reported ≡ false

-- WINDOW_UPDATE of the connection makes no stream active.
update_active : (role : Role) (j n : ℕ) (received sent : List Item) (reported : List Event)
    → is_active role j received (alone (WindowUpdate 0 n) ∷ sent) reported
    ≡ is_active role j received sent reported
unfolding is_active is_over is_above ends resets is_block_on is_goaway_below
update_active Client j n received sent reported = refl
update_active Server j n received sent reported = refl

some_due : (more waits : ℕ) → returns_credit more waits ≡ true → more ≢ 0
some_due more waits test none = grind (arith, nat_tests, test, none)

none_due : (more waits : ℕ) → returns_credit more waits ≡ false → waits < full_output → more ≡ 0
none_due more waits test few = grind (arith, nat_tests, test, few)

pub due_by : (more : ℕ) (log : Log) → Due log (with_unreturned more log) more
unfolding with_sent waiting output
due_by more log =
    credit_cases (λ (next : Log). Due log next more) more log
    (λ returns.
    let credit = alone (WindowUpdate 0 (log.unreturned + more)) ∷ [] in
    let size = size-update (max_payload_sent log) 0 (log.unreturned + more) in
    let sum = length-append log.written (encoding_of_items (max_payload_sent log) credit) in
    record {
      waits = omega (arith, size, sum);
      most = inr (some_due more (waiting log) returns, omega (arith, size, sum));
      stays = λ few none. refl;
      same_received = refl;
      same_reported = refl;
      same_role = refl;
      over = λ role j received reported is.
          update_active role j (log.unreturned + more) received log.sent reported ∙ is;
    })
    (λ keeps. record {
      waits = omega arith;
      most = inl refl;
      stays = λ few none.
          let nothing = none_due more (waiting log) keeps few in omega (arith, none, nothing);
      same_received = refl;
      same_reported = refl;
      same_role = refl;
      over = λ role j received reported is. is;
    })

-- What was reported changes neither.
pub reported_waits : (log : Log) (events : List Event)
    → (waiting (with_reported log events) ≡ waiting log)
    × ((with_reported log events).unreturned ≡ log.unreturned)
    × ((with_reported log events).sent ≡ log.sent)
    × ((with_reported log events).received ≡ log.received)
    × ((with_reported log events).calls ≡ log.calls)
    × ((with_reported log events).reported ≡ events ++ log.reported)
    × ((with_reported log events).role ≡ log.role)
unfolding with_reported waiting output
reported_waits log [] = (refl, refl, refl, refl, refl, refl, refl)
reported_waits log (event ∷ events) = (refl, refl, refl, refl, refl, refl, refl)

-- Where an item is no DATA, no octets are reported of it, and none are discarded.
pub record CountsData (f : Event → ℕ) : Type 0 where
  fields : (id : ℕ) (list : List Field) (end : Bool) → f (FieldsEvent id list end) ≡ 0
  reset : (id code : ℕ) (ours : Bool) → f (ResetEvent id code ours) ≡ 0
  goaway : (last code : ℕ) → f (GoAwayEvent last code) ≡ 0
  acked : f AckedEvent ≡ 0
  pong : (octets : List ℕ) → f (PongEvent octets) ≡ 0

-- 1 for octets of a body
unfoldable pub one_event : Event → ℕ
one_event (DataEvent id octets flow end) = 1
one_event event = 0

pub counts_events : CountsData one_event
unfolding one_event
counts_events = record {
  fields = λ id list end. refl;
  reset = λ id code ours. refl;
  goaway = λ last code. refl;
  acked = refl;
  pong = λ octets. refl;
}

pub counts_flow : (i : ℕ) → CountsData (flow_on i)
unfolding flow_on
counts_flow i = record {
  fields = λ id list end. refl;
  reset = λ id code ours. refl;
  goaway = λ last code. refl;
  acked = refl;
  pong = λ octets. refl;
}

pub events_none : (f : Event → ℕ) → CountsData f → (log : Log) (decoded : Option Decoded)
    (verdict : Verdict) (item : Item) → one_data item ≡ 0
    → reported_total f (events_of (log_view log) decoded verdict item) ≡ 0
unfolding events_of reported_total one_data
events_none f counts log decoded (ConnectionFault code) item none = refl
events_none f counts log decoded (StreamFault code) item none =
    omega (arith, counts.reset (stream_of_item item) (code_number code) true)
events_none f counts log decoded NoEvent item none = refl
events_none f counts log decoded Reported (block stream end octets) none =
    omega (arith, counts.fields stream (decoded_fields decoded) end)
events_none f counts log decoded Reported (alone (Data stream end octets pad)) none =
    absurd (omega (arith, none))
events_none f counts log decoded Reported (alone (Reset stream code)) none =
    omega (arith, counts.reset stream code false)
events_none f counts log decoded Reported (alone (Settings ack pairs)) none =
    omega (arith, counts.acked)
events_none f counts log decoded Reported (alone (Ping ack octets)) none =
    omega (arith, counts.pong octets)
events_none f counts log decoded Reported (alone (GoAway last code debug)) none =
    omega (arith, counts.goaway (least_last last (log_view log).goaway_received) code)
events_none f counts log decoded Reported (alone frame) none = refl

pub none_discarded : (verdict : Verdict) (item : Item) → one_data item ≡ 0
    → discarded_flow verdict item ≡ 0
unfolding discarded_flow one_data data_of
none_discarded verdict (alone (Data stream end octets pad)) none = absurd (omega (arith, none))
none_discarded (ConnectionFault code) item none = refl
none_discarded (StreamFault code) (block stream end octets) none = refl
none_discarded (StreamFault code) (alone frame) none = refl
none_discarded NoEvent (block stream end octets) none = refl
none_discarded NoEvent (alone frame) none = refl
none_discarded Reported item none = refl

-- Where nothing is asked for, nothing is replied.
pub none_replied : (verdict : Verdict) (item : Item) → ((code : Code) → verdict ≢ StreamFault code)
    → one_to_answer item ≡ 0 → replies_to verdict item ≡ []
unfolding replies_to one_settings one_ping
none_replied (ConnectionFault code) item sound none = refl
none_replied (StreamFault code) item sound none = absurd (sound code refl)
none_replied NoEvent (alone (Settings false pairs)) sound none = absurd (omega (arith, none))
none_replied NoEvent (alone (Ping false octets)) sound none = absurd (omega (arith, none))
none_replied NoEvent item sound none = refl
none_replied Reported item sound none = refl

closes_some : (was now : Bool) (n : ℕ) → (if was && not now then n else 0) ≢ 0
    → (was ≡ true) × (now ≡ false) × (n ≢ 0)
closes_some true false n some = (refl, refl, some)
closes_some true true n some = absurd (some refl)
closes_some false now n some = absurd (some refl)

-- Items that are written leave what is unreturned, and make no less wait.
pub record Sent (log next : Log) (items : List Item) : Type 0 where
  pub waits : waiting log ≤ waiting next
  pub none : items ≡ [] → waiting next ≡ waiting log
  pub unreturned : next.unreturned ≡ log.unreturned
  pub reported : next.reported ≡ log.reported
  pub calls : next.calls ≡ log.calls

pub sent_by : (log : Log) (items : List Item) → Sent log (with_sent log items) items
unfolding with_sent waiting output
sent_by log [] = record {
  waits = omega arith;
  none = λ is. refl;
  unreturned = refl;
  reported = refl;
  calls = refl;
}
sent_by log (item ∷ items) = record {
  waits = omega (
    arith,
    length-append log.written
        (encoding_of_items (max_payload_sent log) (item ∷ items)),
  );
  none = λ is. cc;
  unreturned = refl;
  reported = refl;
  calls = refl;
}

-- A step in which items are written, and then what is due goes out, and events are reported.
module _ (log replied : Log) (items : List Item) (events : List Event) (d id : ℕ)
    (sent : Sent log replied items) where
  abbrev pub more : ℕ
  more = d + owed_at_close log (with_reported replied events) id

  abbrev pub new : Log
  new = with_reported (with_unreturned more replied) events

  due : Due replied (with_unreturned more replied) more
  due = due_by more replied

  pub new_waits : waiting log ≤ waiting new
  new_waits =
      let one = due.waits in
      let two = sent.waits in
      let same = (reported_waits (with_unreturned more replied) events).0 in
      omega (arith, one, two, same)

  pub new_stays : waiting new < full_output → log.unreturned ≡ 0 → new.unreturned ≡ 0
  new_stays few none =
      let same = reported_waits (with_unreturned more replied) events in
      same.1 ∙ due.stays (omega (arith, few, same.0)) (sent.unreturned ∙ none)

  pub new_most : items ≡ [] → waiting new ≤ waiting log + 13
  new_most none =
      let first = sent.none none in
      let same = (reported_waits (with_unreturned more replied) events).0 in
      elim due.most [
        | inl is ↦ omega (arith, first, same, is)
        | inr (some, few) ↦ omega (arith, first, same, few)
      ]

  unreleased_same : reported_total (flow_on id) events ≡ 0
      → unreleased (with_reported replied events) id ≡ unreleased log id
  unfolding unreleased
  unreleased_same none =
      let same = reported_waits replied events in
      let line = same.5 ∙ ap (λ (reported : List Event). events ++ reported)
      sent.reported in
      let sum = ap (reported_total (flow_on id)) line
      ∙ reported_append (flow_on id) events log.reported in
      let calls = ap (released id) (same.4 ∙ sent.calls) in
      omega (arith, none, sum, calls)

  over_new : active (with_reported replied events) id ≡ false → owed new id ≡ 0
  over_new over =
      let was = reported_waits replied events in
      let is = reported_waits (with_unreturned more replied) events in
      owed_inactive new id (rw (
        is.6,
        is.3,
        is.2,
        is.5,
        due.same_role,
        due.same_received,
        due.same_reported,
      )
      (due.over replied.role id replied.received (events ++ replied.reported)
      (rw (was.6, was.3, was.2, was.5) at over)))

  pub new_over : items ≡ [] → d ≡ 0 → reported_total (flow_on id) events ≡ 0
      → (waiting new ≡ waiting log) ⊎ ((owed log id ≢ 0) × (owed new id ≡ 0))
  unfolding owed_at_close
  new_over none nothing quiet =
      let first = sent.none none in
      let same = (reported_waits (with_unreturned more replied) events).0 in
      elim due.most [
        | inl is ↦ inl (omega (arith, first, same, is))
        | inr (some, few) ↦
            let closes = closes_some (active log id)
            (active (with_reported replied events) id)
            (unreleased (with_reported replied events) id)
            (λ zero_due. some (omega (arith, nothing, zero_due))) in
            inr (
              λ free. closes.2 (unreleased_same quiet
                  ∙ (sym (owed_active log id closes.0) ∙ free)),
              over_new closes.1,
            )
      ]
