-- What a call of `take` makes of the output that waits: it is longer by what DATA has brought.
use Rattle.std.proofs.Common.{◌≡◌, ◌⊎◌, inl, inr, ℕ, ◌+◌, ◌*◌, ◌≤◌, ◌<◌}
use Rattle.std.proofs.Common.{max, List, [], ◌∷◌, ◌++◌}
use Rattle.std.proofs.Common.{Option, None, Some, refl, sym, ap, ◌∙◌, arith}
use Rattle.std.proofs.lemmas.Bool.{ne_eqb}
use Rattle.std.proofs.lemmas.List.{append_cancel_right}
use Rattle.h2_frame.specs.Frames.{Frame, Data}
use Rattle.h2_block.specs.Grouping.{Item, alone, block}
use Rattle.h2_spec_log.specs.declared.role.Role.{Role}
use Rattle.h2_spec_log.specs.Acts.{Values}
unfoldable use Rattle.h2_spec_log.specs.Events.{flow_on, reported_total, reports_unprocessed}
use Rattle.h2_spec_log.specs.Events.{Event, DataEvent, UnprocessedEvent}
use Rattle.h2_spec_log.specs.Histories.{IsLog}
unfoldable use Rattle.h2_spec_log.specs.ItemEffects.{events_of, discarded_flow}
unfoldable use Rattle.h2_spec_log.specs.ItemRules.{replies_to}
use Rattle.h2_spec_log.specs.ItemRules.{Decoded, FrameStep, frame_step, fails_with, begins_block}
use Rattle.h2_spec_log.specs.ItemRules.{completes, opened_by}
unfoldable use Rattle.h2_spec_log.specs.Items.{data_of, ends, resets, is_block_on, is_goaway_below}
unfoldable use Rattle.h2_spec_log.specs.Items.{total, one_ping}
use Rattle.h2_spec_log.specs.Items.{stream_of_item}
use Rattle.h2_spec_log.specs.Limits.{full_output}
use Rattle.h2_spec_log.specs.Log.{Log, last_processed, next_unprocessed}
unfoldable use Rattle.h2_spec_log.specs.Log.{owed, waiting, output, unreleased}
unfoldable use Rattle.h2_spec_log.specs.LogSteps.{with_sent, with_reported, owed_at_close, used}
unfoldable use Rattle.h2_spec_log.specs.LogSteps.{with_verdict, with_step, with_frame}
use Rattle.h2_spec_log.specs.LogSteps.{read, with_unreturned, took_none}
use Rattle.h2_spec_log.specs.LogView.{log_view}
unfoldable use Rattle.h2_spec_log.specs.Settings.{one_settings}
unfoldable use Rattle.h2_spec_log.specs.States.{count_below, is_active, is_over, is_above}
use Rattle.h2_spec_log.specs.Verdicts.{Verdict, ConnectionFault}
use Rattle.h2_laws_log.proofs.LogGrowth.{fails_down}
use Rattle.h2_laws_pair.proofs.FrameSteps.{has_item}
use Rattle.h2_laws_log.proofs.WindowsOfTwoEnds.{total-append}
use Rattle.h2_laws_end.specs.Takes as taking
use Rattle.h2_laws_end.specs.Takes.{MayTake, Took, events_answered}
unfoldable use Rattle.h2_laws_end.specs.Activity.{take_has_data}
use Rattle.h2_laws_end.proofs.ActivityOwed.{none_owed_by_take}
use Rattle.h2_laws_quiet.specs.Room.{streams_owed}
use Rattle.h2_laws_quiet.specs.Work.{one_to_answer}
use Rattle.h2_laws_quiet.proofs.FewCounts.{owed_no_more, owed_fewer, owed_one_more}
use Rattle.h2_laws_quiet.proofs.WorkOfTakes.{NoStreamFault, no_fault}
unfoldable use Rattle.h2_laws_quiet.proofs.FewDue.{one_data, one_event}
use Rattle.h2_laws_quiet.proofs.FewDue.{due_by, reported_waits, counts_events, counts_flow}
use Rattle.h2_laws_quiet.proofs.FewDue.{events_none, none_discarded, none_replied, Sent, sent_by}
use Rattle.h2_laws_quiet.proofs.FewDue.{new_waits, new_stays, new_most, new_over}

-- how many octets wait, with 26 more for each stream on which something is owed
abbrev pub with_owed : Log → ℕ
with_owed log = waiting log + 26 * streams_owed log

-- The output after a call of `take`: no less waits, nothing more is unreturned where it has room,
-- and where nothing was asked for it is longer by what DATA has brought.
pub record Fills (before after : Log) : Type 0 where
  pub waits : waiting before ≤ waiting after
  pub stays : waiting after < full_output → before.unreturned ≡ 0 → after.unreturned ≡ 0
  pub fills : total one_to_answer after.received ≡ total one_to_answer before.received
      → with_owed after + 39 * total one_data before.received
      ≤ with_owed before + 39 * total one_data after.received

one_or_none : (item : Item) → (one_data item ≡ 0) ⊎ (one_data item ≡ 1)
unfolding one_data
one_or_none (alone (Data stream end octets pad)) = inr refl
one_or_none (alone frame) = inl refl
one_or_none (block stream end octets) = inl refl

module _ (role : Role) (values : Values) (log after : Log) (piece : List ℕ) (count : ℕ)
    (event : Option Event) (is : IsLog role values log)
    (may : MayTake log piece (Took count event) after)
    (answers : after.reported ≡ events_answered event ++ log.reported)
    (up : after.failed ≡ None) (sound : NoStreamFault after) where
  -- A call that reports no octets makes nothing owed,
  still_none : reported_total one_event (events_answered event) ≡ 0
      → (j : ℕ) → owed log j ≡ 0 → owed after j ≡ 0
  unfolding reported_total one_event take_has_data
  still_none none j free = by_event event refl
    where
      by_event : (one : Option Event) → event ≡ one → owed after j ≡ 0
      by_event None same = none_owed_by_take role values log after piece (Took count event) j is
          may free (rw same refl)
      by_event (Some (DataEvent id octets flow end)) same =
          absurd (omega (
            arith,
            ap (λ (o : Option Event).
                reported_total one_event (events_answered o)) (sym same) ∙ none,
          ))
      by_event (Some other) same = none_owed_by_take role values log after piece
          (Took count event) j is may free (rw same refl)

  -- and one that does makes something owed on one stream more at most.
  one_owed : streams_owed after ≤ streams_owed log + 1
  unfolding take_has_data
  one_owed = by_event event refl
    where
      by_event : (one : Option Event) → event ≡ one → streams_owed after ≤ streams_owed log + 1
      by_event None same =
          let all = owed_no_more log after (λ j free. none_owed_by_take role values log
          after piece (Took count event) j is may free (rw same refl)) in
          omega (arith, all)
      by_event (Some (DataEvent id octets flow end)) same =
          owed_one_more log after id (λ j apart free. none_owed_by_take role values log
          after piece (Took count event) j is may free
          (rw same (ne_eqb id j (λ equal. apart (sym equal)))))
      by_event (Some other) same =
          let all = owed_no_more log after (λ j free. none_owed_by_take role values log
          after piece (Took count event) j is may free (rw same refl)) in
          omega (arith, all)

  -- Where nothing is written and read, the output stays as it is.
  quiet_fills : waiting after ≡ waiting log → after.unreturned ≡ log.unreturned
      → after.received ≡ log.received → ((j : ℕ) → owed log j ≡ 0 → owed after j ≡ 0)
      → Fills log after
  quiet_fills waits unreturned received none = record {
    waits = omega (arith, waits);
    stays = λ few free. unreturned ∙ free;
    fills = λ asks.
        let owes = owed_no_more log after none in
        omega (arith, waits, owes, ap (total one_data) received);
  }

  -- An item with a verdict that is no fault of the connection.
  item_fills : (start : Log) (decoded : Option Decoded) (item : Item) (verdict : Verdict)
      → start.reported ≡ log.reported → start.received ≡ log.received
      → waiting start ≡ waiting log → start.unreturned ≡ log.unreturned
      → ((j : ℕ) → owed log j ≡ owed start j)
      → after ≡ with_reported (with_unreturned (discarded_flow verdict item
      + owed_at_close start (with_reported (with_sent (read start decoded item)
      (replies_to verdict item)) (events_of (log_view start) decoded verdict item))
      (stream_of_item item)) (with_sent (read start decoded item) (replies_to verdict item)))
      (events_of (log_view start) decoded verdict item)
      → Fills log after
  unfolding waiting output total
  item_fills start decoded item verdict reported received waits unreturned owes same =
      let items = replies_to verdict item in
      let events = events_of (log_view start) decoded verdict item in
      let d = discarded_flow verdict item in
      let id = stream_of_item item in
      let wrote = sent_by (read start decoded item) items in
      let sent : Sent start (with_sent (read start decoded item) items) items = record {
        waits = wrote.waits;
        none = wrote.none;
        unreturned = wrote.unreturned;
        reported = wrote.reported;
        calls = wrote.calls;
      } in
      let last = has_item start decoded item verdict
      (d + owed_at_close start (with_reported (with_sent (read start decoded item) items) events)
      id) in
      let line : after.reported ≡ events ++ log.reported =
      ap (λ (l : Log). l.reported) same ∙ (last.reported
      ∙ ap (λ (older : List Event). events ++ older) reported) in
      let unfaulty = no_fault start after decoded item verdict log.reported line sound in
      let read_it : after.received ≡ item ∷ log.received =
      ap (λ (l : Log). l.received) same ∙ (last.received
      ∙ ap (λ (older : List Item). item ∷ older) received) in
      let waits_after = ap waiting same in
      record {
        waits =
            let all = new_waits start _ items events d id sent in
            omega (arith, all, waits_after, waits);
        stays = λ few free.
            ap (λ (l : Log). l.unreturned) same ∙ new_stays start _ items events d id sent
            (omega (arith, few, waits_after)) (unreturned ∙ free);
        fills = λ asks.
            let sum = ap (total one_data) read_it in
            let asked = ap (total one_to_answer) read_it in
            let none = none_replied verdict item unfaulty (omega (arith, asks, asked)) in
            let most = new_most start _ items events d id sent none in
            elim (one_or_none item) [
              | inr one ↦
                  let owed_more = one_owed in
                  omega (arith, sum, most, waits_after, waits, one, owed_more)
              | inl no_data ↦
                  let quiet = events_none one_event counts_events start decoded verdict item
                  no_data in
                  let free = still_none (ap (reported_total one_event)
                  (append_cancel_right (events_answered event) events log.reported
                  (sym answers ∙ line)) ∙ quiet) in
                  elim (new_over start _ items events d id sent none
                  (none_discarded verdict item no_data)
                  (events_none (flow_on id) (counts_flow id) start decoded verdict item no_data)) [
                    | inl still ↦
                        let owed_less = owed_no_more log after free in
                        omega (arith, sum, still, waits_after, waits, no_data, owed_less)
                    | inr over ↦
                        let owed_less = owed_fewer log after id free
                        (λ none_owed. over.0 (sym (owes id) ∙ none_owed))
                        (ap (λ (l : Log). owed l id) same ∙ over.1) in
                        omega (arith, sum, most, waits_after, waits, no_data, owed_less)
                  ]
            ];
      }

  -- So is a step of a frame.
  verdict_fills : (start : Log) (decoded : Option Decoded) (item : Item) (verdict : Verdict)
      → start.reported ≡ log.reported → start.received ≡ log.received
      → waiting start ≡ waiting log → start.unreturned ≡ log.unreturned
      → ((j : ℕ) → owed log j ≡ owed start j)
      → after ≡ with_verdict start decoded item verdict → Fills log after
  unfolding with_verdict
  verdict_fills start decoded item (ConnectionFault code) reported received waits unreturned owes
      same =
      absurd (fails_down code (max (last_processed start)
      (opened_by (log_view start) decoded item)) start (ap (λ (l : Log). l.failed) (sym same)
      ∙ up))
  verdict_fills start decoded item verdict reported received waits unreturned owes same =
      item_fills start decoded item verdict reported received waits unreturned owes same

  frame_fills : (octets : List ℕ) (frame : Frame) (decoded : Option Decoded) (step : FrameStep)
      → after ≡ with_step (record (used log octets []) { frames = log.frames ++ frame ∷ [] })
      decoded step → Fills log after
  unfolding with_step used waiting output owed unreleased
  frame_fills octets frame decoded (fails_with code) same =
      absurd (fails_down code (last_processed log) (record (used log octets []) {
        frames = log.frames ++ frame ∷ [];
      }) (ap (λ (l : Log). l.failed) (sym same) ∙ up))
  frame_fills octets frame decoded (begins_block begun) same =
      quiet_fills (ap waiting same) (ap (λ (l : Log). l.unreturned) same)
      (ap (λ (l : Log). l.received) same) (λ j free. ap (λ (l : Log). owed l j) same ∙ free)
  frame_fills octets frame decoded (completes item) same =
      verdict_fills (record (record (used log octets []) {
        frames = log.frames ++ frame ∷ [];
      }) { begun = None }) decoded item _ refl refl refl refl (λ j. refl) same

-- A stream that is reported as unprocessed.
none_fills : (role : Role) (values : Values) (log after : Log) (piece : List ℕ) (count : ℕ)
    (event : Option Event) → IsLog role values log → MayTake log piece (Took count event) after
    → Took count event ≡ Took 0 (Some (UnprocessedEvent (next_unprocessed log)))
    → after ≡ took_none log → Fills log after
unfolding take_has_data reported_total flow_on
none_fills role values log after piece count event is may answered same =
    let id = next_unprocessed log in
    let events = UnprocessedEvent id ∷ [] in
    let sent : Sent log log [] = record {
      waits = omega arith;
      none = λ nothing. refl;
      unreturned = refl;
      reported = refl;
      calls = refl;
    } in
    let closed = owed_at_close log (with_reported log events) id in
    let later = same ∙ ap (λ (n : ℕ). with_reported (with_unreturned n log) events)
    (no_more closed) in
    let waits_after = ap waiting later in
    let none : (j : ℕ) → owed log j ≡ 0 → owed after j ≡ 0 = λ j free.
    none_owed_by_take role values log after piece (Took count event) j is may free
    (ap (take_has_data j) answered) in
    let owed_less = owed_no_more log after none in
    let read_none = ap (total one_data) (none_received log after same) in
    record {
      waits = let all = new_waits log log [] events 0 id sent in omega (arith, all, waits_after);
      stays = λ few free. ap (λ (l : Log). l.unreturned) later
          ∙ new_stays log log [] events 0 id sent (omega (arith, few, waits_after)) free;
      fills = λ asks. elim (new_over log log [] events 0 id sent refl refl refl) [
        | inl still ↦ omega (arith, still, waits_after, owed_less, read_none)
        | inr over ↦
            let most = new_most log log [] events 0 id sent refl in
            let fewer = owed_fewer log after id none over.0
            (ap (λ (l : Log). owed l id) later ∙ over.1) in
            omega (arith, most, waits_after, fewer, read_none)
      ];
    }
  where
    no_more : (n : ℕ) → n ≡ 0 + n
    no_more n = omega arith

    none_received : (log after : Log) → after ≡ took_none log → after.received ≡ log.received
    none_received log after same =
        ap (λ (l : Log). l.received) same
        ∙ ((reported_waits (with_unreturned (owed_at_close log (with_reported log
        (UnprocessedEvent (next_unprocessed log) ∷ [])) (next_unprocessed log)) log)
        (UnprocessedEvent (next_unprocessed log) ∷ [])).3
        ∙ (due_by (owed_at_close log (with_reported log
        (UnprocessedEvent (next_unprocessed log) ∷ [])) (next_unprocessed log)) log).same_received)

-- A call of `take` of an end that is up, and reports no reset of its own.
pub take_fills : (role : Role) (values : Values) (log after : Log) (piece : List ℕ) (count : ℕ)
    (event : Option Event) → IsLog role values log → MayTake log piece (Took count event) after
    → after.failed ≡ None → NoStreamFault after → Fills log after
unfolding used waiting output owed unreleased with_frame
take_fills role values log after piece count event is (taking.has_failed code failed wrong same) up
    sound = absurd (cc)
take_fills role values log after piece count event is
    (taking.reports_unprocessed was_up some answered same) up sound =
    none_fills role values log after piece count event is
    (taking.reports_unprocessed was_up some answered same) answered same
take_fills role values log after piece count event is
    (taking.ends_no_frame takes unparsed part answered same) up sound = record {
      waits = omega (arith, ap waiting same);
      stays = λ few free. ap (λ (l : Log). l.unreturned) same ∙ free;
      fills = λ asks.
          let owes = owed_no_more log after
          (λ j free. ap (λ (l : Log). owed l j) same ∙ free) in
          omega (
            arith,
            ap waiting same,
            owes,
            ap (λ (l : Log). total one_data l.received) same,
          );
    }
take_fills role values log after piece count event is
    (taking.ends_frame takes octets unused joined frame decoded framed sees same answered) up sound
    =
    frame_fills role values log after piece count event is
    (taking.ends_frame takes octets unused joined frame decoded framed sees same answered)
    answered.2 up sound octets frame decoded (frame_step (log_view (used log octets [])) frame)
    same
take_fills role values log after piece count event is
    (taking.meets_fault takes octets unused joined fault at wrong same) up sound = absurd (cc)
take_fills role values log after piece count event is
    (taking.runs_out_of_memory was_up octets unused joined lacks wrong same) up sound = absurd (cc)

-- One call after another.
pub fills_twice : (one two three : Log) (first later : List Item)
    → two.received ≡ first ++ one.received → three.received ≡ later ++ two.received
    → Fills one two → Fills two three → Fills one three
fills_twice one two three first later read more a b =
    let sum = ap (total one_to_answer) read ∙ total-append one_to_answer first one.received in
    let sum_later = ap (total one_to_answer) more
    ∙ total-append one_to_answer later two.received in
    let waits = a.waits in
    let later_waits = b.waits in
    record {
      waits = omega (arith, waits, later_waits);
      stays = λ few free. b.stays few (a.stays (omega (arith, few, later_waits)) free);
      fills = λ asks.
          let here = a.fills (omega (arith, asks, sum, sum_later)) in
          let there = b.fills (omega (arith, asks, sum, sum_later)) in
          omega (arith, here, there);
    }

pub fills_none : (log : Log) → Fills log log
fills_none log = record {
  waits = omega arith;
  stays = λ few free. free;
  fills = λ asks. omega arith;
}
