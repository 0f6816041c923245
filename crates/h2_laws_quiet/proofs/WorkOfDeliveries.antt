-- A delivery leaves no more work, where memory was not refused: neither call after call of `take`,
-- nor the reports of streams that the server does not process.
use Rattle.std.proofs.Common.{◌≡◌, ◌≢◌, ◌⊎◌, inl, inr, ℕ, suc, ◌≤◌, Bool, true, false, List, []}
use Rattle.std.proofs.Common.{◌++◌, length, drop, Option, None, Some, refl, sym, ap, ◌∙◌, arith}
use Rattle.std.proofs.Common.{subst, if◌then◌else◌}
use Rattle.std.proofs.lemmas.Bool.{both_ways, cases_Bool}
use Rattle.std.specs.List.{AllByRecursion, Contains}
use Rattle.h2_frame.specs.declared.code.Code.{Code}
use Rattle.h2_spec_log.specs.declared.role.Role.{Role}
use Rattle.h2_spec_log.specs.Acts.{Values}
use Rattle.h2_spec_log.specs.Events.{Event, ResetEvent}
use Rattle.h2_spec_log.specs.Histories.{IsLog}
use Rattle.h2_spec_log.specs.Items.{increment_on, total}
use Rattle.h2_spec_log.specs.Log.{Log, active}
use Rattle.h2_laws_log.proofs.WindowsOfTwoEnds.{total-append}
use Rattle.h2_laws_log.proofs.InvariantLogs.{written_is_allowed}
use Rattle.h2_laws_end.specs.Over.{is_number_used}
use Rattle.h2_laws_end.specs.Takes as taking
use Rattle.h2_laws_end.specs.Takes.{MayTake, TakeAnswer, Took}
use Rattle.h2_laws_end.proofs.OverReads.{over_by_take}
use Rattle.h2_laws_machine.specs.Machines as steps
unfoldable use Rattle.h2_laws_machine.specs.Machines.{log_after}
use Rattle.h2_laws_pair.specs.Tokens.{Token, Said, tokens_sent}
use Rattle.h2_ends.specs.Ends.{EndLog, EndTook, Handed, Passed, said_for}
unfoldable use Rattle.h2_ends.specs.Ends.{tokens_given}
use Rattle.h2_ends.specs.Ends.{tokens_said, tokens_out, tokens_waiting}
use Rattle.h2_ends.specs.EndTakes.{EndMayTake, fails, hands_nothing, passes, hands_out}
use Rattle.h2_ends.specs.EndTakes.{refuses, refusal_fails, runs_out_of_memory}
use Rattle.h2_ends.specs.Represents.{SendsInOrder}
use Rattle.h2_ends.proofs.EndOrder.{KeepsOrder, order_by_take}
use Rattle.h2_ends.proofs.EndTokens.{take_calls}
use Rattle.h2_joined.specs.Joints.{IsDelivered, Delivery, Fails}
use Rattle.h2_joined.specs.Joints as joints
use Rattle.h2_joined.proofs.HoldsSides.{faultless_at, log_at, role_at, values_at}
use Rattle.h2_joined.proofs.HoldsTakes.{Around, HoldsIn, half_with, take_leads}
use Rattle.h2_joined.proofs.JointHolds.{AllHadMemory}
use Rattle.h2_joined.specs.Joints.{half_of}
use Rattle.h2_joined.proofs.JointOrder.{unused_unsent}
unfoldable use Rattle.h2_laws_quiet.specs.Work.{tokens_on}
use Rattle.h2_laws_quiet.proofs.FewFills.{Fills, take_fills, fills_twice, fills_none}
use Rattle.h2_laws_quiet.proofs.WorkOfItems.{IsSomeUpdate, IsAnswerItem}
use Rattle.h2_laws_pair.proofs.Lists.{all_both}
use Rattle.h2_laws_quiet.proofs.WorkOfLogs.{some_updates}
use Rattle.h2_laws_quiet.proofs.WorkOfTakes.{NoStreamFault, Takes, takes_drive}
use Rattle.h2_laws_quiet.proofs.WorkOfTokens.{none_more_left, on_by}
use Rattle.h2_laws_quiet.proofs.WorkOfEnds.{EndDrives}
unfoldable use Rattle.h2_laws_quiet.proofs.WorkOfEnds.{ends_none, ends_twice, drives_twice}
unfoldable use Rattle.h2_laws_quiet.proofs.WorkOfLogs.{drives_none}

-- What is asked of a log after a step.
abbrev DrivenTo : Log → Log → Type 0
DrivenTo log after = after.failed ≡ None → AllByRecursion IsSomeUpdate after.sent
    → NoStreamFault after → Takes log after

-- A call of `take` of the connection that has not failed.
took_drives : (log after : Log) (piece : List ℕ) (count : ℕ) (event : Option Event)
    → MayTake log piece (Took count event) after → DrivenTo log after
unfolding log_after
took_drives log after piece count event (taking.has_failed code failed is same) = absurd (cc)
took_drives log after piece count event (taking.reports_unprocessed up some is same) =
    subst (DrivenTo log) (sym same) (takes_drive log steps.reports_unprocessed
    (λ act answer is. cc))
took_drives log after piece count event (taking.ends_no_frame takes unparsed part is same) =
    subst (DrivenTo log) (sym same)
    (takes_drive log (steps.uses_part piece unparsed) (λ act answer is. cc))
took_drives log after piece count event
    (taking.ends_frame takes octets unused joined frame decoded framed sees same answers) =
    subst (DrivenTo log) (sym same)
    (takes_drive log (steps.ends_frame octets frame decoded) (λ act answer is. cc))
took_drives log after piece count event
    (taking.meets_fault takes octets unused joined fault at is same) = absurd (cc)
took_drives log after piece count event
    (taking.runs_out_of_memory up octets unused joined lacks is same) = absurd (cc)

-- On a stream that was not used nothing waits.
none_given : (end : EndLog) (i : ℕ) (given : Option Said) → said_for i end.accepted ≡ given
    → SendsInOrder end i → tokens_out end i ≡ [] → length (tokens_waiting end i) ≡ 0
unfolding tokens_given
none_given end i None is sends unsent =
    rw (is, unsent) refl
none_given end i (Some said) is sends unsent =
    absurd (sends.begun (λ none. let wrong : Some said ≡ None = sym is ∙ none in cc) unsent)

-- What waits is the same where as much was accepted and no call was made.
waiting_taken : (end new : EndLog) (piece : List ℕ) (answer : TakeAnswer) (i : ℕ)
    → MayTake end.log piece answer new.log → new.accepted ≡ end.accepted
    → tokens_waiting new i ≡ tokens_waiting end i
waiting_taken end new piece answer i may same =
    let calls = take_calls end.log new.log piece answer may in
    let out : tokens_out new i ≡ tokens_out end i = ap (tokens_sent i) calls in
    let said : tokens_said new i ≡ tokens_said end i =
    ap (λ (accepted : List (ℕ × Said)). tokens_given (said_for i accepted)) same in
    ap (λ (tokens : List Token). drop (length tokens) (tokens_said new i)) out
    ∙ ap (λ (tokens : List Token). drop (length (tokens_out end i)) tokens) said

-- Nothing waits on a stream where nothing is left of its message.
no_more : (now was : Bool) (left waits : ℕ) → left ≡ 0
    → (if now then left else 0) ≤ (if was then waits else 0)
no_more true was left waits none = omega (arith, none)
no_more false was left waits none = omega arith

-- A stream that is active after a call of `take` was so before, or is new and nothing waits on it.
on_taken : (role : Role) (values : Values) (end new : EndLog) (piece : List ℕ) (count : ℕ)
    (event : Option Event) (i : ℕ) → IsLog role values end.log → KeepsOrder end
    → MayTake end.log piece (Took count event) new.log → new.accepted ≡ end.accepted
    → tokens_on new i ≤ tokens_on end i
unfolding tokens_on
on_taken role values end new piece count event i is order may same =
    let waiting = waiting_taken end new piece (Took count event) i may same in
    by_cases (ap length waiting) (cases_Bool (active end.log i))
    (cases_Bool (is_number_used end.log i))
  where
    by_cases : length (tokens_waiting new i) ≡ length (tokens_waiting end i)
        → (active end.log i ≡ true) ⊎ (active end.log i ≡ false)
        → (is_number_used end.log i ≡ true) ⊎ (is_number_used end.log i ≡ false)
        → (if active new.log i then length (tokens_waiting new i) else 0)
        ≤ (if active end.log i then length (tokens_waiting end i) else 0)
    by_cases waits (inl alive) used =
        on_by (active new.log i) (active end.log i) _ _ (λ now. alive)
        (λ now. omega (arith, waits))
    by_cases waits (inr over) (inl was) =
        on_by (active new.log i) (active end.log i) _ _
        (λ now. absurd (both_ways _ (over_by_take end.log new.log piece (Took count event) i may
        (record { was_used = was; not_active = over })).not_active now))
        (λ now. omega (arith, waits))
    by_cases waits (inr over) (inr unused) =
        let none = none_given end i (said_for i end.accepted) refl (order.sends i)
        (unused_unsent role values end.log i is unused) in
        no_more (active new.log i) (active end.log i) _ _ (waits ∙ none)

-- An end to which octets are delivered: nothing that waits has gone, what it returns is a margin,
-- it writes nothing but answers, and its output grows by what DATA brings.
pub record EndTakes (before after : EndLog) : Type 0 where
  pub ends : EndDrives before after
  pub none_gone : ends.gone ≡ 0
  pub returns : ends.drives.margin ≡ total (increment_on 0) ends.drives.written
  pub answers : AllByRecursion IsAnswerItem ends.drives.written
  pub fills : Fills before.log after.log

-- One call of `take` after another; and none.
takes_twice : (one two three : EndLog) → EndTakes one two → EndTakes two three
    → EndTakes one three
unfolding ends_twice drives_twice
takes_twice one two three a b = record {
  ends = ends_twice one two three a.ends b.ends;
  none_gone = omega (arith, a.none_gone, b.none_gone);
  returns = omega (
    arith,
    a.returns,
    b.returns,
    total-append (increment_on 0) b.ends.drives.written a.ends.drives.written,
  );
  answers = all_both IsAnswerItem b.ends.drives.written a.ends.drives.written b.answers
      a.answers;
  fills = fills_twice one.log two.log three.log a.ends.drives.read b.ends.drives.read
      a.ends.drives.received b.ends.drives.received a.fills b.fills;
}

takes_no_more : (end : EndLog) → EndTakes end end
unfolding total ends_none drives_none
takes_no_more end =
    record {
      ends = ends_none end;
      none_gone = refl;
      returns = refl;
      answers = tt;
      fills = fills_none end.log;
    }

-- What is asked of an end after a step.
abbrev EndDrivenTo : EndLog → EndLog → Type 0
EndDrivenTo end after = after.log.failed ≡ None → AllByRecursion IsSomeUpdate after.log.sent
    → NoStreamFault after.log → EndTakes end after

taken_ends : (role : Role) (values : Values) (end new : EndLog) (piece : List ℕ) (count : ℕ)
    (event : Option Event) → IsLog role values end.log → KeepsOrder end
    → MayTake end.log piece (Took count event) new.log → new.accepted ≡ end.accepted
    → EndDrivenTo end new
taken_ends role values end new piece count event is order may same up some sound =
    let took = took_drives end.log new.log piece count event may up some sound in
    record {
      ends = record {
        gone = 0;
        drives = took.drives;
        tokens =
            let less = none_more_left end new (λ i.
            on_taken role values end new piece count event i is order may same) in
            omega (arith, less);
        each = λ i. on_taken role values end new piece count event i is order may same;
        same = λ none i. waiting_taken end new piece (Took count event) i may same;
      };
      none_gone = refl;
      returns = took.returns;
      answers = took.answers;
      fills = take_fills role values end.log new.log piece count event is may up sound;
    }

-- A call of `take` of an end that hands out no reset of its own.
abbrev NoneRefused : EndLog → Type 0
NoneRefused end = (id code : ℕ) → Contains end.handed (Passed (ResetEvent id code true)) → ⊥

taking_ends : (role : Role) (values : Values) (end after : EndLog) (piece : List ℕ) (count : ℕ)
    (handed : Option Handed) → IsLog role values end.log → KeepsOrder end
    → EndMayTake end piece (EndTook count handed) after → NoneRefused after
    → EndDrivenTo end after
taking_ends role values end after piece count handed is order (fails code log may answers same)
    none = absurd (cc)
taking_ends role values end after piece count handed is order
    (hands_nothing used log may answers same) none =
    subst (EndDrivenTo end) (sym same)
    (taken_ends role values end _ piece used None is order may refl)
taking_ends role values end after piece count handed is order
    (passes used event log may unread answers same) none =
    subst (EndDrivenTo end) (sym same)
    (taken_ends role values end _ piece used (Some event) is order may refl)
taking_ends role values end after piece count handed is order
    (hands_out used event log may id part of readable answers same) none =
    subst (EndDrivenTo end) (sym same)
    (taken_ends role values end _ piece used (Some event) is order may refl)
taking_ends role values end after piece count handed is order
    (refuses used event log may id part of stops refused answers_it up answers same) none =
    absurd (none id 1 (subst (λ (e : EndLog). Contains e.handed (Passed (ResetEvent id 1 true)))
    (sym same) (0, omega arith, refl)))
taking_ends role values end after piece count handed is order
    (refusal_fails used event log may id part of stops refused answers_it code down answers same)
    none = absurd (cc)
taking_ends role values end after piece count handed is order
    (runs_out_of_memory used id list ends log may role_is first readable refused answers_it answers
    same) none = absurd (cc)

module _ (around : Around) (had : AllHadMemory around.made)
    (other_order : KeepsOrder around.other.happened) where
  -- The end's log comes about.
  log_in : (end : EndLog) (incoming : List ℕ) → HoldsIn around end incoming
      → IsLog (role_at around.side) (values_at around.side around.client_values
      around.server_values) end.log
  log_in end incoming is =
      log_at around.side around.client_values around.server_values
      (half_with end.log incoming is.lost) (half_of around.other is.other_lost)
      (AllHadMemory around.made) is.pair

  -- A call of `take`.
  take_falls : (end after : EndLog) (piece later : List ℕ) (count : ℕ) (handed : Option Handed)
      → KeepsOrder end → HoldsIn around end (piece ++ later)
      → EndMayTake end piece (EndTook count handed) after → EndTakes end after
  take_falls end after piece later count handed order is may =
      let role = role_at around.side in
      let values = values_at around.side around.client_values around.server_values in
      let next : HoldsIn around after (drop count piece ++ later) =
      take_leads around end piece later (EndTook count handed) after other_order is may in
      let sound = faultless_at around.side around.client_values around.server_values
      (half_with after.log (drop count piece ++ later) next.lost)
      (half_of around.other next.other_lost) (AllHadMemory around.made) next.pair had in
      let log = log_in after (drop count piece ++ later) next in
      taking_ends role values end after piece count handed
      (log_in end (piece ++ later) is) order may
      (λ id code here. sound.no_stream_fault id code
      ((next.calm had).holds.passed (ResetEvent id code true) here)) sound.up
      (some_updates role after.log.received after.log.sent
      (written_is_allowed role values after.log log)) sound.no_stream_fault

  -- A delivery that has not failed.
  pub delivery_falls : (calls : ℕ) (end after : EndLog) (octets later : List ℕ)
      (delivery : Delivery) → ((code : Code) → delivery ≢ Fails code) → KeepsOrder end
      → HoldsIn around end (octets ++ later) → IsDelivered calls end octets delivery after
      → EndTakes end after
  delivery_falls _ end after _ later _ whole order is (joints.is_whole calls octets few may) =
      take_falls end after octets later (length octets) None order is may
  delivery_falls _ end after _ later _ whole order is
      (joints.goes_on {between = between} calls octets count handed delivery few may more
      delivered) =
      takes_twice end between after
      (take_falls end between octets later count handed order is may)
      (delivery_falls (suc calls) between after (drop count octets) later delivery whole
      (order_by_take end octets (EndTook count handed) between order may)
      (take_leads around end octets later (EndTook count handed) between other_order is may)
      delivered)
  delivery_falls _ end after _ later _ whole order is (joints.fails calls octets code few may) =
      absurd (whole code refl)
  delivery_falls _ end _ _ later _ whole order is (joints.stops calls octets) = takes_no_more end
