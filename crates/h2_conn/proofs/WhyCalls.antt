-- Why a connection has failed, after calls: a call that fails nothing changes nothing of it.
use Rattle.h2_conn.proofs.Names.{◌≡◌, ◌∙◌, ℕ, Bool, true, false, Option, Some, None, Result, Ok}
use Rattle.h2_conn.proofs.Names.{Err, inl, inr, refl, sym, ap, Code, CutterState}
use Rattle.h2_conn.proofs.Names.{Refusal, Values, Act, Answer, Refuse, Refused, PutOut, Count, Done}
use Rattle.h2_conn.proofs.Names.{answer_by, IsTypedAct, Log, log_view, MayAnswer, with_call, View}
use Rattle.h2_conn.proofs.Names.{End, end_view, CallAccepted, CallRefuses, Counts}
use Rattle.h2_conn.proofs.Names.{Represents, PartsFit, PartsRepresent, views_alike, none_some}
use Rattle.h2_conn.proofs.Names.{after_call, Why, if◌then◌else◌, return_credit, subst}
use Rattle.h2_spec_log.proofs.StreamLemmas.{Keeps-call}
use Rattle.h2_spec_log.specs.Acts.{OutOfMemory, Fail, shown}
use Rattle.h2_spec_log.specs.CallRules.{refuse_fault}
use Rattle.h2_spec_log.specs.LogSteps.{with_credit_returned}
use Rattle.h2_spec_log.specs.LogCalls.{before_put_out, called}
use Rattle.h2_spec_machine.specs.Machine.{after_refuse, add_unreturned}
use Rattle.h2_laws_end.proofs.Failures.{items_failed, sent_failed}
use Rattle.h2_conn.specs.Why.{IsWhy, for_a_call, rule_of_call, rule_of_refusal}
use Rattle.h2_conn.specs.declared.why.Why.TheVariants.{EndedAbove}
use Rattle.h2_conn.proofs.PartsFit.{fit_of, with_reason}
use Rattle.h2_conn.proofs.Reasons.{came_of, said_for, why_called, why_up}
use Rattle.h2_conn.proofs.AskCalls.{accepted_answers, up_if_free}
use Rattle.h2_conn.proofs.AskCalls.{PartsAnswer, condition_answers}
use Rattle.h2_conn.proofs.AskRefusing.{refusing_shows}

-- Whether the connection stays as it was at a call with this answer.
abbrev pub keeps_up : Act → Answer → Bool
keeps_up act (Refused refusal) = true
keeps_up act OutOfMemory = false
keeps_up (Refuse id code) answer = false
keeps_up (Fail code) answer = false
keeps_up act answer = true

put_out_by : (test : Bool) (log : Log)
    → (if test then with_credit_returned log else log).failed ≡ log.failed
put_out_by true log = sent_failed (record log { unreturned = 0 }) _
put_out_by false log = refl

-- Then its log has failed as it had.
pub call_failed : (log : Log) (act : Act) (answer : Answer) → keeps_up act answer ≡ true
    → (with_call log act answer).failed ≡ log.failed
unfolding with_call before_put_out
call_failed log act (Refused refusal) keeps = refl
call_failed log act OutOfMemory keeps = cc
call_failed log (Refuse id code) answer keeps = cc
call_failed log (Fail code) answer keeps = cc
call_failed log (PutOut count) (Count given) keeps =
    put_out_by _ (called log (PutOut count) (Count given))
call_failed log act answer keeps = items_failed log act answer

-- An answer by a result, where each value's answer is such a one.
pub plain : {A : Type 0} (act : Act) (answered : A → Answer) (result : Result A Refusal)
    → ((value : A) → keeps_up act (answered value) ≡ true)
    → keeps_up act (answer_by answered result) ≡ true
plain act answered (Ok value) each = each value
plain act answered (Err refusal) each = refl

-- The parts represent the log with such a call.
pub represented : {counts : Counts} {why : Option Why} {cutter limited : CutterState}
    {e new : End} {act : Act} {answer : Answer} → keeps_up act answer ≡ true → IsTypedAct act
    → ((values : Values) (log : Log) → PartsFit values cutter counts e log
    → MayAnswer log act answer × PartsFit values limited counts new (with_call log act answer))
    → (values : Values) (log : Log) → PartsRepresent values cutter counts why e log
    → MayAnswer log act answer
    × PartsRepresent values limited counts why new (with_call log act answer)
represented {counts} {why} {cutter} {limited} {e} {new} {act} {answer} keeps typed answers values log p =
    let made = answers values log (fit_of values cutter counts why e log p) in (
      made.0,
      with_reason values limited counts why new (with_call log act answer) made.1
          (why_called values log act answer why p.reason typed made.0
          (call_failed log act answer keeps)),
    )

-- What a call fails the connection for.
called_for : (values : Values) (e : End) (log : Log) (act : Act) (answer : Answer) (code : Code)
    → Represents values e log → log.failed ≡ None → IsTypedAct act → MayAnswer log act answer
    → (with_call log act answer).failed ≡ Some code
    → IsWhy values (with_call log act answer) (Some (rule_of_call (log_view log) act code))
called_for values e log act answer code machine up typed may fails =
    said_for values log.role (with_call log act answer) _ (Keeps-call log act answer).role
    (for_a_call (came_of values e log machine) up act answer code typed may fails)

-- The layer above ends the connection.
pub end_represented : {counts : Counts} {why : Option Why} {cutter : CutterState} {e new : End}
    {code : Code} → CallAccepted e (Fail code) new
    → (values : Values) (log : Log) → PartsRepresent values cutter counts why e log
    → MayAnswer log (Fail code) Done
    × PartsRepresent values cutter counts (Some (EndedAbove code)) new
    (with_call log (Fail code) Done)
unfolding IsTypedAct with_call
end_represented {counts} {why} {cutter} {e} {new} {code} accepted values log p =
    let made = accepted_answers cutter e new (Fail code) Done refl refl tt refl accepted values log
    (fit_of values cutter counts why e log p) in
    let up : log.failed ≡ None =
    sym p.machine.failed ∙ up_if_free e (Fail code) refl accepted.free in (
      made.0,
      with_reason values cutter counts (Some (EndedAbove code)) new
          (with_call log (Fail code) Done) made.1
          (called_for values e log (Fail code) Done code p.machine up tt made.0 refl),
    )

-- A stream was to be refused, and the connection hadn't failed.
was_up : (e new : End) (id code : ℕ) → CallRefuses e id code (Ok tt) new → e.failed ≡ None
was_up e new id code (inl accepted) = up_if_free e (Refuse id code) refl accepted.free
was_up e new id code (inr (free, calm, is)) = up_if_free e (Refuse id code) refl free

-- Credit that is returned fails nothing, and leaves the number of resets.
credit_failed : (test : Bool) (e : End)
    → (if test then return_credit e else e).failed ≡ e.failed
credit_failed true e = refl
credit_failed false e = refl

-- Where refusing a stream fails an end, the number of streams that it has reset stays.
resets_by : (e : End) (id code : ℕ) (fault : Option Code) (failed : Code) → e.failed ≡ None
    → (after_refuse e id code fault).failed ≡ Some failed
    → (after_refuse e id code fault).streams.resets ≡ e.streams.resets
unfolding add_unreturned
resets_by e id code (Some fault) failed up fails = refl
resets_by e id code None failed up fails =
    none_some failed (sym (credit_failed _ _ ∙ up) ∙ fails)

refused_resets : (e new : End) (id code : ℕ) (failed : Code)
    → CallRefuses e id code (Ok tt) new → e.failed ≡ None → new.failed ≡ Some failed
    → new.streams.resets ≡ e.streams.resets
unfolding after_call
refused_resets e new id code failed (inl accepted) up down =
    ap (λ (x : End). x.streams.resets) accepted.after
    ∙ resets_by e id code (refuse_fault (end_view e) code) failed up
    (sym (ap (λ (x : End). x.failed) accepted.after) ∙ down)
refused_resets e new id code failed (inr (free, calm, is)) up down =
    ap (λ (x : End). x.streams.resets) is

module _ {counts : Counts} {why : Option Why} {cutter : CutterState} {e new : End} {id code : ℕ}
  where
    -- Refusing a stream is refused.
    pub refused_shows : {refusal : Refusal} → IsTypedAct (Refuse id code)
        → CallRefuses e id code (Err refusal) new
        → (values : Values) (log : Log) → PartsRepresent values cutter counts why e log
        → (one : Answer) × (shown one ≡ Refused refusal) × MayAnswer log (Refuse id code) one
        × PartsRepresent values cutter counts why new (with_call log (Refuse id code) one)
    refused_shows {refusal} typed (free, is) values log p =
        let act : Act = Refuse id code in
        let made = represented {counts = counts} {why = why} {cutter = cutter} {limited = cutter}
        {e = e} {new = new} {act = act} {answer = Refused refusal} refl typed
        (subst (λ (x : End). PartsAnswer cutter counts e act (Refused refusal) x) (sym is)
        (condition_answers {counts = counts} cutter e act refusal typed free)) values log p in
        (Refused refusal, refl, made.0, made.1)

    -- It is done, and the connection goes on.
    pub refuse_up : IsTypedAct (Refuse id code) → CallRefuses e id code (Ok tt) new
        → new.failed ≡ None
        → (values : Values) (log : Log) → PartsRepresent values cutter counts why e log
        → (one : Answer) × (shown one ≡ Done) × MayAnswer log (Refuse id code) one
        × PartsRepresent values cutter counts why new (with_call log (Refuse id code) one)
    refuse_up typed refuses going values log p =
        let made = refusing_shows {counts = counts} (Ok tt) cutter e new id code typed refuses
        values log (fit_of values cutter counts why e log p) in
        let next : Log = with_call log (Refuse id code) made.0 in
        let up : log.failed ≡ None = sym p.machine.failed ∙ was_up e new id code refuses in (
          made.0,
          made.1,
          made.2,
          with_reason values cutter counts why new next made.3
              (why_up values log next why p.reason up (sym made.3.machine.failed ∙ going)),
        )

    -- It is done, and the connection fails.
    pub refuse_down : {failed : Code} {said : Why} → IsTypedAct (Refuse id code)
        → CallRefuses e id code (Ok tt) new → new.failed ≡ Some failed
        → said ≡ rule_of_refusal new.streams.resets failed
        → (values : Values) (log : Log) → PartsRepresent values cutter counts why e log
        → (one : Answer) × (shown one ≡ Done) × MayAnswer log (Refuse id code) one
        × PartsRepresent values cutter counts (Some said) new (with_call log (Refuse id code) one)
    refuse_down {failed} {said} typed refuses down is values log p =
        let made = refusing_shows {counts = counts} (Ok tt) cutter e new id code typed refuses
        values log (fit_of values cutter counts why e log p) in
        let next : Log = with_call log (Refuse id code) made.0 in
        let was = was_up e new id code refuses in
        let up : log.failed ≡ None = sym p.machine.failed ∙ was in
        let resets : new.streams.resets ≡ (log_view log).resets =
        refused_resets e new id code failed refuses was down
        ∙ ap (λ (view : View). view.resets) (views_alike values e log p.machine was) in
        let broken : IsWhy values next (Some (rule_of_refusal (log_view log).resets failed)) =
        called_for values e log (Refuse id code) made.0 failed p.machine up typed made.2
        (sym made.3.machine.failed ∙ down) in (
          made.0,
          made.1,
          made.2,
          with_reason values cutter counts (Some said) new next made.3
              (subst (λ (w : Why). IsWhy values next (Some w))
              (sym (is ∙ ap (λ (n : ℕ). rule_of_refusal n failed) resets)) broken),
        )
