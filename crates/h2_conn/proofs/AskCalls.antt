-- The parts of a connection after a call, whatever log they represent.
use Rattle.h2_conn.proofs.Names.{◌≡◌, ◌≤◌, ℕ, Bool, true, false, List, ◌∷◌, length, Some, None}
use Rattle.h2_conn.proofs.Names.{Result, Ok, Err, inl, inr, IfOk, refl, sym, ap, subst, ◌∙◌}
use Rattle.h2_conn.proofs.Names.{CutterState, CutterLimited, saturated, Refusal, Memory, Values}
use Rattle.h2_conn.proofs.Names.{Act, Answer, Refused, Open, PutOut, ChangeSettings, AreInRange}
use Rattle.h2_conn.proofs.Names.{Done, most_max_frame, Log, log_view, MayAnswer, with_call}
use Rattle.h2_conn.proofs.Names.{refusal_of, View, Keeps, End, end_view, payload_limit_of}
use Rattle.h2_conn.proofs.Names.{after_call, Represents, views_alike, refusal_same, CallRefused}
use Rattle.h2_conn.proofs.Names.{CallAccepted, answer_by, PartsFit, IsTypedAct}
use Rattle.h2_conn.proofs.Names.{may_lack_memory, end_after, Counts, CountsFrames, Frame}
use Rattle.h2_spec_log.specs.CallRules.{answer_of, first_of, conditions}
use Rattle.std.proofs.Common.{IfErr, OnOk}
use Rattle.h2_spec_log.specs.LogCalls.{accepts, refuses, lacks}
use Rattle.h2_spec_log.proofs.StreamLemmas.{Keeps-call}
use Rattle.h2_laws_machine.proofs.AlikeAnswers.{answer_alike}
use Rattle.h2_laws_machine.proofs.FreshNumbers.{calls_represent}
use Rattle.h2_laws_machine.proofs.ReadLimits.{own_of_call}
use Rattle.h2_conn.proofs.AskLimits.{parts_kept}
use Rattle.h2_conn.proofs.SetLimits.{has_cut_kept, parts_limited}
use Rattle.hpack.proofs.Tests.{none_since as nothing}

-- Whatever log the parts represent: the call may have the answer, and they represent the log with
-- it.
abbrev pub PartsAnswer : CutterState → Counts → End → Act → Answer → End → Type 0
PartsAnswer cutter counts e act answer new =
    (values : Values) (log : Log) → PartsFit values cutter counts e log
    → MayAnswer log act answer × PartsFit values cutter counts new (with_call log act answer)

-- The parts represent the log with a call that may have its answer, where the end keeps its own
-- settings.
pub parts_called : {counts : Counts} (values : Values) (cutter : CutterState) (e : End) (log : Log)
    (act : Act)
    (answer : Answer) → PartsFit values cutter counts e log → IsTypedAct act
    → MayAnswer log act answer → (end_after e act answer).own ≡ e.own
    → PartsFit values cutter counts (end_after e act answer) (with_call log act answer)
parts_called values cutter e log act answer parts typed may own =
    parts_kept values cutter e (end_after e act answer) log (with_call log act answer) parts
    (Keeps-call log act answer) own
    (calls_represent values e log act answer parts.machine typed may)

-- A refusal that the machine gives, or a refused allocation, is one that the log may give.
refusal_may : (values : Values) (e new : End) (log : Log) (act : Act) (refusal : Refusal)
    → Represents values e log
    → (refusal ≡ Memory → refusal_of (end_view e) act ≡ None
    → may_lack_memory (log_view log) act ≡ true)
    → CallRefused e act refusal new → MayAnswer log act (Refused refusal)
refusal_may values e new log act refusal represents may refused =
    let same = refusal_same values e log act represents in
    elim refused.why [
      | inl why ↦ refuses refusal (sym same ∙ why) refl
      | inr (memory, free) ↦ lacks (sym same ∙ free) (may memory free) (ap Refused memory)
    ]

-- A refused call leaves the end as it is.
refused_after : (e : End) (act : Act) (refusal : Refusal) → end_after e act (Refused refusal) ≡ e
unfolding end_after
refused_after e act refusal = refl

-- A call that is refused, for memory only where the log may lack it.
pub refused_at : {counts : Counts} (values : Values) (cutter : CutterState) (e new : End)
    (log : Log) (act : Act)
    (refusal : Refusal) → PartsFit values cutter counts e log → IsTypedAct act
    → (refusal ≡ Memory → refusal_of (end_view e) act ≡ None
    → may_lack_memory (log_view log) act ≡ true)
    → CallRefused e act refusal new
    → MayAnswer log act (Refused refusal)
    × PartsFit values cutter counts new (with_call log act (Refused refusal))
refused_at {counts} values cutter e new log act refusal parts typed lacking refused =
    let may = refusal_may values e new log act refusal parts.machine lacking refused in (
      may,
      subst
          (λ (x : End). PartsFit values cutter counts x
          (with_call log act (Refused refusal)))
          (refused_after e act refusal ∙ sym refused.same)
          (parts_called values cutter e log act (Refused refusal) parts typed may
          (ap (λ (x : End). x.own) (refused_after e act refusal))),
    )

-- An accepted call makes the machine after it.
accepted_after : (e : End) (act : Act)
    → end_after e act (answer_of (end_view e) act) ≡ after_call e act
unfolding end_after
accepted_after e (Open fields end) = refl
accepted_after e act = refl

-- whether a call is the one that changes an end's own settings
abbrev pub changes_settings : Act → Bool
changes_settings (ChangeSettings values) = true
changes_settings _ = false

-- Any other leaves them as they are.
own_kept : (e : End) (act : Act) → changes_settings act ≡ false → (after_call e act).own ≡ e.own
own_kept e act other =
    own_of_call e act
    (λ values is. let wrong : changes_settings act ≡ true = ap changes_settings is in cc)

-- A call that is accepted, with the machine's answer where the log has the same.
pub accepted_with : {counts : Counts} (values : Values) (cutter : CutterState) (e new : End)
    (log : Log) (act : Act)
    (answer : Answer) → changes_settings act ≡ false → PartsFit values cutter counts e log
    → IsTypedAct act → answer ≡ answer_of (end_view e) act
    → answer_of (end_view e) act ≡ answer_of (log_view log) act
    → refusal_of (end_view e) act ≡ None → new ≡ after_call e act
    → MayAnswer log act answer × PartsFit values cutter counts new (with_call log act answer)
accepted_with {counts} values cutter e new log act answer keeps parts typed is alike free after =
    let may : MayAnswer log act answer =
    accepts (sym (refusal_same values e log act parts.machine) ∙ free) (is ∙ alike) in
    let called : end_after e act answer ≡ after_call e act =
    ap (λ (x : Answer). end_after e act x) is ∙ accepted_after e act in (
      may,
      subst (λ (x : End). PartsFit values cutter counts x (with_call log act answer))
          (called ∙ sym after)
          (parts_called values cutter e log act answer parts typed may
          (ap (λ (x : End). x.own) called ∙ own_kept e act keeps)),
    )

-- Where none of some conditions holds, the first doesn't.
first_fails : (refusal : Refusal) (others : List (Bool × Refusal)) (test : Bool)
    → first_of ((test, refusal) ∷ others) ≡ None → test ≡ false
unfolding first_of
first_fails refusal others true free = cc
first_fails refusal others false free = refl

-- whether a call is the one that a failed connection takes
abbrev pub puts_out : Act → Bool
puts_out (PutOut count) = true
puts_out _ = false

-- Where no condition refuses another call, the connection hasn't failed.
pub up_if_free : (e : End) (act : Act) → puts_out act ≡ false
    → refusal_of (end_view e) act ≡ None → e.failed ≡ None
unfolding conditions
up_if_free e (PutOut count) other free = cc
up_if_free e act other free = nothing _ (first_fails _ _ _ free)

-- A machine that hasn't failed may lack memory for a call just where its log may.
lacks_alike : (values : Values) (e : End) (log : Log) (act : Act) → Represents values e log
    → e.failed ≡ None → may_lack_memory (end_view e) act ≡ may_lack_memory (log_view log) act
unfolding may_lack_memory
lacks_alike values e log act represents up =
    ap (λ (view : View). may_lack_memory view act) (views_alike values e log represents up)

-- A call that is refused, and doesn't put output out, for memory only where the machine may lack
-- it.
pub refused_answers : {counts : Counts} (cutter : CutterState) (e new : End) (act : Act)
    (refusal : Refusal)
    → puts_out act ≡ false → IsTypedAct act
    → (refusal ≡ Memory → may_lack_memory (end_view e) act ≡ true)
    → CallRefused e act refusal new → PartsAnswer cutter counts e act (Refused refusal) new
refused_answers cutter e new act refusal other typed lacking refused values log parts =
    refused_at values cutter e new log act refusal parts typed
    (λ memory free. sym (lacks_alike values e log act parts.machine (up_if_free e act other free))
    ∙ lacking memory) refused

-- A call that is accepted, and doesn't put output out or change settings.
pub accepted_answers : {counts : Counts} (cutter : CutterState) (e new : End) (act : Act)
    (answer : Answer)
    → puts_out act ≡ false → changes_settings act ≡ false → IsTypedAct act
    → answer ≡ answer_of (end_view e) act → CallAccepted e act new
    → PartsAnswer cutter counts e act answer new
accepted_answers cutter e new act answer other keeps typed is accepted values log parts =
    accepted_with values cutter e new log act answer keeps parts typed is
    (answer_alike values e log act parts.machine (up_if_free e act other accepted.free))
    accepted.free accepted.after

-- A call's answer by its result, where its value is the machine's answer.
pub answers_by : {counts : Counts} {A : Type 0} (answered : A → Answer) (result : Result A Refusal)
    (cutter : CutterState) (e new : End) (act : Act) → puts_out act ≡ false
    → changes_settings act ≡ false → IsTypedAct act
    → (result ≡ Err Memory → may_lack_memory (end_view e) act ≡ true)
    → IfOk result (λ value. (answered value ≡ answer_of (end_view e) act)
    × CallAccepted e act new)
    → IfErr result (λ refusal. CallRefused e act refusal new)
    → PartsAnswer cutter counts e act (answer_by answered result) new
answers_by answered (Ok value) cutter e new act other keeps typed lacking ok err =
    accepted_answers cutter e new act (answered value) other keeps typed ok.0 ok.1
answers_by answered (Err refusal) cutter e new act other keeps typed lacking ok err =
    refused_answers cutter e new act refusal other typed (λ memory. lacking (ap Err memory)) err

-- The same of calls whose answer is that they are done.
pub done_by : {counts : Counts} {A : Type 0} (answer : Answer) (result : Result A Refusal)
    (cutter : CutterState) (e new : End) (act : Act) → puts_out act ≡ false
    → changes_settings act ≡ false → IsTypedAct act
    → (result ≡ Err Memory → may_lack_memory (end_view e) act ≡ true)
    → answer ≡ answer_of (end_view e) act
    → OnOk result (CallAccepted e act new)
    → IfErr result (λ refusal. CallRefused e act refusal new)
    → PartsAnswer cutter counts e act (answer_by (λ done. answer) result) new
done_by answer (Ok value) cutter e new act other keeps typed lacking is ok err =
    accepted_answers cutter e new act answer other keeps typed is ok
done_by answer (Err refusal) cutter e new act other keeps typed lacking is ok err =
    refused_answers cutter e new act refusal other typed (λ memory. lacking (ap Err memory)) err

-- A change of settings that is accepted, once the cutter has the limit that is in force.
pub change_answers : {counts : Counts} (cutter limited : CutterState) (e new : End)
    (changed : Values)
    → AreInRange changed → CallAccepted e (ChangeSettings changed) new
    → CutterLimited cutter (payload_limit_of new.own) limited
    → payload_limit_of new.own ≤ most_max_frame → (values : Values) (log : Log)
    → PartsFit values cutter counts e log
    → MayAnswer log (ChangeSettings changed) Done
    × PartsFit values limited counts new (with_call log (ChangeSettings changed) Done)
unfolding IsTypedAct
change_answers {counts} cutter limited e new changed in_range accepted set within values log
    parts =
    let act : Act = ChangeSettings changed in
    let next : Log = with_call log act Done in
    let may : MayAnswer log act Done =
    accepts (sym (refusal_same values e log act parts.machine) ∙ accepted.free)
    (answer_alike values e log act parts.machine (up_if_free e act refl accepted.free)) in
    let keeps : Keeps log next = Keeps-call log act Done in
    let machine : Represents values new next =
    subst (λ (x : End). Represents values x next) (accepted_after e act ∙ sym accepted.after)
    (calls_represent values e log act Done parts.machine in_range may) in (
      may,
      parts_limited values cutter limited new next machine
          (λ up. has_cut_kept values cutter e log next parts keeps up)
          (parts.place
          ∙ sym (ap (λ (input : List ℕ). saturated (length input)) keeps.input)) set
          (λ up. within)
          (subst (λ (frames : List Frame). CountsFrames counts frames) (sym keeps.frames)
          parts.counted),
    )

-- A call that is refused for the first condition that holds, such as that the connection has
-- failed.
pub condition_answers : {counts : Counts} (cutter : CutterState) (e : End) (act : Act)
    (refusal : Refusal)
    → IsTypedAct act → refusal_of (end_view e) act ≡ Some refusal
    → PartsAnswer cutter counts e act (Refused refusal) e
condition_answers {counts} cutter e act refusal typed why values log parts =
    let may : MayAnswer log act (Refused refusal) =
    refuses refusal (sym (refusal_same values e log act parts.machine) ∙ why) refl in (
      may,
      subst
          (λ (x : End). PartsFit values cutter counts x
          (with_call log act (Refused refusal)))
          (refused_after e act refusal)
          (parts_called values cutter e log act (Refused refusal) parts typed may
          (ap (λ (x : End). x.own) (refused_after e act refusal))),
    )

-- What is said of a value, in another form.
pub value_as : {A : Type 0} (X Y : A → Type 0) (P : Type 0) (result : Result A Refusal)
    → ((value : A) → X value → Y value) → IfOk result (λ value. X value × P)
    → IfOk result (λ value. Y value × P)
value_as X Y P (Ok value) says ok = (says value ok.0, ok.1)
value_as X Y P (Err refusal) says ok = ok
