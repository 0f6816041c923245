-- The parts of a connection after a stream is refused.
use Rattle.h2_conn.proofs.Names.{◌≡◌, ℕ, not, is_some, Option, None, Result, Ok, Err, inl, inr}
use Rattle.h2_conn.proofs.Names.{refl, sym, ap, subst, ◌∙◌, Code, InternalError, CutterState}
use Rattle.h2_conn.proofs.Names.{Refusal, Values, Act, Answer, IsTypedAct, Refuse, Done, Refused}
use Rattle.h2_conn.proofs.Names.{refusal_of, Log, log_view, MayAnswer, with_call, View, End}
use Rattle.h2_conn.proofs.Names.{end_view, fail, views_alike, refusal_same, CallRefuses, answer_by}
use Rattle.h2_conn.proofs.Names.{PartsFit, end_after, Counts}
use Rattle.h2_spec_log.specs.Acts.{OutOfMemory, shown}
use Rattle.h2_spec_log.specs.CallRules.{refuse_fault, may_fail_for_memory}
use Rattle.h2_spec_log.specs.LogCalls.{fails}
use Rattle.h2_conn.proofs.AskCalls.{PartsAnswer, accepted_answers, condition_answers, parts_called}
use Rattle.h2_conn.proofs.AskCalls.{up_if_free}

-- Whatever log the parts represent: the call may have an answer that shows this one, and they
-- represent the log with it.
abbrev pub PartsShow : CutterState → Counts → End → Act → Answer → End → Type 0
PartsShow cutter counts e act answer new =
    (values : Values) (log : Log) → PartsFit values cutter counts e log
    → (one : Answer) × (shown one ≡ answer) × MayAnswer log act one
    × PartsFit values cutter counts new (with_call log act one)

-- An answer shows itself.
shows_own : {counts : Counts} (cutter : CutterState) (e new : End) (act : Act)
    (one answer : Answer)
    → shown one ≡ answer → PartsAnswer cutter counts e act one new
    → PartsShow cutter counts e act answer new
shows_own cutter e new act one answer is answers values log parts =
    let made = answers values log parts in (one, is, made.0, made.1)

-- Where the stream was to be reset, and an allocation was refused, the connection fails.
failing_answers : {counts : Counts} (cutter : CutterState) (e new : End) (id code : ℕ)
    → IsTypedAct (Refuse id code)
    → refusal_of (end_view e) (Refuse id code) ≡ None → refuse_fault (end_view e) code ≡ None
    → new ≡ fail InternalError e.streams.last_processed e
    → PartsAnswer cutter counts e (Refuse id code) OutOfMemory new
unfolding may_fail_for_memory refuse_fault end_after
failing_answers {counts} cutter e new id code typed free calm is values log parts =
    let act = Refuse id code in
    let up : e.failed ≡ None = up_if_free e act refl free in
    let none : refuse_fault (log_view log) code ≡ None =
    sym (ap (λ (view : View). refuse_fault view code)
    (views_alike values e log parts.machine up)) ∙ calm in
    let may : MayAnswer log act OutOfMemory =
    fails (sym (refusal_same values e log act parts.machine) ∙ free)
    (ap (λ (fault : Option Code). not (is_some fault)) none) refl in (
      may,
      subst (λ (x : End). PartsFit values cutter counts x (with_call log act OutOfMemory))
          (sym is)
          (parts_called values cutter e log act OutOfMemory parts typed may refl),
    )

-- What it shows.
pub refusing_shows : {counts : Counts} (result : Result Unit Refusal) (cutter : CutterState)
    (e new : End)
    (id code : ℕ) → IsTypedAct (Refuse id code) → CallRefuses e id code result new
    → PartsShow cutter counts e (Refuse id code) (answer_by (λ done. Done) result) new
refusing_shows (Ok done) cutter e new id code typed (inl accepted) =
    shows_own cutter e new (Refuse id code) Done Done refl
    (accepted_answers cutter e new (Refuse id code) Done refl refl typed refl accepted)
refusing_shows (Ok done) cutter e new id code typed (inr (free, calm, is)) =
    shows_own cutter e new (Refuse id code) OutOfMemory Done refl
    (failing_answers cutter e new id code typed free calm is)
refusing_shows {counts} (Err refusal) cutter e new id code typed (why, is) =
    shows_own cutter e new (Refuse id code) (Refused refusal) (Refused refusal) refl
    (subst (λ (x : End). PartsAnswer cutter counts e (Refuse id code) (Refused refusal) x) (sym is)
    (condition_answers cutter e (Refuse id code) refusal typed why))
