-- The parts of a connection after output is put out, and that its octets are the log's next ones.
use Rattle.h2_conn.proofs.Names.{◌≡◌, ℕ, suc, ◌+◌, ◌++◌, min, nat_lt, Bool, true, false, ◌||◌, List}
use Rattle.h2_conn.proofs.Names.{length, take, drop, Option, Some, None, Result, Ok, Err, inr, IfOk}
use Rattle.h2_conn.proofs.Names.{refl, sym, ap, ◌∙◌, arith, Code, CutterState, Refusal, Memory}
use Rattle.h2_conn.proofs.Names.{Values, PutOut, Count, returns_before_put_out, Log, log_view, End}
use Rattle.h2_conn.proofs.Names.{end_view, Represents, waiting_alike, Consumes, answer_by, Counts}
use Rattle.h2_conn.proofs.Names.{never_refused, may_lack_memory, with_call, IsTypedAct, after_call}
use Rattle.h2_conn.proofs.Names.{before_put_out_at, return_credit, if◌then◌else◌, not, rules}
use Rattle.h2_core.specs.Readers.{PutsOut}
use Rattle.h2_spec_log.specs.CallRules.{encoder_after_call}
use Rattle.h2_spec_log.specs.LogCalls.{called, before_put_out}
use Rattle.std.proofs.Common.{zero, IfErr, IsOk, ◌&&◌}
use Rattle.std.proofs.lemmas.Bool.{lt-ltb}
use Rattle.std.proofs.lemmas.List.{drop-take}
use Rattle.h2_spec_log.specs.Log.{released, widened}
use Rattle.h2_laws_machine.proofs.AlikeAnswers.{put_out_alike}
use Rattle.h2_laws_machine.proofs.CallWithoutStream.{ready_given, ready_failed_at, ready_failed}
use Rattle.h2_laws_machine.proofs.RepresentedSteps.{up_of, called_up, ready_up}
use Rattle.h2_conn.proofs.AskCalls.{PartsAnswer, refused_at, accepted_with}
use Rattle.h2_conn.proofs.AskMemory.{returns_alike}

module _ (values : Values) (e : End) where
  -- What is queued once an end is ready to put output out is what its log has written by then, by
  -- whether it has failed.
  ready_waits_by : (log : Log) (count given : ℕ) (failed : Option Code) → e.failed ≡ failed
      → Represents values e log
      → (before_put_out_at e).output.waiting ≡ drop log.given
      (before_put_out (called log (PutOut count) (Count given))).written
  unfolding encoder_after_call released widened
  ready_waits_by log count given None up represents =
      let base = called log (PutOut count) (Count given) in
      let made = ready_up e base (called_up e log (PutOut count) (Count given) refl (λ i. refl)
      refl (up_of values e log represents up)) in
      made.waits.waiting ∙ ap (λ (k : ℕ). drop k (before_put_out base).written) (ready_given base)
  ready_waits_by log count given (Some code) failed represents =
      let base = called log (PutOut count) (Count given) in
      ap (λ (x : End). x.output.waiting) (ready_failed_at e code failed) ∙ represents.output.waiting
      ∙ ap (λ (x : Log). drop log.given x.written)
      (sym (ready_failed base code (sym represents.failed ∙ failed)))

  -- What is queued then is what its log has written and not put out.
  ready_waits : (log : Log) (count given : ℕ) → Represents values e log
      → (before_put_out_at e).output.waiting ≡ drop log.given
      (with_call log (PutOut count) (Count given)).written
  unfolding with_call
  ready_waits log count given represents = ready_waits_by log count given e.failed refl represents

  -- The octets that are put out are the next ones of the log's output.
  pub given_out : (new : End) (log : Log) (count given : ℕ) (before after : List ℕ)
      → Represents values e log → PutsOut e count given before after new
      → after ≡ before ++ drop log.given (take (log.given + given)
      (with_call log (PutOut count) (Count given)).written)
  given_out new log count given before after represents puts = puts.octets
      ∙ ap (λ (octets : List ℕ). before ++ take given octets)
      (ready_waits log count given represents) ∙ ap (λ (octets : List ℕ). before ++ octets)
      (sym (drop-take log.given given (with_call log (PutOut count) (Count given)).written))

-- What is said of a value, in another form.
pub ok_as : {A : Type 0} (X Y : A → Type 0) (result : Result A Refusal)
    → ((value : A) → X value → Y value) → IfOk result X → IfOk result Y
ok_as X Y (Ok value) says ok = says value ok
ok_as X Y (Err refusal) says ok = ok

-- What was put out is consumed, and a refusal leaves the end as it was.
pub consumed_by : (result : Result ℕ Refusal) (e new : End) (count : ℕ) (before after : List ℕ)
    → IfOk result (λ given. PutsOut e count given before after new)
    → IfOk result (λ given. Consumes e count given new)
consumed_by result e new count before after = ok_as _ _ result (λ given puts. puts.consumed)

pub same_by : {A : Type 0} (result : Result A Refusal) (e new : End) (kept : Type 0)
    → IfErr result (λ refusal. (refusal ≡ Memory) × kept × (new ≡ e))
    → IfErr result (λ refusal. (refusal ≡ Memory) × (new ≡ e))
same_by (Ok value) e new kept err = err
same_by (Err refusal) e new kept (memory, is, same) = (memory, same)

-- Where it needs no memory unless something is returned first or put out, memory is refused to it
-- only then.
pub lacks_by : (result : Result ℕ Refusal) (returns : Bool) (most : ℕ)
    → (returns ≡ false → most ≡ 0 → IsOk result) → result ≡ Err Memory
    → (returns || nat_lt 0 most) ≡ true
lacks_by result true most nothing is = refl
lacks_by result false zero nothing is = search rules
lacks_by result false (suc most) nothing is = lt-ltb 0 (suc most) (omega arith)

-- It may lack memory at a machine just where it may at its log.
put_out_lacks_alike : (values : Values) (e : End) (log : Log) (count : ℕ) → Represents values e log
    → may_lack_memory (end_view e) (PutOut count) ≡ may_lack_memory (log_view log) (PutOut count)
unfolding may_lack_memory
put_out_lacks_alike values e log count represents =
    ap (λ (returns : Bool). returns || nat_lt 0 (min count (length e.output.waiting)))
    (returns_alike values e log represents)
    ∙ ap (λ (waits : ℕ). returns_before_put_out (log_view log) || nat_lt 0 (min count waits))
    (waiting_alike values e log represents)

-- The call's answer.
pub put_out_answers : {counts : Counts} (result : Result ℕ Refusal) (cutter : CutterState)
    (e new : End) (count : ℕ)
    → IsTypedAct (PutOut count)
    → (result ≡ Err Memory → may_lack_memory (end_view e) (PutOut count) ≡ true)
    → IfOk result (λ given. Consumes e count given new)
    → IfErr result (λ refusal. (refusal ≡ Memory) × (new ≡ e))
    → PartsAnswer cutter counts e (PutOut count) (answer_by (λ given. Count given) result) new
put_out_answers (Ok given) cutter e new count typed lacking ok err values log parts =
    accepted_with values cutter e new log (PutOut count) (Count given) refl parts typed ok.answer
    (put_out_alike values e log count parts.machine) (never_refused e count) ok.machine
put_out_answers (Err refusal) cutter e new count typed lacking ok (memory, same) values log
    parts =
    refused_at values cutter e new log (PutOut count) refusal parts typed
    (λ lacks free. sym (put_out_lacks_alike values e log count parts.machine)
    ∙ lacking (ap Err memory))
    (record { why = inr (memory, never_refused e count); same = same })

-- Where 0 octets are to be consumed, the answer is that of putting out 0;
pub ready_consumes : {counts : Counts} (result : Result ℕ Refusal) (cutter : CutterState)
    (e new : End)
    → (returns_before_put_out (end_view e) ≡ false → IsOk result)
    → IfOk result (λ given. Consumes e 0 given new)
    → IfErr result (λ refusal. (refusal ≡ Memory) × (new ≡ e))
    → PartsAnswer cutter counts e (PutOut 0) (answer_by (λ given. Count given) result) new
unfolding IsTypedAct may_lack_memory
ready_consumes result cutter e new nothing ok err =
    put_out_answers result cutter e new 0 (omega arith)
    (lacks_by result (returns_before_put_out (end_view e)) (min 0 (length e.output.waiting))
    (λ none few. nothing none)) ok err

-- none are consumed;
pub ready_answers : {counts : Counts} (result : Result ℕ Refusal) (given : ℕ)
    (cutter : CutterState) (e new : End)
    → result ≡ Ok given → IfOk result (λ given. Consumes e 0 given new)
    → PartsAnswer cutter counts e (PutOut 0) (answer_by (λ given. Count given) result) new
    → PartsAnswer cutter counts e (PutOut 0) (Count 0) new
ready_answers (Ok given) other cutter e new is ok answers = search rules
ready_answers (Err refusal) other cutter e new is ok answers = cc

-- and nothing is to be returned any more.
no_credit : (failed few : Bool) → (not failed && (nat_lt 0 0 && few)) ≡ false
no_credit true few = refl
no_credit false few = refl

none_returned : (e : End) (returns : Bool) → returns_before_put_out (end_view e) ≡ returns
    → returns_before_put_out (end_view (if returns then return_credit e else e)) ≡ false
none_returned e true is = search rules
none_returned e false is = is

pub ready_returned : (e new : End) (given : ℕ) → Consumes e 0 given new
    → returns_before_put_out (end_view new) ≡ false
unfolding after_call before_put_out_at
ready_returned e new given consumes = search rules
