-- A connection that is failing has failed at its server.
use Rattle.std.proofs.Common.{◌≡◌, ◌∙◌, ap, refl, sym, subst}
use Rattle.std.specs.Prelude.{◌∷◌, [], Bool, true, false, Option, Some, None, is_some}
use Rattle.h2_frame.specs.declared.code.Code.{Code}
use Rattle.h2_spec_log.specs.Acts.{Values, Act, Answer, Fail}
use Rattle.h2_spec_log.specs.CallRules.{conditions, first_of, may_fail_for_memory}
use Rattle.h2_spec_log.specs.CallRules.{may_lack_memory}
use Rattle.h2_spec_log.specs.Log.{Log}
use Rattle.h2_spec_log.specs.declared.refusal.Refusal.{Refusal}
use Rattle.h2_spec_log.specs.declared.refusal.Refusal.TheVariants.{Closed}
use Rattle.h2_spec_log.specs.LogCalls.{MayAnswer, with_call, accepts, refuses, lacks, fails}
use Rattle.h2_laws_log.proofs.LogGrowth.{grows_call}
use Rattle.h2_ends.specs.declared.end.End.{End}
use Rattle.h2_ends.specs.declared.roles.EndAs.{EndAs}
use Rattle.h2_ends.specs.Ends.{EndLog}
use Rattle.h2_ends.specs.EndTakes.{end_with_log}
use Rattle.h2_ends.specs.Represents.{EndAnswers, EndRepresents}
use Rattle.h2_server.specs.declared.connection.Connection.{Connection}
use Rattle.h2_server.specs.declared.connection.Phase.{Phase}
use Rattle.h2_server.specs.declared.connection.Phase.TheVariants.{Open, Ending, Failing, Over}
use Rattle.h2_server.specs.Connections.{FailsSo}
use Rattle.h2_server.specs.Phases.{is_phase_down, is_phase_failing, is_phase_over}

-- Whatever log the one and the other represent: if the first has failed where it is failing, so has
-- the second.
pub record KeepsFailing {H W : Type 0} (old new : Connection H W) : Type 0 where
  pub keeps : (values : Values) (end after : EndLog) → EndRepresents values old.server.end end
      → EndRepresents values new.server.end after → FailsSo old.phase end
      → FailsSo new.phase after

-- An end has failed in each log that it represents, or in none.
same_failed : (values : Values) (one : End) (end after : EndLog) → EndRepresents values one end
    → EndRepresents values one after → after.log.failed ≡ end.log.failed
same_failed values one end after is there =
    sym there.streams.conn.machine.failed ∙ is.streams.conn.machine.failed

-- What has failed stays so in each call.
still_some : (old new : Option Code) → (new ≡ None → old ≡ None) → is_some old ≡ true
    → is_some new ≡ true
still_some old (Some code) up some = refl
still_some old None up some = absurd (let none = ap is_some (up refl) in cc)

-- What is up, or closed, is not failing.
up_not_failing : (phase : Phase) → is_phase_down phase ≡ false → is_phase_failing phase ≡ true → ⊥
up_not_failing Open up failing = cc
up_not_failing (Ending why since) up failing = cc
up_not_failing (Failing why since) up failing = cc
up_not_failing (Over why) up failing = cc

over_not_failing : (phase : Phase) → is_phase_over phase ≡ true → is_phase_failing phase ≡ true
    → ⊥
over_not_failing Open over failing = cc
over_not_failing (Ending why since) over failing = cc
over_not_failing (Failing why since) over failing = cc
over_not_failing (Over why) over failing = cc

-- What is failing is down.
pub failing_down : (phase : Phase) → is_phase_failing phase ≡ true → is_phase_down phase ≡ true
failing_down Open failing = absurd (cc)
failing_down (Ending why since) failing = absurd (cc)
failing_down (Failing why since) failing = refl
failing_down (Over why) failing = absurd (cc)

-- An end that was failed has failed.
closed_first : (failed : Option Code) (refusal : Refusal)
    → first_of ((is_some failed, Closed) ∷ []) ≡ Some refusal → is_some failed ≡ true
unfolding first_of
closed_first (Some code) refusal is = refl
closed_first None refusal is = absurd (cc)

failed_by : (log : Log) (code : Code) (answer : Answer) → MayAnswer log (Fail code) answer
    → is_some (with_call log (Fail code) answer).failed ≡ true
unfolding with_call conditions may_lack_memory may_fail_for_memory
failed_by log code answer (accepts none is) =
    subst (λ (a : Answer). is_some (with_call log (Fail code) a).failed ≡ true) (sym is) refl
failed_by log code answer (refuses refusal some is) =
    subst (λ (a : Answer). is_some (with_call log (Fail code) a).failed ≡ true) (sym is)
    (closed_first log.failed refusal some)
failed_by log code answer (lacks none may is) = absurd (let no : false ≡ true = may in cc)
failed_by log code answer (fails none may is) = absurd (let no : false ≡ true = may in cc)

module _ {H W : Type 0} where
  pub up_failing : (old new : Connection H W) → is_phase_down new.phase ≡ false
      → KeepsFailing old new
  up_failing old new up = record {
    keeps = λ values end after is there so failing.
        absurd (up_not_failing new.phase up failing);
  }

  pub over_failing : (old new : Connection H W) → is_phase_over new.phase ≡ true
      → KeepsFailing old new
  over_failing old new over = record {
    keeps = λ values end after is there so failing.
        absurd (over_not_failing new.phase over failing);
  }

  -- The server is the same, at least where it is down, and so is the phase.
  pub same_failing : (old new : Connection H W)
      → (is_phase_down old.phase ≡ true → new.server ≡ old.server) → new.phase ≡ old.phase
      → KeepsFailing old new
  same_failing old new server phase = record {
    keeps = λ values end after is there so failing.
        let was = ap is_phase_failing (sym phase) ∙ failing in
        let same = server (failing_down old.phase was) in
        let back = subst (λ (s : EndAs _). EndRepresents values s.end after) same there in
        ap is_some (same_failed values old.server.end end after is back) ∙ so was;
  }

  -- A call of the server was made.
  pub call_failing : (old new : Connection H W) (act : Act) (answer : Answer)
      → EndAnswers old.server.end act answer new.server.end
      → (is_phase_failing new.phase ≡ true → is_phase_failing old.phase ≡ true)
      → KeepsFailing old new
  call_failing old new act answer answers phase = record {
    keeps = λ values end after is there so failing.
        let made = answers values end is in
        let next = end_with_log end (with_call end.log act answer) in
        ap is_some (same_failed values new.server.end next after made.1 there)
        ∙ still_some end.log.failed (with_call end.log act answer).failed
        (grows_call end.log act answer).up (so (phase failing));
  }

  -- The server was failed.
  pub fail_failing : (old new : Connection H W) (code : Code) (answer : Answer)
      → EndAnswers old.server.end (Fail code) answer new.server.end → KeepsFailing old new
  fail_failing old new code answer answers = record {
    keeps = λ values end after is there so failing.
        let made = answers values end is in
        let next = end_with_log end (with_call end.log (Fail code) answer) in
        ap is_some (same_failed values new.server.end next after made.1 there)
        ∙ failed_by end.log code answer made.0;
  }
