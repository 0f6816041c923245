use Rattle.std.proofs.Common.{◌∙◌, ap, inl, inr, refl, sym}
use Rattle.std.proofs.lemmas.Bool.{false≢true}
use Rattle.h2_server.specs.Exchanges.{handling_of}
use Rattle.h2_server.specs.Phases.{is_phase_down}
use Rattle.h2_server.specs.declared.connection.Phase.TheVariants as phases
use Rattle.h2_server.proofs.FailingPhase.{call_failing, up_failing}
use Rattle.h2_server.proofs.ConnectionSteps.{handles_then, own_handles, own_same}
use Rattle.h2_server.proofs.StepsMade.{called_handles}
use Rattle.h2_server.proofs.Changed.{away_done, away_refused}
use Rattle.h2_server.proofs.FailingCodes.{away_up_so, down_up_so}
use Rattle.h2_server.proofs.connection.Connection.go_away.Goals.{in-Open, in_default}
use Rattle.h2_server.proofs.connection.Connection.go_away.Goals as goal

pub returns-then-not-matches-clause-makes : goal.returns-then-not-matches-clause-makes
returns-then-not-matches-clause-makes g c = own_same _ _ refl refl refl (λ is. is)

pub returns-then-is_err-clause-makes : goal.returns-then-is_err-clause-makes
returns-then-is_err-clause-makes g c =
    handles_then _ _ _
    (called_handles (handling_of c.args.self.now.exchanges) tt c.go_away.ensures) refl
    (call_failing _ _ _ _ c.go_away.ensures (λ is. is))
    c.fail.ensures.makes

pub returns-clause-makes : goal.returns-clause-makes
returns-clause-makes g c =
    own_handles _ _ (called_handles (handling_of c.args.self.now.exchanges) tt c.go_away.ensures)
    (inl refl) (up_failing _ _ refl)

pub returns-then-is_err-clause-goes_away : goal.returns-then-is_err-clause-goes_away
returns-then-is_err-clause-goes_away g c =
    λ was.
    let (refusal, refused) = away_refused c.go_away.result
    (sym c.is_err.ensures.value ∙ c.if-is_err.true) c.go_away.ensures in inr (
      ap is_phase_down c.fail.ensures.phase,
      record {
        refusal = refusal;
        mid = c.go_away.new.self.end;
        refused = refused;
        answer = c.fail.ensures.failed.0;
        failed = c.fail.ensures.failed.1;
      },
    )

pub returns-clause-goes_away : goal.returns-clause-goes_away
returns-clause-goes_away g c =
    λ was. inl (
      away_done c.go_away.result (sym c.is_err.ensures.value ∙ c.if-is_err.false)
          c.go_away.ensures,
      refl,
    )

pub returns-then-not-matches-clause-kept : goal.returns-then-not-matches-clause-kept
returns-then-not-matches-clause-kept g c = inr refl

pub returns-then-is_err-clause-kept : goal.returns-then-is_err-clause-kept
returns-then-is_err-clause-kept g c = inl (ap is_phase_down c.fail.ensures.phase)

pub returns-clause-kept : goal.returns-clause-kept
returns-clause-kept g c = inr refl

pub returns-then-not-matches-clause-up : goal.returns-then-not-matches-clause-up
returns-then-not-matches-clause-up g c = λ values end is up. up

pub returns-then-is_err-clause-up : goal.returns-then-is_err-clause-up
returns-then-is_err-clause-up g c =
    down_up_so c.args.self.now c.fail.new.self (ap is_phase_down c.fail.ensures.phase)

pub returns-clause-up : goal.returns-clause-up
returns-clause-up g c =
    let old = c.args.self.now in
    away_up_so old (record old {
      server = c.go_away.new.self;
      phase = phases.Ending c.args.why old.watch.time;
    })
    (away_done c.go_away.result (sym c.is_err.ensures.value ∙ c.if-is_err.false)
    c.go_away.ensures) (elim c.match-matches.branch [
      | in-Open w ↦ ap is_phase_down w.in-Open.is
      | in_default w ↦ absurd (false≢true (sym w.matches-is ∙ c.if-not-matches.false))
    ])
