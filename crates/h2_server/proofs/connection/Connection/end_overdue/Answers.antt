use Rattle.std.proofs.Common.{refl}
use Rattle.h2_server.proofs.ConnectionSteps.{own_same}
use Rattle.std.proofs.Common.{Some, ◌∙◌, ap, sym}
use Rattle.h2_frame.specs.declared.code.Code.TheVariants.{EnhanceYourCalm, SettingsTimeout}
use Rattle.h2_server.specs.declared.deadlines.Timeout.TheVariants as timeouts
use Rattle.h2_server.proofs.FailingCodes.{late_other, late_with}
use Rattle.h2_server.proofs.connection.Connection.end_overdue.Goals as goal

pub returns-in_default-clause-makes : goal.returns-in_default-clause-makes
returns-in_default-clause-makes g c = own_same _ _ refl refl refl (λ is. is)

pub returns-in-Opening-clause-late : goal.returns-in-Opening-clause-late
returns-in-Opening-clause-late g c =
    late_with timeouts.Opening SettingsTimeout _ c.args.self.now c.fail.new.self
    (sym c.overdue.ensures ∙ c.in-Some.is ∙ ap Some c.in-Opening.is) refl c.fail.ensures.failed

pub returns-in_default-late-clause-late : goal.returns-in_default-late-clause-late
returns-in_default-late-clause-late g c =
    late_with c.in-Some.late EnhanceYourCalm _ c.args.self.now c.fail-in_default-late.new.self
    (sym c.overdue.ensures ∙ c.in-Some.is)
    (late_other c.in-Some.late c.in_default-late.not-Opening)
    c.fail-in_default-late.ensures.failed
