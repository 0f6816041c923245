-- Each return, by how the server was driven.
use Rattle.h2_engines.proofs.Names.{ℕ, Bool, refl, ◌∙◌, err_from_is_err_and}
use Rattle.h2_engines.proofs.MachineDrives.{failures_same}
use Rattle.h2_engines.proofs.MachineViews.{met, fails_none}
use Rattle.h2_engines.proofs.ServeEnds.{none_serves, drive_serves, drive_not_cut, finish_serves}
use Rattle.h2_engines.proofs.ServeEnds.{finish_ended, may_serve, ends_at_end, cuts_at_end, errs_cut}
use Rattle.h2_link.specs.declared.error.LinkError.TheVariants as errors
use Rattle.h2_engines.proofs.serve.serve_link_why.Goals as goal

pub returns-in_err-responder-clause-serves : goal.returns-in_err-responder-clause-serves
returns-in_err-responder-clause-serves g c =
    let answer = err_from_is_err_and c.from_residual.result c.from_residual.ensures.1 in
    rw (answer.1, answer.2) (none_serves _ c.args.config.in_range c.in_err-responder.ensures.err)

pub returns-in_err-driven : goal.returns-in_err-driven
returns-in_err-driven g c =
    let answer = err_from_is_err_and c.from_residual-in_err-driven.result
    c.from_residual-in_err-driven.ensures.1 in
    rw (answer.1, answer.2) (record {
      serves = drive_serves _ _ c.drive-driven.new.machine c.in_ok-responder.ensures.alone
          c.in_err-driven.field-0.0 _ (rw c.conn.ensures at c.why.ensures.why)
          c.in_err-driven.ensures.drives;
      ended = tt;
      cut_off = drive_not_cut _ _ c.drive-driven.new.machine c.in_ok-responder.ensures.alone
          c.in_err-driven.field-0.0 _ c.in_err-driven.ensures.drives;
      failures = c.in_err-driven.ensures.failures
          ∙ failures_same Bool ℕ _ c.in_err-driven.field-0.0;
      err = may_serve c.in_err-driven.field-0.0 c.in_err-driven.ensures.err;
    })

pub returns : goal.returns
returns g c =
    let ended = met c.in_ok-driven.field-0 _ (finish_ended _ _ c.drive-driven.new.machine
    c.in_ok-responder.ensures.alone c.in_ok-driven.field-0 c.in_ok-driven.ensures.drives)
    c.in_ok-driven.ensures.ended in
    record {
      serves = finish_serves _ _ c.drive-driven.new.machine c.in_ok-responder.ensures.alone
          c.in_ok-driven.field-0 c.finish-finished.result _
          (rw c.conn.ensures at c.why.ensures.why) c.in_ok-driven.ensures.drives
          c.finish-finished.ensures.finishes;
      ended = ends_at_end c.finish-finished.result ended;
      cut_off = cuts_at_end c.finish-finished.result ended;
      failures = c.in_ok-driven.ensures.failures
          ∙ fails_none ℕ _ errors.CutOff c.finish-finished.result refl c.finish-finished.ensures.err;
      err = errs_cut c.finish-finished.result c.finish-finished.ensures.err;
    }
