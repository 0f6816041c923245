-- Each return, by how the client was driven.
use Rattle.h2_engines.proofs.Names.{Bool, refl, ◌∙◌, err_from_is_err_and, message_value, Fetched}
use Rattle.h2_engines.proofs.FetchEnds.{ends_at_once, drive_fetches, drive_not_cut, drive_cut_off}
use Rattle.h2_engines.proofs.FetchEnds.{drive_whole, fetched_not_cut}
use Rattle.h2_engines.proofs.MachineDrives.{failures_same}
use Rattle.h2_engines.proofs.MachineViews.{met, fails_none}
use Rattle.h2_link.specs.declared.error.LinkError.TheVariants as errors
use Rattle.h2_engines.proofs.fetch.fetch_link_why.Goals as goal

pub returns-in_err-fetcher-clause-fetches : goal.returns-in_err-fetcher-clause-fetches
returns-in_err-fetcher-clause-fetches g c =
    let answer = err_from_is_err_and c.from_residual.result c.from_residual.ensures.1 in
    rw (answer.1, answer.2) (ends_at_once (message_value c.args.message) _
    c.in_err-fetcher.field-0.0 c.args.config.in_range c.in_err-fetcher.ensures.refused)

pub returns-in-Err : goal.returns-in-Err
returns-in-Err g c = record {
  fetches = drive_fetches _ _ c.drive-driven.new.machine c.args.config.in_range
      c.in_ok-fetcher.ensures.unfinished c.in_ok-fetcher.ensures.ok c.in-Err.error _
      (rw c.conn.ensures at c.why.ensures.why) c.in-Err.ensures.drives;
  cut_off = drive_not_cut _ _ c.drive-driven.new.machine c.args.config.in_range
      c.in_ok-fetcher.ensures.unfinished c.in_ok-fetcher.ensures.ok c.in-Err.error _
      c.in-Err.ensures.drives;
  failures = c.in-Err.ensures.failures ∙ failures_same Bool Fetched _ c.in-Err.error;
}

pub returns-in-Ok-true : goal.returns-in-Ok-true
returns-in-Ok-true g c = record {
  fetches = drive_whole _ _ c.drive-driven.new.machine c.args.config.in_range
      c.in_ok-fetcher.ensures.unfinished c.in_ok-fetcher.ensures.ok c.in-Ok-true.field-0
      c.into_fetched.result _ (rw c.conn.ensures at c.why.ensures.why) c.in-Ok-true.field-0-test
      c.in-Ok-true.ensures.drives c.into_fetched.ensures.ok c.into_fetched.ensures.none;
  cut_off = fetched_not_cut c.into_fetched.result _ c.into_fetched.ensures.err;
  failures = c.in-Ok-true.ensures.failures ∙ fails_none Fetched _ errors.NoProgress
      c.into_fetched.result refl c.into_fetched.ensures.err;
}

pub returns-in-Ok-false-clause-fetches : goal.returns-in-Ok-false-clause-fetches
returns-in-Ok-false-clause-fetches g c =
    drive_cut_off _ _ c.drive-driven.new.machine c.args.config.in_range
    c.in_ok-fetcher.ensures.unfinished c.in_ok-fetcher.ensures.ok c.in-Ok-false.field-0 _
    (rw c.conn.ensures at c.why.ensures.why) c.in-Ok-false.field-0-test
    c.in-Ok-false.ensures.drives

pub returns-in-Ok-false-clause-cut_off : goal.returns-in-Ok-false-clause-cut_off
returns-in-Ok-false-clause-cut_off g c =
    met c.in-Ok-false.field-0 _ c.in-Ok-false.field-0-test c.in-Ok-false.ensures.ended
