-- The status reports the octets, and the lines show them.
use Rattle.h2_show.proofs.Names.{[], begins_with_preface, limits_of}
use Rattle.h2_show.proofs.InputLemmas.{end_shown, error_shown}
use Rattle.h2_show.proofs.ReportLemmas.{end_reports_after, error_reports_after}
use Rattle.h2_show.proofs.show.show_all.Goals as goal

pub returns-in-Ok-clause-reports : goal.returns-in-Ok-clause-reports
returns-in-Ok-clause-reports g c =
    end_reports_after (begins_with_preface c.args.options.from) (limits_of c.args.options) _
    c.show_piece.new.self.cutter _ c.show_piece.new.self.blocks [] c.args.octets.now
    c.in_ok-status-in-Ok.status c.in_ok-viewer.ensures.represents c.in-Ok.ensures.ok
    c.in_ok-status-in-Ok.ensures.status

pub returns-in-Ok-clause-shows : goal.returns-in-Ok-clause-shows
returns-in-Ok-clause-shows g c =
    let (printed, written, prints) = c.in-Ok.ensures.shown in
    end_shown c.args.options _ c.show_piece.new.self.cutter _ c.show_piece.new.self.blocks _ _ _ _ _
    _ _ _ _ c.args.octets.now printed c.in_ok-status-in-Ok.status c.in_ok-viewer.ensures.style
    c.in_ok-viewer.ensures.first c.show_piece.ensures.style c.in_ok-viewer.ensures.shows written
    prints c.in_ok-status-in-Ok.ensures.status c.in_ok-status-in-Ok.ensures.lines

pub returns-clause-reports : goal.returns-clause-reports
returns-clause-reports g c =
    error_reports_after (begins_with_preface c.args.options.from) (limits_of c.args.options) _
    c.show_piece.new.self.cutter _ [] c.args.octets.now c.in-Err.error
    c.in_ok-status-in-Err.status c.in_ok-viewer.ensures.represents c.in-Err.ensures.err
    c.in_ok-status-in-Err.ensures.status

pub returns-clause-shows : goal.returns-clause-shows
returns-clause-shows g c =
    let known = c.in_ok-status-in-Err.ensures.status in
    let (printed, written, fails) = c.in-Err.ensures.fault known.1 in
    error_shown c.args.options _ c.show_piece.new.self.cutter _ _ _ _ _ _ _ _ _ _ c.args.octets.now
    printed c.in-Err.error c.in_ok-status-in-Err.status c.in_ok-viewer.ensures.style
    c.in_ok-viewer.ensures.first c.show_piece.ensures.style c.in_ok-viewer.ensures.shows written fails known.0
    c.in_ok-status-in-Err.ensures.lines
