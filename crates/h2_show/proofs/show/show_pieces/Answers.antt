-- The status reports all octets that the reader had, and the lines show them.
use Rattle.h2_show.proofs.Names.{rules, [], refl, ◌∙◌, Consumes-trans}
use Rattle.h2_show.proofs.InputLemmas.{end_shows_all, error_shows_all}
use Rattle.h2_show.proofs.PieceLemmas.{prints_none, prints_append}
use Rattle.h2_show.proofs.StyleLemmas.{lines_none, lines_trans, lines_styled}
use Rattle.h2_show.proofs.ViewerLemmas.{continues_nothing, continues_append}
use Rattle.h2_show.proofs.ReportLemmas.{end_reports_all, error_reports_all}
use Rattle.h2_show.proofs.show.show_pieces.Goals as goal

pub loop-init : goal.loop-init
loop-init g c = (
  [],
  search rules,
  continues_nothing _ _,
  ([], lines_none c.args.viewer.now.printer.style _ _, prints_none _ _ _),
  c.requires.written,
  refl,
)

pub returns-then-count-eq0-clause-reports : goal.returns-then-count-eq0-clause-reports
returns-then-count-eq0-clause-reports g c =
    let (octets, read, shown, text, empty, style) = c.loop.invariant in
    end_reports_all _ c.loop.viewer.cutter _ c.loop.viewer.blocks _ _ _ octets _
    c.in_ok-count.count c.in_ok-status.status read c.in_ok-count.ensures.octets
    c.if-count-eq0.true (c.in_ok-count.ensures.end c.if-count-eq0.true (search rules)) shown
    c.in_ok-status.ensures.status

pub returns-then-count-eq0-clause-shows : goal.returns-then-count-eq0-clause-shows
returns-then-count-eq0-clause-shows g c =
    let (octets, read, shown, text, empty, style) = c.loop.invariant in
    let (printed, written, prints) = text in
    end_shows_all _ c.loop.viewer.cutter _ c.loop.viewer.blocks _ _ _ _ _ _ _ _ _ _ _ _ octets _
    printed c.in_ok-count.count c.in_ok-status.status style read c.in_ok-count.ensures.octets
    c.if-count-eq0.true (c.in_ok-count.ensures.end c.if-count-eq0.true (search rules)) written
    prints c.in_ok-status.ensures.status c.in_ok-status.ensures.lines

pub returns-in-Err-clause-reports : goal.returns-in-Err-clause-reports
returns-in-Err-clause-reports g c =
    let (octets, read, shown, text, empty, style) = c.loop.invariant in
    error_reports_all _ c.loop.viewer.cutter c.write_piece.new.viewer.cutter _
    c.loop.viewer.blocks _ _ octets _ c.in-Err.error c.in_ok-status-in-Err.status
    (Consumes-trans _ _ _ _ _ read c.in_ok-count.ensures.octets) shown c.in-Err.ensures.err
    c.in_ok-status-in-Err.ensures.status

pub returns-in-Err-clause-shows : goal.returns-in-Err-clause-shows
returns-in-Err-clause-shows g c =
    let (octets, read, shown, text, empty, style) = c.loop.invariant in
    let (one, written, prints) = text in
    let known = c.in_ok-status-in-Err.ensures.status in
    let (two, more, fails) = c.in-Err.ensures.fault known.1 in
    error_shows_all _ c.loop.viewer.cutter c.write_piece.new.viewer.cutter _ c.loop.viewer.blocks
    _ _ _ _ _ _ _ _ _ _ _ _ _ _ _ octets _ one two c.in-Err.error c.in_ok-status-in-Err.status
    style c.write_piece.ensures.style (Consumes-trans _ _ _ _ _ read c.in_ok-count.ensures.octets) written prints more fails known.0
    c.in_ok-status-in-Err.ensures.lines

pub loop-preserved : goal.loop-preserved
loop-preserved g c =
    let (octets, read, shown, text, empty, style) = c.loop.invariant in
    let (one, written, prints) = text in
    let (two, more, follows) = c.in-Ok.ensures.shown in (
      _,
      Consumes-trans _ _ _ _ _ read c.in_ok-count.ensures.octets,
      continues_append _ c.loop.viewer.cutter _ _ c.loop.viewer.blocks _ _ _ shown
          c.in-Ok.ensures.ok,
      (
        _,
        lines_trans _ _ _ _ _ _ _ one two written
            (lines_styled _ _ _ _ _ _ _ style more),
        prints_append _ c.loop.viewer.cutter _ _ c.loop.viewer.blocks _ _ _ _ _ _ one two prints
            follows,
      ),
      c.in-Ok.ensures.written,
      c.write_piece.ensures.style ∙ style,
    )
