-- Each call of the cutter, and of the blocks where it returns a frame, shows more of the piece, or
-- fails.
use Rattle.h2_show.proofs.Names.{err_from_is_err_and, rules, [], refl, ap, ◌∙◌}
use Rattle.h2_show.proofs.ViewerLemmas.{continues_nothing, used_within, continues_without_frame}
use Rattle.h2_show.proofs.ViewerLemmas.{continues_with_frame, fails_at_cut, fails_at_frame}
use Rattle.h2_show.proofs.PieceLemmas.{prints_none, prints_without_frame, prints_frame}
use Rattle.h2_show.proofs.PieceLemmas.{fails_with_wire, fails_with_block}
use Rattle.h2_show.specs.declared.printer.Printer.{Printer}
use Rattle.h2_show.proofs.StyleLemmas.{lines_none, lines_trans, lines_styled, frame_written}
use Rattle.h2_show.proofs.viewer.Viewer.show_piece.Goals as goal

pub loop-done-init : goal.loop-done-init
loop-done-init g c =
    record {
      within = search rules;
      shown = continues_nothing _ _;
      style = refl;
      printed = ([], lines_none c.args.self.now.printer.style _ _, prints_none _ _ _);
    }

pub returns-in_err-cut-clause-fault : goal.returns-in_err-cut-clause-fault
returns-in_err-cut-clause-fault g c =
    let answer = err_from_is_err_and c.from_residual.result c.from_residual.ensures.1 in
    rw (answer.1, answer.2) (λ is.
    let (printed, written, prints) = c.loop-done.invariant.printed in (
      printed,
      written,
      fails_with_wire c.in_err-cut.field-0.0 _ c.loop-done.self.cutter _ _ c.loop-done.self.blocks
          _ c.loop-done.self.printer.is_due c.args.piece.now c.loop-done.done printed prints
          (rw c.in_err-cut.was at c.cut.follows.holds-at-none) is,
    ))

pub returns-in_err-decoded-clause-fault : goal.returns-in_err-decoded-clause-fault
returns-in_err-decoded-clause-fault g c =
    let result = c.from_residual-in_err-decoded.result in
    let answer = err_from_is_err_and result c.from_residual-in_err-decoded.ensures.1 in
    rw (answer.1, answer.2) (λ is.
    let (printed, written, prints) = c.loop-done.invariant.printed in (
      printed,
      written,
      fails_with_block c.in_err-decoded.field-0.0 _ c.loop-done.self.cutter _ _
          c.loop-done.self.blocks _ c.loop-done.self.printer.is_due c.args.piece.now
          c.loop-done.done c.in_ok-cut.cut c.in-Some.frame printed prints c.in-Some.is
          (rw c.in_ok-cut.was at c.cut.follows.holds-at-none) c.in_err-decoded.ensures.err is,
    ))

pub returns-in_err-cut-clause-err : goal.returns-in_err-cut-clause-err
returns-in_err-cut-clause-err g c =
    let answer = err_from_is_err_and c.from_residual.result c.from_residual.ensures.1 in
    rw (answer.1, answer.2) (
    fails_at_cut c.in_err-cut.field-0.0 _ c.loop-done.self.cutter _ _ c.loop-done.self.blocks
    c.args.piece.now c.loop-done.done c.loop-done.invariant.shown
    (rw c.in_err-cut.was at c.cut.follows.holds-at-none)
    )

pub loop-done-preserved-in_default : goal.loop-done-preserved-in_default
loop-done-preserved-in_default g c =
    record {
      within = used_within c.args.piece.now c.loop-done.done c.in_ok-cut.cut.used
          c.loop-done.invariant.within c.in_ok-cut.ensures.used;
      shown = continues_without_frame _ c.loop-done.self.cutter _ _ c.loop-done.self.blocks
          c.args.piece.now c.loop-done.done c.in_ok-cut.cut c.loop-done.invariant.shown
          c.in_default.is (rw c.in_ok-cut.was at c.cut.follows.holds-at-none);
      style = c.advance.ensures.same ∙ c.loop-done.invariant.style;
      printed = let (printed, written, prints) = c.loop-done.invariant.printed in (
        _,
        lines_trans _ _ _ _ _ _ _ printed _ written (lines_styled _ _ _ _ _ _ _
            c.loop-done.invariant.style c.in_ok-advance.ensures.line),
        prints_without_frame _ c.loop-done.self.cutter _ _ c.loop-done.self.blocks _
            c.loop-done.self.printer.is_due _ c.is_past_preface.result c.args.piece.now
            c.loop-done.done c.in_ok-cut.cut printed prints c.in_default.is
            (rw c.in_ok-cut.was at c.cut.follows.holds-at-none) c.is_past_preface.ensures
            c.in_ok-advance.ensures.due,
      );
    }

pub returns-in_err-decoded-clause-err : goal.returns-in_err-decoded-clause-err
returns-in_err-decoded-clause-err g c =
    let result = c.from_residual-in_err-decoded.result in
    let answer = err_from_is_err_and result c.from_residual-in_err-decoded.ensures.1 in
    rw (answer.1, answer.2) (
    fails_at_frame c.in_err-decoded.field-0.0 _ c.loop-done.self.cutter _ _ c.loop-done.self.blocks
    c.args.piece.now c.loop-done.done c.in_ok-cut.cut c.in-Some.frame c.loop-done.invariant.shown
    c.in-Some.is (rw c.in_ok-cut.was at c.cut.follows.holds-at-none)
    (used_within c.args.piece.now c.loop-done.done c.in_ok-cut.cut.used
    c.loop-done.invariant.within c.in_ok-cut.ensures.used) c.in_err-decoded.ensures.err
    )

pub loop-done-preserved : goal.loop-done-preserved
loop-done-preserved g c =
    record {
      within = used_within c.args.piece.now c.loop-done.done c.in_ok-cut.cut.used
          c.loop-done.invariant.within c.in_ok-cut.ensures.used;
      shown = continues_with_frame _ c.loop-done.self.cutter _ _ c.loop-done.self.blocks _
          c.args.piece.now c.loop-done.done c.in_ok-cut.cut c.in-Some.frame
          c.loop-done.invariant.shown c.in-Some.is
          (rw c.in_ok-cut.was at c.cut.follows.holds-at-none) c.in_ok-decoded.ensures.ok;
      style = ap (λ (printer : Printer). printer.style) c.in_ok-frame.ensures.same
          ∙ c.in_ok-advance-2.ensures.same ∙ c.loop-done.invariant.style;
      printed = let (printed, written, prints) = c.loop-done.invariant.printed in (
        _,
        frame_written _ _ _ _ _ _ _ _ _ _ _ c.loop-done.self.printer.is_due printed _
            c.loop-done.invariant.style c.in_ok-advance-2.ensures.same written
            c.in_ok-advance-2.ensures.line (rw c.list.ensures at c.in_ok-frame.ensures.line),
        prints_frame _ c.loop-done.self.cutter _ _ c.loop-done.self.blocks _ _
            c.loop-done.self.printer.is_due _ c.args.piece.now c.loop-done.done
            c.in_ok-cut.cut c.in-Some.frame printed _ prints c.in-Some.is
            (rw c.in_ok-cut.was at c.cut.follows.holds-at-none)
            (ap (λ (printer : Printer). printer.is_due) c.in_ok-frame.ensures.same
            ∙ c.in_ok-advance-2.ensures.due) c.in_ok-decoded.ensures.shown,
      );
    }
