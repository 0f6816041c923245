-- What the viewer has printed, unless the table is above the limit after it.
use Rattle.h2_follow.proofs.Names.{◌∙◌, ap, inr, take, ◌++◌, ℕ, List, arith, sym}
use Rattle.std.proofs.lemmas.Bool.{false≢true}
use Rattle.h2_frame.specs.declared.code.Code.TheVariants.{CompressionError}
use Rattle.h2_show.specs.Lines.{fault_line}
use Rattle.h2_show.specs.Styles.{text_from}
use Rattle.h2_follow.proofs.SideLemmas.{fails_part, goes_part, part_told, take_kept}
use Rattle.h2_follow.proofs.one_side.OneSide.show_part.Goals as goal
use Rattle.h2_follow.proofs.one_side.OneSide.show_part.Goals.{else-ends_block-via-else-ends_block}
use Rattle.h2_follow.proofs.one_side.OneSide.show_part.Goals.{else-ends_block-via-then-ends_block+else-table_maximum-table}

pub returns-in_ok-add_table_fault-in-Ok-clause-part :
    goal.returns-in_ok-add_table_fault-in-Ok-clause-part
returns-in_ok-add_table_fault-in-Ok-clause-part c =
    let (lines, appended, prints) = c.in-Ok.ensures.shown in
    let viewer = c.args.self.now.viewer in
    let printed : List ℕ = text_from viewer.printer.style viewer.printer.next lines in (
      fault_line CompressionError c.place.result,
      c.in_ok-add_table_fault-in-Ok.ensures
          ∙ ap (λ (text : List ℕ). text ++ fault_line CompressionError c.place.result)
          (c.truncate.ensures.items ∙ ap (take c.len-before.result) appended.0
          ∙ take_kept c.len-before.result c.args.text.now.items printed
          (omega (arith, c.len-before.ensures, c.args.text.now.ok.0))),
      λ is. inr (record {
        after = c.show_piece.new.self;
        lines = lines;
        prints = prints;
        block = c.if-ends_block.true;
        above = rw c.table_maximum.ensures at c.if-table_maximum-table.true;
        line = ap (fault_line CompressionError) c.place.ensures;
      }),
    )

pub returns-else-ends_block-clause-part : goal.returns-else-ends_block-clause-part
returns-else-ends_block-clause-part c =
    let (lines, appended, prints) = c.in-Ok.ensures.shown in (
      _,
      appended.0,
      λ is. goes_part c.args.self.now (record c.args.self.now { viewer = c.show_piece.new.self })
          c.args.octets.now c.args.ends_block c.args.table lines is
          c.show_piece.ensures.style prints
          (elim c.else-ends_block.branch [
            | else-ends_block-via-then-ends_block+else-table_maximum-table w ↦ λ ends.
                rw w.table_maximum.ensures at w.if-table_maximum-table.false
            | else-ends_block-via-else-ends_block w ↦ λ ends.
                absurd (false≢true (sym w.if-ends_block.false ∙ ends))
          ]),
    )

pub returns-in-Err-clause-part : goal.returns-in-Err-clause-part
returns-in-Err-clause-part c =
    part_told c.end_with.result c.args.self.now c.end_with.new.self c.args.octets.now
    c.args.ends_block c.args.table c.args.text.now.items c.end_with.new.text.items
    (fails_part c.end_with.result c.args.self.now c.end_with.new.self c.show_piece.new.self
    c.args.octets.now c.args.ends_block c.args.table c.in-Err.error c.args.text.now.items
    c.show_piece.new.out.items c.end_with.new.text.items c.end_with.ensures.over
    c.end_with.ensures.fault c.end_with.ensures.lines c.show_piece.ensures.style
    c.in-Err.ensures.fault)
