-- One octet more: a digit that is due, a `%`, or another one.
use Rattle.std.proofs.Common.{◌≡◌, ◌∷◌, ◌+◌, drop, get_or, sym, ap, ◌∙◌, arith}
use Rattle.std.proofs.lemmas.List.{drop_more}
use Rattle.h2_files.specs.Paths.{are_escapes}
use Rattle.h2_files.proofs.EscapeLemmas.{digit_due, no_percent, percent}
use Rattle.h2_files.proofs.segments.are_escapes.Goals as goal
use Rattle.h2_files.proofs.segments.are_escapes.Goals.{else-due-gt0+else-octet-eq37}
use Rattle.h2_files.proofs.segments.are_escapes.Goals.{else-due-gt0+then-octet-eq37}
use Rattle.h2_files.proofs.segments.are_escapes.Goals.{then-due-gt0+else-not-is_ascii_hexdigit}

pub loop-octet-preserved : goal.loop-octet-preserved
loop-octet-preserved c =
    let segment = c.args.segment.now in
    let place = c.loop-octet.octet-index in
    let rest = drop (place + 1) segment in
    let octet = get_or segment place 0 in
    let step : drop place segment ≡ octet ∷ rest =
    drop_more segment place 0 c.loop-octet-test.true in
    let before : are_escapes c.loop-octet.due (octet ∷ rest) ≡ are_escapes 0 segment =
    sym (ap (are_escapes c.loop-octet.due) step) ∙ c.loop-octet.invariant.1 in
    elim c.if-due-gt0.branch [
      | then-due-gt0+else-not-is_ascii_hexdigit w ↦ (
        omega arith,
        rw w.due-is
            (sym (digit_due c.loop-octet.due octet rest w.if-due-gt0.true
            (sym w.is_ascii_hexdigit.ensures.value ∙ w.if-not-is_ascii_hexdigit.false))
            ∙ before),
      )
      | else-due-gt0+then-octet-eq37 w ↦
          let none : c.loop-octet.due ≡ 0 = omega arith in (
            omega arith,
            rw w.due-is (sym (percent octet rest w.if-octet-eq37.true) ∙ (rw none at before)),
          )
      | else-due-gt0+else-octet-eq37 w ↦
          let none : c.loop-octet.due ≡ 0 = omega arith in (
            omega arith,
            rw (w.due-is, none)
                (sym (no_percent octet rest w.if-octet-eq37.false) ∙ (rw none at before)),
          )
    ]
