-- What the buffer took is in the writer.
use Rattle.h2_show.proofs.Names.{rules, refl, sym, false≢true, ShowsInput}
use Rattle.h2_show.proofs.InputLemmas.{lent_shown}
use Rattle.h2_show.proofs.show.show_input.Goals as goal

pub returns-clause-shows : goal.returns-clause-shows
returns-clause-shows g c =
    lent_shown g.W.Write.contents (ShowsInput c.args.options) _ c.in_ok-lines.lines
    c.show_lines-shown.new.lines _ c.into_parts-lent.result.0 c.args.out.now _
    c.show_lines-shown.result c.show_lines-shown.ensures.shows c.in_ok-lines.ensures.inner
    c.in_ok-lines.ensures.empty refl (sym c.into_parts-lent.ensures.inner)
    (λ good. c.show_lines-shown.ensures.written (λ device. false≢true (rw device at good)))
    (λ same. search rules)
