-- That a list is too large stands between the sequences of its look.
use Rattle.h2_show.proofs.Names.{on_ok_weaker}
use Rattle.h2_show.proofs.StyleLemmas.{four_written}
use Rattle.h2_show.proofs.styled_lines.write_styled_too_large.Goals as goal

pub returns : goal.returns
returns g c =
    on_ok_weaker c.write_all-2.result (λ last. four_written _ _ _ _ _ _ _ _ _ c.in_ok-write_if.ensures
    c.in_ok-write_all.ensures.bytes c.in_ok-write_if-2.ensures last) c.write_all-2.ensures.bytes
